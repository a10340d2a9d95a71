pub mod Trailing
