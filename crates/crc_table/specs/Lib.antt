pub mod ShiftRegister
