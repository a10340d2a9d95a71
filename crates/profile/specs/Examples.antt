-- The check by examples: water levels (manual 11.4), in the shipped profile with another FIFOLevel (29h), and the two editions (manual 11.2).
-- Assumes nothing.
use Rattle.std.specs.Prelude.{◌≡◌, ℕ, List, take}
use Rattle.edition.specs.Edition.{fixed_bits}
use Rattle.edition.specs.declared.Edition.{Edition}
use Rattle.edition.specs.declared.Edition.TheVariants.{Mfrc531, Rc530}
use Rattle.profile.specs.Answer.{Answer, pass, refuse, refuse_at, refuse_bit}
use Rattle.profile.specs.Check.{judged}
use Rattle.profile.specs.Shipped.{shipped, shipped_with, shipped_rc530, with_byte}

pub record WaterLevelsJudged : Type 0 where
  -- the level alone: 31 is the last that passes
  pub level_31 : judged (fixed_bits Mfrc531) (shipped_with 0x29 31) ≡ pass
  pub level_32 : judged (fixed_bits Mfrc531) (shipped_with 0x29 32) ≡ refuse_at 13 0x29
  pub level_40 : judged (fixed_bits Mfrc531) (shipped_with 0x29 40) ≡ refuse_at 13 0x29
  pub level_63 : judged (fixed_bits Mfrc531) (shipped_with 0x29 63) ≡ refuse_at 13 0x29
  -- at 29h a fixed bit goes first: 60h is level 32 with bit 6 set, 5Fh level 31 with bit 6 set
  pub fixed_bit_60 : judged (fixed_bits Mfrc531) (shipped_with 0x29 0x60) ≡ refuse_bit 10 0x29 6
  pub fixed_bit_5f : judged (fixed_bits Mfrc531) (shipped_with 0x29 0x5F) ≡ refuse_bit 10 0x29 6
  -- and so does whatever is wrong at a lower address: bit 3 of MFOUTSelect (26h)
  pub lower_address : judged (fixed_bits Mfrc531) (with_byte 0x26 0x08 (shipped_with 0x29 40)) ≡ refuse_bit 10 0x26 3
  -- what is wrong at a higher address comes after it: bit 6 of TimerClock (2Ah), prescaler 24, no reload value
  pub before_10_at_2a : judged (fixed_bits Mfrc531) (with_byte 0x2A 0x40 (shipped_with 0x29 40)) ≡ refuse_at 13 0x29
  pub before_11 : judged (fixed_bits Mfrc531) (with_byte 0x2A 24 (shipped_with 0x29 40)) ≡ refuse_at 13 0x29
  pub before_12 : judged (fixed_bits Mfrc531) (with_byte 0x2C 0 (shipped_with 0x29 40)) ≡ refuse_at 13 0x29

-- A profile that the MF RC530 takes: its shipped one with 17h as the digits have it; and that with another byte for one register.
abbrev pub rc530_profile : List ℕ
rc530_profile = with_byte 0x17 0x00 shipped_rc530

abbrev pub rc530_with : ℕ → ℕ → Answer
rc530_with register byte = judged (fixed_bits Rc530) (with_byte register byte rc530_profile)

pub record EditionsJudged : Type 0 where
  -- each edition's shipped profile, by its own table and by the other one. The MF RC530's own does not pass: its sheet prints zeros for 17h, and ships 3Bh
  pub mfrc531_shipped : judged (fixed_bits Mfrc531) shipped ≡ pass
  pub rc530_shipped : judged (fixed_bits Rc530) shipped_rc530 ≡ refuse_bit 10 0x17 0
  pub rc530_shipped_as_mfrc531 : judged (fixed_bits Mfrc531) shipped_rc530 ≡ pass
  pub mfrc531_shipped_as_rc530 : judged (fixed_bits Rc530) shipped ≡ refuse_bit 10 0x16 0
  pub rc530_passes : judged (fixed_bits Rc530) rc530_profile ≡ pass
  -- a bit that is fixed at 1 differs where it is 0, and the lowest that differs is named
  pub txcontrol_48 : rc530_with 0x11 0x48 ≡ refuse_bit 10 0x11 4
  pub preset13_3e : rc530_with 0x13 0x3E ≡ refuse_bit 10 0x13 0
  pub preset13_40 : rc530_with 0x13 0x40 ≡ refuse_bit 10 0x13 0
  pub preset13_7f : rc530_with 0x13 0x7F ≡ refuse_bit 10 0x13 6
  pub codercontrol_18 : rc530_with 0x14 0x18 ≡ refuse_bit 10 0x14 0
  pub codercontrol_1b : rc530_with 0x14 0x1B ≡ refuse_bit 10 0x14 1
  pub rxcontrol1_63 : rc530_with 0x19 0x63 ≡ refuse_bit 10 0x19 4
  pub rxcontrol1_7b : rc530_with 0x19 0x7B ≡ refuse_bit 10 0x19 3
  pub decodercontrol_00 : rc530_with 0x1A 0x00 ≡ refuse_bit 10 0x1A 3
  pub decodercontrol_18 : rc530_with 0x1A 0x18 ≡ refuse_bit 10 0x1A 4
  -- the lengths and the values are judged alike for both
  pub length_31 : (e : Edition) → judged (fixed_bits e) (take 31 shipped) ≡ refuse 9
  pub prescaler_24 : rc530_with 0x2A 24 ≡ refuse_at 11 0x2A
  pub reload_0 : rc530_with 0x2C 0 ≡ refuse_at 12 0x2C
  pub level_40 : rc530_with 0x29 40 ≡ refuse_at 13 0x29
