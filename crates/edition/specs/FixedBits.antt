-- The tables of fixed bits (manual 11.2): for each of 10h to 2Fh, in order, a mask of its fixed bits and their value, taken from the digits that a
-- data sheet prints in its bit-allocation rows. A cell with a digit is fixed at that digit, a cell with a name or an x is free. Page positions are
-- free (manual 11.1).
-- Assumes nothing.
use Rattle.std.specs.Prelude.{ℕ, List, [], ◌∷◌}
use Rattle.edition.specs.declared.FixedBits.{FixedBits}

abbrev pub fixed : ℕ → ℕ → FixedBits
fixed mask value = record { 0 = mask; 1 = value }

-- The MFRC531's, from data sheet 005, which prints no 1 there.
abbrev pub mfrc531_bits : List FixedBits
mfrc531_bits =
    fixed 0x00 0x00  -- 10h Page: free
    ∷ fixed 0x80 0x00  -- 11h TxControl, Table 69: bit 7
    ∷ fixed 0xC0 0x00  -- 12h CwConductance, Table 71: bits 7, 6
    ∷ fixed 0xC0 0x00  -- 13h ModConductance, Table 73: bits 7, 6
    ∷ fixed 0xC0 0x00  -- 14h CoderControl, Table 75: bits 7, 6
    ∷ fixed 0x00 0x00  -- 15h ModWidth, Table 77: none
    ∷ fixed 0x00 0x00  -- 16h PreSet16, Table 79: named, no digit
    ∷ fixed 0x00 0x00  -- 17h TypeBFraming, Table 80: none
    ∷ fixed 0x00 0x00  -- 18h Page: free
    ∷ fixed 0x00 0x00  -- 19h RxControl1, Table 82: none
    ∷ fixed 0x86 0x00  -- 1Ah DecoderControl, Table 84: bits 7, 2, 1
    ∷ fixed 0x00 0x00  -- 1Bh BitPhase, Table 86: none
    ∷ fixed 0x00 0x00  -- 1Ch RxThreshold, Table 88: none
    ∷ fixed 0x00 0x00  -- 1Dh BPSKDemControl, Table 90: none
    ∷ fixed 0x3C 0x00  -- 1Eh RxControl2, Table 92: bits 5 to 2
    ∷ fixed 0x20 0x00  -- 1Fh ClockQControl, Table 94: bit 5
    ∷ fixed 0x00 0x00  -- 20h Page: free
    ∷ fixed 0x00 0x00  -- 21h RxWait, Table 96: none
    ∷ fixed 0xC0 0x00  -- 22h ChannelRedundancy, Table 98: bits 7, 6
    ∷ fixed 0x00 0x00  -- 23h CRCPresetLSB, Table 100: none
    ∷ fixed 0x00 0x00  -- 24h CRCPresetMSB, Table 102: none
    ∷ fixed 0xFF 0x00  -- 25h PreSet25, Table 104: all, printed as one merged cell of zeros
    ∷ fixed 0xF8 0x00  -- 26h MFOUTSelect, Table 105: bits 7 to 3
    ∷ fixed 0x00 0x00  -- 27h PreSet27, Table 107: every cell an x
    ∷ fixed 0x00 0x00  -- 28h Page: free
    ∷ fixed 0xC0 0x00  -- 29h FIFOLevel, Table 108: bits 7, 6
    ∷ fixed 0xC0 0x00  -- 2Ah TimerClock, Table 110: bits 7, 6
    ∷ fixed 0xF0 0x00  -- 2Bh TimerControl, Table 112: bits 7 to 4
    ∷ fixed 0x00 0x00  -- 2Ch TimerReload, Table 114: none
    ∷ fixed 0xFC 0x00  -- 2Dh IRQPinConfig, Table 116: bits 7 to 2
    ∷ fixed 0x00 0x00  -- 2Eh PreSet2E, Table 118: every cell an x
    ∷ fixed 0x00 0x00  -- 2Fh PreSet2F, Table 119: every cell an x
    ∷ []

-- The MF RC530's, from data sheet 008, which prints a 1 in five registers. "All", or bits without a digit, are at 0.
abbrev pub rc530_bits : List FixedBits
rc530_bits =
    fixed 0x00 0x00  -- 10h Page: free
    ∷ fixed 0x90 0x10  -- 11h TxControl, 5.2.3.2: bit 7 at 0, bit 4 at 1
    ∷ fixed 0xC0 0x00  -- 12h CwConductance, 5.2.3.3: bits 7, 6
    ∷ fixed 0xFF 0x3F  -- 13h PreSet13, 5.2.3.4: bits 7, 6 at 0, bits 5 to 0 at 1
    ∷ fixed 0xC7 0x01  -- 14h CoderControl, 5.2.3.5: bits 7, 6, 2, 1 at 0, bit 0 at 1
    ∷ fixed 0x00 0x00  -- 15h ModWidth, 5.2.3.6: none
    ∷ fixed 0xFF 0x00  -- 16h PreSet16, 5.2.3.7: all
    ∷ fixed 0xFF 0x00  -- 17h PreSet17, 5.2.3.8: all; Table 6-5 ships 3Bh all the same (manual 11.2)
    ∷ fixed 0x00 0x00  -- 18h Page: free
    ∷ fixed 0x18 0x10  -- 19h RxControl1, 5.2.4.2: bit 4 at 1, bit 3 at 0
    ∷ fixed 0x9E 0x08  -- 1Ah DecoderControl, 5.2.4.3: bits 7, 4, 2, 1 at 0, bit 3 at 1
    ∷ fixed 0x00 0x00  -- 1Bh BitPhase, 5.2.4.4: none
    ∷ fixed 0x00 0x00  -- 1Ch RxThreshold, 5.2.4.5: none
    ∷ fixed 0xE0 0x00  -- 1Dh BPSKDemControl, 5.2.4.6: bits 7 to 5
    ∷ fixed 0x3C 0x00  -- 1Eh RxControl2, 5.2.4.7: bits 5 to 2
    ∷ fixed 0x20 0x00  -- 1Fh ClockQControl, 5.2.4.8: bit 5
    ∷ fixed 0x00 0x00  -- 20h Page: free
    ∷ fixed 0x00 0x00  -- 21h RxWait, 5.2.5.2: none
    ∷ fixed 0xC0 0x00  -- 22h ChannelRedundancy, 5.2.5.3: bits 7, 6
    ∷ fixed 0x00 0x00  -- 23h CRCPresetLSB, 5.2.5.4: none
    ∷ fixed 0x00 0x00  -- 24h CRCPresetMSB, 5.2.5.5: none
    ∷ fixed 0xFF 0x00  -- 25h PreSet25, 5.2.5.6: all
    ∷ fixed 0xF8 0x00  -- 26h MFOUTSelect, 5.2.5.7: bits 7 to 3
    ∷ fixed 0x00 0x00  -- 27h PreSet27, 5.2.5.8: every cell an x
    ∷ fixed 0x00 0x00  -- 28h Page: free
    ∷ fixed 0xC0 0x00  -- 29h FIFOLevel, 5.2.6.2: bits 7, 6
    ∷ fixed 0xC0 0x00  -- 2Ah TimerClock, 5.2.6.3: bits 7, 6
    ∷ fixed 0xF0 0x00  -- 2Bh TimerControl, 5.2.6.4: bits 7 to 4
    ∷ fixed 0x00 0x00  -- 2Ch TimerReload, 5.2.6.5: none
    ∷ fixed 0xFC 0x00  -- 2Dh IRQPinConfig, 5.2.6.6: bits 7 to 2
    ∷ fixed 0x00 0x00  -- 2Eh PreSet2E, 5.2.6.7: every cell an x
    ∷ fixed 0x00 0x00  -- 2Fh PreSet2F, 5.2.6.8: every cell an x
    ∷ []
