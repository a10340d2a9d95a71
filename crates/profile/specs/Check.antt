-- The profile check (manual 11.3, 11.4), which gives the refusals 9 to 13. After the length, one walk by register address; at one address the fixed
-- bits come before the values. The table of fixed bits, which is the edition's (edition, Edition), is a parameter; all else is the same for both editions.
-- Assumes nothing.
use Rattle.std.specs.Prelude.{ℕ, zero, suc, ◌+◌, ◌-◌, ◌%◌, Bool, ◌&&◌, ◌||◌, not, cond, List, eqb, ltb, length, get_or}
use Rattle.bits.specs.Bits.{bit, bit_set}
use Rattle.profile.specs.Answer.{Answer, pass, refuse, refuse_at, refuse_bit, or_else}
use Rattle.edition.specs.FixedBits.{fixed}
use Rattle.edition.specs.declared.FixedBits.{FixedBits}

-- The profile's byte for a register, and the table's entry for it. The first of both is for 10h.
abbrev pub byte_for : List ℕ → ℕ → ℕ
byte_for profile register = get_or profile (register - 0x10) 0

abbrev pub entry_for : List FixedBits → ℕ → FixedBits
entry_for table register = get_or table (register - 0x10) (fixed 0x00 0x00)

-- The first refusal at the numbers from, from + 1, .. of which there are n; pass where there is none.
unfoldable pub first_refusal : (ℕ → Answer) → ℕ → ℕ → Answer
first_refusal judge zero from = pass
first_refusal judge (suc n) from = or_else (judge from) (first_refusal judge n (from + 1))

-- 10: a fixed bit differs. The lowest such bit is named.
abbrev pub differs_at : FixedBits → ℕ → ℕ → Bool
differs_at entry byte k = bit_set entry.0 k && not (eqb (bit byte k) (bit entry.1 k))

abbrev pub bit_judged : List FixedBits → List ℕ → ℕ → ℕ → Answer
bit_judged table profile register k = cond (differs_at (entry_for table register) (byte_for profile register) k) (refuse_bit 10 register k) pass

abbrev pub fixed_bits_judged : List FixedBits → List ℕ → ℕ → Answer
fixed_bits_judged table profile register = first_refusal (bit_judged table profile register) 8 0

-- A value is above its limit; it is judged at its own register.
abbrev pub above_limit : ℕ → ℕ → ℕ → ℕ → Bool
above_limit own register value limit = eqb register own && ltb limit value

-- 11: TPreScaler (TimerClock, 2Ah, bits 4-0) above 21.
abbrev pub prescaler_refused : ℕ → ℕ → Bool
prescaler_refused register clock = above_limit 0x2A register (clock % 32) 21

-- 12: TimerReload (2Ch) 0 while TStartTxBegin or TStartTxEnd (TimerControl, 2Bh, bits 0 and 1) is set. It is judged at 2Ch.
abbrev pub reload_refused : ℕ → ℕ → ℕ → Bool
reload_refused register control reload = eqb register 0x2C && (eqb reload 0 && (bit_set control 0 || bit_set control 1))

-- 13: WaterLevel (FIFOLevel, 29h, bits 5-0) above 31. The chip then has an alert on however many bytes it holds (machine, WaterLevels).
abbrev pub water_level_refused : ℕ → ℕ → Bool
water_level_refused register level = above_limit 0x29 register (level % 64) 31

-- What is judged of the values at one address, where its fixed bits hold.
abbrev pub value_judged : List ℕ → ℕ → Answer
value_judged profile register =
    cond (water_level_refused register (byte_for profile 0x29)) (refuse_at 13 register)
    (cond (prescaler_refused register (byte_for profile 0x2A)) (refuse_at 11 register)
    (cond (reload_refused register (byte_for profile 0x2B) (byte_for profile 0x2C)) (refuse_at 12 register)
    pass))

-- All that is judged at one address, in its order.
abbrev pub register_judged : List FixedBits → List ℕ → ℕ → Answer
register_judged table profile register =
    or_else (fixed_bits_judged table profile register) (value_judged profile register)

-- The check of any bytes.
unfoldable pub judged : List FixedBits → List ℕ → Answer
judged table profile =
    cond (eqb (length profile) 32)
    (first_refusal (register_judged table profile) 32 0x10)
    (refuse 9)
