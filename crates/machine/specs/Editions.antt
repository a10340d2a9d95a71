-- What an edition decides in the chip (manual 6.4). A start sets it, from its image; no other call changes it, or a byte of block 0, which has the product type.
-- And nothing else goes by it: two machines that are alike but for the edition and the product type answer alike, but where a call reads those four bytes.
-- Assumes nothing.
use Rattle.std.specs.Prelude.{ℕ, Bool, true, false, cond, not, ◌&&◌, List, [], ◌∷◌, ◌≡◌, ltb, eqb, take, drop, set, replicate}
use Rattle.edition.specs.Edition.{is_of, edition_of, product_type}
use Rattle.edition.specs.declared.Edition.{Edition}
use Rattle.profile.specs.Shipped.{shipped, shipped_image, image_of}
use Rattle.machine.specs.State.{Machine, Command}
use Rattle.machine.specs.Memory.{address_of}
use Rattle.machine.specs.Commands.{code_of, enough, argument, readable}
use Rattle.machine.specs.Registers.{mapped, register_written}
use Rattle.machine.specs.Refusals.{Call, start, host_read, host_write, advance, take_frame, deliver, refusal}
use Rattle.machine.specs.Events.{started, perform, after_calls}
use Rattle.machine.specs.Numbers.{command}

-- A start, refused or not; and one that is not refused.
abbrev pub is_start : Call → Bool
is_start (start image) = true
is_start (host_read address) = false
is_start (host_write address v) = false
is_start (advance clocks) = false
is_start (take_frame buffer) = false
is_start (deliver bytes parities last_bits) = false

abbrev pub starts_anew : Machine → Call → Bool
starts_anew m c = is_start c && eqb (refusal m c) 0

-- None of a list of calls is a start that is not refused.
unfoldable pub NoneStarts : Machine → List Call → Type 0
NoneStarts m [] = Unit {0}
NoneStarts m (c ∷ cs) = (starts_anew m c ≡ false) × NoneStarts (perform m c).next cs

-- A command that has its arguments reads a byte of 000h-003h: ReadE2 (03h) of a count that is not 0 and that it may read, or LoadKeyE2 (0Bh), from an address
-- there. LoadConfig reads from 010h on.
abbrev pub command_reads_type : Command → Machine → Bool
command_reads_type c m =
    let address = address_of (argument 0 m) (argument 1 m) in
    let count = argument 2 m in
    cond (eqb (code_of c) 0x03) (enough 3 m && (ltb address 4 && (readable address count && not (eqb count 0))))
    (cond (eqb (code_of c) 0x0B) (enough 2 m && ltb address 4)
    false)

-- A call reads a byte of 000h-003h: only a host write can, since no other call gives such a command its last argument.
abbrev pub reads_type : Machine → Call → Bool
reads_type m (start image) = false
reads_type m (host_read address) = false
reads_type m (host_write address v) = let n = register_written (mapped m.page address) v m in command_reads_type n.command n
reads_type m (advance clocks) = false
reads_type m (take_frame buffer) = false
reads_type m (deliver bytes parities last_bits) = false

-- Two machines are alike but for the edition and bytes 000h-003h.
pub record Alike (m n : Machine) : Type 0 where
  pub page : m.page ≡ n.page
  pub command : m.command ≡ n.command
  pub held : m.held ≡ n.held
  pub lost_sum : m.lost_sum ≡ n.lost_sum
  pub status : m.status ≡ n.status
  pub timer : m.timer ≡ n.timer
  pub checksum : m.checksum ≡ n.checksum
  pub key : m.key ≡ n.key
  pub bit_framing : m.bit_framing ≡ n.bit_framing
  pub registers : m.registers ≡ n.registers
  pub beyond_type : drop 4 m.eeprom ≡ drop 4 n.eeprom

-- A machine's memory is of its edition.
abbrev pub OwnType : Machine → Type 0
OwnType m = is_of m.edition m.eeprom ≡ true

-- A call answers two machines alike, and leaves them alike; and each of a list of calls does.
abbrev pub AnswersAlike : Machine → Machine → Call → Type 0
AnswersAlike m n c = ((perform m c).answer ≡ (perform n c).answer) × ((perform m c).buffer ≡ (perform n c).buffer) × Alike (perform m c).next (perform n c).next

unfoldable pub EachAlike : Machine → Machine → List Call → Type 0
EachAlike m n [] = Unit {0}
EachAlike m n (c ∷ cs) = AnswersAlike m n c × EachAlike (perform m c).next (perform n c).next cs

-- None of a list of calls reads a byte of 000h-003h.
unfoldable pub NoneReads : Machine → List Call → Type 0
NoneReads m [] = Unit {0}
NoneReads m (c ∷ cs) = (reads_type m c ≡ false) × NoneReads (perform m c).next cs

-- A machine of an edition as shipped, after a ReadE2 of the product type.
abbrev pub type_read : Edition → Machine
type_read e = after_calls (started (image_of e shipped)) (command 0x03 (0x00 ∷ 0x00 ∷ 4 ∷ []))

pub record Editions : Type 0 where
  -- a start that is not refused gives the image's edition, and its own type in memory
  pub started_as : (m : Machine) (image : List ℕ) → refusal m (start image) ≡ 0 →
      ((perform m (start image)).next.edition ≡ edition_of image) × (is_of (edition_of image) image ≡ true)
  -- 22 comes from a start alone
  pub only_of_start : (m : Machine) (c : Call) → refusal m c ≡ 22 → is_start c ≡ true
  -- any other call leaves the edition and block 0 as they were
  pub kept : (m : Machine) (c : Call) → starts_anew m c ≡ false →
      ((perform m c).next.edition ≡ m.edition) × (take 0x10 (perform m c).next.eeprom ≡ take 0x10 m.eeprom)
  -- and so does any list of calls without such a start
  pub always_kept : (m : Machine) (cs : List Call) → NoneStarts m cs →
      ((after_calls m cs).edition ≡ m.edition) × (take 0x10 (after_calls m cs).eeprom ≡ take 0x10 m.eeprom)
  -- two machines that are alike but for their edition and their own type: a call that does not read the type answers both alike, and leaves them alike
  pub answer_alike : (m n : Machine) (c : Call) → OwnType m → OwnType n → Alike m n → reads_type m c ≡ false → AnswersAlike m n c
  -- and so does each of a list of such calls
  pub always_alike : (m n : Machine) (cs : List Call) → OwnType m → OwnType n → Alike m n → NoneReads m cs → EachAlike m n cs
  -- a call that does may tell them apart: ReadE2 of four bytes from 000h
  pub type_read_lem : (e : Edition) → (type_read e).held ≡ product_type e
  -- 2 comes before 22; an image of zeros is neither's, and so is one of both, 30h 88h FFh 0Fh
  pub short_image : (m : Machine) → refusal m (start (replicate 511 0)) ≡ 2
  pub image_of_zeros : (m : Machine) → refusal m (start (replicate 512 0)) ≡ 22
  pub image_of_both : (m : Machine) → refusal m (start (set shipped_image 0x001 0x88)) ≡ 22
  -- an image of either edition is taken
  pub image_of_either : (m : Machine) (e : Edition) → refusal m (start (image_of e shipped)) ≡ 0
  pub edition_of_either : (e : Edition) → (started (image_of e shipped)).edition ≡ e
