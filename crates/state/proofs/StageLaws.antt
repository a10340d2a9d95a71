-- The stages one by one: what each stage's command has, the command of any stage has; and which stages send, receive and program.
-- Assumes nothing.
use Rattle.std.proofs.Common.{◌≡◌, ℕ, ◌%◌, Bool, true, false, cond, not, ◌&&◌, ◌||◌, eqb, List, sym, refl, ◌∙◌, subst, eqb-true}
use mathlib.Core.Bool.{and-false}
use Rattle.machine.specs.State.{Command, Writing, Idle, WriteE2, ReadE2, LoadConfig, LoadKeyE2, LoadKey, CalcCRC, Transmit, Receive, TransceiveSending, TransceiveReceiving, addressing, ready, programming}
use Rattle.machine.specs.Commands.{programs}
use Rattle.machine.specs.Frames.{sending, receiving}
use Rattle.machine.proofs.Cases.{by_cond}
use Rattle.state.specs.View.{Core, writing_of, command_of, core, view, view_of}
use Rattle.state.specs.Parts.{clocks_state}
use Rattle.state.specs.Formed.{writes}
use Rattle.state.specs.declared.Chip.{Chip}

-- No stage but Idle's.
pub record Other (s : ℕ) : Type 0 where
  pub n01 : eqb s 0x01 ≡ false
  pub n41 : eqb s 0x41 ≡ false
  pub n03 : eqb s 0x03 ≡ false
  pub n07 : eqb s 0x07 ≡ false
  pub n0b : eqb s 0x0B ≡ false
  pub n12 : eqb s 0x12 ≡ false
  pub n19 : eqb s 0x19 ≡ false
  pub n5a : eqb s 0x5A ≡ false
  pub n96 : eqb s 0x96 ≡ false
  pub n5e : eqb s 0x5E ≡ false
  pub n9e : eqb s 0x9E ≡ false

pub by_stage : (P : ℕ → Command → Type 0) (k : Core) (latch : List ℕ) →
    P 0x01 (WriteE2 (writing_of k latch addressing)) → P 0x41 (WriteE2 (writing_of k latch (ready (k.next % 0x200)))) →
    P 0x03 ReadE2 → P 0x07 LoadConfig → P 0x0B LoadKeyE2 → P 0x12 CalcCRC → P 0x19 LoadKey → P 0x5A Transmit → P 0x96 Receive → P 0x5E TransceiveSending → P 0x9E TransceiveReceiving →
    (Other k.stage → P k.stage Idle) → P k.stage (command_of k latch)
by_stage P k latch p01 p41 p03 p07 p0b p12 p19 p5a p96 p5e p9e idle =
    at_stage 0x01 _ _ p01 λ n01. at_stage 0x41 _ _ p41 λ n41. at_stage 0x03 _ _ p03 λ n03. at_stage 0x07 _ _ p07 λ n07. at_stage 0x0B _ _ p0b λ n0b. at_stage 0x12 _ _ p12 λ n12.
    at_stage 0x19 _ _ p19 λ n19. at_stage 0x5A _ _ p5a λ n5a. at_stage 0x96 _ _ p96 λ n96. at_stage 0x5E _ _ p5e λ n5e. at_stage 0x9E _ _ p9e λ n9e.
    idle (record { n01 = n01; n41 = n41; n03 = n03; n07 = n07; n0b = n0b; n12 = n12; n19 = n19; n5a = n5a; n96 = n96; n5e = n5e; n9e = n9e })
  where
    at_stage : (s : ℕ) (x y : Command) → P s x → (eqb k.stage s ≡ false → P k.stage y) → P k.stage (cond (eqb k.stage s) x y)
    at_stage s x y here else = by_cond (P k.stage) (eqb k.stage s) x y (λ e. subst (λ (n : ℕ). P n x) (sym (eqb-true k.stage s e)) here) else

-- Two stages send, and two receive.
pub stage_sends : (k : Core) (latch : List ℕ) → (eqb k.stage 0x5A || eqb k.stage 0x5E) ≡ sending (command_of k latch)
stage_sends k latch =
    by_stage (λ s command. (eqb s 0x5A || eqb s 0x5E) ≡ sending command) k latch refl refl refl refl refl refl refl refl refl refl refl (λ o. simp (o.n5a, o.n5e))

pub stage_receives : (k : Core) (latch : List ℕ) → (eqb k.stage 0x96 || eqb k.stage 0x9E) ≡ receiving (command_of k latch)
stage_receives k latch =
    by_stage (λ s command. (eqb s 0x96 || eqb s 0x9E) ≡ receiving command) k latch refl refl refl refl refl refl refl refl refl refl refl (λ o. simp (o.n96, o.n9e))

-- A WriteE2 programs where clocks are left, and no other command does.
by_left : (none : Bool) (resting : Writing) (a : ℕ) (bs : List ℕ) (left : ℕ) → programs (WriteE2 resting) ≡ false →
    programs (WriteE2 (cond none resting (programming a bs left))) ≡ (not none && true)
by_left true resting a bs left rests = rests
by_left false resting a bs left rests = refl

pub stage_programs : (k : Core) (latch : List ℕ) → programs (command_of k latch) ≡ (not (eqb k.left 0) && writes k.stage)
stage_programs k latch =
    by_stage (λ s command. programs command ≡ (not (eqb k.left 0) && writes s)) k latch (by_left (eqb k.left 0) addressing _ _ _ refl) (by_left (eqb k.left 0) (ready _) _ _ _ refl)
    none none none none none none none none none (λ o. none ∙ sym (simp (o.n01, o.n41)))
  where
    none : false ≡ (not (eqb k.left 0) && false)
    none = sym (and-false (not (eqb k.left 0)))

-- It goes by the clocks left and the stage, and so is the same whatever the other arrays are.
pub programs_any : (of c : Chip) → programs (view of).command ≡ programs (view (clocks_state of c)).command
unfolding view_of
programs_any of c = stage_programs (core of) of.latch ∙ sym (stage_programs (core (clocks_state of c)) c.latch)
