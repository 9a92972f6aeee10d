-- Demand 2 (docs/DEMANDS.md has its sentences), said of what a program sends for host bytes and of its state after them, so that it can be asked of any program.
use Rattle.std.specs.Prelude.{ℕ, ◌≡◌, List, ◌++◌, true, Ok}
use Rattle.ground.specs.Members.{Each}
use Rattle.settings.specs.Mnemonics.{known, name}
use Rattle.settings.specs.declared.mnemonic.Mnemonic.{Mnemonic}
use Rattle.settings.specs.declared.mnemonic.Mnemonic.TheVariants.{OfReplying, Com, Sav}
use Rattle.settings.specs.declared.rows.Row.{Row}
use Rattle.lines.specs.Judging.{judged}
use Rattle.ports.specs.Line.{is_empty}
use Rattle.instrument.specs.Events.{applied}
use Rattle.tpg.specs.States.{Sound}
use Rattle.tpg.specs.declared.State.{State}
use Rattle.demands.specs.Wire.{ack_line, Inner, line_in, Ready, Way, sending, as_often, answered, error_left, read_text, written_text}
use Rattle.lines.specs.declared.verdict.Order.TheVariants.{Writes}
use Rattle.lines.specs.Verdicts.{Verdict}

-- what a program sends for host bytes, and its state after them
abbrev pub Says : Type 0
Says = State → List ℕ → List ℕ

abbrev pub Becomes : Type 0
Becomes = State → List ℕ → State

-- "Each reply, byte for byte, is what the mnemonics protocol of the TPG 361/362 and document 01 give": for any bytes of a line, good or bad, sent
-- in any way, in every state that a box can be in
abbrev pub Answers : Says → Type 0
Answers says =
    (s : State) → Sound s → (w : Way) → Ready w.start s → (bytes : List ℕ) → Each Inner bytes
    → says s (sending w bytes) ≡ answered w.enqs s.instrument s.port.error (judged s.instrument.model (line_in bytes))

-- what a line leaves behind: what it wrote is stored and nothing else changed, its error digit is set, and the line is empty
pub record Left (s : State) (n : ℕ) (v : Verdict) (t : State) : Type 0 where
  pub instrument : t.instrument ≡ applied s.instrument v
  pub error : t.port.error ≡ error_left n s.port.error v
  pub empty : is_empty t.port ≡ true

abbrev pub Leaves : Becomes → Type 0
Leaves becomes =
    (s : State) → Sound s → (w : Way) → Ready w.start s → (bytes : List ℕ) → Each Inner bytes
    → Left s w.enqs (judged s.instrument.model (line_in bytes)) (becomes s (sending w bytes))

-- "for reading a setting": of all mnemonics but COM and SAV, which have no reply; alone on a line they write their default
abbrev pub Reads : Says → State → Mnemonic → Type 0
Reads says s (OfReplying a) =
    (w : Way) → Ready w.start s → says s (sending w (name (OfReplying a))) ≡ read_text w.enqs s.instrument s.port.error a
Reads says s Com = Unit {0}
Reads says s Sav = Unit {0}

-- "and for writing one": a line that writes it is answered with what it wrote
abbrev pub WritesBack : Says → State → Mnemonic → Type 0
WritesBack says s m =
    (w : Way) → Ready w.start s → (bytes : List ℕ) (r : Row) → Each Inner bytes → judged s.instrument.model (line_in bytes) ≡ Ok (Writes m r)
    → says s (sending w bytes) ≡ ack_line ++ as_often w.enqs (written_text s.instrument m r) s.port.error

-- every mnemonic that the model knows, read and written
abbrev pub Replies : Says → Type 0
Replies says = (s : State) → Sound s → Each (λ (m : Mnemonic). Reads says s m × WritesBack says s m) (known s.instrument.model)

-- "Splitting the same host bytes over more calls, with no other event between and every byte taken in the end, changes no reply": what is sent for
-- all is what is sent for the first ones, and then by the box as they left it for the others; and so is the state
abbrev pub Splits : Says → Becomes → Type 0
Splits says becomes =
    (s : State) → Sound s → (xs ys : List ℕ)
    → (says s (xs ++ ys) ≡ says s xs ++ says (becomes s xs) ys) × (becomes s (xs ++ ys) ≡ becomes (becomes s xs) ys)

-- and the box stays one, of the model that it is of, so that all this is said of what comes next too
abbrev pub Keeps : Becomes → Type 0
Keeps becomes = (s : State) → Sound s → (bytes : List ℕ) → Sound (becomes s bytes) × ((becomes s bytes).instrument.model ≡ s.instrument.model)
