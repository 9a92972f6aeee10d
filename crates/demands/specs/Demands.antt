-- Demands 2 and 3 together, the rule of the counts, and the empty programs that 01 excludes by name ("What the promises have to decide").
use Rattle.std.specs.Prelude.{ℕ, ◌-◌, ◌≤◌, ◌<◌, ◌≡◌, ◌≢◌, length, take, drop}
use mathlib.Core.List.{List, [], flat_map}
use Rattle.ground.specs.Members.{Each}
use Rattle.text.specs.Control.{ack}
use Rattle.settings.specs.Mnemonics.{name}
use Rattle.settings.specs.declared.mnemonic.Setting.{Setting}
use Rattle.settings.specs.declared.mnemonic.Replying.{Replying}
use Rattle.settings.specs.declared.mnemonic.Replying.TheVariants.{OfSetting}
use Rattle.settings.specs.declared.mnemonic.Mnemonic.TheVariants.{OfReplying}
use Rattle.tpg.specs.Answers.{least_output}
use Rattle.tpg.specs.Steps.{said}
use Rattle.tpg.specs.declared.State.{State}
use Rattle.demands.specs.Wire.{ack_line, End, by_cr, after_etx, Way, sending}
use Rattle.demands.specs.Replies.{Says, Becomes, Answers, Leaves, Replies, Splits, Keeps}
use Rattle.demands.specs.Sheets.{Boxes, copy_of, lines_sent, Same, SheetRead, SheetCopied, SheetCut, SheetsDecide}

-- demands 2 and 3
pub record Meets (says : Says) (becomes : Becomes) : Type 0 where
  pub answers : Answers says
  pub leaves : Leaves becomes
  pub replies : Replies says
  pub splits : Splits says becomes
  pub keeps : Keeps becomes
  pub read : SheetRead says becomes
  pub copied : SheetCopied says becomes
  pub cut : SheetCut says becomes
  pub decide : SheetsDecide says

-- lines, each sent in its own way
pub record Spoken : Type 0 where
  pub way : Way
  pub bytes : List ℕ

abbrev pub conversation : List Spoken → List ℕ
conversation = flat_map (λ (l : Spoken). sending l.way l.bytes)

-- ---- the counts

-- n bytes are taken into an output of that length: "it goes on while input remains and at least 64 output bytes are free before the byte"
pub record Allowed (s : State) (input : List ℕ) (room n : ℕ) : Type 0 where
  pub few : n ≤ length input
  pub free : (i : ℕ) → i < n → least_output ≤ room - length (said s (take i input))
  pub full : n < length input → room - length (said s (take n input)) < least_output

-- a way of counting that does so in every state, for every input and output
abbrev pub Rule : (State → List ℕ → ℕ → ℕ) → Type 0
Rule takes = (s : State) (input : List ℕ) (room : ℕ) → Allowed s input room (takes s input room)

-- ---- the empty programs

-- "a box that NAKs everything": it never sends an ACK
abbrev pub NaksAll : Says → Type 0
NaksAll says = (s : State) (bytes : List ℕ) → Each (λ (b : ℕ). b ≢ ack) (says s bytes)

-- what a program sends behind ACK or NAK for a mnemonic alone and one ENQ
abbrev pub once : Way
once = record { start = after_etx; end = by_cr; enqs = 1 }

abbrev pub told : Says → State → Replying → List ℕ
told says s a = drop (length ack_line) (says s (sending once (name (OfReplying a))))

-- "one that always sends the same reply": whatever it is asked, or, to some setting, in whatever state
abbrev pub BlindToLines : Says → Type 0
BlindToLines says = (s : State) (a b : Replying) → told says s a ≡ told says s b

abbrev pub BlindToStates : Says → Setting → Type 0
BlindToStates says x = (s t : State) → told says s (OfSetting x) ≡ told says t (OfSetting x)

-- "one that ACKs and stores nothing, or stores the first sheet line and only ACKs the others": there is a setting that it never stores when a
-- sheet is sent, whatever it does with single lines
abbrev pub Forgets : Says → Becomes → Setting → Type 0
Forgets says becomes x = (a b : State) → Boxes a b → (e f : End) → Same (becomes b (lines_sent f (copy_of says e a))) b x

-- one that keeps a function's threshold digits when another unit is sent: 01 before W-202
abbrev pub KeepsDigits : Says → Becomes → Setting → Type 0
KeepsDigits says becomes x = (a b : State) → Boxes a b → (e f : End) → Same (becomes b (lines_sent f (take 1 (copy_of says e a)))) b x

-- one that knows a list of patterns, whatever they are, and sends nothing for any other bytes
abbrev pub SilentBut : (List ℕ → Type 0) → Says → Type 0
SilentBut Listed says = (s : State) (bytes : List ℕ) → (Listed bytes → ⊥) → says s bytes ≡ []
