-- Demand 3 (docs/DEMANDS.md has its sentences), said as demand 2 is, with the thresholds that follow the unit (02, W-202); and what of the
-- settings no sheet names (02, W-201).
use Rattle.std.specs.Prelude.{ℕ, ◌+◌, ◌≡◌, ◌↔◌, length, take, drop}
use Prim.Native.Char.{code}
use mathlib.Core.List.{List, [], ◌∷◌, ◌++◌, flat_map}
use Rattle.ground.specs.Members.{Each}
use Rattle.text.specs.Spans.{until}
use Rattle.text.specs.Control.{cr, cr_lf}
use Rattle.settings.specs.Rows.{listed, row, row_in}
use Rattle.settings.specs.Table.{setting_entry, field_count}
use Rattle.settings.specs.Mnemonics.{settings_held, sheet, setting, name}
use Rattle.settings.specs.declared.mnemonic.Setting.{Setting}
use Rattle.settings.specs.declared.Settings.{Settings}
use Rattle.settings.specs.declared.model.Model.{Model}
use Rattle.lines.specs.Replies.{setting_text}
use Rattle.tpg.specs.States.{Sound}
use Rattle.tpg.specs.declared.State.{State}
use Rattle.demands.specs.Wire.{ack_line, End, ended, anew, enquiries}
use Rattle.demands.specs.Replies.{Says, Becomes}

abbrev pub box_model : State → Model
box_model s = s.instrument.model

abbrev pub box_settings : State → Settings
box_settings s = s.instrument.settings

-- "Take two boxes of one model, each with any history": any two states that boxes can be in
pub record Boxes (a b : State) : Type 0 where
  pub first : Sound a
  pub second : Sound b
  pub model : box_model a ≡ box_model b

-- ---- a sheet on the wire

-- each mnemonic and an ENQ
abbrev pub questions : End → List Setting → List ℕ
questions e = flat_map (λ (x : Setting). ended e (name (setting x)) ++ enquiries 1)

-- "Send the first an ETX and read the seventeen sheet mnemonics.", or as many as the model's sheet has (02, W-201)
abbrev pub sheet_asked : End → State → List ℕ
sheet_asked e s = anew (questions e (sheet (box_model s)))

-- what comes back: an ACK and the reply of each
abbrev pub sheet_replies : Model → Settings → List Setting → List ℕ
sheet_replies model s = flat_map (λ (x : Setting). ack_line ++ (setting_text model s x ++ cr_lf))

-- of what was received the first line, and what is behind its CR LF
abbrev pub first_line : List ℕ → List ℕ
first_line received = until cr received

abbrev pub behind_line : List ℕ → List ℕ
behind_line received = drop (length (first_line received) + 2) received

-- "each mnemonic, a comma and its reply, in sheet order": made of the bytes received, which are for each mnemonic the line of its ACK and its reply
unfoldable pub copy_lines : List Setting → List ℕ → List (List ℕ)
copy_lines [] received = []
copy_lines (x ∷ xs) received =
    let reply = behind_line received in
    (name (setting x) ++ (code "," ∷ first_line reply)) ∷ copy_lines xs (behind_line reply)

-- the lines that a host makes of what the first box sent it
abbrev pub copy_of : Says → End → State → List (List ℕ)
copy_of says e a = copy_lines (sheet (box_model a)) (says a (sheet_asked e a))

-- "Send the second an ETX, then each"
abbrev pub lines_sent : End → List (List ℕ) → List ℕ
lines_sent e lines = anew (flat_map (ended e) lines)

-- "All are accepted": an ACK for each
abbrev pub acks : List Setting → List ℕ
acks = flat_map (λ (x : Setting). ack_line)

-- ---- the demand

-- what the first box sends for its sheet; its settings stay
abbrev pub SheetRead : Says → Becomes → Type 0
SheetRead says becomes =
    (a : State) → Sound a → (e : End)
    → (says a (sheet_asked e a) ≡ sheet_replies (box_model a) (box_settings a) (sheet (box_model a))) × (box_settings (becomes a (sheet_asked e a)) ≡ box_settings a)

-- "All are accepted and the settings are equal", and the second box's own sheet is then the first one's
abbrev pub SheetCopied : Says → Becomes → Type 0
SheetCopied says becomes =
    (a b : State) → Boxes a b → (e f : End)
    → let sent = lines_sent f (copy_of says e a) in
    let c = becomes b sent in
    (says b sent ≡ acks (sheet (box_model a))) × (box_settings c ≡ box_settings a) × (says c (sheet_asked e b) ≡ says a (sheet_asked e a))

-- a setting is the same in two boxes: all its cells, those too that the model has no field for
abbrev pub Same : State → State → Setting → Type 0
Same a b x = row (box_settings a) x ≡ row (box_settings b) x

-- a setting is another box's own, in the unit that the box has: W-202: "that function's thresholds are the second box's own, re-expressed"
abbrev pub Own : State → State → Setting → Type 0
Own c b x = row (box_settings c) x ≡ row_in (box_settings c).unit (box_settings b) x

-- "Cut after any number of whole lines, the settings named so far are equal and the rest are the second box's own."
abbrev pub SheetCut : Says → Becomes → Type 0
SheetCut says becomes =
    (a b : State) → Boxes a b → (e f : End) (n : ℕ)
    → let sent = lines_sent f (take n (copy_of says e a)) in
    let named = take n (sheet (box_model a)) in
    let c = becomes b sent in
    (says b sent ≡ acks named) × Each (Same c a) named × Each (Own c b) (drop n (sheet (box_model a)))

-- "Two such boxes give equal sheets exactly when their settings are equal."
abbrev pub SheetsDecide : Says → Type 0
SheetsDecide says = (a b : State) → Boxes a b → (e f : End) → (says a (sheet_asked e a) ≡ says b (sheet_asked f b)) ↔ (box_settings a ≡ box_settings b)

-- ---- what no sheet names

-- of every setting, on the model's sheet or not, the cells behind those that the model has are at their default
abbrev pub LackingDefault : Model → Settings → Type 0
LackingDefault model s = Each (λ (x : Setting). let n = field_count model x in drop n (listed (row s x)) ≡ drop n (listed ((setting_entry x).default model))) settings_held

-- W-201: "Cells a model lacks stay at their default": in every state that a box can be in, of its settings and of its saved set
abbrev pub LackingStays : Type 0
LackingStays = (s : State) → Sound s → LackingDefault (box_model s) (box_settings s) × LackingDefault (box_model s) s.instrument.saved
