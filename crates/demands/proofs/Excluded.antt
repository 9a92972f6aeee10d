-- The empty programs that 01 excludes by name, and the box before W-202: none of them meets the demand that it names.
use Rattle.std.specs.Prelude.{Ok, Err}
use Prim.Native.Nat.{ℕ}
use Prim.Native.String.{String}
use mathlib.Core.Path.{◌≡◌, refl, sym, ap, subst, ◌∙◌}
use mathlib.Core.List.{List, [], ◌∷◌, ◌++◌, map, flat_map, append-nil}
use mathlib.Core.Bool.{Bool, true, false, not}
use mathlib.Core.Logic.{◌≢◌}
use native.Mathlib.Omega.{arith}
use borrow.Author.Tests.{not-true, eqb-false}
use lib.ListN.{get_or, take, drop}
use lib.Dec.{eqb}
use Rattle.ground.specs.Members.{every, Each}
use Rattle.ground.proofs.Cases.{never}
use Rattle.ground.proofs.Members.{each_map, each_both, each_take, each_drop, every_each}
use Rattle.text.specs.Text.{ascii}
use Rattle.text.specs.Digits.{bare}
use Rattle.text.specs.Control.{cr_lf, ack}
use Rattle.numbers.specs.Numbers.{less}
use Rattle.numbers.specs.Rounding.{climb_within, digits, power, rounded, fitted_to, held_within, multiplied_by}
use Rattle.numerals.specs.Runs.{lead, rest, head_is, value}
use Rattle.numerals.specs.Whole.{number_of, behind_point, factor_of}
use Rattle.numerals.specs.Exponential.{after_plus, after_sign, power_of, composed, fraction, after_fraction, threshold_of}
use Rattle.numerals.specs.Writing.{scientific}
use Rattle.settings.specs.Rows.{first_number, second_number, listed, row, row_in}
use Rattle.settings.specs.Table.{switching_entry, stored_entry, kinds, defaults, field_count}
use Rattle.settings.specs.Mnemonics.{sheet, setting, known, name, same, found, recognised}
use Rattle.settings.specs.declared.model.Model.{Model}
use Rattle.settings.specs.declared.model.Model.TheVariants.{Tpg362}
use Rattle.settings.specs.declared.mnemonic.Setting.{Setting}
use Rattle.settings.specs.declared.mnemonic.Setting.TheVariants.{Uni, Cal, Sp, Stored}
use Rattle.settings.specs.declared.mnemonic.Mnemonic.{Mnemonic}
use Rattle.settings.specs.declared.mnemonic.Replying.TheVariants.{OfSetting}
use Rattle.settings.specs.declared.rows.Row.{Row}
use Rattle.settings.specs.declared.Settings.{Settings}
use Rattle.settings.proofs.Every.{tested}
use Rattle.settings.proofs.Storing.Holding.{uni, kept}
use Rattle.settings.proofs.Sheets.{OnSheet, sheet_holds, on_sheet, sheet_each}
use Rattle.settings.proofs.Answerable.{first_there}
use Rattle.lines.specs.Splitting.{fields, joined}
use Rattle.lines.specs.Fields.{limited}
use Rattle.lines.specs.Judging.{fields_read, formed, valued, with_fields, judged}
use Rattle.lines.specs.Replies.{texts, setting_text}
use Rattle.lines.specs.declared.word.Word.{Word}
use Rattle.lines.proofs.Accepted.{same_self}
use Rattle.ports.specs.Line.{grown}
use Rattle.ports.specs.Hearing.{kind_of, concluded, asked, by_kind, heard}
use Rattle.instrument.specs.Events.{written}
use Rattle.instrument.specs.Replies.{reply_text}
use Rattle.instrument.specs.declared.Instrument.{Instrument}
use Rattle.tpg.specs.States.{fresh_box, Sound}
use Rattle.tpg.specs.Steps.{event_text, next, sent, after}
use Rattle.tpg.specs.declared.State.{State}
use Rattle.tpg.proofs.StateLimits.{fresh_sound, after_sound, after_model}
use Rattle.demands.specs.Wire.{Inner, line_in, by_cr, ended, Ready, Way, sending, as_often, answered}
use Rattle.demands.specs.Replies.{Says, Becomes, Reads, Replies}
use Rattle.demands.specs.Sheets.{box_model, box_settings, Boxes, first_line, copy_of, lines_sent, Same, Own}
use Rattle.demands.specs.Demands.{Meets, NaksAll, once, told, BlindToLines, BlindToStates, Forgets, KeepsDigits, SilentBut}
use Rattle.demands.proofs.Spelling.{setting_characters}
use Rattle.demands.proofs.Copying.{first_line_lem, no_cr}
use Rattle.lines.specs.declared.verdict.Order.TheVariants.{Asks, Writes}
use Rattle.lines.specs.Verdicts.{Verdict}

abbrev fresh : Model → State
fresh model = fresh_box model 0

same_box : (model : Model) → Boxes (fresh model) (fresh model)
same_box model = let k = fresh_sound model 0 refl in record { first = k; second = k; model = refl }

-- ---- a box that NAKs everything

-- demand 3, "All are accepted": already the first line of a fresh 362's own sheet
pub naks_all : (says : Says) (becomes : Becomes) → Meets says becomes → NaksAll says → ⊥
unfolding flat_map sheet switching_entry stored_entry
naks_all says becomes meets naks =
    let a = fresh Tpg362 in
    (subst (Each (λ (b : ℕ). b ≢ ack)) (meets.copied a a (same_box Tpg362) by_cr by_cr).0 (naks a (lines_sent by_cr (copy_of says by_cr a)))).0 refl

-- ---- boxes that differ

-- for each setting fields that are its default on no model
others : Setting → List String
others Uni = "1" ∷ []
others Cal = "2" ∷ "2" ∷ []
others (Sp k) = "1" ∷ "1" ∷ "1" ∷ []
others (Stored k) =
    let n : String = get_or ("0" ∷ "3" ∷ "1" ∷ "1" ∷ "1" ∷ "1" ∷ "2" ∷ "1" ∷ "1" ∷ "1" ∷ "1" ∷ "1" ∷ "1" ∷ "0" ∷ "1" ∷ "1" ∷ []) k "" in n ∷ n ∷ []

-- a box that was sent them
changed : Model → Setting → State
changed model x = after (fresh model) (ended by_cr (joined (name (setting x) ∷ take (field_count model x) (map ascii (others x)))))

-- is not what it was
moved : Model → Setting → Bool
moved model x = not (same (setting_text model (box_settings (changed model x)) x) (setting_text model (defaults model) x))

all_moved : (model : Model) → every (moved model) (sheet model) ≡ true
unfolding moved changed others bare climb_within digits power rounded fitted_to lead rest head_is value number_of behind_point factor_of after_plus after_sign power_of composed fraction after_fraction threshold_of scientific every known sheet same found recognised switching_entry stored_entry fields limited fields_read formed valued with_fields judged setting_text grown kind_of concluded asked by_kind heard written event_text next sent after
all_moved = tested (λ model. every (moved model) (sheet model)) refl

changed_sound : (model : Model) (x : Setting) → Sound (changed model x)
unfolding changed
changed_sound model x = after_sound _ (fresh model) (fresh_sound model 0 refl)

changed_model : (model : Model) (x : Setting) → box_model (changed model x) ≡ model
unfolding changed
changed_model model x = after_model _ (fresh model)

-- what holds of each setting that was changed holds of the sheet
each_moved : (P : Setting → Type 0) (model : Model) → ((x : Setting) → OnSheet model x → moved model x ≡ true → P x) → Each P (sheet model)
each_moved P model f = each_both (OnSheet model) (λ (x : Setting). moved model x ≡ true) P f (sheet model) (sheet_holds model) (every_each (moved model) (sheet model) (all_moved model))

-- texts that differ are not equal
apart : (t u : List ℕ) → not (same t u) ≡ true → t ≢ u
apart t u differs e = let d : same t u ≡ false = not-true (same t u) differs in let f : same t u ≡ true = ap (λ (l : List ℕ). same l u) e ∙ same_self u in never (cc)

-- ---- one that always sends the same reply

-- what is told of a setting is its text
told_text : (says : Says) → Replies says → (s : State) → Sound s → (x : Setting) → OnSheet (box_model s) x → told says s (OfSetting x) ≡ setting_text (box_model s) (box_settings s) x ++ cr_lf
unfolding as_often reply_text
told_text says replies s k x h =
    let reads = each_map _ (λ (m : Mnemonic). Reads says s m) (λ m both. both.0) (known (box_model s)) (replies s k) in
    let text = setting_text (box_model s) (box_settings s) x in
    ap (drop 3) (on_sheet (λ (x : Setting). Reads says s (setting x)) (box_model s) (sheet_each (λ (m : Mnemonic). Reads says s m) (box_model s) reads) h once tt)
    ∙ rw (first_there (box_model s)) (append-nil (text ++ cr_lf))

-- a fresh 362 answers 4 for its unit and 2,2 for its filters
pub blind_to_lines : (says : Says) (becomes : Becomes) → Meets says becomes → BlindToLines says → ⊥
unfolding setting_text bare stored_entry
blind_to_lines says becomes meets blind =
    let s = fresh Tpg362 in
    let k = fresh_sound Tpg362 0 refl in
    let e : ◌≡◌ {A = ℕ} 52 50 =
    ap (λ (t : List ℕ). get_or t 0 0) (sym (told_text says meets.replies s k Uni (record { holding = uni; taken = refl })) ∙ blind s (OfSetting Uni) (OfSetting (Stored 0))
    ∙ told_text says meets.replies s k (Stored 0) (record { holding = kept 0 (omega arith); taken = refl })) in
    omega (arith, e)

-- a program that answers as 01 says tells a setting that was changed from one that was not
abbrev Tells : Setting → Type 0
Tells x = (says : Says) (becomes : Becomes) → Meets says becomes → BlindToStates says x → ⊥

tells : (model : Model) (x : Setting) → OnSheet model x → moved model x ≡ true → Tells x
unfolding moved
tells model x h differs says becomes meets blind =
    let a = changed model x in
    let b = fresh model in
    let one = told_text says meets.replies a (changed_sound model x) x (subst (λ (m : Model). OnSheet m x) (sym (changed_model model x)) h) in
    let other = told_text says meets.replies b (fresh_sound model 0 refl) x h in
    let line = setting_text model (box_settings a) x in
    let own = setting_text model (defaults model) x in
    let equal : line ++ cr_lf ≡ own ++ cr_lf =
    ap (λ (m : Model). setting_text m (box_settings a) x ++ cr_lf) (sym (changed_model model x)) ∙ sym one ∙ blind a b ∙ other in
    apart line own differs
    (sym (first_line_lem line [] (no_cr line (setting_characters model (box_settings a) x))) ∙ ap first_line equal ∙ first_line_lem own [] (no_cr own (setting_characters model (defaults model) x)))

-- demand 2: whichever setting of the sheet it is
pub blind_to_states : (model : Model) → Each Tells (sheet model)
blind_to_states model = each_moved Tells model (tells model)

-- ---- one that ACKs and stores nothing, or stores the first line of a sheet and only ACKs the others

-- a program that copies sheets stores the setting
abbrev Stores : Setting → Type 0
Stores x = (says : Says) (becomes : Becomes) → Meets says becomes → Forgets says becomes x → ⊥

stores : (model : Model) (x : Setting) → OnSheet model x → moved model x ≡ true → Stores x
unfolding moved setting_text
stores model x h differs says becomes meets forgets =
    let a = changed model x in
    let b = fresh model in
    let both : Boxes a b = record { first = changed_sound model x; second = fresh_sound model 0 refl; model = changed_model model x } in
    let equal : row (box_settings a) x ≡ row (defaults model) x = ap (λ (s : Settings). row s x) (sym (meets.copied a b both by_cr by_cr).1) ∙ forgets a b both by_cr by_cr in
    apart (setting_text model (box_settings a) x) (setting_text model (defaults model) x) differs
    (ap (λ (r : Row). joined (texts (kinds model (setting x)) (take (field_count model x) (listed r)))) equal)

-- demand 3, "the settings are equal": whichever setting of the sheet it is that a program never stores
pub forgets : (model : Model) → Each Stores (sheet model)
forgets model = each_moved Stores model (stores model)

-- ---- one that keeps threshold digits

abbrev functions : List Setting
functions = Sp 0 ∷ Sp 1 ∷ Sp 2 ∷ Sp 3 ∷ []

-- a fresh 362's lower threshold has other digits in Torr
abbrev other_digits : Setting → Bool
other_digits x = not (eqb (second_number (row_in 1 (defaults Tpg362) x)) (second_number (row (defaults Tpg362) x)))

all_other : Each (λ (x : Setting). other_digits x ≡ true) functions
unfolding less climb_within digits power rounded held_within multiplied_by every
all_other = every_each other_digits functions refl

torr : (box_settings (changed Tpg362 Uni)).unit ≡ 1
unfolding changed others bare lead rest head_is value number_of known same found recognised switching_entry stored_entry fields limited fields_read formed valued with_fields judged grown kind_of concluded asked by_kind heard written event_text next sent after
torr = refl

-- the first line of the sheet of a box in Torr, sent to a fresh 362
module _ (says : Says) (becomes : Becomes) (meets : Meets says becomes) where
  boxes : Boxes (changed Tpg362 Uni) (fresh Tpg362)
  boxes = record { first = changed_sound Tpg362 Uni; second = fresh_sound Tpg362 0 refl; model = changed_model Tpg362 Uni }

  abbrev behind_unit : State
  behind_unit = becomes (fresh Tpg362) (lines_sent by_cr (take 1 (copy_of says by_cr (changed Tpg362 Uni))))

  unit_sent : (box_settings behind_unit).unit ≡ 1
  unfolding sheet switching_entry stored_entry
  unit_sent =
      let cut = meets.cut (changed Tpg362 Uni) (fresh Tpg362) boxes by_cr by_cr 1 in
      ap first_number (subst (λ (m : Model). Each (Same behind_unit (changed Tpg362 Uni)) (take 1 (sheet m))) (changed_model Tpg362 Uni) cut.1).0 ∙ torr

  own_thresholds : Each (Own behind_unit (fresh Tpg362)) functions
  unfolding sheet switching_entry stored_entry
  own_thresholds =
      let own = Own behind_unit (fresh Tpg362) in
      let cut = meets.cut (changed Tpg362 Uni) (fresh Tpg362) boxes by_cr by_cr 1 in
      let behind = subst (λ (m : Model). Each own (drop 1 (sheet m))) (changed_model Tpg362 Uni) cut.2 in
      each_take own 4 (drop 4 (sheet Tpg362)) (each_drop own 3 (drop 1 (sheet Tpg362)) behind)

  not_kept : (x : Setting) → other_digits x ≡ true → Own behind_unit (fresh Tpg362) x → KeepsDigits says becomes x → ⊥
  not_kept x f own keeps =
      let same = keeps (changed Tpg362 Uni) (fresh Tpg362) boxes by_cr by_cr in
      eqb-false _ _ (not-true _ f) (ap (λ (u : ℕ). second_number (row_in u (defaults Tpg362) x)) (sym unit_sent) ∙ sym (ap second_number own) ∙ ap second_number same)

  -- demand 3, "re-expressed": whichever of the four functions it is
  pub keeps_digits : Each (λ (x : Setting). KeepsDigits says becomes x → ⊥) functions
  keeps_digits = each_both (λ (x : Setting). other_digits x ≡ true) (Own behind_unit (fresh Tpg362)) _ not_kept functions all_other own_thresholds

-- ---- one that knows patterns, and sends nothing elsewhere

-- for a line something is sent, ACK or NAK
some_answer : (n : ℕ) (s : Instrument) (error : Word) (v : Verdict) (front rest : List ℕ) → front ++ (answered n s error v ++ rest) ≢ []
some_answer n s error (Ok (Asks a)) [] rest e = never (cc)
some_answer n s error (Ok (Writes m r)) [] rest e = never (cc)
some_answer n s error (Err x) [] rest e = never (cc)
some_answer n s error v (b ∷ front) rest e = never (cc)

-- whatever came before and whatever comes behind it: every row of bytes with such a line in it would have to be listed
pub silent_elsewhere : (says : Says) (becomes : Becomes) → Meets says becomes → (Listed : List ℕ → Type 0) → SilentBut Listed says
    → (s : State) → Sound s → (front : List ℕ) (w : Way) → Ready w.start (becomes s front) → (bytes : List ℕ) → Each Inner bytes → (rest : List ℕ)
    → (Listed (front ++ (sending w bytes ++ rest)) → ⊥) → ⊥
silent_elsewhere says becomes meets Listed silent s k front w ready bytes inner rest other =
    let now = becomes s front in
    let sound = (meets.keeps s k front).0 in
    let line = (meets.splits now sound (sending w bytes) rest).0 ∙ ap (λ (t : List ℕ). t ++ says (becomes now (sending w bytes)) rest) (meets.answers now sound w ready bytes inner) in
    some_answer w.enqs now.instrument now.port.error (judged now.instrument.model (line_in bytes)) (says s front) (says (becomes now (sending w bytes)) rest)
    (sym ((meets.splits s k front (sending w bytes ++ rest)).0 ∙ ap (λ (t : List ℕ). says s front ++ t) line) ∙ silent s (front ++ (sending w bytes ++ rest)) other)
