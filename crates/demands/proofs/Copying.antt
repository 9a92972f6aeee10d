-- Demand 3: a sheet of settings is read from one box and sent to another of the model, over bytes. Proved over a list of settings, and so
-- over the sheet of any model.
use Rattle.std.specs.Prelude.{Option, Ok, Err}
use Prim.Native.Nat.{ℕ, suc, ◌+◌}
use mathlib.Core.Path.{◌≡◌, refl, sym, ap, ap₂, subst, ◌∙◌}
use mathlib.Core.List.{List, [], ◌∷◌, ◌++◌, map, flat_map, append_assoc, append-nil}
use mathlib.Core.Bool.{true, and-eq-true_iff}
use mathlib.Core.Logic.{◌≢◌}
use native.Mathlib.Omega.{arith}
use borrow.Author.Tests.{ne_eqb}
use lib.ListN.{length, take, drop}
use lib.Seq.{drop-append_seam, drop-drop}
use Rattle.ground.specs.Members.{Each}
use Rattle.ground.proofs.Cases.{in_range_lem}
use Rattle.ground.proofs.Members.{each_map, each_all, each_both, each_take}
use Rattle.ground.proofs.Sequences.{map_take}
use Rattle.text.specs.Spans.{until}
use Rattle.text.specs.Control.{cr_lf, lf, cr}
use Rattle.settings.specs.Rows.{first_number, row_of, row, row_in}
use Rattle.settings.specs.Table.{cells}
use Rattle.settings.specs.Mnemonics.{settings_held, sheet, setting, name}
use Rattle.settings.specs.Limits.{within}
use Rattle.settings.specs.declared.model.Model.{Model}
use Rattle.settings.specs.declared.mnemonic.Setting.{Setting}
use Rattle.settings.specs.declared.mnemonic.Setting.TheVariants.{Uni}
use Rattle.settings.specs.declared.mnemonic.Mnemonic.{Mnemonic}
use Rattle.settings.specs.declared.mnemonic.Replying.TheVariants.{OfSetting}
use Rattle.settings.specs.declared.rows.Row.{Row}
use Rattle.settings.specs.declared.Settings.{Settings}
use Rattle.settings.proofs.Storing.{Holding}
use Rattle.settings.proofs.Sheets.{held_holding, unit_first, lacking_default, sheet_each}
use Rattle.settings.proofs.Answerable.{first_there}
use Rattle.lines.specs.Judging.{judged, effect}
use Rattle.lines.specs.Replies.{setting_text}
use Rattle.lines.specs.Sheets.{sheet_line, settings_after}
use Rattle.lines.specs.declared.word.Word.{Word}
use Rattle.lines.proofs.Accepted.{Spelt, all_spelt, sheet_accepted}
use Rattle.lines.proofs.Copy.{cut_named, cut_others, whole_copy, equal_sheets}
use Rattle.ports.specs.Limits.{port_within}
use Rattle.instrument.specs.Events.{written, applied}
use Rattle.instrument.specs.Limits.{instrument_within}
use Rattle.instrument.specs.Replies.{reply_text}
use Rattle.instrument.specs.declared.Instrument.{Instrument}
use Rattle.instrument.proofs.InstrumentLimits.{Parts, instrument_parts}
use Rattle.tpg.specs.States.{state_within, Sound}
use Rattle.tpg.specs.Steps.{next, after, said}
use Rattle.tpg.specs.declared.State.{State}
use Rattle.tpg.proofs.HostRun.{after_append, said_append}
use Rattle.tpg.proofs.StateLimits.{heard_model, after_sound, after_model}
use Rattle.demands.specs.Wire.{ack_line, End, ended, anew, enquiries, as_often}
use Rattle.demands.specs.Sheets.{box_model, box_settings, Boxes, questions, sheet_asked, sheet_replies, first_line, behind_line, copy_lines, copy_of, lines_sent, acks, Same, Own, SheetRead, SheetCopied, SheetCut, SheetsDecide, LackingDefault, LackingStays}
use Rattle.demands.proofs.Ending.{Line}
use Rattle.demands.proofs.Typing.{line_judged, line_enquired, line_left, anew_line, anew_instrument, anew_said, anew_after}
use Rattle.demands.proofs.Spelling.{Character, Typeable, typeable_inner, typeable_line, Short, names_short, name_typeable, setting_characters, line_typeable, name_judged}
use Rattle.lines.specs.declared.verdict.Order.TheVariants.{Asks, Writes}
use Rattle.lines.specs.Verdicts.{Verdict}
use Rattle.settings.specs.declared.mnemonic.Replying.{Replying}

-- ---- what a sheet needs of its mnemonics

-- its name can be typed, and asks for it
record Asked (model : Model) (x : Setting) : Type 0 where
  short : Short (name (setting x))
  asks : judged model (name (setting x)) ≡ Ok (Asks (OfSetting x))

-- ---- the inquiries

module _ (e : End) (instrument : Instrument) where
  inquired : (xs : List Setting) (s : State) {selection : Option Replying} {error : Word} → s.instrument ≡ instrument → Line s.port [] selection error → Each (Asked instrument.model) xs
      → (said s (questions e xs) ≡ sheet_replies instrument.model instrument.settings xs)
      × ((after s (questions e xs)).instrument ≡ instrument)
  unfolding flat_map after said reply_text as_often
  inquired [] s same empty h = (refl, same)
  inquired (x ∷ xs) s {error = error} same empty h =
      let bytes = ended e (name (setting x)) ++ enquiries 1 in
      let rest = questions e xs in
      let verdict : judged s.instrument.model (name (setting x)) ≡ Ok (Asks (OfSetting x)) = ap (λ (t : Instrument). judged t.model (name (setting x))) same ∙ h.0.asks in
      let t = name_typeable (setting x) h.0.short in
      let asks = ap (judged s.instrument.model) (typeable_line (name (setting x)) t) ∙ verdict in
      let inner = typeable_inner (name (setting x)) t in
      let one = line_left s empty (name (setting x)) inner (Ok (Asks (OfSetting x))) asks e 1 in
      let all = inquired xs (after s bytes) (one.0 ∙ same) one.1 h.1 in
      let text : said s bytes ≡ ack_line ++ reply_text instrument error (OfSetting x) =
      line_enquired s empty (name (setting x)) inner (Ok (Asks (OfSetting x))) asks e 1 ∙ ap (λ (t : List ℕ). ack_line ++ t) (append-nil (reply_text s.instrument error (OfSetting x)))
      ∙ ap (λ (t : Instrument). ack_line ++ reply_text t error (OfSetting x)) same in (
        said_append bytes rest s ∙ ap₂ (λ (t u : List ℕ). t ++ u) text all.0,
        ap (λ (t : State). t.instrument) (after_append bytes rest s) ∙ all.1,
      )

-- ---- the lines that are made of the replies

-- a line of what was received ends before its CR, and behind its CR LF the next one begins
pub first_line_lem : (t rest : List ℕ) → Each (λ (c : ℕ). c ≢ cr) t → first_line (t ++ (cr ∷ lf ∷ rest)) ≡ t
unfolding until
first_line_lem [] rest p = refl
first_line_lem (c ∷ t) rest p = rw (ne_eqb c cr p.0) (ap (λ (l : List ℕ). c ∷ l) (first_line_lem t rest p.1))

behind_line_lem : (t rest : List ℕ) → Each (λ (c : ℕ). c ≢ cr) t → behind_line (t ++ (cr ∷ lf ∷ rest)) ≡ rest
behind_line_lem t rest p =
    let all = t ++ (cr ∷ lf ∷ rest) in
    ap (λ (l : List ℕ). drop (length l + 2) all) (first_line_lem t rest p) ∙ sym (drop-drop 2 (length t) all) ∙ ap (drop 2) (drop-append_seam t (cr ∷ lf ∷ rest))

pub no_cr : (l : List ℕ) → Each Character l → Each (λ (c : ℕ). c ≢ cr) l
no_cr = each_map Character (λ (c : ℕ). c ≢ cr) (λ c h e. omega (arith, (in_range_lem 33 126 c h).0))

-- from the replies of a box come the lines of its settings
lines_copied : (model : Model) (a : Settings) (xs : List Setting) → copy_lines xs (sheet_replies model a xs) ≡ map (sheet_line model a) xs
unfolding copy_lines flat_map until
lines_copied model a [] = refl
lines_copied model a (x ∷ xs) =
    let t = setting_text model a x in
    let rest = sheet_replies model a xs in
    let plain = no_cr t (setting_characters model a x) in
    rw (append_assoc t cr_lf rest, behind_line_lem t rest plain, first_line_lem t rest plain, lines_copied model a xs)

-- ---- the lines of a sheet

-- what the lines of a's sheet need: they can be typed, and are accepted by every box of the model
record Sent (model : Model) (a : Settings) (x : Setting) : Type 0 where
  typeable : Typeable (sheet_line model a x)
  row : Row
  writes : judged model (sheet_line model a x) ≡ Ok (Writes (setting x) row)

-- a line does to the settings what the lines' own law says
heard_settings : (s : Instrument) (v : Verdict) → (applied s v).settings ≡ effect s.model s.settings v
unfolding written
heard_settings s (Ok (Asks m)) = refl
heard_settings s (Ok (Writes m r)) = refl
heard_settings s (Err x) = refl

module _ (f : End) (model : Model) (a : Settings) where
  -- the bytes of a's lines for some settings
  abbrev orders : List Setting → List ℕ
  orders xs = flat_map (ended f) (map (sheet_line model a) xs)

  -- what they make of a box: all are accepted, and its settings are those after the lines
  record Made (xs : List Setting) (s : State) : Type 0 where
    accepted : said s (orders xs) ≡ acks xs
    settings : box_settings (after s (orders xs)) ≡ settings_after model (box_settings s) (map (sheet_line model a) xs)
    saved : (after s (orders xs)).instrument.saved ≡ s.instrument.saved
    readings : (after s (orders xs)).instrument.readings ≡ s.instrument.readings

  commanded : (xs : List Setting) (s : State) {selection : Option Replying} {error : Word} → box_model s ≡ model → Line s.port [] selection error → Each (Sent model a) xs → Made xs s
  unfolding flat_map after said written
  commanded [] s same empty h = record { accepted = refl; settings = refl; saved = refl; readings = refl }
  commanded (x ∷ xs) s same empty h =
      let line = sheet_line model a x in
      let bytes = ended f line in
      let rest = orders xs in
      let v = Ok (Writes (setting x) h.0.row) in
      let verdict : judged (box_model s) line ≡ v = ap (λ (m : Model). judged m line) same ∙ h.0.writes in
      let t = h.0.typeable in
      let one = line_judged s empty line (typeable_inner line t) v (ap (judged (box_model s)) (typeable_line line t) ∙ verdict) f in
      let now = after s bytes in
      let all = commanded xs now (ap (λ (t : Instrument). t.model) one.instrument ∙ heard_model s.instrument v ∙ same) one.line h.1 in
      let set : box_settings now ≡ effect model (box_settings s) (judged model line) =
      ap (λ (t : Instrument). t.settings) one.instrument ∙ heard_settings s.instrument v ∙ ap₂ (λ (m : Model) (u : Verdict). effect m (box_settings s) u) same (sym h.0.writes) in
      record {
        accepted = said_append bytes rest s ∙ ap₂ (λ (t u : List ℕ). t ++ u) one.reply all.accepted;
        settings = ap box_settings (after_append bytes rest s) ∙ all.settings ∙ ap (λ (t : Settings). settings_after model t (map (sheet_line model a) xs)) set;
        saved = ap (λ (t : State). t.instrument.saved) (after_append bytes rest s) ∙ all.saved ∙ ap (λ (t : Instrument). t.saved) one.instrument;
        readings = ap (λ (t : State). t.instrument.readings) (after_append bytes rest s) ∙ all.readings ∙ ap (λ (t : Instrument). t.readings) one.instrument;
      }

-- ---- the sheet of a model

name_asks : (model : Model) (x : Setting) → Spelt model (setting x) → judged model (name (setting x)) ≡ Ok (Asks (OfSetting x))
name_asks model x sp = name_judged model (setting x) sp ∙ rw (first_there model)

sheet_asked_lem : (model : Model) → Each (Asked model) (sheet model)
sheet_asked_lem model =
    each_both (λ (x : Setting). Spelt model (setting x)) (λ (x : Setting). Short (name (setting x))) (Asked model)
    (λ x sp short. record { short = short; asks = name_asks model x sp }) (sheet model)
    (sheet_each (Spelt model) model (all_spelt model)) (sheet_each (λ (m : Mnemonic). Short (name m)) model (names_short model))

sound_parts : (s : State) → Sound s → Parts s.instrument
unfolding state_within
sound_parts s k = instrument_parts s.instrument ((and-eq-true_iff (instrument_within s.instrument) (port_within (box_model s) s.port)).0 k.within).0

settings_within : (s : State) → Sound s → within (box_model s) (box_settings s) ≡ true
settings_within s k = (sound_parts s k).settings

sheet_sent : (a : State) → Sound a → Each (Sent (box_model a) (box_settings a)) (sheet (box_model a))
sheet_sent a k =
    let model = box_model a in
    each_both (λ (x : Setting). Short (name (setting x))) _ (Sent model (box_settings a))
    (λ x short e. record { typeable = line_typeable model (box_settings a) x short; row = row_of (cells model (box_settings a) x); writes = e }) (sheet model)
    (sheet_each (λ (m : Mnemonic). Short (name m)) model (names_short model)) (sheet_accepted model (box_settings a) (settings_within a k))

-- ---- the theorems

pub sheet_read : SheetRead said after
sheet_read a k e =
    let all = inquired e a.instrument (sheet (box_model a)) (next a 3) (anew_instrument a) (anew_line a) (sheet_asked_lem (box_model a)) in
    (anew_said a _ ∙ all.0, ap box_settings (anew_after a _) ∙ ap (λ (t : Instrument). t.settings) all.1)

-- the lines of a box, for some settings
abbrev lines_for : State → List Setting → List (List ℕ)
lines_for a xs = map (sheet_line (box_model a) (box_settings a)) xs

-- what a host makes of the bytes that it received are the lines of the box's settings, and the first of them
copy_lines_lem : (a : State) → Sound a → (e : End) → copy_of said e a ≡ lines_for a (sheet (box_model a))
copy_lines_lem a k e = ap (copy_lines (sheet (box_model a))) (sheet_read a k e).0 ∙ lines_copied (box_model a) (box_settings a) (sheet (box_model a))

copy_cut : (a : State) → Sound a → (e : End) (n : ℕ) → take n (copy_of said e a) ≡ lines_for a (take n (sheet (box_model a)))
copy_cut a k e n = ap (take n) (copy_lines_lem a k e) ∙ map_take (sheet_line (box_model a) (box_settings a)) n (sheet (box_model a))

module _ (a b : State) (both : Boxes a b) (f : End) where
  made : (xs : List Setting) → Each (Sent (box_model a) (box_settings a)) xs → Made f (box_model a) (box_settings a) xs (next b 3)
  made xs = commanded f (box_model a) (box_settings a) xs (next b 3) (ap (λ (t : Instrument). t.model) (anew_instrument b) ∙ sym both.model) (anew_line b)

  -- the settings after lines of the sheet, and what no line of it changes
  copied : (xs : List Setting) → Each (Sent (box_model a) (box_settings a)) xs
      → box_settings (after b (lines_sent f (lines_for a xs))) ≡ settings_after (box_model a) (box_settings b) (lines_for a xs)
  copied xs h =
      ap box_settings (anew_after b _) ∙ (made xs h).settings
      ∙ ap (λ (t : Instrument). settings_after (box_model a) t.settings (lines_for a xs)) (anew_instrument b)

  -- no line of the sheet touches the saved set or a reading
  pub copy_keeps : (e : End) (n : ℕ) → let c = after b (lines_sent f (take n (copy_of said e a))) in
      (c.instrument.saved ≡ b.instrument.saved) × (c.instrument.readings ≡ b.instrument.readings)
  copy_keeps e n =
      let m = made (take n (sheet (box_model a))) (each_take (Sent (box_model a) (box_settings a)) n (sheet (box_model a)) (sheet_sent a both.first)) in
      rw (copy_cut a both.first e n) (
        ap (λ (t : State). t.instrument.saved) (anew_after b _) ∙ m.saved ∙ ap (λ (t : Instrument). t.saved) (anew_instrument b),
        ap (λ (t : State). t.instrument.readings) (anew_after b _) ∙ m.readings ∙ ap (λ (t : Instrument). t.readings) (anew_instrument b),
      )

  -- the second box within the limits of the first one's model
  own : within (box_model a) (box_settings b) ≡ true
  own = subst (λ m. within m (box_settings b) ≡ true) (sym both.model) (settings_within b both.second)

  -- all lines: accepted, and the settings are those of the first box
  all_copied : let sent = lines_sent f (lines_for a (sheet (box_model a))) in
      (said b sent ≡ acks (sheet (box_model a))) × (box_settings (after b sent) ≡ box_settings a)
  all_copied =
      let model = box_model a in
      let sent = sheet_sent a both.first in (
        anew_said b _ ∙ (made (sheet model) sent).accepted,
        copied (sheet model) sent
            ∙ whole_copy model (box_settings a) (box_settings b) both.first.shaped.instrument.settings both.second.shaped.instrument.settings
            (settings_within a both.first) own,
      )

-- boxes of one model with equal settings send the same sheet
same_sheet : (a c : State) → Boxes a c → box_settings c ≡ box_settings a → (e f : End) → said c (sheet_asked e c) ≡ said a (sheet_asked f a)
same_sheet a c both equal e f =
    (sheet_read c both.second e).0 ∙ ap₂ (λ (m : Model) (s : Settings). sheet_replies m s (sheet m)) (sym both.model) equal ∙ sym (sheet_read a both.first f).0

-- after bytes a box is still of the model
sent_boxes : (a b : State) → Boxes a b → (bytes : List ℕ) → Boxes a (after b bytes)
sent_boxes a b both bytes = record { first = both.first; second = after_sound bytes b both.second; model = both.model ∙ sym (after_model bytes b) }

pub sheet_copied : SheetCopied said after
sheet_copied a b both e f =
    let sent = lines_sent f (lines_for a (sheet (box_model a))) in
    let all = all_copied a b both f in
    rw (copy_lines_lem a both.first e) (
      all.0,
      all.1,
      ap (λ (m : Model). said (after b sent) (anew (questions e (sheet m)))) (sym (after_model sent b)) ∙ same_sheet a (after b sent) (sent_boxes a b both sent) all.1 e e,
    )

pub sheet_cut : SheetCut said after
sheet_cut a b both e f n =
    let model = box_model a in
    let sent = each_take (Sent model (box_settings a)) n (sheet model) (sheet_sent a both.first) in
    let is = copied a b both f (take n (sheet model)) sent in
    let sa = both.first.shaped.instrument.settings in
    let sb = both.second.shaped.instrument.settings in
    let wa = settings_within a both.first in
    rw (copy_cut a both.first e n) (
      anew_said b _ ∙ (made a b both f (take n (sheet model)) sent).accepted,
      rw is (cut_named model (box_settings a) (box_settings b) sa sb wa (own a b both f) n),
      rw is (cut_others model (box_settings a) (box_settings b) sa sb wa (own a b both f) n),
    )

-- cut before the first line all is as it was
pub cut_none : (a b : State) → Boxes a b → (e f : End) → Each (Same (after b (lines_sent f (take 0 (copy_of said e a)))) b) (sheet (box_model a))
cut_none a b both e f = each_all _ (λ x. ap (λ (s : Settings). row s x) (copied a b both f [] tt)) (sheet (box_model a))

-- W-202: "cut after the UNI line and before an SP line, that function's thresholds are the second box's own, re-expressed": to the first's unit
pub cut_unit : (a b : State) → Boxes a b → (e f : End) (n : ℕ)
    → let c = after b (lines_sent f (take (suc n) (copy_of said e a))) in
    Each (λ (x : Setting). row (box_settings c) x ≡ row_in (box_settings a).unit (box_settings b) x) (drop (suc n) (sheet (box_model a)))
cut_unit a b both e f n =
    let model = box_model a in
    let c = after b (lines_sent f (take (suc n) (copy_of said e a))) in
    let cut = sheet_cut a b both e f (suc n) in
    let named : Each (Same c a) (take (suc n) (Uni ∷ drop 1 (sheet model))) = subst (λ (xs : List Setting). Each (Same c a) (take (suc n) xs)) (unit_first model) cut.1 in
    let unit : (box_settings c).unit ≡ (box_settings a).unit = ap first_number named.0 in
    each_map (Own c b) _ (λ x own. own ∙ ap (λ u. row_in u (box_settings b) x) unit) (drop (suc n) (sheet model)) cut.2

-- ---- a sheet tells the settings

-- each reply ends at its CR, so equal bytes are equal replies
replies_texts : (model : Model) (a b : Settings) (xs : List Setting) → sheet_replies model a xs ≡ sheet_replies model b xs → map (setting_text model a) xs ≡ map (setting_text model b) xs
unfolding flat_map
replies_texts model a b [] e = refl
replies_texts model a b (x ∷ xs) e =
    let t = setting_text model a x in
    let u = setting_text model b x in
    let f : t ++ (cr ∷ lf ∷ sheet_replies model a xs) ≡ u ++ (cr ∷ lf ∷ sheet_replies model b xs) =
    sym (append_assoc t cr_lf (sheet_replies model a xs)) ∙ ap (drop 3) e ∙ append_assoc u cr_lf (sheet_replies model b xs) in
    let p = no_cr t (setting_characters model a x) in
    let q = no_cr u (setting_characters model b x) in
    let first : t ≡ u = sym (first_line_lem t (sheet_replies model a xs) p) ∙ ap first_line f ∙ first_line_lem u (sheet_replies model b xs) q in
    let others : sheet_replies model a xs ≡ sheet_replies model b xs = sym (behind_line_lem t (sheet_replies model a xs) p) ∙ ap behind_line f ∙ behind_line_lem u (sheet_replies model b xs) q in
    ap₂ (λ (h : List ℕ) (l : List (List ℕ)). h ∷ l) first (replies_texts model a b xs others)

pub sheets_decide : SheetsDecide said
sheets_decide a b both e f =
    let model = box_model a in
    let first = (sheet_read a both.first e).0 in
    let second : said b (sheet_asked f b) ≡ sheet_replies model (box_settings b) (sheet model) =
    (sheet_read b both.second f).0 ∙ ap (λ (m : Model). sheet_replies m (box_settings b) (sheet m)) (sym both.model) in
    let decide = equal_sheets model (box_settings a) (box_settings b) both.first.shaped.instrument.settings both.second.shaped.instrument.settings
    (settings_within a both.first) (own a b both f) in (
      (λ same. decide.0 (replies_texts model (box_settings a) (box_settings b) (sheet model) (sym first ∙ same ∙ second))),
      (λ same. sym (same_sheet a b both (sym same) f e)),
    )

-- ---- what no sheet names

lacking : (model : Model) (s : Settings) → within model s ≡ true → LackingDefault model s
lacking model s w = each_map Holding _ (lacking_default model s w) settings_held held_holding

pub lacking_stays : LackingStays
lacking_stays s k = (lacking (box_model s) (box_settings s) (settings_within s k), lacking (box_model s) s.instrument.saved (sound_parts s k).saved)
