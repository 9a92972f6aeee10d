-- Law (b): a mnemonic, a comma and its cells as they are written is judged as writing those cells, over the whole sheet.
use Rattle.std.specs.Prelude.{Some, Ok}
use Prim.Native.Nat.{ℕ, suc, ◌≤◌, ◌<◌}
use Prim.Native.Char.{code}
use mathlib.Core.Path.{◌≡◌, refl, ap, ap₂, ◌∙◌}
use mathlib.Core.List.{List, [], ◌∷◌, ◌++◌, map}
use mathlib.Core.Bool.{Bool, true, not, and-eq-true_iff}
use native.Mathlib.Omega.{arith}
use borrow.Author.Tests.{ltb-true, eq-eqb, not-true}
use lib.ListN.{length, take}
use lib.Dec.{eqb}
use Rattle.ground.specs.Members.{every, Each, those}
use Rattle.ground.proofs.Cases.{never}
use Rattle.ground.proofs.Members.{each_map, each_both, every_each, each_those, Pairwise, pairwise, pairwise_by, pairwise_those}
use Rattle.numbers.specs.declared.threshold.Threshold.{Threshold}
use Rattle.settings.specs.Rows.{listed, row_of, row}
use Rattle.settings.specs.Table.{switching_entry, stored_entry, setting_entry, kinds, cells}
use Rattle.settings.specs.Mnemonics.{settings_held, sheet, setting, knows, mnemonics, known, name, same, found, recognised, is_there}
use Rattle.settings.specs.Limits.{fits, cells_fit, within}
use Rattle.settings.specs.declared.model.Model.{Model}
use Rattle.settings.specs.declared.mnemonic.Setting.{Setting}
use Rattle.settings.specs.declared.mnemonic.Mnemonic.{Mnemonic}
use Rattle.settings.specs.declared.table.Kind.{Kind}
use Rattle.settings.specs.declared.Settings.{Settings}
use Rattle.settings.proofs.Every.{tested}
use Rattle.settings.proofs.Tabled.{few, few_kinds, count_kinds}
use Rattle.settings.proofs.Sheets.{held_each, OnSheet, sheet_holds, on_sheet, within_rows, sheet_each}
use Rattle.settings.proofs.Answerable.{first_there}
use Rattle.lines.specs.Splitting.{fields, joined}
use Rattle.lines.specs.Judging.{fields_read, formed, valued, cell_of, judged_fields, with_fields, parted, judged}
use Rattle.lines.specs.Sheets.{sheet_line}
use Rattle.lines.specs.Replies.{texts, setting_text}
use Rattle.lines.proofs.Walking.{judged_parts}
use Rattle.lines.proofs.ReadBack.{Plain, plain_written, sound, reads_back}
use Rattle.lines.specs.declared.verdict.Order.TheVariants.{Writes}
use Rattle.lines.specs.Verdicts.{Field, Verdict}

-- ---- fields of what was joined

pub fields_one : (s : List ℕ) → Plain s → fields s ≡ s ∷ []
unfolding fields
fields_one [] p = refl
fields_one (b ∷ s) p = rw (p.0, fields_one s p.1)

pub fields_more : (s t : List ℕ) → Plain s → fields (s ++ (code "," ∷ t)) ≡ s ∷ fields t
unfolding fields
fields_more [] t p = refl
fields_more (b ∷ s) t p = rw (p.0, fields_more s t p.1)

pub fields_joined : (f : List ℕ) (fs : List (List ℕ)) → Plain f → Each Plain fs → fields (joined (f ∷ fs)) ≡ f ∷ fs
fields_joined f [] p q = fields_one f p
fields_joined f (g ∷ fs) p q = fields_more f (joined (g ∷ fs)) p ∙ ap (λ (l : List (List ℕ)). f ∷ l) (fields_joined g fs q.0 q.1)

pub plain_texts : (ks : List Kind) (cs : List Threshold) → Each Plain (texts ks cs)
plain_texts [] cs = tt
plain_texts (k ∷ ks) [] = tt
plain_texts (k ∷ ks) (c ∷ cs) = (plain_written k c, plain_texts ks cs)

-- ---- fields read back

-- as many cells as kinds, and each fits its own
pub data AllFit : List Kind → List Threshold → Type 0 where
  none : AllFit [] []
  next : {k : Kind} {c : Threshold} {ks : List Kind} {cs : List Threshold} → fits k c ≡ true → AllFit ks cs → AllFit (k ∷ ks) (c ∷ cs)

count_texts : {ks : List Kind} {cs : List Threshold} → AllFit ks cs → length (texts ks cs) ≡ length ks
count_texts none = refl
count_texts (next h f) = ap suc (count_texts f)

readings_texts : {ks : List Kind} {cs : List Threshold} → Each (λ k. sound k ≡ true) ks → AllFit ks cs → fields_read ks (texts ks cs) ≡ map Ok cs
unfolding fields_read
readings_texts s none = refl
readings_texts s (next {k} {c} h f) = ap₂ (λ (r : Field) (rs : List Field). r ∷ rs) (reads_back k c s.0 h) (readings_texts s.1 f)

held_formed : (cs : List Threshold) (v : Verdict) → formed (map Ok cs) v ≡ v
unfolding formed
held_formed [] v = refl
held_formed (c ∷ cs) v = held_formed cs v

held_valued : (cs : List Threshold) (v : Verdict) → valued (map Ok cs) v ≡ v
unfolding valued
held_valued [] v = refl
held_valued (c ∷ cs) v = held_valued cs v

held_cells : (cs : List Threshold) → map cell_of (map Ok cs) ≡ cs
held_cells [] = refl
held_cells (c ∷ cs) = ap (λ (l : List Threshold). c ∷ l) (held_cells cs)

all_held : (m : Mnemonic) (cs : List Threshold) → judged_fields m (map Ok cs) ≡ Ok (Writes m (row_of cs))
all_held m cs =
    held_formed cs (valued (map Ok cs) (Ok (Writes m (row_of (map cell_of (map Ok cs))))))
    ∙ held_valued cs (Ok (Writes m (row_of (map cell_of (map Ok cs)))))
    ∙ ap (λ (l : List Threshold). Ok (Writes m (row_of l))) (held_cells cs)

-- ---- what the tables say of a mnemonic

-- its name is a part of a line, and names it
pub record Spelt (model : Model) (m : Mnemonic) : Type 0 where
  pub plain : Plain (name m)
  pub back : recognised model (name m) ≡ Some m

-- the model has it, it takes fields, and they read back
record Taking (model : Model) (m : Mnemonic) : Type 0 where
  there : is_there model m ≡ true
  some : 0 < length (kinds model m)
  sounds : Each (λ k. sound k ≡ true) (kinds model m)

module _ (model : Model) (m : Mnemonic) (sp : Spelt model m) where
  -- a line of the name and fields is judged by the fields
  pub line_fields : (fs : List (List ℕ)) → is_there model m ≡ true → Each Plain fs → judged model (joined (name m ∷ fs)) ≡ with_fields model m fs
  line_fields fs h p =
      judged_parts model (joined (name m ∷ fs)) ∙ ap (parted model) (fields_joined (name m) fs sp.plain p)
      ∙ rw (sp.back, h)

  with_texts : {ks : List Kind} {cs : List Threshold} → kinds model m ≡ ks → Taking model m → AllFit ks cs
      → judged model (name m ++ (code "," ∷ joined (texts ks cs))) ≡ Ok (Writes m (row_of cs))
  unfolding with_fields
  with_texts e tk none = absurd (omega (arith, tk.some, ap length e))
  with_texts e tk (next {k} {c} {ks} {cs} h f) =
      let fit : AllFit (k ∷ ks) (c ∷ cs) = next h f in
      let s : Each (λ k. sound k ≡ true) (k ∷ ks) = rw e at tk.sounds in
      line_fields (texts (k ∷ ks) (c ∷ cs)) tk.there (plain_texts (k ∷ ks) (c ∷ cs))
      ∙ rw (e, eq-eqb (length (texts (k ∷ ks) (c ∷ cs))) (length (k ∷ ks)) (count_texts fit), readings_texts s fit) (all_held m (c ∷ cs))

-- ---- by computing over the tables

-- two names that differ
abbrev Apart : Mnemonic → Mnemonic → Type 0
Apart m n = not (same (name m) (name n)) ≡ true

-- no two are alike, whatever the model
names_apart : Pairwise Apart mnemonics
unfolding pairwise every same switching_entry stored_entry
names_apart = pairwise_by Apart (λ m n. not (same (name m) (name n))) (λ m n e. e) mnemonics refl

pub same_self : (s : List ℕ) → same s s ≡ true
unfolding same
same_self [] = refl
same_self (b ∷ s) = rw (eq-eqb b b refl) (same_self s)

-- so each is found by its name
found_apart : (ms : List Mnemonic) → Pairwise Apart ms → Each (λ m. found (name m) ms ≡ Some m) ms
unfolding found
found_apart [] d = tt
found_apart (m ∷ ms) d = (
  rw (same_self (name m)),
  each_both (Apart m) (λ n. found (name n) ms ≡ Some n) _ (λ n a e. rw (not-true (same (name m) (name n)) a) e) ms d.0 (found_apart ms d.1),
)

all_found : (model : Model) → Each (λ m. recognised model (name m) ≡ Some m) (known model)
unfolding known recognised
all_found model = found_apart (those (knows model) mnemonics) (pairwise_those Apart (knows model) mnemonics names_apart)

commaless : List ℕ → Bool
commaless s = every (λ b. not (eqb b (code ","))) s

all_commaless : Each (λ m. commaless (name m) ≡ true) mnemonics
unfolding every commaless switching_entry stored_entry
all_commaless = every_each (λ m. commaless (name m)) mnemonics refl

pub all_spelt : (model : Model) → Each (Spelt model) (known model)
unfolding known commaless
all_spelt model =
    each_both (λ m. commaless (name m) ≡ true) (λ m. recognised model (name m) ≡ Some m) (Spelt model)
    (λ m p q. record { plain = each_map _ _ (λ b. not-true (eqb b (code ","))) (name m) (every_each _ (name m) p); back = q }) (those (knows model) mnemonics)
    (each_those _ (knows model) mnemonics all_commaless) (all_found model)

all_sound : (model : Model) → every (λ x. every sound (kinds model (setting x))) settings_held ≡ true
unfolding every switching_entry stored_entry
all_sound = tested (λ model. every (λ x. every sound (kinds model (setting x))) settings_held) refl

-- ---- the settings of the sheet

sheet_takes : (model : Model) (x : Setting) → OnSheet model x → Taking model (setting x)
sheet_takes model x o =
    let ks = kinds model (setting x) in
    record {
      there = first_there model;
      some = rw (count_kinds ((setting_entry x).fields model) (few model (setting x))) (ltb-true 0 ((setting_entry x).fields model).count o.taken);
      sounds = every_each sound ks (held_each (λ y. every sound (kinds model (setting y)) ≡ true) (every_each (λ y. every sound (kinds model (setting y))) settings_held (all_sound model)) x o.holding);
    }

pub accepted : (model : Model) (x : Setting) → OnSheet model x → (cs : List Threshold) → AllFit (kinds model (setting x)) cs
    → judged model (name (setting x) ++ (code "," ∷ joined (texts (kinds model (setting x)) cs))) ≡ Ok (Writes (setting x) (row_of cs))
accepted model x o cs =
    with_texts model (setting x) (on_sheet (λ x. Spelt model (setting x)) model (sheet_each (Spelt model) model (all_spelt model)) o) refl (sheet_takes model x o)

-- ---- the sheet of settings within their limits

-- cells within their limits fit their fields
fit_front : (ks : List Kind) (cs ds : List Threshold) → length ks ≤ length cs → cells_fit ks cs ds ≡ true → AllFit ks (take (length ks) cs)
unfolding cells_fit
fit_front [] cs ds h e = none
fit_front (k ∷ ks) [] ds h e = absurd (omega arith)
fit_front (k ∷ ks) (c ∷ cs) [] h e = never (cc)
fit_front (k ∷ ks) (c ∷ cs) (d ∷ ds) h e = let b = (and-eq-true_iff (fits k c) (cells_fit ks cs ds)).0 e in next b.0 (fit_front ks cs ds (omega arith) b.1)

pub sheet_accepted : (model : Model) (s : Settings) → within model s ≡ true
    → Each (λ x. judged model (sheet_line model s x) ≡ Ok (Writes (setting x) (row_of (cells model s x)))) (sheet model)
unfolding setting_text
sheet_accepted model s w =
    each_map (OnSheet model) (λ x. judged model (sheet_line model s x) ≡ Ok (Writes (setting x) (row_of (cells model s x))))
    (λ x o. accepted model x o (cells model s x)
    (fit_front (kinds model (setting x)) (listed (row s x)) (listed ((setting_entry x).default model)) (few_kinds ((setting_entry x).fields model)) (within_rows model s w x o.holding)))
    (sheet model) (sheet_holds model)
