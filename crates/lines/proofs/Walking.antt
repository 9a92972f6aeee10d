-- The fields of a line one after the other, as the code walks them, are those of the line split at its commas.
use Rattle.std.specs.Prelude.{Option, Some, None, Ok, Err}
use Rattle.std.specs.List.{position, position_or_len, filter, list_any}
use Prim.Native.Nat.{ℕ, zero, suc, ◌+◌, ◌-◌, ◌≤◌, ◌<◌}
use mathlib.Core.Path.{◌≡◌, refl, sym, ap, ◌∙◌, subst}
use mathlib.Core.Logic.{⊎_elim}
use mathlib.Core.List.{List, [], ◌∷◌}
use mathlib.Core.Bool.{Bool, true, false, not, cond, ◌||◌}
use native.Mathlib.Omega.{arith}
use native.Mathlib.Numerals.{add-one}
use borrow.Author.Tests.{eq-eqb, ne_eqb, ltb-true, ltb-false}
use lib.ListN.{length, take, drop}
use lib.Seq.{take_all}
use lib.Dec.{eqb, ltb}
use Rattle.ground.proofs.Cases.{never, below, cond_cases}
use Rattle.text.specs.Spans.{until}
use Rattle.text.proofs.Marks.{until_few}
use Rattle.settings.specs.Table.{kinds_of, kind_at, entry, on, kinds}
use Rattle.settings.specs.Mnemonics.{recognised, is_there}
use Rattle.settings.specs.declared.model.Model.{Model}
use Rattle.settings.specs.declared.mnemonic.Mnemonic.{Mnemonic}
use Rattle.settings.specs.declared.table.Fields.{Fields}
use Rattle.settings.specs.declared.table.Entry.{Entry}
use Rattle.settings.proofs.Names.{not_three}
use Rattle.settings.proofs.Tabled.{few, count_kinds}
use Rattle.lines.specs.Splitting.{fields, on_first, word, behind}
use Rattle.lines.specs.Judging.{fields_read, form_or, formed, valued, judged_fields, alone, with_fields, named, parted, judged}
use Rattle.lines.specs.Walk.{others, head_field, beyond}
use Rattle.lines.specs.declared.verdict.Fault.TheVariants.{Syntax, Parameter, Hardware}
use Rattle.lines.specs.Verdicts.{Field, Verdict}

-- ---- a first field, and the others

first_count : (b : ℕ) (fs : List (List ℕ)) → 1 ≤ length fs → length (on_first b fs) ≡ length fs
first_count b [] h = absurd (omega arith)
first_count b (f ∷ fs) h = refl

pub some_fields : (t : List ℕ) → 1 ≤ length (fields t)
unfolding fields
some_fields [] = omega arith
some_fields (b ∷ s) =
    cond_cases (λ fs. 1 ≤ length fs) (eqb b 44) ([] ∷ fields s) (on_first b (fields s)) (λ _. omega arith)
    (λ _. rw (first_count b (fields s) (some_fields s)) (some_fields s))

-- without a comma there is one field; with one, the word before it and the fields behind it
split_by : (t : Bool) (b : ℕ) (s w : List ℕ) (fs : List (List ℕ)) → (length w ≡ length s → fs ≡ w ∷ []) → (length w < length s → fs ≡ w ∷ fields (drop (suc (length w)) s))
    → (length (cond t [] (b ∷ w)) ≡ suc (length s) → cond t ([] ∷ fields s) (on_first b fs) ≡ cond t [] (b ∷ w) ∷ [])
    × (length (cond t [] (b ∷ w)) < suc (length s) → cond t ([] ∷ fields s) (on_first b fs) ≡ cond t [] (b ∷ w) ∷ fields (drop (length (cond t [] (b ∷ w))) s))
split_by true b s w fs p q = ((λ e. absurd (omega arith)), (λ h. refl))
split_by false b s w fs p q = ((λ e. ap (on_first b) (p (omega arith))), (λ h. ap (on_first b) (q (omega arith))))

split : (s : List ℕ) → (length (word s) ≡ length s → fields s ≡ word s ∷ []) × (length (word s) < length s → fields s ≡ word s ∷ fields (behind s))
unfolding until fields
split [] = ((λ e. refl), (λ h. absurd (omega arith)))
split (b ∷ s) = split_by (eqb b 44) b s (word s) (fields s) (split s).0 (split s).1

-- the word is the beginning of the line
pub word_is : (s : List ℕ) → word s ≡ take (length (word s)) s
unfolding until
word_is [] = refl
word_is (b ∷ s) = cond_cases (λ w. w ≡ take (length w) (b ∷ s)) (eqb b 44) [] (b ∷ word s) (λ _. refl) (λ _. ap (λ (l : List ℕ). b ∷ l) (word_is s))

word_short : (s : List ℕ) → length (word s) ≤ length s
word_short s = until_few 44 s

-- so the fields are one of the two
either_fields : (P : List (List ℕ) → Type 0) (s : List ℕ) → P (word s ∷ []) → P (word s ∷ fields (behind s)) → P (fields s)
either_fields P s one more =
    ⊎_elim (λ (h : length (word s) < length s). subst P (sym ((split s).1 h)) more)
    (λ (h : length s ≤ length (word s)). subst P (sym ((split s).0 (omega (arith, word_short s)))) one)
    (below (length (word s)) (length s))

-- more than one field: there is a comma; one only: there is none; either way the word is the first
next_of : (s : List ℕ) → 2 ≤ length (fields s) → fields s ≡ word s ∷ fields (behind s)
next_of s = either_fields (λ fs. 2 ≤ length fs → fs ≡ word s ∷ fields (behind s)) s (λ h. absurd (omega arith)) (λ h. refl)

last_of : (s : List ℕ) → length (fields s) ≡ 1 → fields s ≡ word s ∷ []
last_of s = either_fields (λ fs. length fs ≡ 1 → fs ≡ word s ∷ []) s (λ h. refl) (λ h. absurd (omega (arith, some_fields (behind s))))

-- the fields behind the first comma, if there is one
abbrev pub fields_of : Option (List ℕ) → List (List ℕ)
fields_of (Some t) = fields t
fields_of None = []

first_field : (s : List ℕ) → fields s ≡ word s ∷ fields_of (others s)
first_field s =
    cond_cases (λ o. fields s ≡ word s ∷ fields_of o) (ltb (length (word s)) (length s)) (Some (behind s)) None
    (λ h. (split s).1 (ltb-true (length (word s)) (length s) h)) (λ h. (split s).0 (omega (arith, word_short s, ltb-false (length (word s)) (length s) h)))

-- ---- the commas

abbrev pub is_comma : ℕ → Bool
is_comma b = eqb b 44

first_comma : (s : List ℕ) → position_or_len is_comma s ≡ length (word s)
unfolding until
first_comma [] = refl
first_comma (b ∷ s) = by (eqb b 44) (first_comma s)
  where
    by : (t : Bool) → position_or_len is_comma s ≡ length (word s) → cond (not t) (1 + position_or_len is_comma s) 0 ≡ length (cond t [] (b ∷ word s))
    by true e = refl
    by false e = omega (arith, e)

-- a comma stands at the place i, or none at all
pub comma_at : (s : List ℕ) (i : ℕ) → position is_comma s ≡ Some i → (take i s ≡ word s) × (Some (drop (i + 1) s) ≡ others s)
comma_at s i e = by (ltb (length (word s)) (length s)) refl (rw (first_comma s) at e)
  where
    by : (t : Bool) → ltb (length (word s)) (length s) ≡ t → cond t (Some (length (word s))) None ≡ Some i
        → (take i s ≡ word s) × (Some (drop (i + 1) s) ≡ others s)
    by true h p =
        let q : length (word s) ≡ i = cc in
        (sym (rw q at (word_is s)), rw (add-one i, h, q))
    by false h p = never (cc)

pub comma_none : (s : List ℕ) → position is_comma s ≡ None → (s ≡ word s) × (None ≡ others s)
comma_none s e = by (ltb (length (word s)) (length s)) refl (rw (first_comma s) at e)
  where
    by : (t : Bool) → ltb (length (word s)) (length s) ≡ t → cond t (Some (length (word s))) None ≡ None → (s ≡ word s) × (None ≡ others s)
    by true h p = never (cc)
    by false h p =
        let l : length s ≤ length (word s) = ltb-false (length (word s)) (length s) h in
        (sym (word_is s ∙ take_all (length (word s)) s l), rw h)

pub more_commas : (s : List ℕ) → length (filter is_comma s) + 1 ≡ length (fields s)
unfolding fields
more_commas [] = refl
more_commas (b ∷ s) = by (eqb b 44) (more_commas s)
  where
    by : (t : Bool) → length (filter is_comma s) + 1 ≡ length (fields s)
        → length (cond t (b ∷ filter is_comma s) (filter is_comma s)) + 1 ≡ length (cond t ([] ∷ fields s) (on_first b (fields s)))
    by true e = omega (arith, e)
    by false e = e ∙ sym (first_count b (fields s) (some_fields s))

-- ---- up to three fields, one after the other

-- the fields that are read from what is left of a line, with nothing where there is no kind
abbrev pub walked : Fields → List ℕ → List Field
walked f s =
    let t = beyond (kind_at f 0) s in
    head_field (kind_at f 0) s ∷ head_field (kind_at f 1) t ∷ head_field (kind_at f 2) (beyond (kind_at f 1) t) ∷ []

-- reading them so is reading the list of fields
walked_is : (m : Mnemonic) (f : Fields) (s : List ℕ) → length (fields s) ≡ f.count → f.count ≤ 3
    → judged_fields m (walked f s) ≡ judged_fields m (fields_read (kinds_of f) (fields s))
unfolding fields_read formed valued kind_at
walked_is m f s = by f.count
  where
    by : (n : ℕ) → length (fields s) ≡ n → n ≤ 3
        → judged_fields m (walked (record { count = n; first = f.first; others = f.others }) s)
        ≡ judged_fields m (fields_read (kinds_of (record { count = n; first = f.first; others = f.others })) (fields s))
    by zero e h = absurd (omega (arith, some_fields s))
    by (suc zero) e h = rw (last_of s e)
    by (suc (suc zero)) e h =
        let a = next_of s (omega arith) in
        let b = last_of (behind s) (omega (arith, ap length a)) in
        rw (a, b)
    by (suc (suc (suc zero))) e h =
        let a = next_of s (omega arith) in
        let b = next_of (behind s) (omega (arith, ap length a)) in
        let c = last_of (behind (behind s)) (omega (arith, ap length a, ap length b)) in
        rw (a, b, c)
    by (suc (suc (suc (suc n)))) e h = absurd (omega arith)

-- ---- the form of all fields, then the value of each

abbrev pub malformed : Field → Bool
malformed (Ok c) = false
malformed (Err Syntax) = true
malformed (Err Parameter) = false
malformed (Err Hardware) = false

form_first : (f : Field) (b : Bool) (v : Verdict) → form_or f (cond b (Err Syntax) v) ≡ cond (malformed f || b) (Err Syntax) v
form_first (Ok c) b v = refl
form_first (Err Syntax) b v = refl
form_first (Err Parameter) b v = refl
form_first (Err Hardware) b v = refl

pub all_formed : (rs : List Field) (v : Verdict) → formed rs v ≡ cond (list_any malformed rs) (Err Syntax) v
unfolding formed
all_formed [] v = refl
all_formed (r ∷ rs) v = ap (form_or r) (all_formed rs v) ∙ form_first r (list_any malformed rs) v

-- ---- the number of fields

judged_by : (model : Model) (m : Mnemonic) (fs : List (List ℕ)) → 1 ≤ length fs → length fs ≡ length (kinds model m)
    → judged_fields m (fields_read (kinds model m) fs) ≡ with_fields model m fs
unfolding with_fields
judged_by model m [] h e = absurd (omega arith)
judged_by model m (f ∷ fs) h e = rw (eq-eqb (length (f ∷ fs)) (length (kinds model m)) e)

wrong_by : (model : Model) (m : Mnemonic) (fs : List (List ℕ)) → 1 ≤ length fs → (length fs ≡ length (kinds model m) → ⊥) → Err Syntax ≡ with_fields model m fs
unfolding with_fields
wrong_by model m [] h e = absurd (omega arith)
wrong_by model m (f ∷ fs) h e = rw (ne_eqb (length (f ∷ fs)) (length (kinds model m)) e)

-- the fields of a line, by the row of its mnemonic
module _ (model : Model) (m : Mnemonic) (e : Entry) (q : e ≡ on model (entry m)) (s : List ℕ) where
  counted : length (kinds model m) ≡ e.fields.count
  counted = count_kinds ((entry m).fields model) (few model m) ∙ sym (ap (λ (r : Entry). r.fields.count) q)

  pub fields_judged : length (fields s) ≡ e.fields.count → judged_fields m (walked e.fields s) ≡ with_fields model m (fields s)
  fields_judged n =
      ap (λ (r : Entry). judged_fields m (walked r.fields s)) q
      ∙ walked_is m ((entry m).fields model) s (n ∙ ap (λ (r : Entry). r.fields.count) q) (few model m)
      ∙ judged_by model m (fields s) (some_fields s) (n ∙ sym counted)

  pub fields_wrong : (length (fields s) ≡ e.fields.count → ⊥) → Err Syntax ≡ with_fields model m (fields s)
  fields_wrong n = wrong_by model m (fields s) (some_fields s) (λ c. n (c ∙ counted))

-- ---- a whole line

module _ (model : Model) where
  -- the empty line names nothing, so it too is judged by its parts, and the first test needs no code of its own
  pub judged_parts : (line : List ℕ) → judged model line ≡ parted model (fields line)
  unfolding judged fields
  judged_parts [] = rw (not_three model [] (λ e. omega arith))
  judged_parts (b ∷ line) = refl

  -- the word before the first comma names the mnemonic
  module _ (s : List ℕ) {w : List ℕ} (p : w ≡ word s) where
    named_by : (c : Option Mnemonic) → c ≡ recognised model w → named model c (fields_of (others s)) ≡ judged model s
    named_by c q = sym (judged_parts s ∙ ap (parted model) (first_field s) ∙ rw (q, p))

    pub line_unknown : None ≡ recognised model w → Err Syntax ≡ judged model s
    line_unknown q = named_by None q

    module _ (m : Mnemonic) (q : Some m ≡ recognised model w) where
      pub line_lacking : is_there model m ≡ false → Err Hardware ≡ judged model s
      line_lacking h = rw h at (named_by (Some m) q)

      pub line_more : is_there model m ≡ true → (t : List ℕ) → Some t ≡ others s → with_fields model m (fields t) ≡ judged model s
      line_more h t o = rw (h, ← o) at (named_by (Some m) q)

      pub line_alone : is_there model m ≡ true → None ≡ others s → alone model m ≡ judged model s
      unfolding with_fields
      line_alone h o = rw (h, ← o) at (named_by (Some m) q)

pub ruleset of_lines = (line_unknown, line_lacking, line_more, line_alone)
