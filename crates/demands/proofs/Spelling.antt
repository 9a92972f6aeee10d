-- The lines of a sheet can be typed: names and written numbers are characters, and few enough.
use Rattle.std.specs.Prelude.{Err}
use Prim.Native.Nat.{ℕ, ◌≤◌}
use Prim.Native.Char.{code}
use mathlib.Core.Path.{◌≡◌, refl, ap, ◌∙◌}
use mathlib.Core.List.{List, [], ◌∷◌}
use mathlib.Core.Bool.{Bool, true, cond, ◌&&◌, and-eq-true_iff}
use native.Mathlib.Omega.{arith}
use borrow.Author.Tests.{leb-true, le-leb, ne_eqb}
use lib.ListN.{length, length-append}
use lib.Dec.{leb}
use Rattle.ground.specs.Members.{every, Each}
use Rattle.ground.proofs.Cases.{in_range_lem}
use Rattle.ground.proofs.Members.{each_map, each_append, every_each}
use Rattle.text.specs.Control.{is_character, lf, space}
use Rattle.numbers.specs.declared.threshold.Threshold.{Threshold}
use Rattle.settings.specs.Table.{switching_entry, stored_entry, kinds, cells}
use Rattle.settings.specs.Mnemonics.{sheet, setting, known, name, is_there}
use Rattle.settings.specs.declared.model.Model.{Model}
use Rattle.settings.specs.declared.mnemonic.Setting.{Setting}
use Rattle.settings.specs.declared.mnemonic.Mnemonic.{Mnemonic}
use Rattle.settings.specs.declared.table.Kind.{Kind}
use Rattle.settings.specs.declared.Settings.{Settings}
use Rattle.settings.proofs.Every.{tested}
use Rattle.lines.specs.Splitting.{joined}
use Rattle.lines.specs.Judging.{alone, with_fields, parted, judged}
use Rattle.lines.specs.Replies.{texts, setting_text}
use Rattle.lines.specs.Sheets.{sheet_line}
use Rattle.lines.specs.declared.verdict.Fault.TheVariants.{Hardware}
use Rattle.lines.proofs.ReadBack.{Written, each_written}
use Rattle.lines.proofs.Walking.{judged_parts}
use Rattle.lines.proofs.Accepted.{Spelt, fields_one}
use Rattle.instrument.proofs.Lengths.{setting_short}
use Rattle.demands.specs.Wire.{Inner, undropped, line_in}
use Rattle.demands.proofs.Typing.{short_good}

-- ---- lines that are what is sent of them

abbrev pub Character : ℕ → Type 0
Character b = is_character b ≡ true

-- up to 80 of them
pub record Typeable (l : List ℕ) : Type 0 where
  pub characters : Each Character l
  pub few : length l ≤ 80

inner : (b : ℕ) → Character b → Inner b
inner b c =
    let r = in_range_lem 33 126 b c in
    ((λ e. omega (arith, r.0)), (λ e. omega (arith, r.0)), (λ e. omega (arith, r.0)))

pub typeable_inner : (l : List ℕ) → Typeable l → Each Inner l
typeable_inner l t = each_map Character Inner inner l t.characters

all_kept : (l : List ℕ) → Each Character l → undropped l ≡ l
unfolding undropped
all_kept [] c = refl
all_kept (b ∷ l) c =
    let r = in_range_lem 33 126 b c.0 in
    rw (ne_eqb b lf (λ e. omega (arith, r.0)), ne_eqb b space (λ e. omega (arith, r.0))) (ap (λ (t : List ℕ). b ∷ t) (all_kept l c.1))

pub typeable_line : (l : List ℕ) → Typeable l → line_in l ≡ l
typeable_line l t = rw (all_kept l t.characters, short_good l t.characters t.few)

-- ---- names

-- three characters
short : List ℕ → Bool
short n = every is_character n && leb (length n) 3

pub record Short (n : List ℕ) : Type 0 where
  pub characters : Each Character n
  pub few : length n ≤ 3

short_names : (model : Model) → every (λ (m : Mnemonic). short (name m)) (known model) ≡ true
unfolding known sheet every short switching_entry stored_entry
short_names = tested (λ model. every (λ (m : Mnemonic). short (name m)) (known model)) refl

pub names_short : (model : Model) → Each (λ (m : Mnemonic). Short (name m)) (known model)
unfolding short
names_short model =
    each_map (λ (m : Mnemonic). short (name m) ≡ true) (λ (m : Mnemonic). Short (name m))
    (λ m e. let b = (and-eq-true_iff (every is_character (name m)) (leb (length (name m)) 3)).0 e in
    record {
      characters = every_each is_character (name m) b.0;
      few = leb-true (length (name m)) 3 b.1;
    })
    (known model) (every_each (λ (m : Mnemonic). short (name m)) (known model) (short_names model))

pub name_typeable : (m : Mnemonic) → Short (name m) → Typeable (name m)
name_typeable m h = record { characters = h.characters; few = omega (arith, h.few) }

-- ---- what is written

each_joined : (P : ℕ → Type 0) → P (code ",") → (fs : List (List ℕ)) → Each (Each P) fs → Each P (joined fs)
each_joined P c [] p = tt
each_joined P c (f ∷ []) p = p.0
each_joined P c (f ∷ g ∷ fs) p = each_append P f (44 ∷ joined (g ∷ fs)) p.0 (c, each_joined P c (g ∷ fs) p.1)

written_characters : Written Character
written_characters = record {
  digit = (λ b l h. rw (le-leb 33 b (omega arith), le-leb b 126 (omega arith)));
  point = refl;
  letter = refl;
  plus = refl;
  minus = refl;
}

texts_characters : (ks : List Kind) (cs : List Threshold) → Each (Each Character) (texts ks cs)
texts_characters [] cs = tt
texts_characters (k ∷ ks) [] = tt
texts_characters (k ∷ ks) (c ∷ cs) = (each_written written_characters k c, texts_characters ks cs)

pub setting_characters : (model : Model) (s : Settings) (x : Setting) → Each Character (setting_text model s x)
unfolding setting_text
setting_characters model s x =
    let ks = kinds model (setting x) in
    let cs = cells model s x in
    each_joined Character refl (texts ks cs) (texts_characters ks cs)

-- a mnemonic, a comma and its reply
pub line_typeable : (model : Model) (s : Settings) (x : Setting) → Short (name (setting x)) → Typeable (sheet_line model s x)
line_typeable model s x h =
    record {
      characters = each_append Character (name (setting x)) (44 ∷ setting_text model s x) h.characters (refl, setting_characters model s x);
      few = omega (arith, length-append (name (setting x)) (44 ∷ setting_text model s x), h.few, setting_short model s x);
    }

-- ---- a name alone

-- "With no comma the line asks for the setting"; "PR2 or CF2 on a 361, 0100"
pub name_judged : (model : Model) (m : Mnemonic) → Spelt model m → judged model (name m) ≡ cond (is_there model m) (alone model m) (Err Hardware)
unfolding with_fields
name_judged model m sp = judged_parts model (name m) ∙ ap (parted model) (fields_one (name m) sp.plain) ∙ rw sp.back
