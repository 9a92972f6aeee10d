-- Law (a): each kind reads what it writes; the bytes that are written, and that none is a comma.
use Rattle.std.specs.Prelude.{Option, Some, Ok}
use Prim.Native.Nat.{ℕ, zero, suc, ◌+◌, ◌/◌, ◌%◌, ◌^◌, ◌≤◌, ◌<◌}
use Prim.Native.Char.{code}
use mathlib.Core.Path.{◌≡◌, refl, sym, ap, ◌∙◌}
use mathlib.Core.List.{List, [], ◌∷◌, ◌++◌}
use mathlib.Core.Bool.{Bool, true, false, ◌&&◌, and-eq-true_iff}
use native.Mathlib.Omega.{arith}
use borrow.Author.Tests.{ltb-true, ne_eqb}
use lib.ListN.{length}
use lib.Dec.{eqb, leb, ltb}
use lib.IntN.{ℤ, pos, negsuc, nat_abs}
use Rattle.ground.specs.Members.{Each}
use Rattle.ground.proofs.Cases.{in_range_lem, cond_cases}
use Rattle.ground.proofs.Members.{each_append}
use Rattle.text.specs.Digits.{dig, bare, whole_text, factor_text}
use Rattle.numbers.specs.declared.threshold.Threshold.{Threshold}
use Rattle.numerals.specs.Whole.{whole_of, factor_of}
use Rattle.numerals.specs.Writing.{sign_byte, scientific}
use Rattle.numerals.proofs.RoundTrip.{whole_round, factor_round, threshold_round}
use Rattle.settings.specs.Limits.{same_number, inside, fits}
use Rattle.settings.specs.declared.table.Limits.{Limits}
use Rattle.settings.specs.declared.table.Kind.{Kind}
use Rattle.settings.specs.declared.table.Kind.TheVariants.{OfWhole, OfFactor, OfThreshold}
use Rattle.settings.proofs.Places.{number_plain}
use Rattle.lines.specs.Fields.{limited, ranged, threshold_field, read, write}

-- ---- the bytes that are written

-- what holds of all bytes that a number is written with
pub record Written (P : ℕ → Type 0) : Type 0 where
  pub digit : (b : ℕ) → 48 ≤ b → b ≤ 57 → P b
  pub point : P (code ".")
  pub letter : P (code "E")
  pub plus : P (code "+")
  pub minus : P (code "-")

module _ {P : ℕ → Type 0} (w : Written P) where
  each_dig : (k n : ℕ) → Each P (dig k n)
  each_dig zero n = tt
  each_dig (suc k) n = (w.digit (48 + n / 10 ^ k % 10) (omega arith) (omega arith), each_dig k n)

  each_bare : (ds : List ℕ) → Each P ds → Each P (bare ds)
  unfolding bare
  each_bare [] p = tt
  each_bare (d ∷ ds) p = cond_cases (Each P) (eqb d (code "0") && leb 1 (length ds)) (bare ds) (d ∷ ds) (λ _. each_bare ds p.1) (λ _. p)

  each_whole : (n : ℕ) → Each P (whole_text n)
  each_whole n = each_bare (dig 10 n) (each_dig 10 n)

  each_sign : (e : ℤ) → P (sign_byte e)
  each_sign (pos n) = w.plus
  each_sign (negsuc n) = w.minus

  each_threshold : (m : ℕ) (e : ℤ) → Each P (scientific m e)
  unfolding scientific
  each_threshold m e =
      let end : List ℕ = code "E" ∷ sign_byte e ∷ dig 2 (nat_abs e) in
      each_append P (dig 1 (m / 10000)) (code "." ∷ (dig 4 m ++ end)) (each_dig 1 (m / 10000))
      (w.point, each_append P (dig 4 m) end (each_dig 4 m) (w.letter, (each_sign e, each_dig 2 (nat_abs e))))

  pub each_written : (k : Kind) (c : Threshold) → Each P (write k c)
  each_written (OfWhole l) c = each_whole c.mantissa
  each_written (OfFactor l) c =
      each_append P (whole_text (c.mantissa / 1000)) (code "." ∷ dig 3 c.mantissa) (each_whole (c.mantissa / 1000)) (w.point, each_dig 3 c.mantissa)
  each_written OfThreshold c = each_threshold c.mantissa c.exponent

-- no byte is a comma
abbrev pub Plain : List ℕ → Type 0
Plain = Each (λ b. eqb b (code ",") ≡ false)

pub plain_written : (k : Kind) (c : Threshold) → Plain (write k c)
plain_written = each_written (record { digit = (λ b l h. ne_eqb b 44 (λ e. omega arith)); point = refl; letter = refl; plus = refl; minus = refl })

-- ---- read back

-- the highest number of a kind has no more digits than its numeral
abbrev pub sound : Kind → Bool
sound (OfWhole l) = ltb l.most 1000
sound (OfFactor l) = ltb l.most 100000
sound OfThreshold = true

-- a number within limits is held as the cell that it came from
number_held : (l : Limits) (c : Threshold) → inside l c ≡ true → limited l c.mantissa ≡ Ok c
unfolding limited
number_held l c f = rw ((and-eq-true_iff (same_number c.exponent (pos 0)) _).0 f).1 (ap Ok (sym (number_plain (OfWhole l) c refl f)))

-- where every number up to the bound is read back
numeral_back : (numeral : List ℕ → Option ℕ) (text : ℕ → List ℕ) (bound : ℕ) → ((n : ℕ) → n < bound → numeral (text n) ≡ Some n)
    → (l : Limits) (c : Threshold) → ltb l.most bound ≡ true → inside l c ≡ true → ranged l (numeral (text c.mantissa)) ≡ Ok c
numeral_back numeral text bound back l c s f =
    let h = in_range_lem l.least l.most c.mantissa ((and-eq-true_iff (same_number c.exponent (pos 0)) _).0 f).1 in
    ap (ranged l) (back c.mantissa (omega (arith, ltb-true l.most bound s))) ∙ number_held l c f

pub reads_back : (k : Kind) (c : Threshold) → sound k ≡ true → fits k c ≡ true → read k (write k c) ≡ Ok c
reads_back (OfWhole l) c s f = numeral_back whole_of whole_text 1000 whole_round l c s f
reads_back (OfFactor l) c s f = numeral_back factor_of factor_text 100000 factor_round l c s f
reads_back OfThreshold c s f = ap threshold_field (threshold_round c f)
