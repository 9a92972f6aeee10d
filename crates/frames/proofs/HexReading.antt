-- A line read two digits at a time.
use Prim.Native.Nat.{ℕ, zero, suc, ◌+◌, ◌*◌, ◌≤◌, ◌<◌}
use mathlib.Core.Path.{◌≡◌, refl, sym, ap, ◌∙◌}
use mathlib.Core.List.{List, [], ◌∷◌, ◌++◌, append-nil}
use mathlib.Core.Bool.{Bool, true, false, cond, and-false}
use native.Mathlib.Omega.{arith}
use native.Mathlib.Numerals.{add-one}
use borrow.Author.Tests.{le-leb, lt-leb}
use lib.ListN.{length, get_or, set, take, drop, length-set, drop_of_length-le}
use lib.Seq.{take-suc-set, drop-cons, append_snoc}
use lib.Dec.{leb}
use Rattle.std.specs.Prelude.{Some, None, is_some}
use Rattle.std.specs.Simd.{first_chunks}
use Rattle.text.specs.Hex.{value_of, is_hex, unhex}
use Rattle.frames.specs.Frames.{bytes_of, longest_frame}
use Rattle.frames.specs.Walk.{read_bytes}

-- after i pairs of a line of so many
pub record Read (line bytes : List ℕ) (count i : ℕ) : Type 0 where
  pub whole : length line ≡ 2 * count
  pub short : count ≤ longest_frame
  pub low : i ≤ count
  pub places : length bytes ≡ longest_frame
  pub digits : is_hex line ≡ is_hex (drop (2 * i) line)
  pub held : unhex line ≡ take i bytes ++ unhex (drop (2 * i) line)

either : (t : Bool) → ◌≡◌ {A = List ℕ} (cond t [] []) []
either true = refl
either false = refl

pub not_read : (line : List ℕ) → is_hex line ≡ false → read_bytes line ≡ []
unfolding bytes_of
not_read line none = rw none (either (leb (length line) (2 * longest_frame)))

pub too_long : (line : List ℕ) → 2 * longest_frame < length line → read_bytes line ≡ []
too_long line long = rw (lt-leb (length line) (2 * longest_frame) long)

-- a pair has the line's characters at its place
pair_at : (line : List ℕ) (k i : ℕ) → i < k → 2 * k ≤ length line
    → (get_or (get_or (first_chunks 2 k line) i []) 0 0 ≡ get_or line (2 * i) 0) × (get_or (get_or (first_chunks 2 k line) i []) 1 0 ≡ get_or line (2 * i + 1) 0)
pair_at line zero i h low = absurd (omega arith)
pair_at [] (suc k) i h low = absurd (omega arith)
pair_at (a ∷ []) (suc k) i h low = absurd (omega arith)
pair_at (a ∷ b ∷ l) (suc k) zero h low = (refl, refl)
pair_at (a ∷ b ∷ l) (suc k) (suc i) h low =
    let first : 2 * suc i ≡ suc (suc (2 * i)) = omega arith in
    let second : 2 * suc i + 1 ≡ suc (suc (2 * i + 1)) = omega arith in
    rw (second, first) (pair_at l k i (omega arith) (omega arith))

module _ {line bytes : List ℕ} {count i : ℕ} (r : Read line bytes count i) where
  -- the pairs that the line is cut into
  module _ (more : i < count) (pairs : List (List ℕ)) (cut : pairs ≡ first_chunks 2 count line) where
    abbrev high : ℕ
    high = get_or (get_or pairs i []) 0 0

    abbrev low : ℕ
    low = get_or (get_or pairs i []) 1 0

    next : drop (2 * i) line ≡ high ∷ low ∷ drop (2 * (i + 1)) line
    next =
        let one : suc (2 * i) ≡ 2 * i + 1 = omega arith in
        let two : suc (2 * i + 1) ≡ 2 * (i + 1) = omega arith in
        let pair = pair_at line count i more (omega (arith, r.whole)) in
        rw (cut, pair.0, pair.1)
        (drop-cons line (2 * i) 0 (omega (arith, r.whole)) ∙ ap (λ (x : List ℕ). get_or line (2 * i) 0 ∷ x) (rw one (rw (← two) (drop-cons line (2 * i + 1) 0 (omega (arith, r.whole))))))

    pub step : (a b : ℕ) → value_of high ≡ Some a → value_of low ≡ Some b → Read line (set bytes i (16 * a + b)) count (i + 1)
    unfolding is_hex unhex
    step a b p q = record {
      whole = r.whole;
      short = r.short;
      low = omega arith;
      places = simp length-set r.places;
      digits = r.digits ∙ rw (next, p, q);
      held = r.held ∙ rw (next, p, q, add-one i, take-suc-set bytes i (16 * a + b) (omega (arith, r.places, r.short))) (sym (append_snoc (take i bytes) (16 * a + b) (unhex (drop (2 * suc i) line))));
    }

    pub spoilt_high : value_of high ≡ None → read_bytes line ≡ []
    unfolding is_hex
    spoilt_high e = not_read line (r.digits ∙ rw (next, e))

    pub spoilt_low : value_of low ≡ None → read_bytes line ≡ []
    unfolding is_hex
    spoilt_low e = not_read line (r.digits ∙ rw (next, e, and-false (is_some (value_of high))))

  pub ended : count ≤ i → take i bytes ≡ read_bytes line
  unfolding is_hex unhex bytes_of
  ended e =
      let none : drop (2 * i) line ≡ [] = drop_of_length-le line {i = 2 * i} (omega (arith, r.whole)) in
      let all : is_hex line ≡ true = r.digits ∙ rw none in
      rw (le-leb (length line) (2 * longest_frame) (omega (arith, r.whole, r.short)), all) (sym (r.held ∙ rw none (append-nil (take i bytes))))
