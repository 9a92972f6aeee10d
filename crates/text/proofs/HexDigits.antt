-- Hexadecimal read back: each byte has its own two digits, and they stand for no other.
use Prim.Native.Nat.{ℕ, zero, suc, ◌+◌, ◌*◌, ◌/◌, ◌%◌, ◌≤◌, ◌<◌}
use mathlib.Core.Path.{◌≡◌, refl}
use mathlib.Core.List.{List, [], ◌∷◌}
use mathlib.Core.Bool.{true, false, cond, ◌&&◌, and-false, and-eq-true_iff}
use native.Mathlib.Omega.{arith}
use borrow.Author.Tests.{eqb-true}
use lib.ListN.{length, get_or}
use lib.Dec.{eqb}
use Rattle.std.specs.Prelude.{Option, Some, is_some, unwrap_or}
use Rattle.ground.specs.Ranges.{in_range}
use Rattle.ground.proofs.Tables.{alike, everywhere}
use Rattle.ground.proofs.Cases.{never, cond_cases, in_range_lem}
use Rattle.text.specs.Hex.{digit_of, hex, value_of, is_hex_digit, is_hex, byte_of, unhex}

-- both ways for a digit, each by one computed test
pub value_back : (n : ℕ) → n < 16 → value_of (digit_of n) ≡ Some n
unfolding digit_of value_of
value_back = alike (λ (k : ℕ). value_of (digit_of k)) Some 16 refl

pub digit_back : (c : ℕ) → c < 256 → is_hex_digit c ≡ true → digit_of (unwrap_or (value_of c) 16) ≡ c
unfolding digit_of value_of
digit_back c h e =
    let test : cond (is_hex_digit c) (eqb (digit_of (unwrap_or (value_of c) 16)) c) true ≡ true = everywhere (λ (k : ℕ). cond (is_hex_digit k) (eqb (digit_of (unwrap_or (value_of k) 16)) k) true) 256 refl c h in
    eqb-true (digit_of (unwrap_or (value_of c) 16)) c (rw e at test)

pub value_digit : (n : ℕ) → n < 16 → is_hex_digit (digit_of n) ≡ true
value_digit n h = rw (value_back n h)

-- a digit has a value below 16
value_small : (c : ℕ) → is_hex_digit c ≡ true → unwrap_or (value_of c) 16 < 16
unfolding value_of
value_small c =
    cond_cases (λ (v : Option ℕ). is_some v ≡ true → unwrap_or v 16 < 16) (in_range 48 57 c) _ _ (λ e _. omega (arith, (in_range_lem 48 57 c e).1))
    (λ _. cond_cases (λ (v : Option ℕ). is_some v ≡ true → unwrap_or v 16 < 16) (in_range 65 70 c) _ _ (λ e _. omega (arith, (in_range_lem 65 70 c e).1)) (λ _ d. never (cc)))

pub value_below : (c v : ℕ) → value_of c ≡ Some v → v < 16
value_below c v e =
    let digit : is_hex_digit c ≡ true = rw e in
    rw e at (value_small c digit)

-- a byte that two digits stand for is one
pub unhex_small : (l : List ℕ) → is_hex l ≡ true → (i : ℕ) → get_or (unhex l) i 0 ≤ 255
unfolding is_hex unhex
unhex_small [] e zero = omega arith
unhex_small [] e (suc i) = omega arith
unhex_small (a ∷ []) e i = never (cc)
unhex_small (a ∷ b ∷ l) e zero =
    let both = (and-eq-true_iff (is_hex_digit a && is_hex_digit b) (is_hex l)).0 e in
    let each = (and-eq-true_iff (is_hex_digit a) (is_hex_digit b)).0 both.0 in
    omega (arith, value_small a each.0, value_small b each.1)
unhex_small (a ∷ b ∷ l) e (suc i) = unhex_small l ((and-eq-true_iff (is_hex_digit a && is_hex_digit b) (is_hex l)).0 e).1 i

-- bytes written are read back as they were
pub bytes_back : (bs : List ℕ) → ((i : ℕ) → get_or bs i 0 < 256) → (is_hex (hex bs) ≡ true) × (unhex (hex bs) ≡ bs)
unfolding hex is_hex unhex
bytes_back [] small = (refl, refl)
bytes_back (b ∷ bs) small =
    let high : b / 16 < 16 = omega (arith, small 0) in
    let low : b % 16 < 16 = omega arith in
    let rest = bytes_back bs (λ (i : ℕ). small (suc i)) in
    let whole : 16 * (b / 16) + b % 16 ≡ b = omega arith in
    (rw (value_digit (b / 16) high, value_digit (b % 16) low) rest.0, rw (value_back (b / 16) high, value_back (b % 16) low, whole, rest.1))

-- and a line that is read stands for bytes that are written as this line
pub line_back : (l : List ℕ) → ((i : ℕ) → get_or l i 0 < 256) → is_hex l ≡ true → hex (unhex l) ≡ l
unfolding hex is_hex unhex
line_back [] small e = refl
line_back (a ∷ []) small e = never (cc)
line_back (a ∷ b ∷ l) small e =
    let both = (and-eq-true_iff (is_hex_digit a && is_hex_digit b) (is_hex l)).0 e in
    let each = (and-eq-true_iff (is_hex_digit a) (is_hex_digit b)).0 both.0 in
    let high : byte_of a b / 16 ≡ unwrap_or (value_of a) 16 = omega (arith, value_small b each.1) in
    let low : byte_of a b % 16 ≡ unwrap_or (value_of b) 16 = omega (arith, value_small b each.1) in
    rw (high, low, digit_back a (small 0) each.0, digit_back b (small 1) each.1, line_back l (λ (i : ℕ). small (suc (suc i))) both.1)

-- a line of hexadecimal has two digits for each byte
pub hex_length : (bs : List ℕ) → length (hex bs) ≡ 2 * length bs
unfolding hex
hex_length [] = refl
hex_length (b ∷ bs) = omega (arith, hex_length bs)

pub odd_not_hex : (l : List ℕ) → length l % 2 ≡ 1 → is_hex l ≡ false
unfolding is_hex
odd_not_hex [] h = never h
odd_not_hex (a ∷ []) h = refl
odd_not_hex (a ∷ b ∷ rest) h = rw (odd_not_hex rest (omega (arith, h))) (and-false (is_hex_digit a && is_hex_digit b))
