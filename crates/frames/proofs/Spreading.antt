-- Bytes at the start of an output turned into their digits in place, from the last one on.
use Prim.Native.Nat.{ℕ, suc, ◌+◌, ◌*◌, ◌≤◌, ◌<◌, ◌/◌, ◌%◌}
use mathlib.Core.Path.{◌≡◌, refl, sym, ap, ◌∙◌}
use mathlib.Core.List.{List, [], ◌∷◌, ◌++◌}
use native.Mathlib.Omega.{arith}
use lib.ListN.{length, get_or, set, take, drop, length-set, length-append, drop_of_length-le}
use lib.Seq.{length-take-le, take-take, take-set-le, get_or-take, drop-cons, set_at, append_snoc}
use Rattle.ground.proofs.Sequences.{set_two}
use Rattle.text.specs.Hex.{digit_of, hex_pair, hex}
use Rattle.text.specs.Control.{lf}
use Rattle.text.proofs.HexDigits.{hex_length}
use Rattle.tpg.specs.Steps.{over}

-- with the bytes from i on turned
pub record Spread (out₀ out : List ℕ) (count i : ℕ) : Type 0 where
  pub low : i ≤ count
  pub room : 2 + 2 * count + 1 ≤ length out₀
  pub same : length out ≡ length out₀
  pub front : take i out ≡ take i out₀
  pub back : drop (2 + 2 * i) out ≡ hex (drop i (take count out₀)) ++ drop (2 + 2 * count) out₀

pub start : (out₀ : List ℕ) (count : ℕ) → 2 + 2 * count + 1 ≤ length out₀ → Spread out₀ out₀ count count
unfolding hex
start out₀ count room =
    let none : drop count (take count out₀) ≡ [] = drop_of_length-le (take count out₀) {i = count} (omega (arith, length-take-le count out₀ (omega arith))) in
    record { low = omega arith; room = room; same = refl; front = refl; back = rw none }

-- a byte's two digits laid down
abbrev pub put : List ℕ → ℕ → ℕ → List ℕ
put out at byte = set (set out at (digit_of (byte / 16))) (at + 1) (digit_of (byte % 16))

pair_length : (out : List ℕ) (at byte : ℕ) → length (put out at byte) ≡ length out
pair_length out at byte = simp length-set

pair_front : (out : List ℕ) (at byte k : ℕ) → k ≤ at → take k (put out at byte) ≡ take k out
pair_front out at byte k h = take-set-le k (set out at (digit_of (byte / 16))) (at + 1) (digit_of (byte % 16)) (omega arith) ∙ take-set-le k out at (digit_of (byte / 16)) h

pair_back : (out : List ℕ) (at byte : ℕ) → at + 1 < length out → drop at (put out at byte) ≡ hex_pair byte ++ drop (at + 2) out
pair_back out at byte h =
    let one : at + 1 ≡ suc at = omega arith in
    let more : at + 2 ≡ suc (suc at) = omega arith in
    rw (one, more) (set_two out at (digit_of (byte / 16)) (digit_of (byte % 16)) (omega arith))

module _ (out₀ out : List ℕ) (count : ℕ) where
  abbrev bytes : List ℕ
  bytes = take count out₀

  abbrev rest : List ℕ
  rest = drop (2 + 2 * count) out₀

  pub step : (k : ℕ) → Spread out₀ out count (suc k) → Spread out₀ (put out (2 + 2 * k) (get_or out k 0)) count k
  unfolding hex
  step k s =
      let byte : get_or out k 0 ≡ get_or bytes k 0 =
      sym (get_or-take (suc k) out k 0 (omega arith)) ∙ ap (λ (l : List ℕ). get_or l k 0) s.front ∙ get_or-take (suc k) out₀ k 0 (omega arith)
      ∙ sym (get_or-take count out₀ k 0 s.low) in
      let place : 2 + 2 * k + 2 ≡ 2 + 2 * suc k = omega arith in
      let held : k < length bytes = omega (arith, length-take-le count out₀ (omega (arith, s.room)), s.low) in
      record {
        low = omega (arith, s.low);
        room = s.room;
        same = pair_length out (2 + 2 * k) (get_or out k 0) ∙ s.same;
        front = pair_front out (2 + 2 * k) (get_or out k 0) k (omega arith) ∙ sym (take-take k (suc k) out (omega arith)) ∙ ap (take k) s.front
            ∙ take-take k (suc k) out₀ (omega arith);
        back = pair_back out (2 + 2 * k) (get_or out k 0) (omega (arith, s.same, s.room, s.low)) ∙ ap (λ (n : ℕ). hex_pair (get_or out k 0) ++ drop n out) place
            ∙ ap (λ (l : List ℕ). hex_pair (get_or out k 0) ++ l) s.back ∙ ap (λ (b : ℕ). hex_pair b ++ (hex (drop (suc k) bytes) ++ rest)) byte
            ∙ sym (ap (λ (l : List ℕ). hex l ++ rest) (drop-cons bytes k 0 held));
      }

  pub ended : (number : ℕ) → Spread out₀ out count 0 → set (put out 0 number) (2 + 2 * count) 10 ≡ over (hex (number ∷ bytes) ++ lf ∷ []) out₀
  unfolding hex over
  ended number s =
      let line : List ℕ = hex (number ∷ bytes) in
      let many : length line ≡ 2 + 2 * count = hex_length (number ∷ bytes) ∙ omega (arith, length-take-le count out₀ (omega (arith, s.room))) in
      let turned : put out 0 number ≡ line ++ rest = pair_back out 0 number (omega (arith, s.same, s.room)) ∙ ap (λ (l : List ℕ). hex_pair number ++ l) s.back in
      let last : rest ≡ get_or out₀ (2 + 2 * count) 0 ∷ drop (suc (2 + 2 * count)) out₀ = drop-cons out₀ (2 + 2 * count) 0 (omega (arith, s.room)) in
      let long : suc (2 + 2 * count) ≡ length (line ++ lf ∷ []) = sym (length-append line (lf ∷ []) ∙ omega (arith, many)) in
      ap (λ (l : List ℕ). set l (2 + 2 * count) 10) (turned ∙ ap (λ (l : List ℕ). line ++ l) last)
      ∙ set_at line (get_or out₀ (2 + 2 * count) 0) (drop (suc (2 + 2 * count)) out₀) 10 (2 + 2 * count) many
      ∙ sym (append_snoc line 10 (drop (suc (2 + 2 * count)) out₀)) ∙ ap (λ (n : ℕ). line ++ (lf ∷ []) ++ drop n out₀) long
