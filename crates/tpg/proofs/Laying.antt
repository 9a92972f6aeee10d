-- Bytes laid into the lent output, one reply behind the other.
use Prim.Native.Nat.{ℕ, ◌+◌, ◌≤◌}
use mathlib.Core.Path.{◌≡◌, sym, ap, ◌∙◌}
use mathlib.Core.List.{List, [], ◌++◌, append_assoc, append-nil}
use native.Mathlib.Omega.{arith}
use native.Mathlib.Nat.{zero-add, add-zero}
use lib.ListN.{length, take, drop, length-append, length-drop, take-append-drop}
use lib.Seq.{sets-eq, length-take-le, take-append_seam, take_at, drop-append-add, drop-drop}
use Rattle.text.specs.Page.{Page, page, puts}
use Rattle.text.proofs.Pages.{puts_room}
use Rattle.tpg.specs.Steps.{over}

-- bytes laid over an output from a place on
unfoldable pub laid_at : ℕ → List ℕ → List ℕ → List ℕ
laid_at at bytes out = take at out ++ bytes ++ drop (at + length bytes) out

module _ (at : ℕ) (xs out : List ℕ) (inside : at ≤ length out) where
  front_length : length (take at out ++ xs) ≡ at + length xs
  front_length = rw (length-append (take at out) xs, length-take-le at out inside)

  pub laid_length : at + length xs ≤ length out → length (laid_at at xs out) ≡ length out
  unfolding laid_at
  laid_length room = rw (length-append (take at out ++ xs) (drop (at + length xs) out), front_length, length-drop (at + length xs) out) (omega arith)

  -- some, and then others behind them
  pub laid_more : (ys : List ℕ) → laid_at (at + length xs) ys (laid_at at xs out) ≡ laid_at at (xs ++ ys) out
  unfolding laid_at
  laid_more ys =
      let p = take at out ++ xs in
      let d = drop (at + length xs) out in
      let all : at + length xs + length ys ≡ at + length (xs ++ ys) = omega (arith, length-append xs ys) in
      let rest : drop (at + length xs + length ys) (p ++ d) ≡ drop (at + length (xs ++ ys)) out =
      ap (λ (n : ℕ). drop (n + length ys) (p ++ d)) (sym front_length) ∙ drop-append-add p d (length ys) ∙ drop-drop (length ys) (at + length xs) out ∙ ap (λ (n : ℕ). drop n out) all in
      rw (take_at p d (at + length xs) front_length, rest, append_assoc (take at out) xs ys)

-- from the front on
module _ (xs out : List ℕ) where
  laid_front : laid_at 0 xs out ≡ over xs out
  unfolding laid_at over
  laid_front = rw (zero-add (length xs))

  pub over_length : length xs ≤ length out → length (over xs out) ≡ length out
  over_length room = ap length (sym laid_front) ∙ laid_length 0 xs out (omega arith) (omega arith)

pub over_more : (xs ys out : List ℕ) → laid_at (length xs) ys (over xs out) ≡ over (xs ++ ys) out
over_more xs ys out =
    rw (zero-add (length xs), laid_front xs out, laid_front (xs ++ ys) out) at (laid_more 0 xs out (omega arith) ys)

pub laid_nothing : (at : ℕ) (out : List ℕ) → out ≡ laid_at at [] out
unfolding laid_at
laid_nothing at out = rw (append-nil (take at out), add-zero at) (sym (take-append-drop at out))

-- what a writer put where there is room for it
module _ (xs out out' : List ℕ) (at w : ℕ) (e : page out' w ≡ puts (page out at) xs) (room : at + length xs ≤ length out) where
  pub copied : (w ≡ at + length xs) × (out' ≡ laid_at at xs out)
  unfolding laid_at
  copied =
      let f = e ∙ puts_room xs out at room in
      (ap (λ (p : Page). p.at) f, ap (λ (p : Page). p.bytes) f ∙ sets-eq xs out at room)

-- what was put into a room of its own from the front on stands at its front
pub fronted : (xs room : List ℕ) (line : List ℕ) (n : ℕ) → page line n ≡ puts (page room 0) xs → length xs ≤ length room → take n line ≡ xs
unfolding laid_at
fronted xs room line n e low =
    let k = copied xs room line 0 n e (omega arith) in
    let all : n ≡ length xs = omega (arith, k.0) in
    rw (all, k.1) (take-append_seam xs (drop (0 + length xs) room))
