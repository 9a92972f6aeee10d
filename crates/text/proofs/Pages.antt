-- Bytes put into an output one after the other.
use Prim.Native.Nat.{ℕ, suc, ◌+◌, ◌-◌, ◌≤◌, ◌<◌, min}
use mathlib.Core.Path.{◌≡◌, refl, sym, ap, ◌∙◌}
use mathlib.Core.List.{List, [], ◌∷◌, ◌++◌}
use mathlib.Core.Logic.{⊎_elim}
use mathlib.Core.Bool.{Bool, true, false, cond}
use native.Mathlib.Omega.{arith}
use native.Mathlib.Nat.{add-zero}
use native.Mathlib.Numerals.{add-one}
use borrow.Author.Tests.{lt-ltb, le-ltb}
use lib.Dec.{ltb}
use lib.ListN.{length, set, take, drop, length-set, length-take, take-append-drop, drop_of_length-le}
use borrow.Rule.Slice.PartMut.{put_mid}
use Rattle.std.proofs.Common.{append_assoc}
use lib.Seq.{sets, sets-eq, length-sets, drop-drop}
use Rattle.ground.proofs.Cases.{below}
use Rattle.text.specs.Page.{Page, page, put, puts}
use Rattle.text.specs.Writing.{page_of, Wrote}
use Rattle.text.specs.declared.writer.Writer.{Writer}

-- ---- in two steps is at once

pub puts_append : (p : Page) (xs ys : List ℕ) → puts p (xs ++ ys) ≡ puts (puts p xs) ys
puts_append p [] ys = refl
puts_append p (x ∷ xs) ys = puts_append (put p x) xs ys

-- what one writer put, and then another behind it
pub then : (p : Page) (xs ys : List ℕ) {q r : Page} → q ≡ puts p xs → r ≡ puts q ys → r ≡ puts p (xs ++ ys)
then p xs ys e f = f ∙ ap (λ q. puts q ys) e ∙ sym (puts_append p xs ys)

-- the same said of two calls on one writer
pub wrote_then : {a b c : Writer} {xs ys : List ℕ} → Wrote a b xs → Wrote b c ys → Wrote a c (xs ++ ys)
wrote_then {a} {xs = xs} {ys = ys} f g = record { same_output = g.same_output ∙ f.same_output; written = then (page_of a) xs ys f.written g.written }

-- ---- one byte more where there is room for it

pub put_more : (out : List ℕ) (at b : ℕ) → at < length out → put (page out at) b ≡ page (set out at b) (at + 1)
unfolding put
put_more out at b h = simp (lt-ltb _ _ h)

pub put_full : (out : List ℕ) (at b : ℕ) → length out ≤ at → put (page out at) b ≡ page out at
unfolding put
put_full out at b h = simp (le-ltb _ _ h)

-- ---- with room for all they are stored from the place on, and the place moves past them

pub puts_room : (bs out : List ℕ) (at : ℕ) → at + length bs ≤ length out → puts (page out at) bs ≡ page (sets out at bs) (at + length bs)
puts_room [] out at room = rw add-zero
puts_room (b ∷ bs) out at room =
    let e : suc at + length bs ≡ at + length (b ∷ bs) = omega arith in
    rw (put_more out at b (omega arith), add-one at, ← e) (puts_room bs (set out at b) (suc at) (simp length-set (omega arith)))

-- so said of a part of the output that is written over
pub laid : (bs out : List ℕ) (at : ℕ) → at + length bs ≤ length out → sets out at bs ≡ put_mid at (length bs) out bs
laid bs out at room = sets-eq bs out at room ∙ rw (drop-drop (length bs) at out, append_assoc)

pub puts_whole : (bs out : List ℕ) (at : ℕ) → at + length bs ≤ length out → puts (page out at) bs ≡ page (put_mid at (length bs) out bs) (at + length bs)
puts_whole bs out at room = puts_room bs out at room ∙ ap (λ l. page l (at + length bs)) (laid bs out at room)

-- the same, where the part is told by its two ends
pub puts_between : (bs out : List ℕ) (at to : ℕ) → to ≡ at + length bs → to ≤ length out → puts (page out at) bs ≡ page (put_mid at (to - at) out bs) to
puts_between bs out at to e room =
    let n : to - at ≡ length bs = omega (arith, e) in
    rw (n, e) (puts_whole bs out at (omega (arith, e, room)))

-- ---- past the end nothing changes

pub puts_full : (bs out : List ℕ) (at : ℕ) → length out ≤ at → puts (page out at) bs ≡ page out at
puts_full [] out at full = refl
puts_full (b ∷ bs) out at full = rw (put_full out at b full) (puts_full bs out at full)

-- with room for the first n, and for no more where they are more, those are all that is stored
pub puts_fit : (bs out : List ℕ) (at n : ℕ) → at < length out → n ≡ min (length bs) (length out - at)
    → puts (page out at) bs ≡ page (put_mid at n out (take n bs)) (at + n)
puts_fit bs out at n h e =
    let part : length (take n bs) ≡ n = omega (arith, length-take n bs) in
    let room : at + length (take n bs) ≤ length out = omega arith in
    let stored = puts_room (take n bs) out at room in
    let rest : puts (page (sets out at (take n bs)) (at + n)) (drop n bs) ≡ page (sets out at (take n bs)) (at + n) =
    ⊎_elim (λ (l : n < length bs). puts_full (drop n bs) (sets out at (take n bs)) (at + n) (omega (arith, length-sets out at (take n bs))))
    (λ (g : length bs ≤ n). ap (puts (page (sets out at (take n bs)) (at + n))) (drop_of_length-le bs {i = n} g)) (below n (length bs)) in
    let form : sets out at (take n bs) ≡ put_mid at n out (take n bs) = laid (take n bs) out at room ∙ rw part in
    ap (puts (page out at)) (sym (take-append-drop n bs)) ∙ puts_append (page out at) (take n bs) (drop n bs)
    ∙ rw (stored, part) rest ∙ ap (λ l. page l (at + n)) form

-- ---- the output stays as long as it was

pub put_length : (p : Page) (b : ℕ) → length (put p b).bytes ≡ length p.bytes
unfolding put
put_length p b = go (ltb p.at (length p.bytes))
  where
    go : (t : Bool) → length (cond t (page (set p.bytes p.at b) (p.at + 1)) p).bytes ≡ length p.bytes
    go true = simp length-set
    go false = refl

pub puts_length : (p : Page) (bs : List ℕ) → length (puts p bs).bytes ≡ length p.bytes
puts_length p [] = refl
puts_length p (b ∷ bs) = rw (puts_length (put p b) bs) (put_length p b)
