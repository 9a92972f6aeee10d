-- What the host's run takes without asking for the kind of a byte: characters and spaces, gathered in one go, and an ENQ.
use Rattle.std.specs.Prelude.{Option, Some, None, unwrap_or}
use Rattle.std.specs.List.{position, position_or_len}
use Prim.Native.Nat.{ℕ, suc, ◌+◌, ◌≤◌, ◌<◌}
use mathlib.Core.Path.{◌≡◌, refl, sym, ap, subst, ◌∙◌}
use mathlib.Core.List.{List, [], ◌∷◌}
use mathlib.Core.Bool.{Bool, true, false, cond, not, ◌&&◌, ◌||◌, and-false, and-eq-true_iff}
use mathlib.Core.Logic.{◌⊎◌, inl, inr, ◌≢◌}
use native.Mathlib.Omega.{arith}
use native.Mathlib.Nat.{add-zero}
use native.Mathlib.Numerals.{add-one}
use borrow.Author.Tests.{lt-ltb, le-ltb, lt-leb, le-leb, ne_eqb, eqb-true, eqb-false, ltb-false, not-true}
use lib.ListN.{length, get_or, set, take, drop, drop_of_length-le}
use lib.Seq.{drop-cons, take_all}
use lib.Dec.{eqb, leb, ltb}
use Rattle.ground.specs.Ranges.{in_range}
use Rattle.ground.proofs.Cases.{never, below, cond_cases, in_range_lem}
use Rattle.text.specs.Control.{is_character, etx, enq, lf, cr, space}
use Rattle.settings.specs.Mnemonics.{is_err}
use Rattle.settings.specs.declared.model.Model.{Model}
use Rattle.settings.specs.declared.mnemonic.Replying.{Replying}
use Rattle.ports.specs.Line.{with_line, spoilt, grown, is_empty}
use Rattle.ports.specs.Hearing.{kind_of, by_selection, asked, quiet, by_kind, heard}
use Rattle.ports.specs.Walk.{again, repeats, settled, is_typed, typing, typed_one, typed_all}
use Rattle.ports.specs.declared.Port.{Port}
use Rattle.ports.specs.declared.Event.TheVariants.{Reply}
use Rattle.ports.specs.declared.hearing.ByteKind.TheVariants.{Dropped, Character, Spoiling}

-- ---- the typed bytes from a place on

module _ (input : List ℕ) (i : ℕ) where
  pub typing_more : i < length input → is_typed (get_or input i 0) ≡ true → typing (drop i input) ≡ get_or input i 0 ∷ typing (drop (i + 1) input)
  unfolding typing
  typing_more h e = rw (drop-cons input i 0 h, add-one i) (rw e)

-- ---- one byte

-- the characters begin behind the space, so that one range has both
pub typed_range : (b : ℕ) → in_range 32 126 b ≡ is_typed b
typed_range b = by (eqb b space) refl
  where
    by : (t : Bool) → eqb b space ≡ t → in_range 32 126 b ≡ (t || in_range 33 126 b)
    by true e = rw (eqb-true b space e)
    by false e = ap (λ (t : Bool). t && leb b 126) (above (below 32 b))
      where
        above : (32 < b) ⊎ (b ≤ 32) → leb 32 b ≡ leb 33 b
        above (inl l) = rw (le-leb 32 b (omega arith), le-leb 33 b l)
        above (inr g) = rw (lt-leb 32 b (omega (arith, eqb-false b space e)), lt-leb 33 b (omega arith))

-- a typed byte is none of those below the space
module _ (b : ℕ) (e : is_typed b ≡ true) where
  range : (32 ≤ b) × (b ≤ 126)
  range = in_range_lem 32 126 b (typed_range b ∙ e)

  other : (n : ℕ) → n < 32 → eqb b n ≡ false
  other n h = ne_eqb b n (λ q. omega (arith, range.0))

  kind_typed : kind_of b ≡ cond (eqb b space) Dropped Character
  unfolding kind_of
  kind_typed = rw (other cr (omega arith), other lf (omega arith), other etx (omega arith), other enq (omega arith)) (by (eqb b space) refl)
    where
      by : (t : Bool) → eqb b space ≡ t → cond t Dropped (cond (is_character b) Character Spoiling) ≡ cond t Dropped Character
      by true q = refl
      by false q = rw (rw q at e)

-- whatever the model, and straight after a CR too
pub typed_heard : (model : Model) (p : Port) (b : ℕ) → is_typed b ≡ true → heard model p b ≡ quiet (typed_one p b)
unfolding heard typed_one by_kind
typed_heard model p b e = rw (other b e lf (omega arith), and-false p.ended, kind_typed b e) (by (eqb b space))
  where
    by : (t : Bool) → by_kind model (cond t Dropped Character) (settled p) b ≡ quiet (cond t (settled p) (grown (settled p) b))
    by true = refl
    by false = refl

-- an ENQ asked of the settled port, its reply and its port apart, is heard so, straight after a CR too
pub enq_heard : (model : Model) (p q next : Port) (m : Replying) (b : ℕ) → b ≡ enq → q ≡ settled p → Reply m q.error ≡ (asked q).event → next ≡ (asked q).port
    → record { port = next; event = Reply m q.error } ≡ heard model p b
unfolding heard kind_of by_kind
enq_heard model p q next m b enq settles event port = rw (enq, and-false p.ended, ← settles) (λ i. record { port = port i; event = event i })

answered_stays : (p : Port) (s : Option Replying) → again s ≡ true → p ≡ (by_selection p s).port
answered_stays p None e = never (cc)
answered_stays p (Some m) e = rw (not-true (is_err m) e)

-- where the selection answers again, the port is as it was
pub repeats_stays : (p : Port) → repeats p ≡ true → p ≡ (asked p).port
unfolding asked
repeats_stays p e = let t = (and-eq-true_iff (is_empty p) (again p.selection)).0 e in rw t.0 (answered_stays p p.selection t.1)

-- ---- the run

-- what stands before the first byte that is not typed
before : (bs : List ℕ) → take (position_or_len (λ b. not (is_typed b)) bs) bs ≡ typing bs
unfolding typing
before [] = refl
before (b ∷ bs) = of (is_typed b) (before bs)
  where
    of : (t : Bool) → take (position_or_len (λ b. not (is_typed b)) bs) bs ≡ typing bs
        → take (cond (not (not t)) (1 + position_or_len (λ b. not (is_typed b)) bs) 0) (b ∷ bs) ≡ cond t (b ∷ typing bs) []
    of true e =
        let m = position_or_len (λ b. not (is_typed b)) bs in
        let q : 1 + m ≡ suc m = omega arith in
        rw q (ap (λ (l : List ℕ). b ∷ l) e)
    of false e = refl

pub typed_part : (bs : List ℕ) (n : Option ℕ) → n ≡ position (λ b. not (is_typed b)) bs → take (unwrap_or n (length bs)) bs ≡ typing bs
typed_part bs n e = rw e (by (ltb m (length bs)) refl ∙ before bs)
  where
    m : ℕ
    m = position_or_len (λ b. not (is_typed b)) bs

    by : (t : Bool) → ltb m (length bs) ≡ t → take (unwrap_or (cond t (Some m) None) (length bs)) bs ≡ take m bs
    by true q = refl
    by false q = take_all (length bs) bs (omega arith) ∙ sym (take_all m bs (ltb-false m (length bs) q))

pub typed_count : (bs : List ℕ) → length (typing bs) ≤ length bs
unfolding typing
typed_count [] = omega arith
typed_count (b ∷ bs) = cond_cases (λ (l : List ℕ). length l ≤ length (b ∷ bs)) (is_typed b) (b ∷ typing bs) [] (λ _. omega (arith, typed_count bs)) (λ _. omega arith)

-- where the port stands before the rest of the run: settled, and to be typed as the whole run on the port that came
pub record Gathered (p : Port) (run : List ℕ) (port : Port) (i : ℕ) : Type 0 where
  pub settles : port ≡ settled port
  pub all : typed_all p run ≡ typed_all port (drop i run)

-- the first byte settles the port
pub settled_first : (p : Port) (run : List ℕ) → 0 < length run → Gathered p run (settled p) 0
unfolding typed_all typed_one
settled_first p [] h = absurd (omega arith)
settled_first p (b ∷ bs) h = record { settles = refl; all = refl }

grown_settles : (p : Port) (b : ℕ) → grown (settled p) b ≡ settled (grown (settled p) b)
unfolding grown
grown_settles p b = by p.bad (ltb p.len 80)
  where
    by : (bad room : Bool) → cond bad (settled p) (cond room (with_line (settled p) (set p.line p.len b) (p.len + 1) p.bad) (spoilt (settled p)))
        ≡ settled (cond bad (settled p) (cond room (with_line (settled p) (set p.line p.len b) (p.len + 1) p.bad) (spoilt (settled p))))
    by true room = refl
    by false true = refl
    by false false = refl

-- a byte more
module _ {p : Port} {run : List ℕ} {port : Port} {i : ℕ} (g : Gathered p run port i) (more : i < length run) where
  abbrev byte : ℕ
  byte = get_or run i 0

  step : (next : Port) → next ≡ typed_one port byte → next ≡ settled next → Gathered p run next (i + 1)
  unfolding typed_all
  step next q settles = record { settles = settles; all = g.all ∙ rw (drop-cons run i 0 more, add-one i, q) }

  pub passed : byte ≡ 32 → Gathered p run port (i + 1)
  unfolding typed_one
  passed h = step port (rw h g.settles) g.settles

  pub gathered : byte ≢ 32 → Gathered p run (grown port byte) (i + 1)
  unfolding typed_one
  gathered h =
      step (grown port byte) (rw (ne_eqb byte 32 h, ← g.settles))
      (subst (λ (q : Port). grown q byte ≡ settled (grown q byte)) (sym g.settles) (grown_settles port byte))

pub gathered_all : {p : Port} {run : List ℕ} {port : Port} {i : ℕ} → Gathered p run port i → length run ≤ i → port ≡ typed_all p run
unfolding typed_all
gathered_all {p} {run} {port} {i} g h = sym (g.all ∙ rw (drop_of_length-le run {i = i} h))
