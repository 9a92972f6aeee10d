-- The stream: its line is sent exactly where a whole interval ends.
use Prim.Native.Nat.{ℕ, zero, suc, ◌+◌, ◌-◌, ◌/◌, ◌≤◌, ◌<◌}
use mathlib.Core.Path.{◌≡◌, sym, ap, subst, ◌∙◌}
use mathlib.Core.List.{List, [], ◌∷◌, ◌++◌, flat_map, append-nil}
use mathlib.Core.Bool.{Bool, true, false, cond, ◌&&◌, and-eq-true_iff}
use mathlib.Core.Logic.{◌⊎◌, inl, inr, ⊎_elim}
use native.Mathlib.Omega.{arith}
use native.Mathlib.Nat.{zero-add, div-eq_of_lt, add-div_left}
use borrow.Author.Tests.{eqb-true, ltb-true, eq-eqb, ne_eqb, lt-ltb, le-ltb}
use lib.Dec.{eqb, ltb}
use Rattle.ground.proofs.Cases.{or_either, below}
use Rattle.ports.specs.Limits.{line_within, is_interval, stream_within, port_within}
use Rattle.ports.specs.Stream.{with_stream, ticked}
use Rattle.ports.specs.declared.Port.{Port}
use Rattle.ports.specs.declared.Ticked.{Ticked}
use Rattle.instrument.specs.Limits.{instrument_within}
use Rattle.tpg.specs.States.{state_within, Sound}
use Rattle.tpg.specs.Calls.{due_text, tick_text, counted, ticks_text, reading_call}
use Rattle.tpg.specs.declared.State.{State}
use Rattle.demands.specs.Streams.{passed, stream_lines, TicksStream, Quiet, tick, reading, after_quiet, ticks_in, TickStreams}
use Rattle.demands.proofs.Called.{reading_keeps}

-- "the tick count below the interval", or no stream
abbrev Running : Port → Type 0
Running p = (p.interval ≡ 0) ⊎ (p.ticks < p.interval)

running : (s : State) → Sound s → Running s.port
unfolding state_within port_within
running s k =
    let p = s.port in
    let port = ((and-eq-true_iff (instrument_within s.instrument) (port_within s.instrument.model p)).0 k.within).1 in
    let stream = ((and-eq-true_iff (stream_within p) _).0 ((and-eq-true_iff (line_within p) _).0 port).1).0 in
    ⊎_elim
    (λ (a : eqb p.interval 0 && eqb p.ticks 0 ≡ true). inl (eqb-true p.interval 0 ((and-eq-true_iff (eqb p.interval 0) _).0 a).0))
    (λ (b : is_interval p.interval && ltb p.ticks p.interval ≡ true). inr (ltb-true p.ticks p.interval ((and-eq-true_iff (is_interval p.interval) _).0 b).1))
    (or_either _ _ stream)

-- whole intervals that end within n ticks, by the port alone
abbrev ends : Port → ℕ → ℕ
ends p n = cond (eqb p.interval 0) 0 ((p.ticks + n) / p.interval)

-- one tick: it ends an interval or not, and the others end within the ticks behind it
record Stepped (p : Port) (t : Ticked) : Type 0 where
  still : Running t.port
  others : (n : ℕ) → ends p (suc n) ≡ cond t.due 1 0 + ends t.port n

stopped : (p : Port) → p.interval ≡ 0 → Stepped p (record { port = p; due = false })
stopped p e = record { still = inl e; others = (λ n. rw (eq-eqb p.interval 0 e)) }

-- within an interval
within : (p : Port) → p.ticks + 1 < p.interval → Stepped p (record { port = with_stream p p.interval (p.ticks + 1); due = false })
within p h = record {
  still = inr h;
  others = (λ n.
      let same : p.ticks + suc n ≡ p.ticks + 1 + n = omega arith in
      rw (ne_eqb p.interval 0 (λ (z : p.interval ≡ 0). omega arith), same) (sym (zero-add ((p.ticks + 1 + n) / p.interval))));
}

-- at its end
ending : (p : Port) → p.ticks + 1 ≡ p.interval → Stepped p (record { port = with_stream p p.interval 0; due = true })
ending p e = record {
  still = inr (omega (arith, e));
  others = (λ n.
      let some : 0 < p.interval = omega (arith, e) in
      let all : p.ticks + suc n ≡ p.interval + n = omega (arith, e) in
      let none : 0 + n ≡ n = omega arith in
      rw (ne_eqb p.interval 0 (λ (z : p.interval ≡ 0). omega (arith, e)), all, none, add-div_left n some) (omega arith));
}

stepped : (p : Port) → Running p → Stepped p (ticked p)
unfolding ticked
stepped p =
    ⊎_elim (λ (e : p.interval ≡ 0). rw (eq-eqb p.interval 0 e) (stopped p e))
    (λ (h : p.ticks < p.interval). rw (ne_eqb p.interval 0 (λ (z : p.interval ≡ 0). omega arith))
    (⊎_elim (λ (l : p.ticks + 1 < p.interval). rw (lt-ltb (p.ticks + 1) p.interval l) (within p l))
    (λ (l : p.interval ≤ p.ticks + 1). rw (le-ltb (p.ticks + 1) p.interval l) (ending p (omega arith)))
    (below (p.ticks + 1) p.interval)))

-- no interval ends before a tick
none_yet : (p : Port) → Running p → ends p 0 ≡ 0
none_yet p =
    ⊎_elim (λ (e : p.interval ≡ 0). rw (eq-eqb p.interval 0 e))
    (λ (h : p.ticks < p.interval). let same : p.ticks + 0 ≡ p.ticks = omega arith in
    rw (ne_eqb p.interval 0 (λ (z : p.interval ≡ 0). omega arith), same) (div-eq_of_lt h))

-- ---- ticks alone

-- what one tick sends, and so many lines
due_lines : (s : State) (d : Bool) (k : ℕ) → due_text s.instrument d ++ stream_lines s k ≡ stream_lines s (cond d 1 0 + k)
unfolding flat_map
due_lines s true k = let more : 1 + k ≡ suc k = omega arith in rw more
due_lines s false k = rw (zero-add k)

all_lines : (n : ℕ) (s : State) → Running s.port → ticks_text s n ≡ stream_lines s (passed s n)
unfolding ticks_text tick_text counted flat_map
all_lines zero s r = ap (stream_lines s) (sym (none_yet s.port r))
all_lines (suc n) s r =
    let t = stepped s.port r in
    let now = (counted s).state in
    ap (λ (l : List ℕ). tick_text s ++ l) (all_lines n now t.still) ∙ due_lines s (ticked s.port).due (passed now n) ∙ ap (stream_lines s) (sym (t.others n))

pub ticks_stream : TicksStream
ticks_stream s k n = all_lines n s (running s k)

-- ---- readings between them

-- the stream goes on, and what ends later ends behind what ended before
record Since (s : State) (qs : List Quiet) : Type 0 where
  still : Running (after_quiet s qs).port
  later : (n : ℕ) → passed s (ticks_in qs + n) ≡ passed s (ticks_in qs) + passed (after_quiet s qs) n

since : (qs : List Quiet) (s : State) → Running s.port → Since s qs
unfolding counted
since [] s r = record { still = r; later = (λ n. rw (zero-add n, none_yet s.port r) (sym (zero-add (passed s n)))) }
since (tick ∷ qs) s r =
    let t = stepped s.port r in
    let now = (counted s).state in
    let i = since qs now t.still in
    record {
      still = i.still;
      later = (λ n.
          let all : ticks_in qs + 1 + n ≡ suc (ticks_in qs + n) = omega arith in
          let here : ticks_in qs + 1 ≡ suc (ticks_in qs) = omega arith in
          rw (all, here, t.others (ticks_in qs + n), t.others (ticks_in qs), i.later n) (omega arith));
    }
since (reading channel x ∷ qs) s r =
    let now = (reading_call s channel x).state in
    let same = (reading_keeps s channel x).0 in
    let i = since qs now (subst Running (sym same) r) in
    let ends_same : (n : ℕ) → passed now n ≡ passed s n = λ n. ap (λ (p : Port). ends p n) same in
    record { still = i.still; later = (λ n. sym (ends_same (ticks_in qs + n)) ∙ i.later n ∙ ap (λ (k : ℕ). k + passed (after_quiet now qs) n) (ends_same (ticks_in qs))) }

-- a tick sends as many lines as intervals end with it
tick_lines : (s : State) → Running s.port → tick_text s ≡ stream_lines s (passed s 1)
unfolding tick_text counted flat_map
tick_lines s r =
    let t = stepped s.port r in
    sym (append-nil (tick_text s)) ∙ due_lines s (ticked s.port).due 0
    ∙ ap (stream_lines s) (ap (λ (k : ℕ). cond (ticked s.port).due 1 0 + k) (sym (none_yet (counted s).state.port t.still)) ∙ sym (t.others 0))

pub tick_streams : TickStreams
tick_streams s k qs =
    let i = since qs s (running s k) in
    let now = after_quiet s qs in
    let one : passed s (ticks_in qs + 1) - passed s (ticks_in qs) ≡ passed now 1 = omega (arith, i.later 1) in
    tick_lines now i.still ∙ ap (stream_lines now) (sym one)
