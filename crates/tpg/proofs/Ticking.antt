-- Several ticks in one call, tick by tick.
use Prim.Native.Nat.{ℕ, zero, suc, ◌+◌, ◌*◌, ◌≤◌, ◌<◌}
use mathlib.Core.Path.{◌≡◌, refl, sym, ap, ◌∙◌}
use mathlib.Core.List.{List, ◌++◌, append_assoc, append-nil}
use mathlib.Core.Bool.{true, false}
use native.Mathlib.Omega.{arith}
use native.Mathlib.Nat.{zero-add, suc-add, add-zero}
use lib.ListN.{length, length-append}
use Rattle.text.specs.Page.{page, puts}
use Rattle.ports.specs.Stream.{ticked}
use Rattle.ports.specs.declared.Port.{Port}
use Rattle.ports.specs.declared.Ticked.{Ticked}
use Rattle.instrument.specs.Replies.{stream_text}
use Rattle.instrument.proofs.Lengths.{stream_length}
use Rattle.tpg.specs.Answers.{done, least_output}
use Rattle.tpg.specs.Steps.{over}
use Rattle.tpg.specs.Calls.{due_text, tick_text, counted, tick_call, tick_bytes, after_ticks, ticks_text, all_counted, ticks_call, ticks_bytes}
use Rattle.tpg.specs.declared.State.{State}
use Rattle.tpg.proofs.Laying.{laid_at, over_more, over_length, laid_nothing, copied}
use Rattle.tpg.proofs.Sending.{tick_length}

pub after_ticks_append : (m n : ℕ) (s : State) → after_ticks s (m + n) ≡ after_ticks (after_ticks s m) n
unfolding after_ticks
after_ticks_append zero n s = rw (zero-add n)
after_ticks_append (suc m) n s = rw (suc-add m n) (after_ticks_append m n (counted s).state)

pub ticks_text_append : (m n : ℕ) (s : State) → ticks_text s (m + n) ≡ ticks_text s m ++ ticks_text (after_ticks s m) n
unfolding after_ticks ticks_text
ticks_text_append zero n s = rw (zero-add n)
ticks_text_append (suc m) n s =
    let s' = (counted s).state in
    rw (suc-add m n, ticks_text_append m n s') (sym (append_assoc (tick_text s) (ticks_text s' m) (ticks_text (after_ticks s' m) n)))

-- one tick more
module _ (s : State) (n : ℕ) where
  pub after_ticks_next : after_ticks s (n + 1) ≡ (counted (after_ticks s n)).state
  unfolding after_ticks
  after_ticks_next = after_ticks_append n 1 s

  pub ticks_text_next : ticks_text s (n + 1) ≡ ticks_text s n ++ tick_text (after_ticks s n)
  unfolding ticks_text
  ticks_text_next = ticks_text_append n 1 s ∙ ap (λ (x : List ℕ). ticks_text s n ++ x) (append-nil (tick_text (after_ticks s n)))

-- ticks send no more than the room that is asked for
pub ticks_length : (n : ℕ) (s : State) → length (ticks_text s n) ≤ least_output * n
unfolding ticks_text
ticks_length zero s = omega arith
ticks_length (suc n) s =
    omega (arith, length-append (tick_text s) (ticks_text (counted s).state n), tick_length s, ticks_length n (counted s).state)

-- one of them is the tick
module _ (s : State) (room : ℕ) where
  pub ticks_one : ticks_call s 1 room ≡ tick_call s room
  unfolding after_ticks ticks_text counted
  ticks_one = rw (append-nil (tick_text s))

  pub ticks_one_bytes : ticks_bytes s 1 room ≡ tick_bytes s room
  unfolding ticks_text
  ticks_one_bytes = rw (append-nil (tick_text s))

-- where n ticks stand after i of them that sent w
pub record Counting (s : State) (n : ℕ) (out₀ : List ℕ) (port : Port) (out : List ℕ) (i w : ℕ) : Type 0 where
  pub low : i ≤ n
  pub state : record { instrument = s.instrument; port = port } ≡ after_ticks s i
  pub bytes : out ≡ over (ticks_text s i) out₀
  pub count : w ≡ length (ticks_text s i)

pub start : (s : State) (n : ℕ) (out₀ : List ℕ) → Counting s n out₀ s.port out₀ 0 0
unfolding after_ticks ticks_text over
start s n out₀ = record { low = omega arith; state = refl; bytes = refl; count = refl }

module _ {s : State} {n : ℕ} {out₀ : List ℕ} {port : Port} {out : List ℕ} {i w : ℕ} (g : Counting s n out₀ port out i w) where
  abbrev now : State
  now = record { instrument = s.instrument; port = port }

  pub ended : n ≤ i → (done now 0 w ≡ all_counted s n) × (out ≡ over (ticks_text s n) out₀)
  ended h =
      let e : i ≡ n = omega (arith, g.low) in
      rw (← e) ((λ j. done (g.state j) 0 (g.count j)), g.bytes)

  module _ (room : least_output * n ≤ length out₀) where
    pub length_kept : length out ≡ length out₀
    length_kept = rw g.bytes (over_length (ticks_text s i) out₀ (omega (arith, g.low, ticks_length i s)))

    -- a tick that was counted, and what it sent
    module _ (t : Ticked) (more : i < n) (e : t ≡ ticked port) where
      step : (out' : List ℕ) (w' : ℕ) → out' ≡ laid_at w (due_text s.instrument t.due) out → w' ≡ w + length (due_text s.instrument t.due)
          → Counting s n out₀ t.port out' (i + 1) w'
      unfolding tick_text counted
      step out' w' bytes count =
          let text = due_text s.instrument t.due in
          let said : text ≡ tick_text (after_ticks s i) = ap (λ (x : Ticked). due_text s.instrument x.due) e ∙ ap tick_text g.state in
          let all : ticks_text s (i + 1) ≡ ticks_text s i ++ text = ticks_text_next s i ∙ ap (λ (x : List ℕ). ticks_text s i ++ x) (sym said) in
          record {
            low = omega arith;
            state = (λ j. record { instrument = s.instrument; port = (e j).port }) ∙ ap (λ (x : State). (counted x).state) g.state ∙ sym (after_ticks_next s i);
            bytes = bytes ∙ rw (g.bytes, g.count) (over_more (ticks_text s i) text out₀) ∙ ap (λ (x : List ℕ). over x out₀) (sym all);
            count = rw all (count ∙ rw g.count (sym (length-append (ticks_text s i) text)));
          }

      -- where a line is due, it is copied behind what was sent
      pub due : t.due ≡ true → (out' : List ℕ) (w' : ℕ) → page out' w' ≡ puts (page out w) (stream_text s.instrument)
          → Counting s n out₀ t.port out' (i + 1) w'
      due d out' w' wrote =
          let text = stream_text s.instrument in
          let short = stream_length s.instrument in
          let l = copied text out out' w w' wrote (omega (arith, length_kept, g.count, ticks_length i s)) in
          step out' w' (rw d l.1) (rw d l.0)

      -- where none is, the output is not touched
      pub idle : t.due ≡ false → Counting s n out₀ t.port out (i + 1) w
      idle d = step out w (rw d (laid_nothing w out)) (rw d (sym (add-zero w)))
