-- What holds of every form of frames, and what was sent for one handed on.
use Prim.Native.Nat.{ℕ, ◌≤◌}
use mathlib.Core.Path.{◌≡◌, refl}
use mathlib.Core.List.{List, []}
use mathlib.Core.Bool.{◌&&◌, and-eq-true_iff}
use borrow.Author.Tests.{leb-true}
use lib.ListN.{length, get_or, drop}
use lib.Dec.{leb, eqb}
use Rattle.ground.proofs.Cases.{cond_cases}
use Rattle.tpg.specs.Steps.{over}
use Rattle.tpg.specs.Calls.{cycle_call}
use Rattle.tpg.specs.declared.State.{State}
use Rattle.frames.specs.Frames.{Exchange, longest_frame, no_frame, silent, host_frame, reading_frame, ticks_frame, fresh_frame, framed}
use Rattle.frames.specs.Walk.{frame_outcome}
use Rattle.frames.specs.declared.FrameOutcome.{FrameOutcome}

-- what holds of each form's reply holds of a frame's
module _ (P : Exchange → Type 0) (s : State) (f : List ℕ) where
  pub framed_cases : (length f ≤ longest_frame → P (host_frame s (drop 1 f))) → P (reading_frame s f) → P (ticks_frame s (get_or f 1 0)) → P (fresh_frame s (get_or f 1 0))
      → P (silent (cycle_call s)) → P (no_frame s) → P (framed s f)
  unfolding framed
  framed_cases host reading ticks fresh cycle none =
      cond_cases P (eqb (get_or f 0 0) 1 && leb (length f) longest_frame) _ _
      (λ e. host (leb-true (length f) longest_frame ((and-eq-true_iff (eqb (get_or f 0 0) 1) (leb (length f) longest_frame)).0 e).1))
      (λ h. cond_cases P (eqb (get_or f 0 0) 2 && eqb (length f) 9) _ _ (λ e. reading)
      (λ r. cond_cases P (eqb (get_or f 0 0) 3 && eqb (length f) 2) _ _ (λ e. ticks)
      (λ t. cond_cases P (eqb (get_or f 0 0) 4 && eqb (length f) 2) _ _ (λ e. fresh)
      (λ m. cond_cases P (eqb (get_or f 0 0) 5 && eqb (length f) 1) _ _ (λ e. cycle) (λ c. none)))))

-- what was told and laid down, of the exchange that it is
module _ (r q : Exchange) (e : r ≡ q) (t : FrameOutcome) (out after : List ℕ) where
  pub handed_on : (t ≡ frame_outcome q) × (after ≡ over q.bytes out) → (t ≡ frame_outcome r) × (after ≡ over r.bytes out)
  handed_on p = rw e p

pub unsent : (r : Exchange) (t : FrameOutcome) (out : List ℕ) → r.bytes ≡ [] → t ≡ frame_outcome r → (t ≡ frame_outcome r) × (out ≡ over r.bytes out)
unfolding over
unsent r t out e p = (p, rw e)

pub reading_unsent : (s : State) (f : List ℕ) → (reading_frame s f).bytes ≡ []
unfolding reading_frame
reading_unsent s f = cond_cases (λ (r : Exchange). r.bytes ≡ []) (leb (get_or f 4 0) 1) _ _ (λ e. refl) (λ e. refl)

pub fresh_unsent : (s : State) (b : ℕ) → (fresh_frame s b).bytes ≡ []
unfolding fresh_frame
fresh_unsent s b = refl
