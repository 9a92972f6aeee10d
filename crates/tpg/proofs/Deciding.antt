-- How a call with a lent output is decided, in the order of the paper's numbers, and what is then in the output.
use Prim.Native.Nat.{ℕ, ◌-◌, ◌≤◌}
use mathlib.Core.Path.{◌≡◌, refl, sym, ap, ◌∙◌}
use mathlib.Core.List.{[], ◌∷◌, append-nil}
use mathlib.Core.Bool.{Bool, true, false, cond, and-true, and-eq-true_iff}
use borrow.Author.Tests.{leb-true, le-leb}
use lib.Dec.{leb}
use Rattle.gauges.specs.Readings.{within_limits}
use Rattle.gauges.specs.declared.reading.Reading.{Reading}
use Rattle.settings.specs.Kinds.{gauge_kinds}
use Rattle.instrument.specs.Limits.{gauge_within}
use Rattle.tpg.specs.Answers.{answer, handed, least_output}
use Rattle.tpg.specs.States.{state_within}
use Rattle.tpg.specs.Steps.{sent, after, said, taken}
use Rattle.tpg.specs.Calls.{admits, turned_away, roomed, roomed_bytes, byte_taken, byte_call, byte_bytes, host_text, hosted, host_call, host_bytes, is_channel, with_reading, reading_call}
use Rattle.tpg.specs.declared.State.{State}

-- room there is where a call is admitted
pub roomy : (s : State) (least room : ℕ) → admits s least room ≡ true → least ≤ room
unfolding admits
roomy s least room e = leb-true least room ((and-eq-true_iff (state_within s) (leb least room)).0 e).1

-- where no output is asked for, the state alone decides
pub without_output : (s : State) → admits s 0 0 ≡ state_within s
unfolding admits
without_output s = and-true (state_within s)

-- one byte alone is taken and answered where it is admitted, as the call that takes several does it
module _ (s : State) (b room : ℕ) where
  one_taken : least_output ≤ room → (hosted s (b ∷ []) room ≡ byte_taken s b) × (host_text s (b ∷ []) room ≡ sent s b)
  unfolding hosted taken after said byte_taken
  one_taken h = rw (le-leb least_output room h, append-nil (sent s b)) (refl, refl)

  pub byte_hosted : (host_call s (b ∷ []) room ≡ byte_call s b room) × (host_bytes s (b ∷ []) room ≡ byte_bytes s b room)
  unfolding roomed roomed_bytes
  byte_hosted = by (admits s least_output room) (roomy s least_output room)
    where
      by : (t : Bool) → (t ≡ true → least_output ≤ room)
          → (cond t (hosted s (b ∷ []) room) (turned_away s) ≡ cond t (byte_taken s b) (turned_away s)) × (cond t (host_text s (b ∷ []) room) [] ≡ cond t (sent s b) [])
      by true h = one_taken (h refl)
      by false h = (refl, refl)

-- and a reading
module _ (s : State) (channel : ℕ) (r : Reading) where
  pub unsound : state_within s ≡ false → handed (answer 1) s ≡ reading_call s channel r
  unfolding reading_call
  unsound e = rw e

  pub elsewhere : state_within s ≡ true → is_channel s.instrument.model channel ≡ false → handed (answer 4) s ≡ reading_call s channel r
  unfolding reading_call
  elsewhere e c = rw (e, c)

  -- the reading beside the kinds that the model has
  module _ (e : state_within s ≡ true) (c : is_channel s.instrument.model channel ≡ true) (kinds : ℕ) (k : kinds ≡ gauge_kinds s.instrument.model) where
    limits : gauge_within s.instrument.model r ≡ within_limits kinds r
    limits = ap (λ (n : ℕ). within_limits n r) (sym k)

    pub outside : within_limits kinds r ≡ false → handed (answer 5) s ≡ reading_call s channel r
    unfolding reading_call
    outside w = rw (e, c, limits ∙ w)

    pub accepted : within_limits kinds r ≡ true → handed (answer 0) (with_reading s (channel - 1) r) ≡ reading_call s channel r
    unfolding reading_call
    accepted w = rw (e, c, limits ∙ w)
