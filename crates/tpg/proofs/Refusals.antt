-- A call that is refused changes nothing: it hands its state back and sends nothing.
use Prim.Native.Nat.{ℕ, ◌-◌}
use mathlib.Core.Path.{◌≡◌, refl, ap}
use mathlib.Core.List.{List, [], ◌∷◌, map}
use mathlib.Core.Bool.{Bool, true, false, cond}
use Rattle.gauges.specs.declared.reading.Reading.{Reading}
use Rattle.instrument.specs.Limits.{gauge_within}
use Rattle.tpg.specs.Answers.{number, table, answer, handed}
use Rattle.tpg.specs.States.{state_within, cycled}
use Rattle.tpg.specs.Steps.{over}
use Rattle.tpg.specs.Calls.{admits, turned_away, roomed, roomed_bytes, is_channel, with_reading, reading_call, cycle_call}
use Rattle.tpg.specs.declared.State.{State}
use Rattle.tpg.specs.declared.answers.Outcome.{Outcome}

-- the table's numbers are those of its places
pub numbers_hold : map number table ≡ 0 ∷ 1 ∷ 2 ∷ 3 ∷ 4 ∷ 5 ∷ []
numbers_hold = refl

-- a call that is not answered 0 hands the state back as it came, with its counts 0
abbrev pub Back : State → Outcome → Type 0
Back s o = (number o.answer ≡ 0 → ⊥) → o ≡ handed o.answer s

module _ (s : State) where
  -- and, with an output, sends nothing
  pub roomed_back : (least room : ℕ) (o : Outcome) (bytes : List ℕ) → o.answer ≡ answer 0
      → (number (roomed s least room o).answer ≡ 0 → ⊥) → (roomed s least room o ≡ handed (roomed s least room o).answer s) × (roomed_bytes s least room bytes ≡ [])
  unfolding roomed roomed_bytes turned_away
  roomed_back least room o bytes e = by (admits s least room) (state_within s)
    where
      by : (a b : Bool) → let r = cond a o (cond b (handed (answer 3) s) (handed (answer 1) s)) in
          (number r.answer ≡ 0 → ⊥) → (r ≡ handed r.answer s) × (cond a bytes [] ≡ [])
      by false false n = (refl, refl)
      by false true n = (refl, refl)
      by true b n = absurd (n (ap number e))

  pub reading_back : (channel : ℕ) (r : Reading) → Back s (reading_call s channel r)
  unfolding reading_call
  reading_back channel r = by (state_within s) (is_channel s.instrument.model channel) (gauge_within s.instrument.model r)
    where
      by : (a b c : Bool) → Back s (cond a (cond b (cond c (handed (answer 0) (with_reading s (channel - 1) r)) (handed (answer 5) s)) (handed (answer 4) s)) (handed (answer 1) s))
      by false b c n = refl
      by true false c n = refl
      by true true false n = refl
      by true true true n = absurd (n refl)

  pub cycle_back : Back s (cycle_call s)
  unfolding cycle_call
  cycle_back = by (state_within s)
    where
      by : (a : Bool) → Back s (cond a (handed (answer 0) (cycled s)) (handed (answer 1) s))
      by false n = refl
      by true n = absurd (n refl)

-- where nothing is sent the output stays as it was
pub untouched : (out : List ℕ) → over [] out ≡ out
unfolding over
untouched out = refl
