-- Each callee gives one part of `instrument_within`; the readings are tested one after the other, each with its channel (`both`).
use Rattle.std.proofs.Common.{◌≡◌, length, get_or, List, [], ◌∷◌, Bool, true, false, sym, ap, ◌∙◌, arith, rules, tests}
use mathlib.Core.Logic.{inl, inr}
use mathlib.Core.Bool.{◌&&◌, and-true}
use Prim.Native.Nat.{ℕ}
use Rattle.std.specs.List.{list_all, enumerate_from}
use Rattle.std.proofs.lemmas.Iterator.{YieldsList-from_slice}
use Rattle.std.proofs.lemmas.Iterator.Consumers.{YieldsList-from_enumerate}
use Rattle.std.proofs.lemmas.Iterator.Search.{all_from_yields_List}
use Rattle.ground.proofs.Cases.{never}
use Rattle.ground.proofs.Tables.{entries, entries_all}
use Rattle.gauges.specs.Readings.{no_reading}
use Rattle.gauges.specs.declared.reading.Reading.{Reading}
use Rattle.settings.specs.declared.model.Model.{Model}
use Rattle.instrument.specs.Limits.{serial_within, reading_within, instrument_within}
use Rattle.instrument.proofs.Instrument.is_within.Goals.{After-switches_are_within-switched, then-self-le-MOST_SERIAL, else-self-le-MOST_SERIAL, then-present, else-present, then-kept, else-kept}
use Rattle.instrument.proofs.Instrument.is_within.Goals as goal

abbrev test : Model → ℕ × Reading → Bool
test model p = reading_within model p.0 p.1

both : (model : Model) (rs : List Reading) → length rs ≡ 2 → list_all (test model) (enumerate_from 0 rs) ≡ reading_within model 0 (get_or rs 0 no_reading) && reading_within model 1 (get_or rs 1 no_reading)
both model rs e =
    let two : rs ≡ get_or rs 0 no_reading ∷ get_or rs 1 no_reading ∷ [] = sym (entries_all rs no_reading) ∙ ap (λ n. entries (λ k. get_or rs k no_reading) n 0) e in
    ap (λ (l : List Reading). list_all (test model) (enumerate_from 0 l)) two ∙ rw (and-true (reading_within model 1 (get_or rs 1 no_reading)))

read_is : (c : After-switches_are_within-switched) → let s = c.args.self in c.all-read.result ≡ reading_within s.model 0 (get_or s.readings 0 no_reading) && reading_within s.model 1 (get_or s.readings 1 no_reading)
read_is c =
    let a = c.args in
    let n : length a.self.readings ≡ 2 = search rules in
    all_from_yields_List (test a.self.model) _ _ c.all-read.result c.all-read.ensures.ran (YieldsList-from_enumerate (YieldsList-from_slice a.self.readings cc) (search rules)) (λ x b q k. search (rules, tests))
    ∙ both a.self.model a.self.readings n

-- the four parts and the switches, as they were found
parts : (c : After-switches_are_within-switched) → let s = c.args.self in instrument_within s ≡ serial_within s.serial && ((c.is_within-present.result && c.is_within-kept.result) && (c.all-read.result && c.switches_are_within-switched.result))
unfolding instrument_within
parts c = rw (c.switches_are_within-switched.ensures, read_is c, c.is_within-kept.ensures, c.is_within-present.ensures)

pub returns-then-read : goal.returns-then-read
returns-then-read c =
    let serial : serial_within c.args.self.serial ≡ true = search (rules, tests) in
    rw (parts (goal.at.returns-then-read c).After-switches_are_within-switched, serial) (search (rules, tests))

pub returns-else-read : goal.returns-else-read
returns-else-read c =
    let all = parts (goal.at.returns-else-read c).After-switches_are_within-switched in
    elim c.if-kept.branch [
      | then-kept w ↦
          let serial : serial_within c.args.self.serial ≡ true = search (rules, tests) in
          let read : c.all-read.result ≡ false = search (rules, tests) in
          rw (all, w.t-21-is, serial, read, w.if-kept.true.1, w.if-kept.true.2)
      | else-kept w ↦
          elim c.if-present.branch [
            | then-present v ↦
                let serial : serial_within c.args.self.serial ≡ true = search (rules, tests) in
                let kept : c.is_within-kept.result ≡ false =
                elim w.if-kept.either [
                  | inl h ↦ h.2
                  | inr (inl h) ↦ let e : true ≡ false = sym v.if-present.true.1 ∙ h.1 in never (cc)
                  | inr (inr h) ↦ absurd (omega arith)
                ] in
                rw (all, w.t-21-is, v.t-22-is, serial, v.if-present.true.1, kept)
            | else-present v ↦
                elim c.if-self-le-MOST_SERIAL.branch [
                  | then-self-le-MOST_SERIAL u ↦
                      let serial : serial_within c.args.self.serial ≡ true = search (rules, tests) in
                      let present : c.is_within-present.result ≡ false = elim v.if-present.either [ inl h ↦ h.1 | inr h ↦ absurd (omega arith) ] in
                      rw (all, w.t-21-is, v.t-22-is, u.t-23-is, serial, present)
                  | else-self-le-MOST_SERIAL u ↦
                      let serial : serial_within c.args.self.serial ≡ false = search (rules, tests) in
                      rw (all, w.t-21-is, v.t-22-is, u.t-23-is, serial)
                ]
          ]
    ]
