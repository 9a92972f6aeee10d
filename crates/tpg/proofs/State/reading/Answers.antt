-- Each test in its order: the state, the channel, the reading.
use mathlib.Core.Path.{◌≡◌, sym, ◌∙◌}
use mathlib.Core.Bool.{true, false}
use mir.Facts.{to_z-of_z}
use borrow.Author.Rules.{rules}
use Rattle.tpg.specs.Calls.{is_channel}
use Rattle.tpg.proofs.Deciding.{unsound, elsewhere, outside, accepted}
use Rattle.tpg.proofs.State.reading.Goals as goal

pub returns-then-not-is_within : goal.returns-then-not-is_within
returns-then-not-is_within c =
    let a = c.args in
    c.with_answer.ensures ∙ unsound a.self a.channel _ (sym c.if-not-is_within.ensures)

pub returns-then-not-contains : goal.returns-then-not-contains
returns-then-not-contains c =
    let a = c.args in
    let absent : is_channel a.self.instrument.model a.channel ≡ false = search rules in
    c.with_answer-then-not-contains.ensures ∙ elsewhere a.self a.channel _ (sym c.if-not-is_within.ensures) absent

pub returns-then-not-is_within-2 : goal.returns-then-not-is_within-2
returns-then-not-is_within-2 c =
    let n = c.kinds in
    let a = c.args in
    let there : is_channel a.self.instrument.model a.channel ≡ true = search rules in
    rw (← to_z-of_z c.ranges.mantissa, ← to_z-of_z c.ranges.exponent)
    (c.with_answer-then-not-is_within-2.ensures ∙ outside a.self a.channel _ (sym c.if-not-is_within.ensures) there
    n.result n.ensures (sym c.if-not-is_within-2.ensures))

pub returns : goal.returns
returns c =
    let n = c.kinds in
    let a = c.args in
    let there : is_channel a.self.instrument.model a.channel ≡ true = search rules in
    rw (← to_z-of_z c.ranges.mantissa, ← to_z-of_z c.ranges.exponent)
    (c.with_reading.ensures ∙ accepted a.self a.channel _ (sym c.if-not-is_within.ensures) there
    n.result n.ensures (sym c.if-not-is_within-2.ensures))
