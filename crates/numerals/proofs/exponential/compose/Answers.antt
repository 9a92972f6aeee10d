-- `exponential::compose`: the number of as many digits as are let in, and what it is fitted to.
use Rattle.std.specs.Prelude.{Option, Some, None}
use Rattle.std.specs.Option.{ok_or}
use Rattle.std.specs.Result.{result_ok}
use Rattle.std.proofs.lemmas.Int.{ints}
use Prim.Native.Nat.{ℕ, ◌+◌, ◌≤◌}
use mathlib.Core.List.{List, ◌++◌}
use mathlib.Core.Bool.{true}
use mathlib.Core.Path.{◌≡◌, refl, sym, ap, ap₂, ◌∙◌}
use lib.ListN.{length, length-append}
use lib.IntN.{pos, ◌-ℤ◌}
use mir.Syntax.{w32}
use mir.Val.{to_z, of_z}
use borrow.Author.Rules.{rules}
use Rattle.ground.specs.Ranges.{in_range}
use Rattle.numbers.specs.Rounding.{fitted_to}
use Rattle.numbers.specs.declared.threshold.Threshold.{Threshold}
use Rattle.numerals.specs.Runs.{value}
use Rattle.numerals.specs.Exponential.{TwoDigits, power_of, fitted_numeral, weighed, composed}
use Rattle.numerals.specs.declared.exponential.ThresholdFault.TheVariants.{OutOfRange}
use Rattle.numerals.proofs.DigitRuns.{value_join}
use Rattle.numerals.proofs.exponential.compose.Goals as goal

-- what fits no threshold is out of range
fitted_or : (f : Option Threshold) → ok_or f OutOfRange ≡ fitted_numeral f
fitted_or (Some t) = refl
fitted_or None = refl

-- what is let in is weighed
weighed_is : (whole fraction s : List ℕ) → in_range 1 12 (length whole + length fraction) ≡ true
    → weighed (whole ++ fraction) (length fraction) (power_of s) ≡ composed whole fraction s
unfolding composed
weighed_is whole fraction s h = rw (length-append whole fraction, h)

pub returns : goal.returns
returns c =
    let a = c.args in
    let e = c.in_ok-power.power in
    let k = length a.fraction.now in
    let digits = a.whole.now ++ a.fraction.now in
    let few : in_range 1 12 (length a.whole.now + k) ≡ true = search rules in
    let n : c.value-n.result ≡ value 0 digits = c.value-n.ensures.value ∙ ap (λ (m : ℕ). value m a.fraction.now) c.value.ensures.value ∙ sym (value_join 0 a.whole.now a.fraction.now) in
    let some : c.power_behind.result ≡ Some e = c.ok_or.ensures.ok_part ∙ ap result_ok c.in_ok-power.was in
    let most : length a.whole.now + k ≤ 12 = search rules in
    let near : TwoDigits e = rw some at c.power_behind.ensures.bound in
    let x : to_z w32 (of_z w32 (to_z w32 (of_z w32 e) -ℤ to_z w32 k)) ≡ e -ℤ pos k = search (rules, ints) in
    c.ok_or-2.ensures.value
    ∙ fitted_or c.fitted.result
    ∙ ap fitted_numeral (c.fitted.ensures ∙ ap₂ fitted_to n x)
    ∙ ap (weighed digits k) (sym some ∙ c.power_behind.ensures.value)
    ∙ weighed_is a.whole.now a.fraction.now a.s.now few
