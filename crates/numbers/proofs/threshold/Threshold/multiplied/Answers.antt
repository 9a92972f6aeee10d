-- A threshold times a ratio is the product of the value that it is (`scalable`), held; or it stays as it came.
use borrow.Author.Rules.{rules}
use mathlib.Core.Path.{◌≡◌, ◌∙◌}
use mathlib.Core.Bool.{true, ◌&&◌}
use native.Mathlib.Omega.{arith}
use mir.Syntax.{w32}
use mir.Val.{SFits}
use mir.Facts.{to_z-of_z, to_z_pos}
use Rattle.numbers.specs.Numbers.{five, within_stops, as_value}
use Rattle.numbers.specs.Rounding.{is_usable, product}
use Rattle.numbers.proofs.Holding.{scalable, product_five, multiplied_is, multiplied_not}
use Rattle.numbers.proofs.Scaling.{value_range}
use Rattle.numbers.proofs.threshold.Threshold.multiplied.Goals as goal
use Rattle.numbers.proofs.threshold.Threshold.multiplied.Goals.{After-product, else-is_within-via-then-is_within+else-is_usable, else-is_within-via-else-is_within}

scaled : (c : goal.After-product) → within_stops c.args.self && is_usable c.args.ratio ≡ true → c.product.result ≡ product five (as_value c.args.self) c.args.ratio
scaled c h =
    let t = c.args.self in
    let range = value_range (as_value t) c.args.ratio (scalable t c.args.ratio h) in
    let f : SFits w32 t.exponent = search rules in
    c.product.ensures ∙ rw (to_z_pos w32 {n = t.mantissa} (omega (arith, range.0)), to_z-of_z f)

pub held-requires : goal.held-requires
held-requires c =
    let h : within_stops c.args.self && is_usable c.args.ratio ≡ true = search rules in
    rw (scaled (goal.at.held-requires c).After-product h) (product_five c.args.self c.args.ratio h)

pub returns-then-is_usable : goal.returns-then-is_usable
returns-then-is_usable c =
    let h : within_stops c.args.self && is_usable c.args.ratio ≡ true = search rules in
    rw (c.held.ensures, scaled (goal.at.returns-then-is_usable c).After-product h, multiplied_is c.args.self c.args.ratio h)

pub returns-else-is_within : goal.returns-else-is_within
returns-else-is_within c =
    elim c.else-is_within.branch [ else-is_within-via-then-is_within+else-is_usable w ↦ multiplied_not _ _ (search rules) | else-is_within-via-else-is_within w ↦ multiplied_not _ _ (search rules) ]
