-- `Value::scaled`: by one the value stays as it is (`scaled_one`), and where it or the ratio is none (`scaled_not`).
use mathlib.Core.Path.{◌≡◌, sym, ◌∙◌}
use mathlib.Core.Bool.{true, ◌&&◌, and-eq-true_iff}
use mir.Syntax.{w32}
use mir.Val.{SFits}
use mir.Facts.{to_z-of_z}
use borrow.Author.Rules.{rules}
use borrow.Author.Tests.{eqb-true}
use native.Mathlib.Omega.{arith}
use lib.Dec.{eqb}
use Rattle.numbers.specs.Numbers.{five, is_five}
use Rattle.numbers.specs.Rounding.{is_usable}
use Rattle.numbers.proofs.Scaling.{product_digits, scaled_is, scaled_not, scaled_one}
use Rattle.numbers.proofs.value.Value.scaled.Goals as goal
use Rattle.numbers.proofs.value.Value.scaled.Goals.{After-product-product, then-eq-via-then-eq, then-eq-via-else-eq+then-not-is_usable, then-is_five, else-is_five}

scalable : (c : goal.After-product-product) → is_five c.args.self && is_usable c.args.ratio ≡ true
scalable c = elim c.if-is_five.branch [ then-is_five w ↦ search rules | else-is_five w ↦ search rules ]

pub returns-then-eq : goal.returns-then-eq
returns-then-eq c =
    let a = c.args in
    elim c.then-eq.branch [
      | then-eq-via-then-eq w ↦
          let both = (and-eq-true_iff (eqb a.ratio.over 1) (eqb a.ratio.under 1)).0 (sym c.eq.ensures ∙ w.if-eq.true) in
          scaled_one a.self a.ratio (eqb-true _ _ both.0) (eqb-true _ _ both.1)
      | then-eq-via-else-eq+then-not-is_usable w ↦
          elim w.if-is_five.branch [ then-is_five w' ↦ scaled_not _ _ (search rules) | else-is_five w' ↦ scaled_not _ _ (search rules) ]
    ]

pub with_sign-requires : goal.with_sign-requires
with_sign-requires c =
    let a = c.args in
    rw c.product-product.ensures (omega (arith, product_digits a.self a.ratio (scalable (goal.at.with_sign-requires c).After-product-product) five (omega arith)))

pub returns : goal.returns
returns c =
    let a = c.args in
    let f : SFits w32 a.self.mantissa = search rules in
    let g : SFits w32 c.with_sign.result = search rules in
    let h : SFits w32 c.product-product.result.exponent = search rules in
    rw (
      to_z-of_z g,
      to_z-of_z h,
      c.with_sign.ensures,
      to_z-of_z f,
      c.product-product.ensures,
      scaled_is a.self a.ratio (scalable (goal.at.returns c).After-product-product),
    )
