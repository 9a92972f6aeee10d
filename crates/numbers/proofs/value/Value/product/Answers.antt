-- `Value::product`: a value of five digits and a usable ratio have a product that is carried exactly.
use Prim.Native.Nat.{◌≤◌}
use native.Mathlib.Omega.{arith}
use borrow.Author.Rules.{rules}
use mir.Syntax.{w32}
use mir.Val.{SFits}
use mir.Facts.{to_z-of_z}
use lib.IntN.{pos, nat_abs, ◌-ℤ◌}
use Rattle.numbers.specs.Numbers.{five}
use Rattle.numbers.proofs.Scaling.{value_range, product_rounds}
use Rattle.numbers.proofs.Signed.{small, abs_minus}
use Rattle.numbers.proofs.value.Value.product.Goals as goal

pub rounded-requires : goal.rounded-requires
rounded-requires c =
    let a = c.args in
    let r = product_rounds a.self a.ratio c.requires five (omega arith) in
    let f : SFits w32 a.self.exponent = search rules in
    let near : nat_abs (a.self.exponent -ℤ pos 4) ≤ 1000 = omega (arith, abs_minus a.self.exponent (pos 4), (value_range a.self a.ratio c.requires).1) in
    let g : SFits w32 (a.self.exponent -ℤ pos 4) = small _ (omega (arith, near)) in
    (search rules, r.under.0, r.under.1, rw (to_z-of_z f, to_z-of_z g) near)
