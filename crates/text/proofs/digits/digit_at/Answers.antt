-- `digits::digit_at`: a power of ten is not zero, and the tenth is above every number.
use native.Mathlib.Nat.{one-le-pow, pow-le-pow_right, div-eq_of_lt}
use Prim.Native.Nat.{◌<◌, ◌^◌}
use native.Mathlib.Omega.{arith}
use Rattle.text.proofs.digits.digit_at.Goals as goal

pub nonzero_div-result : goal.nonzero_div-result
nonzero_div-result c = omega (arith, one-le-pow c.args.k 10 (omega arith))

pub returns-else-k-lt10 : goal.returns-else-k-lt10
returns-else-k-lt10 c =
    let a = c.args in
    let big : a.n < 10 ^ a.k = omega (arith, pow-le-pow_right {n = 10} (omega arith) {i = 10} {j = a.k} c.if-k-lt10.false) in
    rw (div-eq_of_lt big)
