-- A reading's number in the bytes of a frame (01, "The bench program").
use Rattle.std.specs.Prelude.{ℕ, ◌+◌, ◌*◌, Bool, cond, ltb, ℤ, pos, neg_ℤ, ◌-ℤ◌}

-- "exponent in two's complement"
abbrev pub exponent_of : ℕ → ℤ
exponent_of byte = cond (ltb byte 128) (pos byte) (pos byte -ℤ pos 256)

-- "sign (00 plus, 01 minus; minus zero is zero), mantissa in three bytes high first"
abbrev pub mantissa_of : Bool → ℕ → ℕ → ℕ → ℤ
mantissa_of minus high middle low =
    let m = pos (high * 65536 + middle * 256 + low) in
    cond minus (neg_ℤ m) m
