-- The exponent byte is read as the machine reads eight bits that are signed.
use Prim.Native.Nat.{ℕ, ◌<◌}
use mathlib.Core.Path.{◌≡◌, refl}
use mir.Syntax.{w8}
use mir.Val.{to_z}
use Rattle.ground.proofs.Tables.{alike}
use Rattle.frames.specs.Encoding.{exponent_of}

pub twos_complement : (byte : ℕ) → byte < 256 → exponent_of byte ≡ to_z w8 byte
twos_complement = alike exponent_of (to_z w8) 256 refl
