-- What the definitions give where docs/promises/ names a wrong answer.
use Prim.Native.Nat.{ℕ}
use mathlib.Core.Path.{◌≡◌, refl}
use mathlib.Core.List.{List, [], ◌∷◌}
use mathlib.Core.Bool.{true, false}
use lib.IntN.{pos, negsuc}
use Rattle.tpg.specs.Calls.{reading_call}
use Rattle.tpg.specs.declared.State.{State}
use Rattle.frames.specs.Encoding.{exponent_of, mantissa_of}
use Rattle.frames.specs.Frames.{no_frame, silent, reading_frame, framed}

-- the bytes of a reading, whatever they are
module _ (s : State) (channel kind status high middle low power : ℕ) where
  abbrev signed : ℕ → List ℕ
  signed sign = 2 ∷ channel ∷ kind ∷ status ∷ sign ∷ high ∷ middle ∷ low ∷ power ∷ []

  pub sign_two : framed s (signed 2) ≡ no_frame s
  unfolding framed reading_frame
  sign_two = refl

  -- the exponent is the last byte
  pub last_exponent : framed s (signed 0)
      ≡ silent (reading_call s channel (record { kind = kind; status = status; value = record { mantissa = mantissa_of false high middle low; exponent = exponent_of power } }))
  unfolding framed reading_frame
  last_exponent = refl

-- 10000 is 002710 in hexadecimal
pub mantissa_bytes : mantissa_of false 0 39 16 ∷ mantissa_of true 0 39 16 ∷ [] ≡ pos 10000 ∷ negsuc 9999 ∷ []
mantissa_bytes = refl
