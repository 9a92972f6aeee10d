-- What is computed for each model holds of every one.
use Prim.Native.Nat.{◌≤◌}
use mathlib.Core.Path.{◌≡◌, refl}
use mathlib.Core.List.{List, [], ◌∷◌}
use mathlib.Core.Bool.{Bool, true}
use borrow.Author.Tests.{leb-true}
use lib.Dec.{leb}
use Rattle.ground.specs.Members.{every, Each}
use Rattle.ground.proofs.Members.{every_each}
use Rattle.settings.specs.Models.{channels}
use Rattle.settings.specs.declared.model.Model.{Model}
use Rattle.settings.specs.declared.model.Model.TheVariants.{Tpg361, Tpg362, Tpg262}

abbrev pub models : List Model
models = Tpg361 ∷ Tpg362 ∷ Tpg262 ∷ []

pub every_model : (P : Model → Type 0) → Each P models → (model : Model) → P model
every_model P e Tpg361 = e.0
every_model P e Tpg362 = e.1.0
every_model P e Tpg262 = e.1.1.0

pub tested : (p : Model → Bool) → every p models ≡ true → (model : Model) → p model ≡ true
tested p e = every_model (λ m. p m ≡ true) (every_each p models e)

pub channels_few : (model : Model) → channels model ≤ 2
unfolding every
channels_few model = leb-true (channels model) 2 (tested (λ m. leb (channels m) 2) refl model)
