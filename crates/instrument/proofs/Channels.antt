-- The texts of all channels that a model has, put one after the other.
use Prim.Native.Nat.{ℕ, ◌≤◌, ◌<◌}
use mathlib.Core.Path.{◌≡◌, sym, ap, ◌∙◌}
use mathlib.Core.List.{List, ◌∷◌, ◌++◌}
use native.Mathlib.Omega.{arith}
use borrow.Author.Tests.{ltb-true}
use Rattle.text.specs.Page.{put, puts, Page}
use Rattle.text.proofs.Pages.{puts_append}
use Rattle.settings.specs.Models.{channels}
use Rattle.settings.specs.declared.model.Model.{Model}
use Rattle.settings.proofs.Every.{channels_few}
use Rattle.settings.proofs.Answerable.{first_there}
use Rattle.instrument.specs.Replies.{each_channel}

two : (model : Model) (text : ℕ → List ℕ) → 1 < channels model → each_channel model text ≡ text 0 ++ (44 ∷ text 1)
unfolding each_channel
two model text h = let e : channels model ≡ 2 = omega (arith, channels_few model) in rw e

one : (model : Model) (text : ℕ → List ℕ) → channels model ≤ 1 → each_channel model text ≡ text 0
unfolding each_channel
one model text h = let e : channels model ≡ 1 = omega (arith, ltb-true 0 (channels model) (first_there model)) in rw e

module _ (model : Model) (text : ℕ → List ℕ) (t : Page) (n : ℕ) (e : n ≡ channels model) where
  -- two channels: a comma, and the second text
  pub puts_two : 1 < n → puts (put (puts t (text 0)) 44) (text 1) ≡ puts t (each_channel model text)
  puts_two h = sym (ap (puts t) (two model text (omega arith)) ∙ puts_append t (text 0) (44 ∷ text 1))

  -- one channel: the first text alone
  pub puts_one : n ≤ 1 → puts t (text 0) ≡ puts t (each_channel model text)
  puts_one h = sym (ap (puts t) (one model text (omega arith)))
