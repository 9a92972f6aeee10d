-- What a line selects is something that the model answers.
use Rattle.std.specs.Prelude.{Ok, Err}
use Prim.Native.Nat.{ℕ}
use mathlib.Core.Path.{◌≡◌, subst}
use mathlib.Core.List.{List, [], ◌∷◌}
use mathlib.Core.Bool.{true}
use lib.ListN.{length, drop}
use lib.Dec.{eqb}
use Rattle.ground.proofs.Cases.{cond_cases, never}
use Rattle.settings.specs.Table.{kinds}
use Rattle.settings.specs.Mnemonics.{is_there, answers}
use Rattle.settings.specs.declared.model.Model.{Model}
use Rattle.settings.specs.declared.mnemonic.Replying.{Replying}
use Rattle.settings.specs.declared.mnemonic.Mnemonic.{Mnemonic}
use Rattle.settings.specs.declared.mnemonic.Mnemonic.TheVariants.{OfReplying, Com, Sav}
use Rattle.settings.specs.declared.rows.Row.{Row}
use Rattle.settings.proofs.Answerable.{Answered, known_answers}
use Rattle.lines.specs.Splitting.{fields}
use Rattle.lines.specs.Judging.{fields_read, judged_fields, alone, with_fields, judged}
use Rattle.lines.specs.declared.verdict.Fault.TheVariants.{Syntax}
use Rattle.lines.proofs.WrittenLimits.{Accepting, fields_write, reached, reached_known, writes_there, writes_known}
use Rattle.lines.specs.declared.verdict.Order.TheVariants.{Asks, Writes}
use Rattle.lines.specs.Verdicts.{Field}

module _ (model : Model) (a : Replying) where
  accepting : Accepting (Ok (Asks a))
  accepting x e = never (cc)

  -- a line that asks names the mnemonic that it asks for
  alone_asking : (n : Mnemonic) → alone model n ≡ Ok (Asks a) → n ≡ OfReplying a
  alone_asking (OfReplying b) e = cc
  alone_asking Com e = never (cc)
  alone_asking Sav e = never (cc)

  -- a line with fields never asks
  fields_asking : (n : Mnemonic) (rs : List Field) → judged_fields n rs ≡ Ok (Asks a) → n ≡ OfReplying a
  fields_asking n rs e = never (let w = fields_write (Ok (Asks a)) accepting n rs e in cc)

  with_asking : (n : Mnemonic) (fs : List (List ℕ)) → with_fields model n fs ≡ Ok (Asks a) → n ≡ OfReplying a
  unfolding with_fields
  with_asking n [] = alone_asking n
  with_asking n (f ∷ fs) =
      cond_cases (λ v. v ≡ Ok (Asks a) → n ≡ OfReplying a) (eqb (length (f ∷ fs)) (length (kinds model n)))
      (judged_fields n (fields_read (kinds model n) (f ∷ fs))) (Err Syntax) (λ _. fields_asking n (fields_read (kinds model n) (f ∷ fs))) (λ _ e. never (cc))

  pub asks_answers : (line : List ℕ) → judged model line ≡ Ok (Asks a) → answers model a ≡ true
  asks_answers line e =
      let g = reached model (Ok (Asks a)) accepting line e in
      let n = with_asking g.mnemonic (drop 1 (fields line)) g.verdict in
      subst (Answered model) n (reached_known (Answered model) g (known_answers model)) (subst (λ m. is_there model m ≡ true) n g.there)

  pub writes_answers : (line : List ℕ) (r : Row) → judged model line ≡ Ok (Writes (OfReplying a) r) → answers model a ≡ true
  writes_answers line r e = writes_known model line (OfReplying a) r e (Answered model) (known_answers model) (writes_there model line (OfReplying a) r e)
