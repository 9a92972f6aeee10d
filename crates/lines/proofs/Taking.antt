-- What `head_field` and `beyond` are, said of places: the field from a to the next comma, at e, and the line behind that comma.
use Rattle.std.specs.Prelude.{Some}
use Prim.Native.Nat.{ℕ, suc, ◌+◌, ◌-◌, ◌≤◌, ◌<◌}
use mathlib.Core.Path.{◌≡◌, sym, ap, ◌∙◌}
use mathlib.Core.List.{List}
use native.Mathlib.Omega.{arith}
use lib.ListN.{length, drop}
use lib.Seq.{drop-drop}
use Rattle.numerals.specs.Runs.{part}
use Rattle.settings.specs.declared.table.Kind.{Kind}
use Rattle.lines.specs.Splitting.{word, behind}
use Rattle.lines.specs.Fields.{read}
use Rattle.lines.specs.Verdicts.{Field}
use Rattle.lines.specs.Walk.{head_field, beyond}
use Rattle.lines.proofs.Walking.{word_is}

module _ (k : Kind) (s : List ℕ) (a : ℕ) (h : a ≤ length s) (e : ℕ) (f : Field) (p : e ≡ a + length (word (drop a s))) (q : f ≡ read k (part a e s)) where
  field_is : part a (a + length (word (drop a s))) s ≡ word (drop a s)
  field_is = let n : a + length (word (drop a s)) - a ≡ length (word (drop a s)) = omega arith in rw n (sym (word_is (drop a s)))

  next_is : drop (a + length (word (drop a s)) + 1) s ≡ behind (drop a s)
  next_is =
      let n : a + suc (length (word (drop a s))) ≡ a + length (word (drop a s)) + 1 = omega arith in
      sym (drop-drop (suc (length (word (drop a s)))) a s ∙ ap (λ (n : ℕ). drop n s) n)

  -- the field, what is left of the line, and that the place behind the comma lies within it
  pub taken_next : e < length s → (f ≡ head_field (Some k) (drop a s)) × (drop (e + 1) s ≡ beyond (Some k) (drop a s)) × (e + 1 ≤ length s)
  taken_next l =
      (q ∙ ap (read k) (ap (λ (n : ℕ). part a n s) p ∙ field_is), ap (λ (n : ℕ). drop (n + 1) s) p ∙ next_is, omega arith)
