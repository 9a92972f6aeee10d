-- The cells of a setting written one after the other are its text.
use Rattle.std.specs.Prelude.{Option, Some, None}
use Prim.Native.Nat.{ℕ, zero, suc, ◌≤◌}
use mathlib.Core.Path.{◌≡◌, refl, sym, ap, ◌∙◌}
use mathlib.Core.List.{List, [], ◌∷◌, ◌++◌, append-nil}
use native.Mathlib.Omega.{arith}
use borrow.Author.Tests.{lt-ltb}
use lib.ListN.{length, take}
use Rattle.ground.proofs.Cases.{never}
use Rattle.text.specs.Page.{puts, Page}
use Rattle.text.proofs.Pages.{puts_append}
use Rattle.settings.specs.Rows.{listed, row}
use Rattle.settings.specs.Table.{kinds_of, kind_at, entry, on}
use Rattle.settings.specs.Mnemonics.{setting}
use Rattle.settings.specs.declared.model.Model.{Model}
use Rattle.settings.specs.declared.mnemonic.Setting.{Setting}
use Rattle.settings.specs.declared.table.Kind.{Kind}
use Rattle.settings.specs.declared.table.Fields.{Fields}
use Rattle.settings.specs.declared.table.Entry.{Entry}
use Rattle.settings.specs.declared.rows.Row.{Row}
use Rattle.settings.specs.declared.Settings.{Settings}
use Rattle.settings.proofs.Tabled.{few}
use Rattle.lines.specs.Splitting.{joined}
use Rattle.lines.specs.Fields.{write}
use Rattle.lines.specs.Replies.{texts, setting_text}
use Rattle.lines.specs.Walk.{more}

-- the cells that a row of the table has fields for, commas between
abbrev text : Fields → Row → List ℕ
text f r = joined (texts (kinds_of f) (take (length (kinds_of f)) (listed r)))

-- the first cell, and up to two more
abbrev cellwise : Kind → Fields → Row → List ℕ
cellwise k f r = write k r.first ++ (more (kind_at f 1) r.second ++ more (kind_at f 2) r.third)

no_cell : (f : Fields) (r : Row) → kind_at f 0 ≡ None → text f r ≡ []
unfolding kind_at
no_cell f r = by f.count
  where
    by : (n : ℕ) → kind_at (record { count = n; first = f.first; others = f.others }) 0 ≡ None → text (record { count = n; first = f.first; others = f.others }) r ≡ []
    by zero e = refl
    by (suc n) e = let z : Some f.first ≡ None = rw (lt-ltb 0 (suc n) (omega arith)) at e in never (cc)

one_by_one : (f : Fields) (r : Row) (k : Kind) → kind_at f 0 ≡ Some k → f.count ≤ 3 → cellwise k f r ≡ text f r
unfolding kind_at
one_by_one f r k = by f.count
  where
    by : (n : ℕ) → kind_at (record { count = n; first = f.first; others = f.others }) 0 ≡ Some k → n ≤ 3
        → cellwise k (record { count = n; first = f.first; others = f.others }) r ≡ text (record { count = n; first = f.first; others = f.others }) r
    by zero e h = let z : ◌≡◌ {A = Option Kind} None (Some k) = e in never (cc)
    by (suc zero) e h = let z : Some f.first ≡ Some k = e in let q : k ≡ f.first = cc in rw q (append-nil (write f.first r.first))
    by (suc (suc zero)) e h = let z : Some f.first ≡ Some k = e in let q : k ≡ f.first = cc in rw q (ap (λ (y : List ℕ). write f.first r.first ++ y) (append-nil (44 ∷ write f.others r.second)))
    by (suc (suc (suc zero))) e h = let z : Some f.first ≡ Some k = e in let q : k ≡ f.first = cc in rw q
    by (suc (suc (suc (suc n)))) e h = absurd (omega arith)

-- as the code writes them, by the row of the setting's mnemonic
module _ (model : Model) (s : Settings) (x : Setting) (e : Entry) (q : e ≡ on model (entry (setting x))) where
  pub setting_none : kind_at e.fields 0 ≡ None → setting_text model s x ≡ []
  unfolding setting_text
  setting_none n = no_cell ((entry (setting x)).fields model) (row s x) (sym (ap (λ (r : Entry). kind_at r.fields 0) q) ∙ n)

  pub setting_written : (r : Row) → r ≡ row s x → (k : Kind) → kind_at e.fields 0 ≡ Some k → (t : Page)
      → puts (puts (puts t (write k r.first)) (more (kind_at e.fields 1) r.second)) (more (kind_at e.fields 2) r.third)
      ≡ puts t (setting_text model s x)
  unfolding setting_text
  setting_written r p k n t =
      let f = e.fields in
      let a = write k r.first in
      let b = more (kind_at f 1) r.second in
      let c = more (kind_at f 2) r.third in
      let g = (entry (setting x)).fields model in
      let z : a ++ (b ++ c) ≡ text g (row s x) = rw (q, p) (one_by_one g (row s x) k (sym (ap (λ (r : Entry). kind_at r.fields 0) q) ∙ n) (few model (setting x))) in
      sym (puts_append (puts t a) b c) ∙ sym (puts_append t a (b ++ c)) ∙ ap (puts t) z
