-- The three places, one after the other (`row_fields`).
use mathlib.Core.Path.{◌≡◌, sym}
use mathlib.Core.Bool.{◌&&◌}
use Rattle.settings.specs.Table.{kind_at}
use Rattle.settings.specs.Limits.{place_fits}
use Rattle.settings.proofs.Places.{row_fields}
use Rattle.settings.proofs.limits.row_is_within.Goals as goal
use Rattle.settings.proofs.limits.row_is_within.Goals.{Joined-place_is_within, then-place_is_within, else-place_is_within}

-- the first two
two : (c : goal.Joined-place_is_within) → let a = c.args in c.if-place_is_within.value ≡ place_fits (kind_at a.f 0) a.r.first a.default.first && place_fits (kind_at a.f 1) a.r.second a.default.second
two c =
    let a = c.args in
    let first : place_fits (kind_at a.f 0) a.r.first a.default.first ≡ c.place_is_within.result = rw (← c.kind.ensures) (sym c.place_is_within.ensures) in
    elim c.if-place_is_within.branch [
      | then-place_is_within w ↦ rw (first, w.if-place_is_within.true, w.value-is, w.place_is_within-then-place_is_within.ensures, w.kind-then-place_is_within.ensures)
      | else-place_is_within w ↦ rw (first, w.value-is, w.if-place_is_within.false)
    ]

pub returns-then-place_is_within-2 : goal.returns-then-place_is_within-2
returns-then-place_is_within-2 c =
    let a = c.args in
    rw (← row_fields a.f a.r a.default, ← two (goal.at.returns-then-place_is_within-2 c).Joined-place_is_within, c.if-place_is_within-2.true, c.place_is_within-then-place_is_within-2.ensures, c.kind-then-place_is_within-2.ensures)

pub returns-else-place_is_within-2 : goal.returns-else-place_is_within-2
returns-else-place_is_within-2 c =
    let a = c.args in
    rw (← row_fields a.f a.r a.default, ← two (goal.at.returns-else-place_is_within-2 c).Joined-place_is_within, c.if-place_is_within-2.false)
