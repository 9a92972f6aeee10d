-- What the definitions give where docs/promises/ names a wrong answer.
use Rattle.std.specs.Prelude.{Some, None, Ok}
use Prim.Native.Nat.{ℕ, ◌+◌, ◌≤◌}
use mathlib.Core.Path.{◌≡◌, refl}
use mathlib.Core.List.{List, [], ◌∷◌, map}
use mathlib.Core.Bool.{true, false, and-false}
use native.Mathlib.Omega.{arith}
use borrow.Author.Tests.{le-ltb, ne_eqb}
use lib.ListN.{take, drop}
use lib.Dec.{eqb, leb, ltb}
use Rattle.ground.specs.Members.{every}
use Rattle.ground.specs.Ranges.{in_range}
use Rattle.ground.proofs.Cases.{cond_cases}
use Rattle.text.specs.Control.{cr, space}
use Rattle.settings.specs.Mnemonics.{same, is_err}
use Rattle.settings.specs.declared.model.Model.{Model}
use Rattle.settings.specs.declared.mnemonic.Query.TheVariants.{Sps, Err}
use Rattle.settings.specs.declared.mnemonic.Replying.{Replying}
use Rattle.settings.specs.declared.mnemonic.Replying.TheVariants.{OfQuery}
use Rattle.settings.specs.declared.mnemonic.Mnemonic.TheVariants.{Com}
use Rattle.settings.specs.declared.rows.Row.{Row}
use Rattle.lines.specs.Judging.{judged}
use Rattle.ports.specs.Line.{spoilt, grown, held, is_empty}
use Rattle.ports.specs.Stream.{with_stream, ticked}
use Rattle.ports.specs.Hearing.{kind_of, fresh_port, concluded, worded, replied, asked, quiet, by_kind, heard}
use Rattle.ports.specs.Walk.{again, settled, is_typed, typed_one, typed_all}
use Rattle.ports.specs.Limits.{line_within, is_interval, port_within}
use Rattle.ports.specs.declared.Port.{Port}
use Rattle.lines.specs.declared.verdict.Order.TheVariants.{Writes}

-- ---- a fresh port

pub fresh_unmarked : (model : Model) → (fresh_port model).ended ≡ false
fresh_unmarked model = refl

pub fresh_interval : (model : Model) → (fresh_port model).interval ≡ 10
fresh_interval model = refl

-- ---- a byte

-- an LF that is not straight after a CR stops the stream
pub other_lf : (model : Model) (p : Port) → p.ended ≡ false → heard model p 10 ≡ quiet (settled p)
unfolding heard kind_of by_kind
other_lf model p e = rw e

pub del_spoils : (model : Model) (p : Port) → heard model p 127 ≡ quiet (spoilt (settled p))
unfolding heard kind_of by_kind
del_spoils model p = rw (and-false p.ended)

pub com_unselected : (model : Model) (p : Port) (r : Row) → judged model (held p) ≡ Ok (Writes Com r) → (heard model p cr).port.selection ≡ None
unfolding heard kind_of by_kind concluded
com_unselected model p r e = rw (and-false p.ended, e)

-- an ENQ on an empty line is answered by the selection, which stays
pub selection_answers : (p : Port) (m : Replying) → is_empty p ≡ true → p.selection ≡ Some m → asked p ≡ replied p m
unfolding asked
selection_answers p m e s = rw (e, s)

-- on any other line the error word answers
pub word_answers : (p : Port) → is_empty p ≡ false → asked p ≡ worded p
unfolding asked
word_answers p e = rw e

-- nothing selected, SPS, and ERR, whose word is gone once it is sent
pub selection_repeats : map again (None ∷ Some (OfQuery Sps) ∷ Some (OfQuery Err) ∷ []) ≡ false ∷ true ∷ false ∷ []
unfolding is_err same
selection_repeats = refl

pub bad_stays : (p : Port) (b : ℕ) → p.bad ≡ true → grown p b ≡ p
unfolding grown
bad_stays p b e = rw e

-- ---- typed bytes

-- the first and the last byte that is typed, between those that are not
pub typed_ends : map is_typed (31 ∷ 32 ∷ 126 ∷ 127 ∷ []) ≡ false ∷ true ∷ true ∷ false ∷ []
typed_ends = refl

pub space_dropped : (p : Port) → typed_one p 32 ≡ settled p
unfolding typed_one
space_dropped p = refl

-- an 81st character makes the line bad
pub full_spoils : (p : Port) (b : ℕ) → eqb b space ≡ false → p.bad ≡ false → 80 ≤ p.len → typed_one p b ≡ spoilt (settled p)
unfolding typed_one grown
full_spoils p b c e h = rw (c, e, le-ltb p.len 80 h)

-- the stream stopped, and no mark of a CR
abbrev Still : Port → Type 0
Still p = (p.interval ≡ 0) × (p.ended ≡ false)

one_settles : (p : Port) (b : ℕ) → Still (typed_one p b)
unfolding typed_one grown
one_settles p b =
    let q = settled p in
    cond_cases Still (eqb b space) q _ (λ _. (refl, refl))
    (λ _. cond_cases Still q.bad q _ (λ _. (refl, refl)) (λ _. cond_cases Still (ltb q.len 80) _ (spoilt q) (λ _. (refl, refl)) (λ _. (refl, refl))))

all_settle : (bs : List ℕ) (p : Port) → Still p → Still (typed_all p bs)
unfolding typed_all
all_settle [] p h = h
all_settle (b ∷ bs) p h = all_settle bs (typed_one p b) (one_settles p b)

pub typed_settles : (p : Port) (b : ℕ) (bs : List ℕ) → Still (typed_all p (b ∷ bs))
unfolding typed_all
typed_settles p b bs = all_settle bs (typed_one p b) (one_settles p b)

-- ---- a tick

-- the last tick of an interval: a line is due, and the count begins anew
pub tick_due : (p : Port) → p.ticks + 1 ≡ p.interval → ticked p ≡ record { port = with_stream p p.interval 0; due = true }
unfolding ticked
tick_due p e = rw (ne_eqb p.interval 0 (λ (z : p.interval ≡ 0). omega (arith, e)), le-ltb (p.ticks + 1) p.interval (omega arith))

-- ---- the limits

pub unused_refused : (model : Model) (p : Port) → every (in_range 0 0) (drop p.len p.line) ≡ false → port_within model p ≡ false
unfolding port_within line_within
unused_refused model p e =
    rw (e, and-false (every (in_range 33 126) (take p.len p.line)), and-false (leb p.len 80))

pub full_count_refused : (model : Model) (p : Port) → 1 ≤ p.interval → p.ticks ≡ p.interval → port_within model p ≡ false
unfolding port_within
full_count_refused model p h e =
    rw (ne_eqb p.interval 0 (λ (z : p.interval ≡ 0). omega arith), le-ltb p.ticks p.interval (omega arith), and-false (is_interval p.interval), and-false (line_within p))
