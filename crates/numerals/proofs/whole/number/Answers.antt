-- `whole::number`: what a number that was read tells of the bytes and of itself.
use Rattle.std.specs.Prelude.{Some}
use mathlib.Core.Path.{◌≡◌}
use borrow.Author.Rules.{rules}
use Rattle.numerals.specs.Whole.{number_of}
use Rattle.numerals.proofs.Wholes.{Read, number_read}
use Rattle.numerals.proofs.whole.number.Goals as goal
use Rattle.numerals.proofs.whole.number.Goals.{After-value}

read : (c : After-value) → Read c.args.most c.args.s.now c.value.result
unfolding number_of
read c =
    let e : number_of c.args.most c.args.s.now ≡ Some c.value.result = search rules in
    number_read c.args.most c.args.s.now c.value.result e

pub returns-then-contains-clause-bound : goal.returns-then-contains-clause-bound
returns-then-contains-clause-bound c = (read (goal.at.returns-then-contains-clause-bound c).After-value).small

pub returns-then-contains-clause-few : goal.returns-then-contains-clause-few
returns-then-contains-clause-few c =
    let r = read (goal.at.returns-then-contains-clause-few c).After-value in
    (r.some, r.few)
