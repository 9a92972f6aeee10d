-- `runs::digits`: the run ends where the first byte that is no digit stands, or with the bytes.
use Rattle.std.proofs.Common.{◌≡◌, not, length, rules, tests, ◌∙◌, sym}
use Rattle.std.proofs.lemmas.Iterator.{YieldsList-from_slice}
use Rattle.std.proofs.lemmas.Iterator.Search.{position_from_yields_List}
use Rattle.numerals.specs.Runs.{is_digit, lead}
use Rattle.numerals.proofs.DigitRuns.{lead_found, lead_take, rest_drop}
use Rattle.numerals.proofs.runs.digits.Goals as goal
use Rattle.numerals.proofs.runs.digits.Goals.{After-unwrap_or-end}

end-is : (c : goal.After-unwrap_or-end) → c.unwrap_or-end.result ≡ length (lead c.args.s.now)
end-is c =
    let s = c.args.s.now in
    let found = position_from_yields_List (λ b. not (is_digit b)) _ _ c.position.result c.position.ensures.ran (YieldsList-from_slice s cc) (λ x b q k. search (rules, tests)) in
    c.unwrap_or-end.ensures ∙ lead_found c.position.result s found

pub returns-clause-lead : goal.returns-clause-lead
returns-clause-lead c =
    let e = end-is (goal.at.returns-clause-lead c).After-unwrap_or-end in
    c.split_at.ensures.front ∙ rw e (sym (lead_take c.args.s.now))

pub returns-clause-rest : goal.returns-clause-rest
returns-clause-rest c =
    let e = end-is (goal.at.returns-clause-rest c).After-unwrap_or-end in
    c.split_at.ensures.back ∙ rw e (sym (rest_drop c.args.s.now))
