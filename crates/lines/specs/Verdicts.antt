-- What a field reads as, and what a line is judged to be (01, "Bytes from the host": "the first fault decides").
use Rattle.std.specs.Prelude.{Result}
use Rattle.numbers.specs.declared.threshold.Threshold.{Threshold}
use Rattle.lines.specs.declared.verdict.Fault.{Fault}
use Rattle.lines.specs.declared.verdict.Order.{Order}

-- the cell of a field, or its fault
abbrev pub Field : Type 0
Field = Result Threshold Fault

-- an accepted line asks or writes; a refused one has its first fault
abbrev pub Verdict : Type 0
Verdict = Result Order Fault
