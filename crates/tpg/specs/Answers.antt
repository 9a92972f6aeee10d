-- The answers of the calls (01, "Answer numbers of the calls").
use Rattle.std.specs.Prelude.{ℕ, List, [], ◌∷◌}
use Rattle.ground.specs.Members.{by_number}
use Rattle.tpg.specs.declared.State.{State}
use Rattle.tpg.specs.declared.answers.Answer.{Answer}
use Rattle.tpg.specs.declared.answers.Answer.TheVariants.{Accepted, BrokenState, NoModel, ShortOutput, NoChannel, BadReading}
use Rattle.tpg.specs.declared.answers.Outcome.{Outcome}

-- the table's column "No."
abbrev pub number : Answer → ℕ
number Accepted = 0
number BrokenState = 1
number NoModel = 2
number ShortOutput = 3
number NoChannel = 4
number BadReading = 5

-- the answer of a number: `answer 5` is one; `answer 6`, which the table does not have, is of another type
abbrev pub table : List Answer
table = Accepted ∷ BrokenState ∷ NoModel ∷ ShortOutput ∷ NoChannel ∷ BadReading ∷ []

abbrev pub answer : (n : ℕ) → (by_number number table n).0
answer n = (by_number number table n).1

-- "that state, counts 0"
abbrev pub handed : Answer → State → Outcome
handed a s = record { answer = a; state = s; taken = 0; written = 0 }

-- "new state, counts, bytes written"
abbrev pub done : State → ℕ → ℕ → Outcome
done s taken written = record { answer = answer 0; state = s; taken = taken; written = written }

-- "output shorter than 64 bytes", and "at least 64 output bytes are free before the byte"
abbrev pub least_output : ℕ
least_output = 64
