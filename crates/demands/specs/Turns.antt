-- Host bytes handed over in pieces (01, "Answer numbers of the calls": "Taking host bytes answers how many were taken and written").
use Rattle.std.specs.Prelude.{ℕ, ◌+◌, ◌-◌, ◌≡◌, List, [], ◌∷◌, ◌++◌, cond, eqb, take, drop}
use Rattle.tpg.specs.Answers.{number, answer, handed}
use Rattle.tpg.specs.Calls.{byte_call, byte_bytes, host_call, host_bytes}
use Rattle.tpg.specs.States.{Sound}
use Rattle.tpg.specs.declared.State.{State}
use Rattle.tpg.specs.declared.answers.Outcome.{Outcome}

-- one call of the host: how many of the bytes that it still has it hands over, and how long the output is that it lends
pub record Turn : Type 0 where
  pub given : ℕ
  pub room : ℕ

-- the piece that is handed over
abbrev pub piece : List ℕ → Turn → List ℕ
piece bytes t = take t.given bytes

-- the call
abbrev pub turned : State → List ℕ → Turn → Outcome
turned s bytes t = host_call s (piece bytes t) t.room

-- what the host still has after its calls: each takes some bytes off the front
unfoldable pub left : State → List ℕ → List Turn → List ℕ
left s bytes [] = bytes
left s bytes (t ∷ ts) = left (turned s bytes t).state (drop (turned s bytes t).taken bytes) ts

-- all that is sent to it
unfoldable pub received : State → List ℕ → List Turn → List ℕ
received s bytes [] = []
received s bytes (t ∷ ts) = host_bytes s (piece bytes t) t.room ++ received (turned s bytes t).state (drop (turned s bytes t).taken bytes) ts

-- the box after them
unfoldable pub reached : State → List ℕ → List Turn → State
reached s bytes [] = s
reached s bytes (t ∷ ts) = reached (turned s bytes t).state (drop (turned s bytes t).taken bytes) ts

-- a host's way of handing over whatever it has to send: by its calls every byte is taken in the end
pub record Plan : Type 0 where
  pub turns : State → List ℕ → List Turn
  pub all : (s : State) → Sound s → (bytes : List ℕ) → left s bytes (turns s bytes) ≡ []

-- what the box sends to such a host for bytes, and the box after them
abbrev pub says_over : Plan → State → List ℕ → List ℕ
says_over p s bytes = received s bytes (p.turns s bytes)

abbrev pub becomes_over : Plan → State → List ℕ → State
becomes_over p s bytes = reached s bytes (p.turns s bytes)

-- two calls as one: the state of the second, and the counts of both
abbrev pub both : Outcome → Outcome → Outcome
both o p = record { answer = p.answer; state = p.state; taken = o.taken + p.taken; written = o.written + p.written }

-- bytes taken one by one, each into what is left of the output, until one is refused
unfoldable pub one_by_one : State → List ℕ → ℕ → Outcome
one_by_one s [] room = handed (answer 0) s
one_by_one s (b ∷ bs) room =
    let o = byte_call s b room in
    cond (eqb (number o.answer) 0) (both o (one_by_one o.state bs (room - o.written))) (handed (answer 0) s)

-- and what they send
unfoldable pub sent_one_by_one : State → List ℕ → ℕ → List ℕ
sent_one_by_one s [] room = []
sent_one_by_one s (b ∷ bs) room =
    let o = byte_call s b room in
    byte_bytes s b room ++ cond (eqb (number o.answer) 0) (sent_one_by_one o.state bs (room - o.written)) []
