-- Demand 2: host bytes in any pieces, over any calls with any outputs, are answered as the bytes are.
use Prim.Native.Nat.{ℕ, suc, ◌+◌, ◌-◌, ◌*◌, ◌≤◌, ◌<◌}
use mathlib.Core.Path.{◌≡◌, refl, sym, ap, ◌∙◌}
use mathlib.Core.List.{List, [], ◌∷◌, ◌++◌, append_assoc, append-nil}
use mathlib.Core.Bool.{Bool, true, false, cond}
use mathlib.Core.Logic.{⊎_elim}
use native.Mathlib.Omega.{arith}
use native.Mathlib.Nat.{min-le_left}
use borrow.Author.Tests.{le-leb, lt-leb}
use lib.ListN.{length, take, drop, length-take, length-append, take-append-drop}
use lib.Seq.{take-take, take-length, drop-length}
use Rattle.ground.proofs.Cases.{below}
use Rattle.tpg.specs.Answers.{number, answer, handed, done, least_output}
use Rattle.tpg.specs.States.{state_within, Sound}
use Rattle.tpg.specs.Steps.{next, sent, after, said, taken}
use Rattle.tpg.specs.Calls.{admits, turned_away, roomed, roomed_bytes, byte_taken, hosted, host_text, host_call, host_bytes}
use Rattle.tpg.specs.declared.State.{State}
use Rattle.tpg.proofs.Counts.{taken_few, all_taken}
use Rattle.tpg.proofs.HostRun.{after_append, said_append}
use Rattle.tpg.proofs.StateLimits.{next_sound}
use Rattle.demands.specs.Calls.{byte, host, outcome}
use Rattle.demands.specs.Turns.{Turn, piece, turned, left, received, reached, one_by_one, sent_one_by_one}
use Rattle.demands.proofs.Called.{table_holds}

-- what was sent and what is still to be sent for the rest of the bytes are what all of them make the box send; so is the state after the rest
abbrev pub Continues : State → List ℕ → List ℕ → State → List ℕ → Type 0
Continues s bytes sent now rest = (sent ++ said now rest ≡ said s bytes) × (after now rest ≡ after s bytes)

module _ (s : State) (bytes : List ℕ) where
  -- some bytes, and then the others
  parted : (n : ℕ) → Continues s bytes (said s (take n bytes)) (after s (take n bytes)) (drop n bytes)
  parted n =
      let all = take-append-drop n bytes in
      (sym (said_append (take n bytes) (drop n bytes) s) ∙ ap (said s) all, sym (after_append (take n bytes) (drop n bytes) s) ∙ ap (after s) all)

  -- the bytes that are taken of a piece are the first of all
  of_piece : (t : Turn) → let n = taken s (piece bytes t) t.room in take n (piece bytes t) ≡ take n bytes
  of_piece t = take-take (taken s (piece bytes t) t.room) t.given bytes
      (omega (arith, taken_few (piece bytes t) s t.room, length-take t.given bytes, min-le_left t.given (length bytes)))

  -- one call: a refused one takes nothing and sends nothing
  one : (t : Turn) → Continues s bytes (host_bytes s (piece bytes t) t.room) (turned s bytes t).state (drop (turned s bytes t).taken bytes)
  unfolding roomed roomed_bytes turned_away hosted
  one t = by (admits s least_output t.room) (state_within s)
    where
      by : (a b : Bool) → let o = cond a (hosted s (piece bytes t) t.room) (cond b (handed (answer 3) s) (handed (answer 1) s)) in
          Continues s bytes (cond a (host_text s (piece bytes t) t.room) []) o.state (drop o.taken bytes)
      by true b = rw (of_piece t) (parted (taken s (piece bytes t) t.room))
      by false true = (refl, refl)
      by false false = (refl, refl)

-- after any calls, whether every byte is taken or not
pub turns_continue : (ts : List Turn) (s : State) (bytes : List ℕ) → Continues s bytes (received s bytes ts) (reached s bytes ts) (left s bytes ts)
unfolding received reached left
turns_continue [] s bytes = (refl, refl)
turns_continue (t ∷ ts) s bytes =
    let now = (turned s bytes t).state in
    let rest = drop (turned s bytes t).taken bytes in
    let first = one s bytes t in
    let others = turns_continue ts now rest in (
      append_assoc (host_bytes s (piece bytes t) t.room) (received now rest ts) (said (reached now rest ts) (left now rest ts)) ∙ rw others.0 first.0,
      others.1 ∙ first.1,
    )

-- once every byte is taken, the replies and the state are those of the bytes
pub split : (s : State) (bytes : List ℕ) (ts : List Turn) → left s bytes ts ≡ [] → (received s bytes ts ≡ said s bytes) × (reached s bytes ts ≡ after s bytes)
unfolding said after
split s bytes ts none =
    let all : Continues s bytes (received s bytes ts) (reached s bytes ts) [] = rw none at (turns_continue ts s bytes) in
    (sym (append-nil (received s bytes ts)) ∙ all.0, all.1)

-- any two ways of handing the bytes over bring the same replies and the same state
pub splits_agree : (s : State) (bytes : List ℕ) (ts us : List Turn) → left s bytes ts ≡ [] → left s bytes us ≡ []
    → (received s bytes ts ≡ received s bytes us) × (reached s bytes ts ≡ reached s bytes us)
splits_agree s bytes ts us e f =
    let a = split s bytes ts e in
    let b = split s bytes us f in
    (a.0 ∙ sym b.0, a.1 ∙ sym b.1)

-- there is such a way: one call with 64 bytes of output for each byte takes all
pub one_turn : (s : State) → state_within s ≡ true → (bytes : List ℕ) (room : ℕ) → least_output ≤ room → least_output * length bytes ≤ room
    → left s bytes (record { given = length bytes; room = room } ∷ []) ≡ []
unfolding left roomed admits hosted
one_turn s w bytes room least h =
    rw (w, le-leb least_output room least, take-length bytes, all_taken bytes s room h) (drop-length bytes)

-- ---- byte by byte

-- a byte that is refused ends the run, as no room for it does
module _ (s : State) (within : state_within s ≡ true) (b : ℕ) (bs : List ℕ) where
  no_room : (room : ℕ) → room < least_output
      → (hosted s (b ∷ bs) room ≡ one_by_one s (b ∷ bs) room) × (host_text s (b ∷ bs) room ≡ sent_one_by_one s (b ∷ bs) room)
  unfolding hosted taken after said one_by_one sent_one_by_one roomed roomed_bytes admits turned_away
  no_room room h = rw (within, lt-leb least_output room h) (refl, refl)

  some_room : (room : ℕ) → least_output ≤ room
      → let rest = room - length (sent s b) in
      (hosted (next s b) bs rest ≡ one_by_one (next s b) bs rest) × (host_text (next s b) bs rest ≡ sent_one_by_one (next s b) bs rest)
      → (hosted s (b ∷ bs) room ≡ one_by_one s (b ∷ bs) room) × (host_text s (b ∷ bs) room ≡ sent_one_by_one s (b ∷ bs) room)
  unfolding hosted taken after said one_by_one sent_one_by_one roomed roomed_bytes admits byte_taken
  some_room room h others =
      let n = taken (next s b) bs (room - length (sent s b)) in
      let one : suc n ≡ 1 + n = omega arith in
      rw (within, le-leb least_output room h, ← others.0, ← others.1, length-append (sent s b) (said (next s b) (take n bs)))
      ((λ i. done (after (next s b) (take n bs)) (one i) (length (sent s b) + length (said (next s b) (take n bs)))), refl)

-- the call for host bytes is the call for one byte, byte after byte
run_by_one : (input : List ℕ) (s : State) → Sound s → (room : ℕ) → (hosted s input room ≡ one_by_one s input room) × (host_text s input room ≡ sent_one_by_one s input room)
unfolding hosted taken after said one_by_one sent_one_by_one
run_by_one [] s k room = (refl, refl)
run_by_one (b ∷ bs) s k room =
    ⊎_elim (no_room s k.within b bs room)
    (λ (h : least_output ≤ room). some_room s k.within b bs room h (run_by_one bs (next s b) (next_sound s b k) (room - length (sent s b)))) (below room least_output)

pub host_by_one : (s : State) → Sound s → (input : List ℕ) (room : ℕ) → least_output ≤ room
    → (host_call s input room ≡ one_by_one s input room) × (host_bytes s input room ≡ sent_one_by_one s input room)
unfolding roomed roomed_bytes admits
host_by_one s k input room h = rw (k.within, le-leb least_output room h) (run_by_one input s k room)

-- where that output is too short, or the state is broken, both calls refuse alike
pub refused_alike : (s : State) (b : ℕ) (bs : List ℕ) (room : ℕ) → number (outcome s (byte b room)).answer ≡ number (outcome s (host (b ∷ bs) room)).answer
refused_alike s b bs room = table_holds s (byte b room) ∙ sym (table_holds s (host (b ∷ bs) room))
