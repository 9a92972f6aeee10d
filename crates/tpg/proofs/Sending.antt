-- Nothing that is sent is longer than the room that is asked for.
use Rattle.std.specs.Prelude.{Ok, Err}
use Prim.Native.Nat.{ℕ, ◌≤◌}
use mathlib.Core.Bool.{Bool, true, false}
use native.Mathlib.Omega.{arith}
use lib.ListN.{length}
use Rattle.ports.specs.Stream.{ticked}
use Rattle.ports.specs.declared.Event.{Event}
use Rattle.ports.specs.declared.Event.TheVariants.{Silent, Line, Reply}
use Rattle.instrument.specs.declared.Instrument.{Instrument}
use Rattle.instrument.proofs.Lengths.{reply_length, stream_length}
use Rattle.tpg.specs.Answers.{least_output}
use Rattle.tpg.specs.Steps.{line_text, event_text, hearing, sent}
use Rattle.tpg.specs.Calls.{due_text, tick_text}
use Rattle.tpg.specs.declared.State.{State}
use Rattle.lines.specs.declared.verdict.Order.TheVariants.{Asks, Writes}
use Rattle.lines.specs.Verdicts.{Verdict}

verdict_length : (v : Verdict) → length (line_text v) ≤ least_output
verdict_length (Ok (Asks m)) = omega arith
verdict_length (Ok (Writes m r)) = omega arith
verdict_length (Err x) = omega arith

pub event_length : (s : Instrument) (e : Event) → length (event_text s e) ≤ least_output
unfolding event_text
event_length s Silent = omega arith
event_length s (Line v) = verdict_length v
event_length s (Reply m error) = reply_length s error m

pub sent_length : (s : State) (b : ℕ) → length (sent s b) ≤ least_output
unfolding sent
sent_length s b = event_length s.instrument (hearing s b).event

pub due_length : (s : Instrument) (due : Bool) → length (due_text s due) ≤ least_output
due_length s true = stream_length s
due_length s false = omega arith

pub tick_length : (s : State) → length (tick_text s) ≤ least_output
unfolding tick_text
tick_length s = due_length s.instrument (ticked s.port).due
