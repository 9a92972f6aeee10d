-- The line of a host (01, "Bytes from the host").
use Rattle.std.specs.Prelude.{ℕ, ◌+◌, List, [], Bool, true, false, cond, not, ◌&&◌, set, take, replicate, eqb, ltb}
use Rattle.ports.specs.declared.Port.{Port}

-- a new line: "eighty zeros"
abbrev pub blank : List ℕ
blank = replicate 80 0

-- the port with another line
abbrev pub with_line : Port → List ℕ → ℕ → Bool → Port
with_line p line len bad = record { line = line; len = len; bad = bad; ended = p.ended; selection = p.selection; error = p.error; interval = p.interval; ticks = p.ticks }

-- "ETX empties the line, a bad one too"
abbrev pub emptied : Port → Port
emptied p = with_line p blank 0 false

-- "makes it bad: it then holds nothing"
abbrev pub spoilt : Port → Port
spoilt p = with_line p blank 0 true

-- "A line holds up to 80 characters", "An 81st .. makes it bad"; a bad one takes no more
unfoldable pub grown : Port → ℕ → Port
grown p b = cond p.bad p (cond (ltb p.len 80) (with_line p (set p.line p.len b) (p.len + 1) p.bad) (spoilt p))

-- the characters of the line; a bad one "holds nothing"
abbrev pub held : Port → List ℕ
held p = cond p.bad [] (take p.len p.line)

-- "an empty line"
abbrev pub is_empty : Port → Bool
is_empty p = not p.bad && eqb p.len 0
