-- The control bytes of the mnemonics protocol, and the characters of a line (01, "Bytes from the host"; 000, "Transmission protocol").
use Rattle.std.specs.Prelude.{ℕ, List, [], ◌∷◌, Bool}
use Rattle.ground.specs.Ranges.{in_range}

abbrev pub etx : ℕ
etx = 3

abbrev pub enq : ℕ
enq = 5

abbrev pub ack : ℕ
ack = 6

abbrev pub lf : ℕ
lf = 10

abbrev pub cr : ℕ
cr = 13

abbrev pub nak : ℕ
nak = 21

abbrev pub space : ℕ
space = 32

-- "then CR LF"
abbrev pub cr_lf : List ℕ
cr_lf = cr ∷ lf ∷ []

-- not "a byte below 32 .., or one of 127 and above"; a space is not counted among them
abbrev pub is_character : ℕ → Bool
is_character = in_range 33 126
