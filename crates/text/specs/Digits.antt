-- Numbers as decimal digits (01, "Settings": "Replies: whole numbers without leading zeros, factors as 1.000").
use Rattle.std.specs.Prelude.{ℕ, zero, suc, ◌+◌, ◌/◌, ◌%◌, ◌^◌, min, List, [], ◌∷◌, ◌++◌, Bool, cond, ◌&&◌, length, leb, eqb}
use Prim.Native.Char.{code}

-- a digit that is 0 or 1
abbrev pub binary : Bool → ℕ
binary on = cond on (code "1") (code "0")

-- the last k digits of n, the highest first
abbrev pub dig : ℕ → ℕ → List ℕ
dig zero n = []
dig (suc k) n = (48 + n / 10 ^ k % 10) ∷ dig k n

-- digits without their leading zeros; the last digit stays
unfoldable pub bare : List ℕ → List ℕ
bare [] = []
bare (d ∷ ds) = cond (eqb d (code "0") && leb 1 (length ds)) (bare ds) (d ∷ ds)

-- "whole numbers without leading zeros": of at most ten digits, as many as 32 bits hold
abbrev pub whole_text : ℕ → List ℕ
whole_text n = bare (dig 10 n)

-- a number of fixed width, with leading zeros; ten digits at most
abbrev pub padded_text : ℕ → ℕ → List ℕ
padded_text n width = dig (min width 10) n

-- "factors as 1.000", of t thousandths
abbrev pub factor_text : ℕ → List ℕ
factor_text t = whole_text (t / 1000) ++ (code "." ∷ dig 3 t)
