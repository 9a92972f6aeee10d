-- Whole numbers and factors (01, "Settings").
use Rattle.std.specs.Prelude.{ℕ, ◌+◌, ◌-◌, ◌*◌, ◌^◌, List, cond, ◌&&◌, length, drop, eqb, Option, Some, None}
use Prim.Native.Char.{code}
use Rattle.numerals.specs.Runs.{lead, rest, head_is, length_in, value}

-- 01's error word for each case: 0001, syntax, for a fault of form
abbrev pub numeral_fault : Option ℕ → ℕ
numeral_fault (Some n) = 0
numeral_fault None = 1

-- one to `most` digits and nothing behind them
unfoldable pub number_of : ℕ → List ℕ → Option ℕ
number_of most s = cond (eqb (length (rest s)) 0 && length_in 1 most (lead s)) (Some (value 0 (lead s))) None

-- "A whole number is one to three digits."
abbrev pub whole_of : List ℕ → Option ℕ
whole_of s = number_of 3 s

-- n, and k digits behind the point that make m, in thousandths
abbrev pub thousandths : ℕ → ℕ → Option ℕ → Option ℕ
thousandths n k (Some m) = Some (n * 1000 + m * 10 ^ (3 - k))
thousandths n k None = None

-- n, and what follows its digits: nothing, or a point and one to three digits
unfoldable pub behind_point : ℕ → List ℕ → Option ℕ
behind_point n s =
    cond (eqb (length s) 0) (Some (n * 1000))
    (cond (head_is (code ".") s) (thousandths n (length (drop 1 s)) (number_of 3 (drop 1 s))) None)

-- "A factor is one or two digits, then optionally a point and one to three digits." In thousandths.
unfoldable pub factor_of : List ℕ → Option ℕ
factor_of s = cond (length_in 1 2 (lead s)) (behind_point (value 0 (lead s)) (rest s)) None
