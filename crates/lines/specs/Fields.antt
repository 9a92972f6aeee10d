-- One field: what each kind reads, and what it writes (01, "Settings" and "Bytes from the host").
use Rattle.std.specs.Prelude.{ℕ, List, cond, Option, Some, None, Result, Ok, Err}
use Rattle.ground.specs.Ranges.{in_range}
use Rattle.text.specs.Digits.{whole_text, factor_text}
use Rattle.numbers.specs.declared.threshold.Threshold.{Threshold}
use Rattle.numerals.specs.Whole.{numeral_fault, whole_of, factor_of}
use Rattle.numerals.specs.Exponential.{threshold_fault, threshold_of}
use Rattle.numerals.specs.Writing.{threshold_text}
use Rattle.settings.specs.Rows.{plain}
use Rattle.settings.specs.declared.table.Limits.{Limits}
use Rattle.settings.specs.declared.table.Kind.{Kind}
use Rattle.settings.specs.declared.table.Kind.TheVariants.{OfWhole, OfFactor, OfThreshold}
use Rattle.lines.specs.Words.{fault}
use Rattle.numerals.specs.declared.exponential.ThresholdFault.{ThresholdFault}
use Rattle.numerals.specs.declared.exponential.ThresholdFault.TheVariants.{Malformed, OutOfRange}
use Rattle.lines.specs.Verdicts.{Field}

-- "value of every field .., 0010, or 0100 where it needs channel 2 on a 361": above the model's most, and not above what two channels have
unfoldable pub limited : Limits → ℕ → Field
limited l n =
    cond (in_range l.least l.most n) (Ok (plain n))
    (cond (in_range l.least l.paired n) (Err (fault 100)) (Err (fault 10)))

-- a number, or the error word of what is none
abbrev pub ranged : Limits → Option ℕ → Field
ranged l None = Err (fault (numeral_fault None))
ranged l (Some n) = limited l n

-- "zero, or a result outside 1.0000E-20 to 9.9999E+20, is 0010"
abbrev pub threshold_field : Result Threshold ThresholdFault → Field
threshold_field (Err Malformed) = Err (fault (threshold_fault (Err Malformed)))
threshold_field (Err OutOfRange) = Err (fault (threshold_fault (Err OutOfRange)))
threshold_field (Ok t) = Ok t

-- a field read by its kind
abbrev pub read : Kind → List ℕ → Field
read (OfWhole l) t = ranged l (whole_of t)
read (OfFactor l) t = ranged l (factor_of t)
read OfThreshold t = threshold_field (threshold_of t)

-- "Replies: whole numbers without leading zeros, factors as 1.000, thresholds as d.ddddE, sign, two digits"
abbrev pub write : Kind → Threshold → List ℕ
write (OfWhole l) c = whole_text c.mantissa
write (OfFactor l) c = factor_text c.mantissa
write OfThreshold c = threshold_text c
