-- Every reply has at most 64 bytes, in whatever state the box is.
use Prim.Native.Nat.{ℕ, suc, ◌*◌, ◌/◌, ◌≤◌}
use mathlib.Core.Path.{◌≡◌, refl}
use mathlib.Core.List.{List, [], ◌∷◌, ◌++◌, map}
use mathlib.Core.Bool.{true, ◌&&◌}
use native.Mathlib.Omega.{arith}
use native.Mathlib.Nat.{mul-le-mul_right, suc-mul}
use borrow.Author.Tests.{leb-true}
use lib.Dec.{leb, eqb}
use lib.IntN.{ℤ}
use lib.ListN.{length, take, length-append, length-map, length-take}
use Rattle.ground.specs.Members.{Each, every}
use Rattle.ground.proofs.Cases.{cond_cases}
use Rattle.ground.proofs.Members.{each_at, every_each}
use Rattle.text.specs.Digits.{dig, bare, whole_text}
use Rattle.text.specs.Control.{cr_lf}
use Rattle.text.proofs.Decimals.{dig_length}
use Rattle.numbers.specs.declared.threshold.Threshold.{Threshold}
use Rattle.numerals.specs.Writing.{scientific, value_text}
use Rattle.gauges.specs.Shown.{shown_of, shown_text}
use Rattle.gauges.specs.declared.shown.Shown.{Shown}
use Rattle.settings.specs.Models.{channels}
use Rattle.settings.specs.Kinds.{kind_names, kind_name}
use Rattle.settings.specs.Table.{setting_entry, kinds, cells}
use Rattle.settings.specs.Mnemonics.{setting}
use Rattle.settings.specs.declared.model.Model.{Model}
use Rattle.settings.specs.declared.mnemonic.Setting.{Setting}
use Rattle.settings.specs.declared.mnemonic.Setting.TheVariants.{Cal}
use Rattle.settings.specs.declared.mnemonic.Query.{Query}
use Rattle.settings.specs.declared.mnemonic.Query.TheVariants.{Sps, Pr, Prx, Tid, Ayt, Pnr, Err}
use Rattle.settings.specs.declared.mnemonic.Replying.{Replying}
use Rattle.settings.specs.declared.mnemonic.Replying.TheVariants.{OfSetting, Cf, OfQuery}
use Rattle.settings.specs.declared.table.Kind.{Kind}
use Rattle.settings.specs.declared.table.Kind.TheVariants.{OfWhole, OfFactor, OfThreshold}
use Rattle.settings.specs.declared.Settings.{Settings}
use Rattle.settings.proofs.Every.{tested}
use Rattle.settings.proofs.Tabled.{few_kinds}
use Rattle.lines.specs.Splitting.{joined}
use Rattle.lines.specs.Fields.{write}
use Rattle.lines.specs.Replies.{texts, setting_text}
use Rattle.lines.specs.declared.word.Word.{Word}
use Rattle.instrument.specs.Replies.{reading_at, shown_at, kind_at, each_channel, serial_text, readings_text, query_text, reply_text, stream_text}
use Rattle.instrument.specs.declared.Instrument.{Instrument}

-- ---- numbers

-- leading zeros dropped make nothing longer
bare_short : (ds : List ℕ) → length (bare ds) ≤ length ds
unfolding bare
bare_short [] = omega arith
bare_short (d ∷ ds) =
    cond_cases (λ (t : List ℕ). length t ≤ length (d ∷ ds)) (eqb d 48 && leb 1 (length ds)) (bare ds) (d ∷ ds)
    (λ _. omega (arith, bare_short ds)) (λ _. omega arith)

whole_short : (n : ℕ) → length (whole_text n) ≤ 10
whole_short n = omega (arith, bare_short (dig 10 n), dig_length 10 n)

scientific_length : (m : ℕ) (e : ℤ) → length (scientific m e) ≡ 10
unfolding scientific
scientific_length m e = refl

-- a cell, of whatever kind
write_short : (k : Kind) (c : Threshold) → length (write k c) ≤ 14
write_short (OfWhole l) c = omega (arith, whole_short c.mantissa)
write_short (OfFactor l) c = omega (arith, length-append (whole_text (c.mantissa / 1000)) (46 ∷ dig 3 c.mantissa), whole_short (c.mantissa / 1000))
write_short OfThreshold c = omega (arith, scientific_length c.mantissa c.exponent)

shown_short : (s : Shown) → length (shown_text s) ≤ 22
unfolding scientific
shown_short s = omega (arith, length-append (whole_text s.status) (44 ∷ value_text s.value), whole_short s.status)

-- ---- parts with commas between

joined_short : (n : ℕ) (fs : List (List ℕ)) → Each (λ f. length f ≤ n) fs → length (joined fs) ≤ length fs * suc n
joined_short n [] p = omega arith
joined_short n (f ∷ []) p = omega (arith, suc-mul 0 (suc n), p.0)
joined_short n (f ∷ g ∷ fs) p =
    omega (arith, length-append f (44 ∷ joined (g ∷ fs)), suc-mul (length (g ∷ fs)) (suc n), p.0, joined_short n (g ∷ fs) p.1)

-- one part for each channel
channel_short : (model : Model) (n : ℕ) (text : ℕ → List ℕ) → ((k : ℕ) → length (text k) ≤ n) → length (each_channel model text) ≤ 2 * suc n
unfolding each_channel
channel_short model n text h =
    let all : List ℕ = 0 ∷ 1 ∷ [] in
    let ks = take (channels model) all in
    let two : length (map text ks) ≤ 2 = omega (arith, length-map ks text, length-take (channels model) all) in
    omega (arith, joined_short n (map text ks) (each_text ks), mul-le-mul_right (suc n) two)
  where
    each_text : (ks : List ℕ) → Each (λ f. length f ≤ n) (map text ks)
    each_text [] = tt
    each_text (k ∷ ks) = (h k, each_text ks)

-- the cells of a setting
texts_short : (ks : List Kind) (cs : List Threshold) → Each (λ f. length f ≤ 14) (texts ks cs)
texts_short [] cs = tt
texts_short (k ∷ ks) [] = tt
texts_short (k ∷ ks) (c ∷ cs) = (write_short k c, texts_short ks cs)

texts_few : (ks : List Kind) (cs : List Threshold) → length (texts ks cs) ≤ length ks
texts_few [] cs = omega arith
texts_few (k ∷ ks) [] = omega arith
texts_few (k ∷ ks) (c ∷ cs) = omega (arith, texts_few ks cs)

-- with room for the end of the line
pub setting_short : (model : Model) (s : Settings) (x : Setting) → length (setting_text model s x) ≤ 62
unfolding setting_text
setting_short model s x =
    let ks = kinds model (setting x) in
    let cs = cells model s x in
    omega (arith, joined_short 14 (texts ks cs) (texts_short ks cs), texts_few ks cs, few_kinds ((setting_entry x).fields model))

-- ---- the other replies

kind_short : (model : Model) (k : ℕ) → length (kind_name model k) ≤ 7
unfolding every
kind_short model k =
    leb-true (length (kind_name model k)) 7
    (each_at (λ n. leb (length n) 7 ≡ true) (kind_names model) [] refl
    (every_each (λ n. leb (length n) 7) (kind_names model) (tested (λ m. every (λ n. leb (length n) 7) (kind_names m)) refl model)) k)

serial_short : (model : Model) (serial : ℕ) → length (serial_text model serial) ≤ 38
unfolding every
serial_short model serial = leb-true (length (serial_text model serial)) 38 (tested (λ m. leb (length (serial_text m serial)) 38) refl model)

ended : (t : List ℕ) → length t ≤ 62 → length (t ++ cr_lf) ≤ 64
ended t h = omega (arith, length-append t cr_lf)

module _ (s : Instrument) where
  shown_one : (k : ℕ) → length (shown_at s.settings.unit s.readings k) ≤ 22
  shown_one k = shown_short (shown_of (reading_at s.readings k) s.settings.unit)

  shown_all : length (readings_text s) ≤ 62
  shown_all = omega (arith, channel_short s.model 22 (shown_at s.settings.unit s.readings) shown_one)

  query_short : (error : Word) (q : Query) → length (query_text s error q) ≤ 62
  query_short error Sps = omega arith
  query_short error (Pr k) = omega (arith, shown_one k)
  query_short error Prx = shown_all
  query_short error Tid = omega (arith, channel_short s.model 7 (kind_at s.model s.readings) (λ k. kind_short s.model (reading_at s.readings k).kind))
  query_short error Ayt = omega (arith, serial_short s.model s.serial)
  query_short error Pnr = omega arith
  query_short error Err = omega arith

  pub reply_length : (error : Word) (a : Replying) → length (reply_text s error a) ≤ 64
  unfolding reply_text
  reply_length error (OfSetting x) = ended (setting_text s.model s.settings x) (setting_short s.model s.settings x)
  reply_length error (Cf k) = ended (setting_text s.model s.settings Cal) (setting_short s.model s.settings Cal)
  reply_length error (OfQuery q) = ended (query_text s error q) (query_short error q)

  pub stream_length : length (stream_text s) ≤ 64
  unfolding stream_text
  stream_length = ended (readings_text s) shown_all
