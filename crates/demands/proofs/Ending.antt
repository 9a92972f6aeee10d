-- What stands in a port of a line, and what ends it: its CR, an LF and the ENQ behind it, the ETX before it.
use Rattle.std.specs.Prelude.{Option, Some, None, Ok, Err}
use Prim.Native.Nat.{ℕ}
use mathlib.Core.Path.{◌≡◌, refl, ap}
use mathlib.Core.List.{List, []}
use mathlib.Core.Bool.{Bool, true, false, cond, ◌&&◌, and-false}
use lib.ListN.{length, take}
use lib.Dec.{eqb}
use Rattle.ground.proofs.Cases.{cond_cases}
use Rattle.text.specs.Control.{etx, enq, lf, cr}
use Rattle.settings.specs.Rows.{first_number}
use Rattle.settings.specs.Mnemonics.{same, is_err}
use Rattle.settings.specs.declared.model.Model.{Model}
use Rattle.settings.specs.declared.mnemonic.Query.TheVariants.{Sps, Pr, Prx, Tid, Ayt, Pnr, Err as ErrQuery}
use Rattle.settings.specs.declared.mnemonic.Replying.{Replying}
use Rattle.settings.specs.declared.mnemonic.Replying.TheVariants.{OfSetting, Cf, OfQuery}
use Rattle.settings.specs.declared.mnemonic.Mnemonic.{Mnemonic}
use Rattle.settings.specs.declared.mnemonic.Mnemonic.TheVariants.{OfReplying, Com, Sav}
use Rattle.settings.specs.declared.rows.Row.{Row}
use Rattle.lines.specs.Words.{no_error, gathered}
use Rattle.lines.specs.Judging.{judged}
use Rattle.lines.specs.declared.word.Word.{Word}
use Rattle.ports.specs.Line.{emptied, held, is_empty}
use Rattle.ports.specs.Stream.{interval_of, with_stream, begun}
use Rattle.ports.specs.Hearing.{kind_of, with_mark, with_choice, selected, concluded, by_selection, replied, asked, quiet, by_kind, heard}
use Rattle.ports.specs.Walk.{settled}
use Rattle.ports.specs.declared.Heard.{Heard}
use Rattle.ports.specs.declared.Port.{Port}
use Rattle.instrument.specs.Events.{applied}
use Rattle.instrument.specs.Replies.{reply_text}
use Rattle.instrument.specs.declared.Instrument.{Instrument}
use Rattle.tpg.specs.Steps.{line_text, event_text, acted, next, sent}
use Rattle.tpg.specs.declared.State.{State}
use Rattle.demands.specs.Wire.{choice, enq_text, gathering, tells_error}
use Rattle.lines.specs.declared.verdict.Order.TheVariants.{Asks, Writes}
use Rattle.lines.specs.Verdicts.{Verdict}

-- ---- what a line is in a port

-- the port holds the line, with a selection and an error word beside it
pub record Line (p : Port) (l : List ℕ) (selection : Option Replying) (error : Word) : Type 0 where
  pub good : p.bad ≡ false
  pub count : p.len ≡ length l
  pub text : take p.len p.line ≡ l
  pub places : length p.line ≡ 80
  pub chosen : p.selection ≡ selection
  pub word : p.error ≡ error

-- ---- its end

-- another selection and error word beside it
line_chosen : {p : Port} {l : List ℕ} {selection : Option Replying} {error : Word} → Line p l selection error → (x : Option Replying) (w v : Word) → w ≡ v → Line (with_choice p x w) l x v
line_chosen h x w v e = record { good = h.good; count = h.count; text = h.text; places = h.places; chosen = refl; word = e }

-- a line that is emptied
emptied_line : (p : Port) {selection : Option Replying} {error : Word} → p.selection ≡ selection → p.error ≡ error → Line (emptied p) [] selection error
emptied_line p chosen word = record { good = refl; count = refl; text = refl; places = refl; chosen = chosen; word = word }

-- the mark after a CR, and the stream, are no part of it
pub marked_line : {p : Port} {l : List ℕ} {selection : Option Replying} {error : Word} → Line p l selection error → (ended : Bool) → Line (with_mark p ended) l selection error
marked_line h ended = record { good = h.good; count = h.count; text = h.text; places = h.places; chosen = h.chosen; word = h.word }

streamed_line : {p : Port} {l : List ℕ} {selection : Option Replying} {error : Word} → Line p l selection error → (interval ticks : ℕ) → Line (with_stream p interval ticks) l selection error
streamed_line h interval ticks = record { good = h.good; count = h.count; text = h.text; places = h.places; chosen = h.chosen; word = h.word }

pub settled_line : {p : Port} {l : List ℕ} {selection : Option Replying} {error : Word} → Line p l selection error → Line (settled p) l selection error
settled_line h = streamed_line (marked_line h false) 0 0

line_begun : {p : Port} {l : List ℕ} {selection : Option Replying} {error : Word} (m : Mnemonic) (r : Row) → Line p l selection error → Line (begun p m r) l selection error
line_begun (OfReplying a) r h = h
line_begun Com r h = streamed_line h (interval_of (first_number r)) 0
line_begun Sav r h = h

line_concluded : {p : Port} {selection : Option Replying} {error : Word} → Line p [] selection error → (v : Verdict) → Line (concluded p v) [] (choice v) (gathering error v)
unfolding concluded
line_concluded {p} {selection} {error} h (Ok (Asks a)) = line_chosen h (Some a) p.error error h.word
line_concluded {p} {selection} {error} h (Ok (Writes m r)) = line_begun m r (line_chosen h (selected m) p.error error h.word)
line_concluded {p} {selection} {error} h (Err x) =
    line_chosen h None (gathered p.error x) (gathered error x) (ap (λ (w : Word). gathered w x) h.word)

-- ---- one byte that is no character: CR, ENQ, ETX, LF

-- straight after a CR or not, it is no LF
no_lf : (model : Model) (p : Port) (b : ℕ) → eqb b lf ≡ false → heard model p b ≡ by_kind model (kind_of b) (settled p) b
unfolding heard
no_lf model p b e = rw (e, and-false p.ended)

-- what a line comes to: what is sent, the instrument, and the port with an empty line again
pub record Judged (s : Instrument) (error : Word) (v : Verdict) (bytes : List ℕ) (next : State) : Type 0 where
  pub reply : bytes ≡ line_text v
  pub instrument : next.instrument ≡ applied s v
  pub line : Line next.port [] (choice v) (gathering error v)

-- what the port holds when a line ends, be it good or bad, with its selection and error word
pub record Held (p : Port) (l : List ℕ) (selection : Option Replying) (error : Word) : Type 0 where
  pub text : held p ≡ l
  pub chosen : p.selection ≡ selection
  pub word : p.error ≡ error

pub held_line : {p : Port} {l : List ℕ} {selection : Option Replying} {error : Word} → Line p l selection error → Held p l selection error
held_line h = record { text = rw h.good h.text; chosen = h.chosen; word = h.word }

-- the error word after an ENQ on an empty line: it is gone where it was sent
abbrev pub word_left : Word → Option Replying → Word
word_left error selection = cond (tells_error selection) no_error error

-- a reply tells the error word only where it is ERR's or stands for none, and then the word is gone
pub reply_without_word : (s : Instrument) (error : Word) (selection : Option Replying) → enq_text s selection (word_left error selection) ≡ enq_text s selection no_error
unfolding reply_text is_err same
reply_without_word s error None = refl
reply_without_word s error (Some (OfSetting x)) = refl
reply_without_word s error (Some (Cf k)) = refl
reply_without_word s error (Some (OfQuery Sps)) = refl
reply_without_word s error (Some (OfQuery (Pr k))) = refl
reply_without_word s error (Some (OfQuery Prx)) = refl
reply_without_word s error (Some (OfQuery Tid)) = refl
reply_without_word s error (Some (OfQuery Ayt)) = refl
reply_without_word s error (Some (OfQuery Pnr)) = refl
reply_without_word s error (Some (OfQuery ErrQuery)) = refl

-- it is gone for good
pub word_stays_gone : (error : Word) (selection : Option Replying) → word_left (word_left error selection) selection ≡ word_left error selection
word_stays_gone error selection = by (tells_error selection)
  where
    by : (t : Bool) → cond t no_error (cond t no_error error) ≡ cond t no_error error
    by true = refl
    by false = refl

pub record Replied (s : Instrument) (error : Word) (selection : Option Replying) (bytes : List ℕ) (next : State) : Type 0 where
  pub reply : bytes ≡ enq_text s selection error
  pub instrument : next.instrument ≡ s
  pub line : Line next.port [] selection (word_left error selection)

replied_line : {p : Port} {m : Replying} {error : Word} → Line p [] (Some m) error → Line (replied p m).port [] (Some m) (cond (is_err m) no_error error)
replied_line {p} {m} {error} h = by (is_err m)
  where
    by : (t : Bool) → Line (cond t (with_choice p (Some m) no_error) p) [] (Some m) (cond t no_error error)
    by true = line_chosen h (Some m) no_error no_error refl
    by false = h

asked_empty : {p : Port} {selection : Option Replying} {error : Word} → Line p [] selection error → asked p ≡ by_selection p selection
unfolding asked
asked_empty {p} h = let empty : is_empty p ≡ true = rw (h.good, h.count) in rw empty (ap (by_selection p) h.chosen)

answered_line : (s : Instrument) {p : Port} {selection : Option Replying} {error : Word} → Line p [] selection error
    → (event_text s (by_selection p selection).event ≡ enq_text s selection error) × (acted s (by_selection p selection).event ≡ s) × Line (by_selection p selection).port [] selection (word_left error selection)
unfolding event_text
answered_line s {p} {selection = None} h = (ap (λ (w : Word). reply_text s w (OfQuery ErrQuery)) h.word, refl, line_chosen (emptied_line p h.chosen h.word) None no_error no_error refl)
answered_line s {selection = Some m} h = (ap (λ (w : Word). reply_text s w m) h.word, refl, replied_line h)

module _ (s : State) where
  pub cr_judges : {l : List ℕ} {selection : Option Replying} {error : Word} → Held s.port l selection error
      → Judged s.instrument error (judged s.instrument.model l) (sent s cr) (next s cr)
  unfolding next sent event_text by_kind kind_of
  cr_judges {l} h =
      rw (no_lf s.instrument.model s.port cr refl, h.text)
      (record { reply = refl; instrument = refl; line = line_concluded (marked_line (emptied_line (settled s.port) h.chosen h.word) true) (judged s.instrument.model l) })

  pub enq_replies : {selection : Option Replying} {error : Word} → Line s.port [] selection error → Replied s.instrument error selection (sent s enq) (next s enq)
  unfolding next sent event_text by_kind kind_of
  enq_replies {selection} {error} h =
      rw (no_lf s.instrument.model s.port 5 refl, asked_empty (settled_line h))
      (let a = answered_line s.instrument (settled_line h) in record { reply = a.0; instrument = a.1; line = a.2 })

  -- an LF, straight after a CR or not, sends nothing and leaves the line as it is
  pub lf_nothing : {l : List ℕ} {selection : Option Replying} {error : Word} → Line s.port l selection error
      → (sent s lf ≡ []) × ((next s lf).instrument ≡ s.instrument) × Line (next s lf).port l selection error
  unfolding next sent event_text heard by_kind kind_of
  lf_nothing {l} {selection} {error} h =
      cond_cases (λ (x : Heard). (event_text s.instrument x.event ≡ []) × (acted s.instrument x.event ≡ s.instrument) × Line x.port l selection error) (s.port.ended && eqb 10 10)
      (quiet (with_mark s.port false)) (quiet (settled s.port)) (λ _. (refl, refl, marked_line h false)) (λ _. (refl, refl, settled_line h))

  pub etx_empties : (sent s etx ≡ []) × ((next s etx).instrument ≡ s.instrument) × Line (next s etx).port [] None s.port.error
  unfolding next sent event_text by_kind kind_of
  etx_empties =
      rw (no_lf s.instrument.model s.port 3 refl)
      (refl, refl, record { good = refl; count = refl; text = refl; places = refl; chosen = refl; word = refl })
