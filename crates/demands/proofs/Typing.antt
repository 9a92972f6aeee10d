-- A line on the wire: its bytes one by one, good or bad, with its end and the ENQs behind it, and an ETX before it.
use Rattle.std.specs.Prelude.{Option, None}
use Prim.Native.Nat.{ℕ, zero, suc, ◌≤◌, ◌<◌}
use mathlib.Core.Path.{◌≡◌, refl, sym, ap, ap₂, subst, ◌∙◌}
use mathlib.Core.List.{List, [], ◌∷◌, ◌++◌, append_assoc, append-nil}
use mathlib.Core.Bool.{true, false, cond, not, and-false, and-eq-true_iff}
use mathlib.Core.Logic.{⊎_elim}
use native.Mathlib.Omega.{arith}
use native.Mathlib.Numerals.{add-one}
use borrow.Author.Tests.{lt-ltb, le-ltb, lt-leb, le-leb, eqb-true, not-true}
use lib.ListN.{length, length-set, length-append}
use lib.Seq.{take-suc-set}
use lib.Dec.{eqb}
use Rattle.ground.specs.Members.{every, Each}
use Rattle.ground.proofs.Members.{each_append, each_every}
use Rattle.ground.proofs.Cases.{below}
use Rattle.text.specs.Control.{is_character, etx, enq, lf, cr}
use Rattle.lines.specs.Words.{no_error}
use Rattle.lines.specs.Judging.{judged}
use Rattle.lines.specs.declared.word.Word.{Word}
use Rattle.ports.specs.Line.{spoilt, grown, is_empty}
use Rattle.ports.specs.Hearing.{with_mark, is_dropped}
use Rattle.ports.specs.Walk.{settled}
use Rattle.ports.specs.declared.Port.{Port}
use Rattle.ports.specs.declared.Heard.{Heard}
use Rattle.ports.specs.declared.Event.{Event}
use Rattle.ports.specs.declared.Event.TheVariants.{Silent}
use Rattle.ports.proofs.PortLimits.{inner_by}
use Rattle.ports.proofs.Instances.{bad_stays}
use Rattle.instrument.specs.Events.{applied}
use Rattle.instrument.specs.declared.Instrument.{Instrument}
use Rattle.tpg.specs.States.{Sound}
use Rattle.tpg.specs.Steps.{line_text, event_text, acted, hearing, next, sent, after, said}
use Rattle.tpg.specs.declared.State.{State}
use Rattle.tpg.proofs.HostRun.{after_append, said_append}
use Rattle.demands.specs.Wire.{Inner, undropped, is_good, line_in, End, by_cr, by_cr_lf, ended, anew, enquiries, as_often, choice, enq_text, gathering, error_left}
use Rattle.demands.proofs.Ending.{Line, marked_line, settled_line, Judged, Held, held_line, word_left, reply_without_word, word_stays_gone, cr_judges, enq_replies, lf_nothing, etx_empties}
use Rattle.lines.specs.Verdicts.{Verdict}
use Rattle.settings.specs.declared.mnemonic.Replying.{Replying}

-- ---- the bytes of a line

-- one character more
grown_line : {p : Port} {l : List ℕ} {selection : Option Replying} {error : Word} → Line p l selection error → (b : ℕ) → length l < 80 → Line (grown p b) (l ++ b ∷ []) selection error
unfolding grown
grown_line {p} {l} h b few =
    let len : p.len < 80 = omega (arith, h.count) in
    let inside : p.len < length p.line = omega (arith, h.places) in
    rw (h.good, lt-ltb p.len 80 len)
    (record {
      good = refl;
      count = omega (arith, h.count, length-append l (b ∷ []));
      text = rw (add-one p.len) (take-suc-set p.line p.len b inside ∙ ap (λ (t : List ℕ). t ++ b ∷ []) h.text);
      places = rw (length-set p.line p.len b) h.places;
      chosen = h.chosen;
      word = h.word;
    })

-- what bytes leave in a box: nothing is sent, the instrument stays, and the port holds a line
record Typed (s : State) (bytes l : List ℕ) (selection : Option Replying) (error : Word) : Type 0 where
  silent : said s bytes ≡ []
  instrument : (after s bytes).instrument ≡ s.instrument
  line : Held (after s bytes).port l selection error

module _ (s : State) (b : ℕ) (bytes l : List ℕ) (selection : Option Replying) (error : Word) where
  -- the rest of the bytes, from another port on
  abbrev Rest : Port → Type 0
  Rest p = Typed (record { instrument = s.instrument; port = p }) bytes l selection error

  abbrev Silently : Heard → Type 0
  Silently h = (h.event ≡ Silent) × Rest h.port

  first_typed : Silently (hearing s b) → Typed s (b ∷ bytes) l selection error
  unfolding said after next sent event_text
  first_typed h =
      let t = h.1 in
      let none : sent s b ≡ [] = ap (event_text s.instrument) h.0 in
      let now : next s b ≡ record { instrument = s.instrument; port = (hearing s b).port } =
      ap (λ (e : Event). record { instrument = acted s.instrument e; port = (hearing s b).port }) h.0 in
      record {
        silent = ap₂ (λ (u : List ℕ) (x : State). u ++ said x bytes) none now ∙ t.silent;
        instrument = ap (λ (x : State). (after x bytes).instrument) now ∙ t.instrument;
        line = subst (λ x. Held (after x bytes).port l selection error) (sym now) t.line;
      }

  byte_typed : Inner b → (is_dropped b ≡ true → Rest (with_mark s.port false)) → (is_dropped b ≡ true → Rest (settled s.port))
      → (is_dropped b ≡ false → is_character b ≡ true → Rest (grown (settled s.port) b))
      → (is_dropped b ≡ false → is_character b ≡ false → Rest (spoilt (settled s.port))) → Typed s (b ∷ bytes) l selection error
  byte_typed inner kept settles grows spoils =
      first_typed
      (inner_by Silently s.instrument.model s.port b inner.0 inner.1 inner.2
      (λ d. (refl, kept d)) (λ d. (refl, settles d)) (λ d c. (refl, grows d c)) (λ d c. (refl, spoils d c)))

-- a bad line
record Bad (p : Port) (selection : Option Replying) (error : Word) : Type 0 where
  bad : p.bad ≡ true
  chosen : p.selection ≡ selection
  word : p.error ≡ error

-- stays bad, and holds nothing
bad_run : (bytes : List ℕ) (s : State) {selection : Option Replying} {error : Word} → Each Inner bytes → Bad s.port selection error → Typed s bytes [] selection error
unfolding said after
bad_run [] s inner h = record { silent = refl; instrument = refl; line = record { text = rw h.bad; chosen = h.chosen; word = h.word } }
bad_run (b ∷ bytes) s {selection} {error} inner h =
    let same : Bad (settled s.port) selection error = record { bad = h.bad; chosen = h.chosen; word = h.word } in
    byte_typed s b bytes [] selection error inner.0
    (λ _. bad_run bytes _ inner.1 (record { bad = h.bad; chosen = h.chosen; word = h.word }))
    (λ _. bad_run bytes _ inner.1 same)
    (λ _ _. bad_run bytes _ inner.1 (subst (λ p. Bad p selection error) (sym (bad_stays (settled s.port) b h.bad)) same))
    (λ _ _. bad_run bytes _ inner.1 (record { bad = refl; chosen = h.chosen; word = h.word }))

-- ---- which bytes make a line bad

-- a line so far, and the bytes that are still to come
abbrev line_with : List ℕ → List ℕ → List ℕ
line_with front bytes = cond (is_good (front ++ undropped bytes)) (front ++ undropped bytes) []

no_character : (front : List ℕ) (b : ℕ) (l : List ℕ) → is_character b ≡ false → every is_character (front ++ b ∷ l) ≡ false
unfolding every
no_character [] b l e = rw e
no_character (x ∷ front) b l e = rw (no_character front b l e) (and-false (is_character x))

spoilt_bad : (front : List ℕ) (b : ℕ) (l : List ℕ) → is_character b ≡ false → is_good (front ++ b ∷ l) ≡ false
unfolding is_good
spoilt_bad front b l e = rw (no_character front b l e)

long_bad : (front : List ℕ) (b : ℕ) (l : List ℕ) → 80 ≤ length front → is_good (front ++ b ∷ l) ≡ false
unfolding is_good
long_bad front b l h =
    rw (lt-leb (length (front ++ b ∷ l)) 80 (omega (arith, length-append front (b ∷ l)))) (and-false (every is_character (front ++ b ∷ l)))

pub short_good : (front : List ℕ) → Each (λ (b : ℕ). is_character b ≡ true) front → length front ≤ 80 → is_good front ≡ true
unfolding is_good
short_good front c h = rw (each_every is_character front c, le-leb (length front) 80 h)

-- an 81st character
eighty_first_spoils : {p : Port} {l : List ℕ} {selection : Option Replying} {error : Word} → Line p l selection error → (b : ℕ) → 80 ≤ length l → Bad (grown p b) selection error
unfolding grown
eighty_first_spoils {p} h b few = rw (h.good, le-ltb p.len 80 (omega (arith, h.count))) (record { bad = refl; chosen = h.chosen; word = h.word })

-- ---- all bytes of a line

good_run : (bytes : List ℕ) (s : State) (front : List ℕ) {selection : Option Replying} {error : Word} → Each Inner bytes → Line s.port front selection error
    → Each (λ (b : ℕ). is_character b ≡ true) front → length front ≤ 80 → Typed s bytes (line_with front bytes) selection error
unfolding said after undropped
good_run [] s front inner h c few = record {
  silent = refl;
  instrument = refl;
  line = rw (append-nil front, short_good front c few) (held_line h);
}
good_run (b ∷ bytes) s front {selection} {error} inner h c few =
    let longer : State = record { instrument = s.instrument; port = grown (settled s.port) b } in
    byte_typed s b bytes (line_with front (b ∷ bytes)) selection error inner.0
    (λ d. rw d (good_run bytes _ front inner.1 (marked_line h false) c few))
    (λ d. rw d (good_run bytes _ front inner.1 (settled_line h) c few))
    (λ d e. rw d
    (⊎_elim
    (λ (l : length front < 80). subst (λ t. Typed longer bytes (cond (is_good t) t []) selection error) (append_assoc front (b ∷ []) (undropped bytes))
    (good_run bytes longer (front ++ b ∷ []) inner.1 (grown_line (settled_line h) b l) (each_append (λ (b : ℕ). is_character b ≡ true) front (b ∷ []) c (e, tt)) (omega (arith, length-append front (b ∷ [])))))
    (λ (l : 80 ≤ length front). rw (long_bad front b (undropped bytes) l) (bad_run bytes _ inner.1 (eighty_first_spoils (settled_line h) b l)))
    (below (length front) 80)))
    (λ d e. rw (d, spoilt_bad front b (undropped bytes) e) (bad_run bytes _ inner.1 (record { bad = refl; chosen = h.chosen; word = h.word })))

-- ---- so many ENQs

-- only the first can tell the error word
replies_without_word : (n : ℕ) (s : Instrument) (error : Word) (x : Option Replying) → as_often n (enq_text s x) (word_left error x) ≡ as_often n (enq_text s x) no_error
unfolding as_often
replies_without_word zero s error x = refl
replies_without_word (suc n) s error x = ap (λ (t : List ℕ). t ++ as_often n (enq_text s x) no_error) (reply_without_word s error x)

-- the error word after them
abbrev word_after : ℕ → Word → Option Replying → Word
word_after zero error x = error
word_after (suc n) error x = word_left error x

word_gone : (n : ℕ) (error : Word) (x : Option Replying) → word_after n (word_left error x) x ≡ word_left error x
word_gone zero error x = refl
word_gone (suc n) error x = word_stays_gone error x

-- nothing else changes
enqs_keep : (n : ℕ) (s : State) {x : Option Replying} {error : Word} → Line s.port [] x error
    → ((after s (enquiries n)).instrument ≡ s.instrument) × Line (after s (enquiries n)).port [] x (word_after n error x)
unfolding after
enqs_keep zero s h = (refl, h)
enqs_keep (suc n) s {x} {error} h =
    let r = enq_replies s h in
    let k = enqs_keep n (next s enq) r.line in
    (k.0 ∙ r.instrument, subst (Line (after (next s enq) (enquiries n)).port [] x) (word_gone n error x) k.1)

enqs_replied : (n : ℕ) (s : State) {x : Option Replying} {error : Word} → Line s.port [] x error → said s (enquiries n) ≡ as_often n (enq_text s.instrument x) error
unfolding said as_often
enqs_replied zero s h = refl
enqs_replied (suc n) s {x} {error} h =
    let r = enq_replies s h in
    ap₂ (λ (t u : List ℕ). t ++ u) r.reply
    (enqs_replied n (next s enq) r.line ∙ ap (λ (t : Instrument). as_often n (enq_text t x) (word_left error x)) r.instrument ∙ replies_without_word n s.instrument error x)

-- the word that a line and its ENQs leave
word_left_lem : (n : ℕ) (error : Word) (v : Verdict) → word_after n (gathering error v) (choice v) ≡ error_left n error v
word_left_lem zero error v = refl
word_left_lem (suc n) error v = refl

-- ---- a line and its end

module _ (s : State) {selection : Option Replying} {error : Word} (empty : Line s.port [] selection error) (bytes : List ℕ) (inner : Each Inner bytes)
    (v : Verdict) (verdict : judged s.instrument.model (line_in bytes) ≡ v) where
  -- what the box sends for the bytes and their end, and what it is then
  abbrev Ended : End → Type 0
  Ended e = Judged s.instrument error v (said s (ended e bytes)) (after s (ended e bytes))

  cr_judged : Ended by_cr
  unfolding after said
  cr_judged =
      let t = good_run bytes s [] inner empty tt (omega arith) in
      let now = after s bytes in
      let j = cr_judges now t.line in
      let same : judged now.instrument.model (line_in bytes) ≡ v = ap (λ (x : Instrument). judged x.model (line_in bytes)) t.instrument ∙ verdict in
      rw (said_append bytes (cr ∷ []) s, after_append bytes (cr ∷ []) s, t.silent, append-nil (sent now cr))
      (rw (same, t.instrument) at j)

  -- the LF adds nothing
  lf_judged : Ended by_cr_lf
  unfolding after said
  lf_judged =
      let now = after s (ended by_cr bytes) in
      let f = lf_nothing now cr_judged.line in
      let parts : ended by_cr_lf bytes ≡ ended by_cr bytes ++ lf ∷ [] = sym (append_assoc bytes (cr ∷ []) (lf ∷ [])) in
      rw (parts, said_append (ended by_cr bytes) (lf ∷ []) s, after_append (ended by_cr bytes) (lf ∷ []) s, f.0, append-nil (said s (ended by_cr bytes)))
      (record { reply = cr_judged.reply; instrument = f.1 ∙ cr_judged.instrument; line = f.2 })

  pub line_judged : (e : End) → Ended e
  line_judged by_cr = cr_judged
  line_judged by_cr_lf = lf_judged

  -- and so many ENQs behind it
  pub line_enquired : (e : End) (n : ℕ) → said s (ended e bytes ++ enquiries n) ≡ line_text v ++ as_often n (enq_text (applied s.instrument v) (choice v)) (gathering error v)
  line_enquired e n =
      let j = line_judged e in
      said_append (ended e bytes) (enquiries n) s
      ∙ ap₂ (λ (t u : List ℕ). t ++ u) j.reply
      (enqs_replied n (after s (ended e bytes)) j.line
      ∙ ap (λ (t : Instrument). as_often n (enq_text t (choice v)) (gathering error v)) j.instrument)

  -- and what they leave behind
  pub line_left : (e : End) (n : ℕ) → let t = after s (ended e bytes ++ enquiries n) in
      (t.instrument ≡ applied s.instrument v) × Line t.port [] (choice v) (error_left n error v)
  line_left e n =
      let j = line_judged e in
      let k = enqs_keep n (after s (ended e bytes)) j.line in
      rw (after_append (ended e bytes) (enquiries n) s)
      (k.0 ∙ j.instrument, subst (Line (after (after s (ended e bytes)) (enquiries n)).port [] (choice v)) (word_left_lem n error v) k.1)

-- ---- an ETX first

pub anew_line : (s : State) → Line (next s etx).port [] None s.port.error
anew_line s = (etx_empties s).2

pub anew_instrument : (s : State) → (next s etx).instrument ≡ s.instrument
anew_instrument s = (etx_empties s).1

pub anew_said : (s : State) (bytes : List ℕ) → said s (anew bytes) ≡ said (next s etx) bytes
unfolding said
anew_said s bytes = rw (etx_empties s).0

pub anew_after : (s : State) (bytes : List ℕ) → after s (anew bytes) ≡ after (next s etx) bytes
unfolding after
anew_after s bytes = refl

-- a line that is empty already
pub empty_line : (s : State) → Sound s → is_empty s.port ≡ true → Line s.port [] s.port.selection s.port.error
empty_line s k e =
    let p = s.port in
    let b = (and-eq-true_iff (not p.bad) (eqb p.len 0)).0 e in
    let none : p.len ≡ 0 = eqb-true p.len 0 b.1 in
    record { good = not-true p.bad b.0; count = none; text = rw none; places = k.shaped.port.line; chosen = refl; word = refl }
