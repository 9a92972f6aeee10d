-- No byte and no tick takes a port out of its limits; what it makes of a line, and what it answers.
use Rattle.std.specs.Prelude.{Option, Some, None, Ok, Err}
use Prim.Native.Nat.{ℕ, zero, suc, ◌+◌, ◌≤◌, ◌<◌}
use mathlib.Core.Path.{◌≡◌, refl, ap, subst}
use mathlib.Core.List.{List}
use mathlib.Core.Bool.{Bool, true, false, cond, ◌&&◌, and-eq-true_iff}
use mathlib.Core.Logic.{◌≢◌}
use native.Mathlib.Omega.{arith}
use native.Mathlib.Numerals.{add-one}
use borrow.Author.Tests.{ltb-true, eqb-true, eqb-false, ne_eqb, lt-ltb, le-leb}
use lib.ListN.{length, get_or, set, take, drop, length-set}
use lib.Seq.{drop-cons, drop-set-lt, take-suc-set}
use lib.Dec.{eqb, leb, ltb}
use lib.IntN.{pos}
use Rattle.ground.specs.Members.{every}
use Rattle.ground.specs.Ranges.{in_range}
use Rattle.ground.proofs.Members.{every_snoc}
use Rattle.ground.proofs.Cases.{never, cond_cases, in_range_lem}
use Rattle.text.specs.Control.{is_character, etx, enq, lf, cr}
use Rattle.settings.specs.Rows.{pair_row, first_number}
use Rattle.settings.specs.Table.{entry, whole}
use Rattle.settings.specs.Mnemonics.{is_err, answers}
use Rattle.settings.specs.Limits.{same_number, fits}
use Rattle.settings.specs.declared.model.Model.{Model}
use Rattle.settings.specs.declared.mnemonic.Query.TheVariants.{Err as ErrQuery}
use Rattle.settings.specs.declared.mnemonic.Replying.{Replying}
use Rattle.settings.specs.declared.mnemonic.Replying.TheVariants.{OfQuery}
use Rattle.settings.specs.declared.mnemonic.Mnemonic.{Mnemonic}
use Rattle.settings.specs.declared.mnemonic.Mnemonic.TheVariants.{OfReplying, Com, Sav}
use Rattle.settings.specs.declared.rows.Row.{Row}
use Rattle.settings.proofs.Answerable.{first_there}
use Rattle.settings.proofs.StoredLimits.{Fitting}
use Rattle.settings.proofs.Places.{row_places}
use Rattle.lines.specs.Words.{no_error, gathered}
use Rattle.lines.specs.Judging.{judged}
use Rattle.lines.specs.declared.word.Word.{Word}
use Rattle.lines.specs.declared.verdict.Fault.{Fault}
use Rattle.lines.proofs.WrittenLimits.{writes_fitting}
use Rattle.lines.proofs.Answerable.{asks_answers, writes_answers}
use Rattle.ports.specs.Line.{blank, with_line, emptied, spoilt, grown, held, is_empty}
use Rattle.ports.specs.Stream.{interval_of, with_stream, stopped, begun, ticked}
use Rattle.ports.specs.Hearing.{is_dropped, kind_of, fresh_port, with_mark, with_choice, selected, concluded, cr_heard, worded, replied, by_selection, asked, quiet, by_kind, heard}
use Rattle.ports.specs.Walk.{settled}
use Rattle.ports.specs.Limits.{line_within, is_interval, stream_within, selection_within, port_within, PortShaped}
use Rattle.ports.specs.declared.Port.{Port}
use Rattle.ports.specs.declared.Event.{Event}
use Rattle.ports.specs.declared.Event.TheVariants.{Silent, Line, Reply}
use Rattle.ports.specs.declared.Heard.{Heard}
use Rattle.ports.specs.declared.Ticked.{Ticked}
use Rattle.ports.specs.declared.hearing.ByteKind.{ByteKind}
use Rattle.ports.specs.declared.hearing.ByteKind.TheVariants.{Cr, Dropped, Etx, Enq, Character, Spoiling}
use Rattle.lines.specs.declared.verdict.Order.TheVariants.{Asks, Writes}
use Rattle.lines.specs.Verdicts.{Verdict}

-- ---- a byte and a tick, by what they come to

heard_by : (P : Heard → Type 0) (model : Model) (p : Port) (b : ℕ) → P (quiet (with_mark p false))
    → ((k : ByteKind) → kind_of b ≡ k → P (by_kind model k (stopped (with_mark p false)) b)) → P (heard model p b)
unfolding heard
heard_by P model p b q f =
    cond_cases P (p.ended && eqb b lf) (quiet (with_mark p false)) (by_kind model (kind_of b) (stopped (with_mark p false)) b) (λ _. q) (λ _. f (kind_of b) refl)

-- a byte that is no CR, ETX or ENQ: it is dropped, a character or a byte that spoils the line, and nothing is sent
module _ (P : Heard → Type 0) (model : Model) (p : Port) (b : ℕ) (not-cr : b ≢ cr) (not-etx : b ≢ etx) (not-enq : b ≢ enq)
    (kept : is_dropped b ≡ true → P (quiet (with_mark p false))) (settles : is_dropped b ≡ true → P (quiet (settled p)))
    (grows : is_dropped b ≡ false → is_character b ≡ true → P (quiet (grown (settled p) b)))
    (spoils : is_dropped b ≡ false → is_character b ≡ false → P (quiet (spoilt (settled p)))) where
  inner_kind : P (by_kind model (kind_of b) (settled p) b)
  unfolding by_kind kind_of
  inner_kind = rw (ne_eqb b cr not-cr, ne_eqb b etx not-etx, ne_eqb b enq not-enq) (by (is_dropped b) refl (is_character b) refl)
    where
      by : (d : Bool) → is_dropped b ≡ d → (c : Bool) → is_character b ≡ c → P (by_kind model (cond d Dropped (cond c Character Spoiling)) (settled p) b)
      by true e c f = settles e
      by false e true f = grows e f
      by false e false f = spoils e f

  pub inner_by : P (heard model p b)
  unfolding heard
  inner_by =
      cond_cases P (p.ended && eqb b lf) (quiet (with_mark p false)) (by_kind model (kind_of b) (settled p) b)
      (λ e. kept (rw ((and-eq-true_iff p.ended (eqb b lf)).0 e).1)) (λ _. inner_kind)

asked_by : (P : Heard → Type 0) (p : Port) → P (worded p) → ((m : Replying) → p.selection ≡ Some m → P (replied p m)) → P (asked p)
unfolding asked
asked_by P p w f = cond_cases P (is_empty p) (by_selection p p.selection) (worded p) (λ _. by p.selection refl) (λ _. w)
  where
    by : (s : Option Replying) → p.selection ≡ s → P (by_selection p s)
    by None e = w
    by (Some m) e = f m e

ticked_by : (P : Port → Type 0) (p : Port) → P p
    → (eqb p.interval 0 ≡ false → (n : ℕ) → ltb n p.interval ≡ true → P (with_stream p p.interval n)) → P (ticked p).port
unfolding ticked
ticked_by P p same f =
    cond_cases (λ (t : Ticked). P t.port) (eqb p.interval 0) _ _ (λ _. same)
    (λ e. cond_cases (λ (t : Ticked). P t.port) (ltb (p.ticks + 1) p.interval) _ _ (f e (p.ticks + 1))
    (λ _. f e 0 (lt-ltb 0 p.interval (omega (arith, eqb-false p.interval 0 e)))))

-- the port with a character at the first place that is free
abbrev longer : Port → ℕ → Port
longer p b = with_line p (set p.line p.len b) (p.len + 1) p.bad

grown_by : (P : Port → Type 0) (p : Port) (b : ℕ) → P p → P (spoilt p) → (p.bad ≡ false → p.len < 80 → P (longer p b)) → P (grown p b)
unfolding grown
grown_by P p b same spoils f =
    cond_cases P p.bad p _ (λ _. same)
    (λ e. cond_cases P (ltb p.len 80) (longer p b) (spoilt p) (λ l. f e (ltb-true p.len 80 l)) (λ _. spoils))

-- ---- the eighty places

begun_line : (p : Port) (m : Mnemonic) (r : Row) → (begun p m r).line ≡ p.line
begun_line p (OfReplying a) r = refl
begun_line p Com r = refl
begun_line p Sav r = refl

concluded_line : (p : Port) (v : Verdict) → (concluded p v).line ≡ p.line
unfolding concluded
concluded_line p (Ok (Asks m)) = refl
concluded_line p (Ok (Writes m r)) = begun_line (with_choice p (selected m) p.error) m r
concluded_line p (Err x) = refl

-- so many places
abbrev Long : Port → Type 0
Long p = length p.line ≡ 80

replied_long : (p : Port) (m : Replying) → Long p → Long (replied p m).port
replied_long p m e = cond_cases Long (is_err m) (with_choice p (Some m) no_error) p (λ _. e) (λ _. e)

kind_long : (model : Model) (k : ByteKind) (p : Port) (b : ℕ) → Long p → Long (by_kind model k p b).port
unfolding by_kind
kind_long model Cr p b e = ap length (concluded_line (with_mark (emptied p) true) (judged model (held p)))
kind_long model Dropped p b e = e
kind_long model Etx p b e = refl
kind_long model Enq p b e = asked_by (λ (h : Heard). Long h.port) p refl (λ m _. replied_long p m e)
kind_long model Character p b e = grown_by Long p b e refl (λ _ _. rw (length-set p.line p.len b) e)
kind_long model Spoiling p b e = refl

pub fresh_shaped : (model : Model) → PortShaped (fresh_port model)
fresh_shaped model = record { line = refl }

pub heard_shaped : (model : Model) (p : Port) (b : ℕ) → PortShaped p → PortShaped (heard model p b).port
heard_shaped model p b e =
    record { line = heard_by (λ (h : Heard). Long h.port) model p b e.line (λ k _. kind_long model k (stopped (with_mark p false)) b e.line) }

pub ticked_shaped : (p : Port) → PortShaped p → PortShaped (ticked p).port
ticked_shaped p e = record { line = ticked_by Long p e.line (λ _ n _. e.line) }

-- ---- the parts of the limits

record Parts (model : Model) (p : Port) : Type 0 where
  line : line_within p ≡ true
  stream : stream_within p ≡ true
  selection : selection_within model p.selection ≡ true

parts : (model : Model) (p : Port) → port_within model p ≡ true → Parts model p
unfolding port_within
parts model p h =
    let a = (and-eq-true_iff (line_within p) _).0 h in
    let b = (and-eq-true_iff (stream_within p) (selection_within model p.selection)).0 a.1 in
    record { line = a.0; stream = b.0; selection = b.1 }

together : (model : Model) (p : Port) → Parts model p → port_within model p ≡ true
unfolding port_within
together model p w = rw (w.line, w.stream) w.selection

-- another line, stream or selection leaves the other two as they were
module _ {model : Model} {p : Port} (w : Parts model p) where
  with_line_lem : (line : List ℕ) (len : ℕ) (bad : Bool) → line_within (with_line p line len bad) ≡ true → Parts model (with_line p line len bad)
  with_line_lem line len bad h = record { line = h; stream = w.stream; selection = w.selection }

  with_stream_lem : (interval ticks : ℕ) → stream_within (with_stream p interval ticks) ≡ true → Parts model (with_stream p interval ticks)
  unfolding line_within
  with_stream_lem interval ticks h = record { line = w.line; stream = h; selection = w.selection }

  with_choice_lem : (s : Option Replying) (error : Word) → selection_within model s ≡ true → Parts model (with_choice p s error)
  unfolding line_within
  with_choice_lem s error h = record { line = w.line; stream = w.stream; selection = h }

  with_mark_lem : (ended : Bool) → Parts model (with_mark p ended)
  unfolding line_within
  with_mark_lem ended = record { line = w.line; stream = w.stream; selection = w.selection }

-- ---- the line

-- a line without characters
blank_within : (p : Port) (bad : Bool) → line_within (with_line p blank 0 bad) ≡ true
unfolding line_within every
blank_within p true = refl
blank_within p false = refl

cleared : {model : Model} {p : Port} → Parts model p → (bad : Bool) → Parts model (with_line p blank 0 bad)
cleared {p = p} w bad = with_line_lem w blank 0 bad (blank_within p bad)

-- a kind of byte before the characters
other_kind : (t : Bool) (k x : ByteKind) → k ≢ Character → cond t k x ≡ Character → x ≡ Character
other_kind true k x n e = absurd (n e)
other_kind false k x n e = e

character_test : (t : Bool) → cond t Character Spoiling ≡ Character → t ≡ true
character_test true e = refl
character_test false e = never (cc)

-- a byte of that kind is a character
is_character_lem : (b : ℕ) → kind_of b ≡ Character → is_character b ≡ true
unfolding kind_of
is_character_lem b e =
    let e1 = other_kind (eqb b cr) Cr _ (λ z. never (cc)) e in
    let e2 = other_kind (is_dropped b) Dropped _ (λ z. never (cc)) e1 in
    let e3 = other_kind (eqb b etx) Etx _ (λ z. never (cc)) e2 in
    let e4 = other_kind (eqb b enq) Enq _ (λ z. never (cc)) e3 in
    character_test (is_character b) e4

longer_within : (p : Port) (b : ℕ) → Long p → line_within p ≡ true → is_character b ≡ true → p.bad ≡ false → p.len < 80 → line_within (longer p b) ≡ true
unfolding line_within every
longer_within p b e w c g l =
    let front = every (is_character) (take p.len p.line) in
    let back = every (in_range 0 0) (drop p.len p.line) in
    let both = (and-eq-true_iff front back).0 ((and-eq-true_iff (front && back) _).0 ((and-eq-true_iff (leb p.len 80) _).0 w).1).0 in
    let h : p.len < length p.line = omega arith in
    let used = every_snoc (is_character) (take p.len p.line) b both.0 c in
    let unused =
    ((and-eq-true_iff (in_range 0 0 (get_or p.line p.len 0)) (every (in_range 0 0) (drop (suc p.len) p.line))).0 (rw (drop-cons p.line p.len 0 h) at both.1)).1 in
    rw (add-one p.len, le-leb (suc p.len) 80 l)
    (rw (take-suc-set p.line p.len b h, drop-set-lt (suc p.len) p.line p.len b (omega arith), used, unused, g))

-- ---- the stream and the selection after a line

mode_within : (p : Port) (n : ℕ) → n ≤ 2 → stream_within (with_stream p (interval_of n) 0) ≡ true
mode_within p zero h = refl
mode_within p (suc zero) h = refl
mode_within p (suc (suc zero)) h = refl
mode_within p (suc (suc (suc n))) h = absurd (omega arith)

-- COM's number is a mode
com_mode : (model : Model) (r : Row) → Fitting ((entry Com).fields model) r → first_number r ≤ 2
com_mode model r f =
    let h : fits (whole 0 2) r.first ≡ true = row_places ((entry Com).fields model) r (pair_row 0 0) f 0 (omega arith) in
    (in_range_lem 0 2 (first_number r) ((and-eq-true_iff (same_number r.first.exponent (pos 0)) (leb 0 (first_number r) && leb (first_number r) 2)).0 h).1).1

begun_parts : (model : Model) (p : Port) (m : Mnemonic) (r : Row) → Fitting ((entry m).fields model) r → Parts model p → Parts model (begun p m r)
begun_parts model p (OfReplying a) r f w = w
begun_parts model p Com r f w = with_stream_lem w (interval_of (first_number r)) 0 (mode_within p (first_number r) (com_mode model r f))
begun_parts model p Sav r f w = w

written_selects : (model : Model) (line : List ℕ) (m : Mnemonic) (r : Row) → judged model line ≡ Ok (Writes m r) → selection_within model (selected m) ≡ true
written_selects model line (OfReplying a) r e = writes_answers model a line r e
written_selects model line Com r e = refl
written_selects model line Sav r e = refl

concluded_parts : (model : Model) (p : Port) (line : List ℕ) (v : Verdict) → judged model line ≡ v → Parts model p → Parts model (concluded p v)
unfolding concluded
concluded_parts model p line (Ok (Asks a)) e w = with_choice_lem w (Some a) p.error (asks_answers model a line e)
concluded_parts model p line (Ok (Writes m r)) e w =
    begun_parts model (with_choice p (selected m) p.error) m r (writes_fitting model line m r e)
    (with_choice_lem w (selected m) p.error (written_selects model line m r e))
concluded_parts model p line (Err x) e w = with_choice_lem w None (gathered p.error x) refl

-- ---- a byte

replied_parts : (model : Model) (p : Port) (m : Replying) → p.selection ≡ Some m → Parts model p → Parts model (replied p m).port
replied_parts model p m e w =
    cond_cases (Parts model) (is_err m) (with_choice p (Some m) no_error) p
    (λ _. with_choice_lem w (Some m) no_error (subst (λ (s : Option Replying). selection_within model s ≡ true) e w.selection)) (λ _. w)

kind_parts : (model : Model) (k : ByteKind) (p : Port) (b : ℕ) → kind_of b ≡ k → Long p → Parts model p → Parts model (by_kind model k p b).port
unfolding by_kind
kind_parts model Cr p b c e w = concluded_parts model (with_mark (emptied p) true) (held p) (judged model (held p)) refl (with_mark_lem (cleared w false) true)
kind_parts model Dropped p b c e w = w
kind_parts model Etx p b c e w = with_choice_lem (cleared w false) None p.error refl
kind_parts model Enq p b c e w =
    asked_by (λ (h : Heard). Parts model h.port) p (with_choice_lem (cleared w false) None no_error refl) (λ m s. replied_parts model p m s w)
kind_parts model Character p b c e w =
    grown_by (Parts model) p b w (cleared w true) (λ g l. with_line_lem w _ _ _ (longer_within p b e w.line (is_character_lem b c) g l))
kind_parts model Spoiling p b c e w = cleared w true

-- ---- the limits are kept

pub fresh_within : (model : Model) → port_within model (fresh_port model) ≡ true
unfolding port_within line_within every
fresh_within model = refl

pub heard_within : (model : Model) (p : Port) (b : ℕ) → PortShaped p → port_within model p ≡ true → port_within model (heard model p b).port ≡ true
heard_within model p b e h =
    let w = with_mark_lem (parts model p h) false in
    together model (heard model p b).port
    (heard_by (λ (r : Heard). Parts model r.port) model p b w
    (λ k c. kind_parts model k (stopped (with_mark p false)) b c e.line (with_stream_lem w 0 0 refl)))

pub ticked_within : (model : Model) (p : Port) → port_within model p ≡ true → port_within model (ticked p).port ≡ true
ticked_within model p h =
    let w = parts model p h in
    together model (ticked p).port
    (ticked_by (Parts model) p w (λ e n l.
    let i = (and-eq-true_iff (is_interval p.interval) (ltb p.ticks p.interval)).0 (rw e at w.stream) in
    with_stream_lem w p.interval n (rw (e, i.0, l))))

-- ---- what a byte makes the box do

cr_byte : (b : ℕ) → kind_of b ≡ Cr → b ≡ cr
unfolding kind_of
cr_byte b = by (eqb b cr) (is_dropped b) (eqb b etx) (eqb b enq) (is_character b) refl
  where
    by : (is_cr dropped is_etx is_enq character : Bool) → eqb b cr ≡ is_cr
        → cond is_cr Cr (cond dropped Dropped (cond is_etx Etx (cond is_enq Enq (cond character Character Spoiling)))) ≡ Cr → b ≡ cr
    by true dropped is_etx is_enq character e q = eqb-true b cr e
    by false true is_etx is_enq character e q = never (cc)
    by false false true is_enq character e q = never (cc)
    by false false false true character e q = never (cc)
    by false false false false true e q = never (cc)
    by false false false false false e q = never (cc)

-- only a CR ends a line
module _ (Q : Event → Type 0) (model : Model) (p : Port) (b : ℕ) (silent : Q Silent) (line : b ≡ cr → Q (Line (judged model (held p))))
    (word : Q (Reply (OfQuery ErrQuery) p.error)) (reply : (m : Replying) → p.selection ≡ Some m → Q (Reply m p.error)) where
  kind_event : (k : ByteKind) → kind_of b ≡ k → Q (by_kind model k (stopped (with_mark p false)) b).event
  unfolding by_kind
  kind_event Cr e = line (cr_byte b e)
  kind_event Dropped e = silent
  kind_event Etx e = silent
  kind_event Enq e = asked_by (λ (h : Heard). Q h.event) (stopped (with_mark p false)) word reply
  kind_event Character e = silent
  kind_event Spoiling e = silent

  pub heard_event : Q (heard model p b).event
  heard_event = heard_by (λ (h : Heard). Q h.event) model p b silent kind_event

-- the verdict of a line that ended is the verdict on what the line held
pub heard_line : (model : Model) (p : Port) (b : ℕ) (v : Verdict) → (heard model p b).event ≡ Line v → v ≡ judged model (held p)
heard_line model p b v =
    heard_event (λ (x : Event). x ≡ Line v → v ≡ judged model (held p)) model p b
    (λ e. never (cc)) (λ _ e. cc) (λ e. never (cc)) (λ m _ e. never (cc))

err_answers : (model : Model) → answers model (OfQuery ErrQuery) ≡ true
unfolding answers
err_answers model = first_there model

-- what an ENQ is answered with, in a port within its limits, is something that the model answers
pub reply_answers : (model : Model) (p : Port) (b : ℕ) (m : Replying) (w : Word) → port_within model p ≡ true → (heard model p b).event ≡ Reply m w
    → answers model m ≡ true
reply_answers model p b m w h =
    heard_event (λ (x : Event). x ≡ Reply m w → answers model m ≡ true) model p b
    (λ e. never (cc)) (λ _ e. never (cc)) (λ e. told (OfQuery ErrQuery) (cc) (err_answers model))
    (λ n s e. told n (cc) (subst (λ (s : Option Replying). selection_within model s ≡ true) s (parts model p h).selection))
  where
    told : (n : Replying) → n ≡ m → answers model n ≡ true → answers model m ≡ true
    told n e = subst (λ (n : Replying). answers model n ≡ true) e

-- a refused line clears the selection and keeps the digits that had gathered
pub refused_port : (model : Model) (p : Port) (x : Fault) → judged model (held p) ≡ Err x
    → ((cr_heard model p).port.selection ≡ None) × ((cr_heard model p).port.error ≡ gathered p.error x)
unfolding concluded
refused_port model p x e = (rw e, rw e)
