-- Demand 2: each reply is what 01 gives, for every line and the ENQ behind it, and for every mnemonic read and written.
use Rattle.std.specs.Prelude.{Option, Some, None, Ok, Err}
use Prim.Native.Nat.{ℕ, zero, suc, ◌<◌}
use mathlib.Core.Path.{◌≡◌, refl, sym, ap, ap₂, subst, ◌∙◌}
use mathlib.Core.List.{List, [], ◌++◌}
use mathlib.Core.Bool.{Bool, true, false, cond}
use native.Mathlib.Omega.{arith}
use Rattle.ground.specs.Members.{Each}
use Rattle.ground.proofs.Members.{each_map, each_both}
use Rattle.ground.proofs.Sequences.{take_set}
use Rattle.text.specs.Control.{etx}
use Rattle.settings.specs.Rows.{plain, pair_row, first_number, listed, row}
use Rattle.settings.specs.Table.{factor, setting_entry, entry, field_count}
use Rattle.settings.specs.Mnemonics.{setting, known, name, is_there}
use Rattle.settings.specs.declared.mnemonic.Setting.{Setting}
use Rattle.settings.specs.declared.mnemonic.Setting.TheVariants.{Cal}
use Rattle.settings.specs.declared.mnemonic.Replying.{Replying}
use Rattle.settings.specs.declared.mnemonic.Replying.TheVariants.{OfSetting, Cf, OfQuery}
use Rattle.settings.specs.declared.mnemonic.Mnemonic.{Mnemonic}
use Rattle.settings.specs.declared.mnemonic.Mnemonic.TheVariants.{OfReplying, Com, Sav}
use Rattle.settings.specs.declared.rows.Row.{Row}
use Rattle.settings.proofs.Tabled.{few_kinds}
use Rattle.settings.proofs.Places.{number_plain, row_places}
use Rattle.settings.proofs.Storing.{Holding, mixed_front, stored_row, factor_row}
use Rattle.settings.proofs.StoredLimits.{Fitting, fitting_canon}
use Rattle.lines.specs.Words.{no_error, gathered}
use Rattle.lines.specs.Judging.{judged}
use Rattle.lines.specs.Replies.{setting_text}
use Rattle.lines.specs.declared.word.Word.{Word}
use Rattle.lines.specs.declared.verdict.Fault.TheVariants.{Hardware}
use Rattle.lines.proofs.Accepted.{Spelt, all_spelt}
use Rattle.lines.proofs.WrittenLimits.{writes_fitting, Kept, known_kept}
use Rattle.ports.specs.Hearing.{selected}
use Rattle.instrument.specs.Events.{written, applied}
use Rattle.instrument.specs.Replies.{reply_text}
use Rattle.instrument.specs.declared.Instrument.{Instrument}
use Rattle.tpg.specs.States.{Sound}
use Rattle.tpg.specs.Steps.{line_text, next, after, said}
use Rattle.tpg.specs.declared.State.{State}
use Rattle.demands.specs.Wire.{ack_line, nak_line, Inner, line_in, ended, Start, on_empty, after_etx, opened, Ready, enquiries, as_often, choice, enq_text, answered, gathering, error_left, written_text}
use Rattle.demands.specs.Replies.{Answers, Left, Leaves, Reads, WritesBack, Replies}
use Rattle.demands.proofs.Ending.{Line}
use Rattle.demands.proofs.Typing.{line_enquired, line_left, anew_line, anew_instrument, anew_said, anew_after, empty_line}
use Rattle.demands.proofs.Spelling.{typeable_inner, typeable_line, Short, names_short, name_typeable, name_judged}
use Rattle.lines.specs.declared.verdict.Order.TheVariants.{Asks, Writes}
use Rattle.lines.specs.Verdicts.{Verdict}

-- ---- every line

-- texts that are the same for every error word are so as often as they are sent
often_same : (n : ℕ) (f g : Word → List ℕ) → ((w : Word) → f w ≡ g w) → (error : Word) → as_often n f error ≡ as_often n g error
unfolding as_often
often_same zero f g same error = refl
often_same (suc n) f g same error = ap₂ (λ (t u : List ℕ). t ++ u) (same error) (often_same n f g same no_error)

answered_text : (n : ℕ) (s : Instrument) (error : Word) (v : Verdict)
    → line_text v ++ as_often n (enq_text (applied s v) (choice v)) (gathering error v) ≡ answered n s error v
answered_text n s error (Ok (Asks a)) = refl
answered_text n s error (Ok (Writes m r)) = refl
answered_text n s error (Err x) = refl

-- on an empty line, and with an ETX whatever came before: a line and its ENQs are answered by the verdict on the line
pub line_answered : Answers said
line_answered s k w = by w.start
  where
    by : (start : Start) → Ready start s → (bytes : List ℕ) → Each Inner bytes
        → said s (opened start (ended w.end bytes ++ enquiries w.enqs)) ≡ answered w.enqs s.instrument s.port.error (judged s.instrument.model (line_in bytes))
    by on_empty ready bytes inner =
        line_enquired s (empty_line s k ready) bytes inner (judged s.instrument.model (line_in bytes)) refl w.end w.enqs
        ∙ answered_text w.enqs s.instrument s.port.error (judged s.instrument.model (line_in bytes))
    by after_etx ready bytes inner =
        let now = next s etx in
        anew_said s (ended w.end bytes ++ enquiries w.enqs) ∙ line_enquired now (anew_line s) bytes inner (judged now.instrument.model (line_in bytes)) refl w.end w.enqs
        ∙ answered_text w.enqs now.instrument s.port.error (judged now.instrument.model (line_in bytes))
        ∙ ap (λ (x : Instrument). answered w.enqs x s.port.error (judged x.model (line_in bytes))) (anew_instrument s)

-- and what it wrote is stored
pub line_leaves : Leaves after
line_leaves s k w = by w.start
  where
    left : {t : State} {v : Verdict} {x : Option Replying} → (t.instrument ≡ applied s.instrument v) × Line t.port [] x (error_left w.enqs s.port.error v) → Left s w.enqs v t
    left l = record { instrument = l.0; error = l.1.word; empty = rw (l.1.good, l.1.count) }

    by : (start : Start) → Ready start s → (bytes : List ℕ) → Each Inner bytes
        → Left s w.enqs (judged s.instrument.model (line_in bytes)) (after s (opened start (ended w.end bytes ++ enquiries w.enqs)))
    by on_empty ready bytes inner = left (line_left s (empty_line s k ready) bytes inner (judged s.instrument.model (line_in bytes)) refl w.end w.enqs)
    by after_etx ready bytes inner =
        let all = ended w.end bytes ++ enquiries w.enqs in
        let t = after (next s etx) all in
        rw (anew_after s all)
        (left
        (subst
        (λ (x : Instrument). let v = judged x.model (line_in bytes) in (t.instrument ≡ applied x v) × Line t.port [] (choice v) (error_left w.enqs s.port.error v))
        (anew_instrument s) (line_left (next s etx) (anew_line s) bytes inner (judged (next s etx).instrument.model (line_in bytes)) refl w.end w.enqs)))

-- ---- a mnemonic that is read

-- told where the model has its channel, refused where it has not
read_text_lem : (n : ℕ) (s : Instrument) (error : Word) (a : Replying) (there : Bool)
    → answered n s error (cond there (Ok (Asks a)) (Err Hardware)) ≡ cond there (ack_line ++ as_often n (enq_text s (Some a)) error) (nak_line ++ as_often n (enq_text s None) (gathered error Hardware))
read_text_lem n s error a true = refl
read_text_lem n s error a false = refl

reads : (s : State) → Sound s → (m : Mnemonic) → Spelt s.instrument.model m → Short (name m) → Reads said s m
reads s k (OfReplying a) sp short = λ w ready.
    let model = s.instrument.model in
    let m = OfReplying a in
    let t = name_typeable m short in
    line_answered s k w ready (name m) (typeable_inner (name m) t)
    ∙ ap (answered w.enqs s.instrument s.port.error) (ap (judged model) (typeable_line (name m) t) ∙ name_judged model m sp)
    ∙ read_text_lem w.enqs s.instrument s.port.error a (is_there model m)
reads s k Com sp short = tt
reads s k Sav sp short = tt

-- ---- a line that writes it

module _ (s : State) (k : Sound s) where
  -- what the ENQ tells of a line that wrote is what it wrote
  Back : Mnemonic → Type 0
  Back m = (r : Row) → Fitting ((entry m).fields s.instrument.model) r → (error : Word) → enq_text (written s.instrument m r) (selected m) error ≡ written_text s.instrument m r error

  -- the cells of a setting are the line's
  setting_back : (x : Setting) → Holding x → Back (setting x)
  unfolding Back reply_text written setting_text
  setting_back x h r f error =
      let m = s.instrument.model in
      let b = s.instrument.settings in
      rw (stored_row m b r k.shaped.instrument.settings h (fitting_canon m r h f), mixed_front (field_count m x) r (row b x) (few_kinds ((setting_entry x).fields m)))

  -- of CAL's cells only the channel's own is
  factor_back : (c : ℕ) → c < 2 → Back (OfReplying (Cf c))
  unfolding Back reply_text written setting_text
  factor_back c h r f error =
      let m = s.instrument.model in
      let b = s.instrument.settings in
      let fits = row_places ((entry (OfReplying (Cf c))).fields m) r (pair_row 0 0) f 0 (omega arith) in
      let own : plain (first_number r) ≡ r.first = sym (number_plain (factor m) r.first refl fits) in
      rw (factor_row m b r k.shaped.instrument.settings c h, own, take_set (field_count m Cal) c r.first (listed (row b Cal)))

  all_back : (m : Mnemonic) → Kept m → Back m
  unfolding Back reply_text written
  all_back (OfReplying (OfSetting x)) h = setting_back x h
  all_back (OfReplying (Cf c)) h = factor_back c h
  all_back (OfReplying (OfQuery q)) h = λ r f error. refl
  all_back Com h = λ r f error. refl
  all_back Sav h = λ r f error. refl

  writes_back : (m : Mnemonic) → Back m → WritesBack said s m
  unfolding Back
  writes_back m b w ready bytes r inner e =
      line_answered s k w ready bytes inner ∙ ap (answered w.enqs s.instrument s.port.error) e
      ∙ ap (λ (x : List ℕ). ack_line ++ x) (often_same w.enqs _ _ (b r (writes_fitting s.instrument.model (line_in bytes) m r e)) s.port.error)

-- every mnemonic that the model knows, read and written, in every state that a box can be in
pub mnemonics_answered : Replies said
mnemonics_answered s k =
    let model = s.instrument.model in
    each_both (λ (m : Mnemonic). Reads said s m) (WritesBack said s) (λ (m : Mnemonic). Reads said s m × WritesBack said s m) (λ m a b. (a, b)) (known model)
    (each_both (Spelt model) (λ (m : Mnemonic). Short (name m)) (λ (m : Mnemonic). Reads said s m) (reads s k) (known model) (all_spelt model) (names_short model))
    (each_map Kept (WritesBack said s) (λ m h. writes_back s k m (all_back s k m h)) (known model) (known_kept model))
