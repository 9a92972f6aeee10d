-- The run over the host's bytes, byte by byte.
use Prim.Native.Nat.{ℕ, suc, ◌+◌, ◌-◌, ◌≤◌, ◌<◌}
use mathlib.Core.Path.{◌≡◌, refl, sym, ap, ◌∙◌}
use mathlib.Core.List.{List, [], ◌∷◌, ◌++◌, append_assoc, append-nil}
use native.Mathlib.Omega.{arith}
use native.Mathlib.Nat.{zero-add, add-zero}
use native.Mathlib.Numerals.{add-one}
use borrow.Author.Tests.{le-leb, lt-leb}
use lib.ListN.{length, get_or, take, drop, length-append, length-drop, drop_of_length-le}
use lib.Seq.{take-suc, drop-cons}
use mathlib.Core.Bool.{true, false}
use Rattle.std.specs.Prelude.{Ok, Err}
use Rattle.std.specs.Result.{is_ok}
use Rattle.ground.proofs.Cases.{never, cond_cases}
use Rattle.text.specs.Page.{page, puts}
use Rattle.ports.specs.Hearing.{quiet}
use Rattle.ports.specs.Walk.{is_typed, typing, typed_one, typed_all}
use Rattle.ports.specs.declared.Event.{Event}
use Rattle.ports.specs.declared.Event.TheVariants.{Silent}
use Rattle.ports.specs.declared.Heard.{Heard}
use Rattle.ports.specs.declared.Port.{Port}
use Rattle.ports.specs.declared.typing.Typed.{Typed}
use Rattle.ports.proofs.Characters.{typing_more, typed_heard}
use Rattle.lines.specs.Verdicts.{Verdict}
use Rattle.instrument.specs.Events.{applied}
use Rattle.instrument.specs.declared.Instrument.{Instrument}
use Rattle.tpg.specs.Answers.{done, least_output}
use Rattle.tpg.specs.Steps.{event_text, acted, hearing, next, sent, after, said, taken, over}
use Rattle.tpg.specs.Calls.{host_text, hosted}
use Rattle.tpg.specs.declared.State.{State}
use Rattle.tpg.proofs.Laying.{laid_at, over_more, over_length, laid_nothing, copied}
use Rattle.tpg.proofs.Sending.{event_length, sent_length}

-- a refused line leaves the instrument as it was
pub refused_stays : (i : Instrument) (v : Verdict) → is_ok v ≡ false → i ≡ applied i v
refused_stays i (Ok order) e = never (cc)
refused_stays i (Err x) e = refl

pub after_append : (xs ys : List ℕ) (s : State) → after s (xs ++ ys) ≡ after (after s xs) ys
unfolding after
after_append [] ys s = refl
after_append (x ∷ xs) ys s = after_append xs ys (next s x)

pub said_append : (xs ys : List ℕ) (s : State) → said s (xs ++ ys) ≡ said s xs ++ said (after s xs) ys
unfolding after said
said_append [] ys s = refl
said_append (x ∷ xs) ys s = rw (said_append xs ys (next s x)) (sym (append_assoc (sent s x) (said (next s x) xs) (said (after (next s x) xs) ys)))

-- one byte more
module _ (s : State) (l : List ℕ) (i : ℕ) (h : i < length l) where
  more : take (i + 1) l ≡ take i l ++ get_or l i 0 ∷ []
  more = rw (add-one i) (take-suc l i 0 h)

  pub after_next : after s (take (i + 1) l) ≡ next (after s (take i l)) (get_or l i 0)
  unfolding after
  after_next = rw more (after_append (take i l) (get_or l i 0 ∷ []) s)

  pub said_next : said s (take (i + 1) l) ≡ said s (take i l) ++ sent (after s (take i l)) (get_or l i 0)
  unfolding said
  said_next = rw more (said_append (take i l) (get_or l i 0 ∷ []) s ∙ ap (λ (x : List ℕ). said s (take i l) ++ x) (append-nil (sent (after s (take i l)) (get_or l i 0))))

-- how many are taken: one more where there is room, none where there is not or nothing is left
module _ (s : State) where
  pub taken_more : (l : List ℕ) (i f : ℕ) → i < length l → least_output ≤ f
      → taken s (drop i l) f ≡ suc (taken (next s (get_or l i 0)) (drop (i + 1) l) (f - length (sent s (get_or l i 0))))
  unfolding taken
  taken_more l i f h r = rw (drop-cons l i 0 h, le-leb least_output f r, add-one i)

  pub taken_full : (l : List ℕ) (f : ℕ) → f < least_output → taken s l f ≡ 0
  unfolding taken
  taken_full [] f h = refl
  taken_full (b ∷ bs) f h = rw (lt-leb least_output f h)

  pub taken_end : (l : List ℕ) (i f : ℕ) → length l ≤ i → taken s (drop i l) f ≡ 0
  unfolding taken
  taken_end l i f h = rw (drop_of_length-le l {i = i} h)

-- where a run stands after t bytes that sent w
pub record Going (s : State) (input out₀ : List ℕ) (instrument : Instrument) (port : Port) (out : List ℕ) (t w : ℕ) : Type 0 where
  pub low : t ≤ length input
  pub state : record { instrument = instrument; port = port } ≡ after s (take t input)
  pub bytes : out ≡ over (said s (take t input)) out₀
  pub count : w ≡ length (said s (take t input))
  pub inside : w ≤ length out₀
  pub left : taken s input (length out₀) ≡ t + taken (record { instrument = instrument; port = port }) (drop t input) (length out₀ - w)

pub start : (s : State) (input out₀ : List ℕ) → Going s input out₀ s.instrument s.port out₀ 0 0
unfolding after said over
start s input out₀ = record {
  low = omega arith;
  state = refl;
  bytes = refl;
  count = refl;
  inside = omega arith;
  left = let e : length out₀ - 0 ≡ length out₀ = omega arith in rw (e, zero-add (taken s input (length out₀)));
}

module _ {s : State} {input out₀ : List ℕ} {instrument : Instrument} {port : Port} {out : List ℕ} {t w : ℕ} (g : Going s input out₀ instrument port out t w) where
  abbrev now : State
  now = record { instrument = instrument; port = port }

  abbrev byte : ℕ
  byte = get_or input t 0

  pub step : (instrument' : Instrument) (port' : Port) (out' : List ℕ) (w' : ℕ) → t < length input → w + least_output ≤ length out₀ → length (sent now byte) ≤ least_output
      → record { instrument = instrument'; port = port' } ≡ next now byte → out' ≡ laid_at w (sent now byte) out → w' ≡ w + length (sent now byte)
      → Going s input out₀ instrument' port' out' (t + 1) w'
  step instrument' port' out' w' more room short state bytes count =
      let was : now ≡ after s (take t input) = g.state in
      let all : said s (take (t + 1) input) ≡ said s (take t input) ++ sent now byte =
      said_next s input t more ∙ ap (λ (x : State). said s (take t input) ++ sent x byte) (sym was) in
      let f : (length out₀ - w) - length (sent now byte) ≡ length out₀ - w' = omega (arith, count) in
      record {
        low = omega arith;
        state = state ∙ ap (λ (x : State). next x byte) was ∙ sym (after_next s input t more);
        bytes = bytes ∙ rw (g.bytes, g.count) (over_more (said s (take t input)) (sent now byte) out₀) ∙ ap (λ (x : List ℕ). over x out₀) (sym all);
        count = rw all (count ∙ rw g.count (sym (length-append (said s (take t input)) (sent now byte))));
        inside = omega (arith, count);
        left = g.left ∙ rw (taken_more now input t (length out₀ - w) more (omega arith), f, ← state) (omega arith);
      }

  pub length_kept : length out ≡ length out₀
  length_kept = rw g.bytes (over_length (said s (take t input)) out₀ (omega (arith, g.count, g.inside)))

  room : least_output ≤ length out - w → w + least_output ≤ length out₀
  room free = omega (arith, g.inside, length_kept)

  -- a byte that was heard, by its event
  module _ (h : Heard) (more : t < length input) (free : least_output ≤ length out - w) (hears : h ≡ hearing now byte) where
    met : (e : Event) (instrument' : Instrument) (out' : List ℕ) (w' : ℕ) → h.event ≡ e → instrument' ≡ acted instrument e → out' ≡ laid_at w (event_text instrument e) out
        → w' ≡ w + length (event_text instrument e) → Going s input out₀ instrument' h.port out' (t + 1) w'
    unfolding next sent
    met e instrument' out' w' is state bytes count =
        let told : e ≡ (hearing now byte).event = sym is ∙ ap (λ (x : Heard). x.event) hears in
        let text : event_text instrument e ≡ sent now byte = ap (event_text instrument) told in
        let after : instrument' ≡ acted instrument (hearing now byte).event = state ∙ ap (acted instrument) told in
        step instrument' h.port out' w' more (room free) (sent_length now byte) (λ i. record { instrument = after i; port = (hears i).port })
        (bytes ∙ ap (λ (x : List ℕ). laid_at w x out) text) (count ∙ ap (λ (x : List ℕ). w + length x) text)

    -- nothing is sent and nothing changed
    pub silent : h.event ≡ Silent → Going s input out₀ instrument h.port out (t + 1) w
    unfolding event_text
    silent is = met Silent instrument out w is refl (laid_nothing w out) (sym (add-zero w))

    -- its text is laid into the output
    pub answered : (e : Event) (instrument' : Instrument) (out' : List ℕ) (w' : ℕ) → h.event ≡ e → instrument' ≡ acted instrument e
        → page out' w' ≡ puts (page out w) (event_text instrument e) → Going s input out₀ instrument' h.port out' (t + 1) w'
    answered e instrument' out' w' is state wrote =
        let short : length (event_text instrument e) ≤ least_output = event_length instrument e in
        let k = copied (event_text instrument e) out out' w w' wrote (omega (arith, room free, length_kept)) in
        met e instrument' out' w' is state k.1 k.0

  module _ (none : taken now (drop t input) (length out₀ - w) ≡ 0) where
    count_reached : taken s input (length out₀) ≡ t
    count_reached = g.left ∙ rw none (add-zero t)

    pub ended : (done now t w ≡ hosted s input (length out₀)) × (out ≡ over (host_text s input (length out₀)) out₀)
    unfolding hosted
    ended = rw count_reached ((λ i. done (g.state i) t (g.count i)), g.bytes)

-- a run of characters and spaces: each is taken, and none sends anything
typed_run : {s : State} {input out₀ : List ℕ} {instrument : Instrument} {port : Port} {out : List ℕ} {t w : ℕ} (bs : List ℕ) → Going s input out₀ instrument port out t w
    → least_output ≤ length out - w → drop t input ≡ bs → Going s input out₀ instrument (typed_all port (typing bs)) out (t + length (typing bs)) w
unfolding typing typed_all
typed_run {t = t} [] g free e = rw (add-zero t) g
typed_run {s} {input} {out₀} {instrument} {port} {out} {t} {w} (b ∷ bs) g free e =
    let more : t < length input = omega (arith, length-drop t input, ap length e) in
    let split : get_or input t 0 ∷ drop (t + 1) input ≡ b ∷ bs = rw (add-one t) (sym (drop-cons input t 0 more) ∙ e) in
    let here : get_or input t 0 ≡ b = cc in
    let rest : drop (t + 1) input ≡ bs = cc in
    cond_cases (λ (l : List ℕ). Going s input out₀ instrument (typed_all port l) out (t + length l) w) (is_typed b) (b ∷ typing bs) []
    (λ typed.
    let one = silent g (quiet (typed_one port b)) more free (rw here (sym (typed_heard instrument.model port b typed))) refl in
    let n : (t + 1) + length (typing bs) ≡ t + length (b ∷ typing bs) = omega arith in
    rw n at (typed_run {port = (quiet (typed_one port b)).port} bs one free rest)) (λ _. rw (add-zero t) g)

module _ {s : State} {input out₀ : List ℕ} {instrument : Instrument} {port : Port} {out : List ℕ} {t w : ℕ} (g : Going s input out₀ instrument port out t w) (r : Typed)
    (e : r ≡ record { port = typed_all port (typing (drop t input)); at = t + length (typing (drop t input)) }) where
  pub typed : least_output ≤ length out - w → Going s input out₀ instrument r.port out r.at w
  typed free = rw e (typed_run (drop t input) g free refl)

  pub farther : t < length input → is_typed (get_or input t 0) ≡ true → t < r.at
  farther more q = rw e (omega (arith, ap length (typing_more input t more q)))
