-- What the demands fix: a program that meets them sends what the box sends, in every conversation of lines and ENQs.
use Prim.Native.Nat.{ℕ}
use mathlib.Core.Path.{◌≡◌, refl, sym, ap, ap₂, ◌∙◌}
use mathlib.Core.List.{List, [], ◌∷◌, ◌++◌, flat_map, append_cancel_right}
use mathlib.Core.Bool.{true}
use Rattle.ground.specs.Members.{every, Each}
use Rattle.lines.specs.Judging.{judged}
use Rattle.lines.specs.declared.word.Word.{Word}
use Rattle.ports.specs.Line.{is_empty}
use Rattle.instrument.specs.Events.{applied}
use Rattle.instrument.specs.declared.Instrument.{Instrument}
use Rattle.tpg.specs.States.{Sound}
use Rattle.tpg.specs.Steps.{after, said}
use Rattle.tpg.specs.declared.State.{State}
use Rattle.demands.specs.Wire.{nak_line, Inner, undropped, is_good, line_in, by_cr, Start, on_empty, after_etx, Ready, Way, sending, as_often, answered, error_left}
use Rattle.demands.specs.Replies.{Says, Becomes}
use Rattle.demands.specs.Demands.{Meets, Spoken, conversation}
use Rattle.demands.proofs.Handing.{bytes_meet}

-- an empty line is ready for both ways to begin
ready : (s : State) → is_empty s.port ≡ true → (start : Start) → Ready start s
ready s e on_empty = e
ready s e after_etx = tt

module _ (says : Says) (becomes : Becomes) (meets : Meets says becomes) where
  -- an empty line, refused
  abbrev refusing : Way
  refusing = record { start = after_etx; end = by_cr; enqs = 0 }

  refused : (s : State) → Sound s → says s (sending refusing []) ≡ nak_line
  unfolding judged is_good undropped every as_often
  refused s k = meets.answers s k refusing tt [] tt

  -- for no bytes nothing is sent
  nothing_said : (s : State) → Sound s → says s [] ≡ []
  nothing_said s k =
      let now = becomes s [] in
      append_cancel_right (says s []) [] nak_line
      (ap (λ (t : List ℕ). says s [] ++ t) (sym (refused now (meets.keeps s k []).0)) ∙ sym (meets.splits s k [] (sending refusing [])).0 ∙ refused s k)

-- two boxes that answer alike: an empty line, and the same settings, readings and error word
record Alike (s t : State) : Type 0 where
  first : Sound s
  second : Sound t
  instrument : s.instrument ≡ t.instrument
  error : s.port.error ≡ t.port.error
  emptied : is_empty s.port ≡ true
  empty : is_empty t.port ≡ true

module _ (says : Says) (becomes : Becomes) (meets : Meets says becomes) where
  agreeing : (ls : List Spoken) → Each (λ (l : Spoken). Each Inner l.bytes) ls → (s t : State) → Alike s t → says s (conversation ls) ≡ said t (conversation ls)
  unfolding flat_map said
  agreeing [] inner s t a = nothing_said says becomes meets s a.first
  agreeing (l ∷ ls) inner s t a =
      let w = l.way in
      let line = sending w l.bytes in
      let rs = ready s a.emptied w.start in
      let rt = ready t a.empty w.start in
      let ours = meets.leaves s a.first w rs l.bytes inner.0 in
      let theirs = bytes_meet.leaves t a.second w rt l.bytes inner.0 in
      let one : says s line ≡ said t line =
      meets.answers s a.first w rs l.bytes inner.0
      ∙ ap₂ (λ (x : Instrument) (e : Word). answered w.enqs x e (judged x.model (line_in l.bytes))) a.instrument a.error
      ∙ sym (bytes_meet.answers t a.second w rt l.bytes inner.0) in
      let next : Alike (becomes s line) (after t line) = record {
        first = (meets.keeps s a.first line).0;
        second = (bytes_meet.keeps t a.second line).0;
        instrument = ours.instrument ∙ ap (λ (x : Instrument). applied x (judged x.model (line_in l.bytes))) a.instrument ∙ sym theirs.instrument;
        error = ours.error ∙ ap₂ (λ (x : Instrument) (e : Word). error_left w.enqs e (judged x.model (line_in l.bytes))) a.instrument a.error ∙ sym theirs.error;
        emptied = ours.empty;
        empty = theirs.empty;
      } in
      (meets.splits s a.first line (conversation ls)).0
      ∙ ap₂ (λ (t u : List ℕ). t ++ u) one (agreeing ls inner.1 (becomes s line) (after t line) next)
      ∙ sym (bytes_meet.splits t a.second line (conversation ls)).0

  -- whatever program it is
  pub conversations_agree : (s : State) → Sound s → is_empty s.port ≡ true → (ls : List Spoken) → Each (λ (l : Spoken). Each Inner l.bytes) ls
      → says s (conversation ls) ≡ said s (conversation ls)
  conversations_agree s k e ls inner = agreeing ls inner s s (record { first = k; second = k; instrument = refl; error = refl; emptied = e; empty = e })
