-- Demands 2 and 3 hold of the calls themselves, in whatever pieces a host hands its bytes over and whatever outputs it lends.
use Prim.Native.Nat.{ℕ, suc, ◌*◌}
use mathlib.Core.Path.{◌≡◌, refl, sym, ap, ap₂, ◌∙◌}
use mathlib.Core.List.{List, [], ◌∷◌, ◌++◌}
use native.Mathlib.Omega.{arith}
use lib.ListN.{length, take}
use Rattle.ground.proofs.Members.{each_map}
use Rattle.settings.specs.Mnemonics.{sheet, known}
use Rattle.settings.specs.declared.mnemonic.Mnemonic.{Mnemonic}
use Rattle.settings.specs.declared.mnemonic.Mnemonic.TheVariants.{OfReplying, Com, Sav}
use Rattle.tpg.specs.Answers.{least_output}
use Rattle.tpg.specs.States.{Sound}
use Rattle.tpg.specs.Steps.{after, said}
use Rattle.tpg.specs.declared.State.{State}
use Rattle.tpg.proofs.HostRun.{after_append, said_append}
use Rattle.tpg.proofs.StateLimits.{after_sound, after_model}
use Rattle.demands.specs.Turns.{Plan, says_over, becomes_over}
use Rattle.demands.specs.Wire.{End, sending}
use Rattle.demands.specs.Replies.{Says, Becomes, Reads, WritesBack}
use Rattle.demands.specs.Sheets.{box_model, box_settings, sheet_asked, copy_lines, copy_of, lines_sent}
use Rattle.demands.specs.Demands.{Meets}
use Rattle.demands.proofs.Splitting.{split, one_turn}
use Rattle.demands.proofs.Replying.{line_answered, line_leaves, mnemonics_answered}
use Rattle.demands.proofs.Copying.{sheet_read, sheet_copied, sheet_cut, sheets_decide}

-- in every state that a box can be in, a program sends and becomes what the box does
abbrev Agrees : Says → Becomes → Type 0
Agrees says becomes = (s : State) → Sound s → (bytes : List ℕ) → (says s bytes ≡ said s bytes) × (becomes s bytes ≡ after s bytes)

read_agreed : (says : Says) (becomes : Becomes) → Agrees says becomes → (s : State) → Sound s → (m : Mnemonic) → Reads said s m → Reads says s m
read_agreed says becomes g s k (OfReplying a) read = λ w ready. (g s k _).0 ∙ read w ready
read_agreed says becomes g s k Com read = tt
read_agreed says becomes g s k Sav read = tt

agreed : (says : Says) (becomes : Becomes) → Agrees says becomes → Meets says becomes
agreed says becomes g = record {
  answers = (λ s k w ready bytes inner. (g s k _).0 ∙ line_answered s k w ready bytes inner);
  leaves = (λ s k w ready bytes inner. rw (g s k (sending w bytes)).1 (line_leaves s k w ready bytes inner));
  replies = (λ s k. each_map (λ (m : Mnemonic). Reads said s m × WritesBack said s m) (λ (m : Mnemonic). Reads says s m × WritesBack says s m)
      (λ m both. (read_agreed says becomes g s k m both.0, (λ w ready l r t e. (g s k _).0 ∙ both.1 w ready l r t e))) (known (box_model s)) (mnemonics_answered s k));
  splits = (λ s k xs ys.
      let first = g s k xs in
      let others = g (after s xs) (after_sound xs s k) ys in
      let all = g s k (xs ++ ys) in (
        all.0 ∙ said_append xs ys s ∙ sym (ap₂ (λ (t u : List ℕ). t ++ u) first.0 (ap (λ (x : State). says x ys) first.1 ∙ others.0)),
        all.1 ∙ after_append xs ys s ∙ sym (ap (λ (x : State). becomes x ys) first.1 ∙ others.1),
      ));
  keeps = (λ s k bytes. rw (g s k bytes).1 (after_sound bytes s k, after_model bytes s));
  read = (λ a k e. ((g a k _).0 ∙ (sheet_read a k e).0, ap box_settings (g a k _).1 ∙ (sheet_read a k e).1));
  copied = (λ a b both e f.
      let sheet = (g a both.first (sheet_asked e a)).0 in
      let sent = lines_sent f (copy_of said e a) in
      let c = sheet_copied a b both e f in
      let h = g b both.second sent in
      rw (copy_same a e sheet) (
        h.0 ∙ c.0,
        ap box_settings h.1 ∙ c.1,
        ap (λ (x : State). says x (sheet_asked e b)) h.1 ∙ (g (after b sent) (after_sound sent b both.second) (sheet_asked e b)).0 ∙ c.2 ∙ sym sheet,
      ));
  cut = (λ a b both e f n.
      let sheet = (g a both.first (sheet_asked e a)).0 in
      let c = sheet_cut a b both e f n in
      let h = g b both.second (lines_sent f (take n (copy_of said e a))) in
      rw (copy_same a e sheet) (h.0 ∙ c.0, rw h.1 c.1, rw h.1 c.2));
  decide = (λ a b both e f.
      let d = sheets_decide a b both e f in
      let p = (g a both.first _).0 in
      let q = (g b both.second _).0 in
      ((λ same. d.0 (sym p ∙ same ∙ q)), (λ same. p ∙ d.1 same ∙ sym q)));
}
  where
    -- the same bytes received make the same copy
    copy_same : (a : State) (e : End) → says a (sheet_asked e a) ≡ said a (sheet_asked e a) → copy_of says e a ≡ copy_of said e a
    copy_same a e = ap (copy_lines (sheet (box_model a)))

-- the box, byte by byte
pub bytes_meet : Meets said after
bytes_meet = agreed said after (λ s k bytes. (refl, refl))

-- and over its calls
pub calls_meet : (p : Plan) → Meets (says_over p) (becomes_over p)
calls_meet p = agreed (says_over p) (becomes_over p) (λ s k bytes. split s bytes (p.turns s bytes) (p.all s k bytes))

-- one way is a single call with 64 bytes of output for each byte, and 64 more
pub one_call : Plan
one_call = record {
  turns = (λ s bytes. record { given = length bytes; room = least_output * suc (length bytes) } ∷ []);
  all = (λ s k bytes. one_turn s k.within bytes (least_output * suc (length bytes)) (omega arith) (omega arith));
}
