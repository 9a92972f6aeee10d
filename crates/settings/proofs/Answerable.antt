-- Which selections a model can answer, and which of them is the error word.
use mathlib.Core.Path.{◌≡◌, refl, sym}
use mathlib.Core.Bool.{Bool, true, false, and-true}
use lib.Dec.{ltb}
use Rattle.ground.specs.Members.{every, Each, those}
use Rattle.ground.proofs.Cases.{cond_cases}
use Rattle.ground.proofs.Members.{each_map, each_at, those_each, map_each}
use Rattle.text.specs.Text.{ascii}
use Rattle.settings.specs.Models.{channels}
use Rattle.settings.specs.Table.{TableRow, nothing, switchings, stored_table, switching_entry, stored_entry}
use Rattle.settings.specs.Mnemonics.{takes, knows, mnemonics, known, same, is_there, answers, is_err}
use Rattle.settings.specs.declared.model.Model.{Model}
use Rattle.settings.specs.declared.mnemonic.Setting.{Setting}
use Rattle.settings.specs.declared.mnemonic.Setting.TheVariants.{Uni, Cal, Sp, Stored}
use Rattle.settings.specs.declared.mnemonic.Query.TheVariants.{Sps, Pr, Prx, Tid, Ayt, Pnr, Err}
use Rattle.settings.specs.declared.mnemonic.Replying.{Replying}
use Rattle.settings.specs.declared.mnemonic.Replying.TheVariants.{OfSetting, Cf, OfQuery}
use Rattle.settings.specs.declared.mnemonic.Mnemonic.{Mnemonic}
use Rattle.settings.specs.declared.mnemonic.Mnemonic.TheVariants.{OfReplying, Com, Sav}
use Rattle.settings.proofs.Every.{tested}

-- every model has a first channel
pub first_there : (model : Model) → ltb 0 (channels model) ≡ true
unfolding every
first_there = tested (λ model. ltb 0 (channels model)) refl

pub setting_answers : (model : Model) (x : Setting) → takes model x ≡ answers model (OfSetting x)
unfolding answers
setting_answers model x = rw (first_there model) (sym (and-true (takes model x)))

-- what a mnemonic that is known selects is answered, if it selects anything
module _ (model : Model) where
  abbrev pub Answered : Mnemonic → Type 0
  Answered (OfReplying a) = is_there model (OfReplying a) ≡ true → answers model a ≡ true
  Answered Com = Unit {0}
  Answered Sav = Unit {0}

  pub known_answers : Each Answered (known model)
  unfolding known answers
  known_answers = each_map (λ m. knows model m ≡ true) Answered by (those (knows model) mnemonics) (those_each (knows model) mnemonics)
    where
      by : (m : Mnemonic) → knows model m ≡ true → Answered m
      by (OfReplying a) k = λ t. rw (k, t)
      by Com k = tt
      by Sav k = tt

-- ---- only one of those that have a reply is the error word

abbrev Unlike : TableRow → Type 0
Unlike e = false ≡ same e.name (ascii "ERR")

pub setting_not_err : (x : Setting) → false ≡ is_err (OfSetting x)
unfolding is_err same switching_entry stored_entry
setting_not_err Uni = refl
setting_not_err Cal = refl
setting_not_err (Sp k) = cond_cases Unlike (ltb k 4) (switchings k) nothing (λ _. refl) (λ _. refl)
setting_not_err (Stored k) = each_at Unlike stored_table nothing refl (map_each (λ e. false) (λ e. same e.name (ascii "ERR")) stored_table refl) k

-- nor is another of those that have a reply
abbrev pub error_word : Replying → Bool
error_word (OfQuery Err) = true
error_word a = false

pub err_is : (a : Replying) → error_word a ≡ is_err a
unfolding is_err same
err_is (OfSetting x) = setting_not_err x
err_is (Cf k) = refl
err_is (OfQuery Sps) = refl
err_is (OfQuery (Pr k)) = refl
err_is (OfQuery Prx) = refl
err_is (OfQuery Tid) = refl
err_is (OfQuery Ayt) = refl
err_is (OfQuery Pnr) = refl
err_is (OfQuery Err) = refl
