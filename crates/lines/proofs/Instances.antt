-- What the definitions give where docs/promises/ names a wrong answer.
use mathlib.Core.Path.{◌≡◌, refl}
use mathlib.Core.List.{[], ◌∷◌, map}
use Rattle.text.specs.Text.{ascii}
use Rattle.text.specs.Page.{put, puts, Page}
use Rattle.text.specs.Digits.{bare}
use Rattle.text.specs.Control.{cr, lf, cr_lf}
use Rattle.settings.specs.Table.{defaults}
use Rattle.settings.specs.declared.model.Model.{Model}
use Rattle.settings.specs.declared.model.Model.TheVariants.{Tpg361, Tpg362}
use Rattle.lines.specs.Replies.{setting_text, factors_text}
use Rattle.lines.specs.Words.{word_text, no_error, gathered}
use Rattle.lines.specs.declared.verdict.Fault.TheVariants.{Syntax, Hardware}

-- "answers one per channel"
pub default_factors : map (λ (m : Model). factors_text m (defaults m)) (Tpg361 ∷ Tpg362 ∷ []) ≡ ascii "1.000" ∷ ascii "1.000,1.000" ∷ []
unfolding bare setting_text
default_factors = refl

-- CR, then LF
pub line_ends : (t : Page) → puts t cr_lf ≡ put (put t cr) lf
line_ends t = refl

-- no hardware, then syntax
pub digits_gather : word_text (gathered (gathered no_error Hardware) Syntax) ≡ ascii "0101"
digits_gather = refl
