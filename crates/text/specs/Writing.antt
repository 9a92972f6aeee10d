-- What a writer stands at, and what a call of it writes (01, "Answer numbers of the calls": "an accepted call writes only the
-- bytes it counts").
use Rattle.std.specs.Prelude.{◌≡◌, ℕ, List}
use Rattle.text.specs.Page.{Page, page, puts}
use Rattle.text.specs.declared.writer.Writer.{Writer}

-- the output of a writer, and the place where its next byte goes
abbrev pub page_of : Writer → Page
page_of w = page w.bytes.now w.at

-- the same output, with these bytes more
pub record Wrote (old new : Writer) (text : List ℕ) : Type 0 where
  pub same_output : new.bytes.ghost_name ≡ old.bytes.ghost_name
  pub written : page_of new ≡ puts (page_of old) text
