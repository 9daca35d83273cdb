-- The text of no line and of one, and of a report that may be longer than the output. Assumes nothing.
use Rattle.std.proofs.Common.{◌≡◌, refl, List, [], ◌∷◌, ℕ}
use mathlib.Core.List.{append-nil}
use Rattle.model.specs.Lists.{concat_map}
use Rattle.session.specs.text.Text.{line_text, lines_text}

pub no_line : lines_text [] ≡ []
unfolding lines_text concat_map
no_line = refl

pub one_line : (ns : List ℕ) → lines_text (ns ∷ []) ≡ line_text ns
unfolding lines_text concat_map
one_line ns = rw append-nil
