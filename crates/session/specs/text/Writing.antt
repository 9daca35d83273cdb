-- What is put into a lent buffer by a writer. Assumes nothing: these are definitions.
use Rattle.std.specs.Prelude.{◌≡◌, List, ℕ, ◌+◌, ◌≤◌, length}
use Rattle.runs.specs.Runs.{over_at}
use Rattle.session.specs.declared.text.Writer.{Writer}

-- So many bytes fit behind the place of the writer.
abbrev pub Room : Writer → ℕ → Type 0
Room writer size = writer.at + size ≤ length writer.text.now

-- The bytes go to the place of the writer, which is then behind them. The buffer is the same one, and as long as it was.
pub record Puts (old new : Writer) (put : List ℕ) : Type 0 where
  pub same_reference : new.text.ghost_name ≡ old.text.ghost_name
  pub next : new.at ≡ old.at + length put
  pub bytes : new.text.now ≡ over_at old.text.now old.at put
  pub kept : length new.text.now ≡ length old.text.now
