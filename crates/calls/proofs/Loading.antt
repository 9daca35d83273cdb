-- What is loaded from a sound area is what a step asks. Assumes nothing.
use Rattle.std.proofs.Common.{List, ℕ, ◌*◌, ◌≤◌, arith, length, take, length-take}
use Rattle.model.specs.Limits.{Limits}
use Rattle.model.specs.Area.{entry_row_words, word}
use Rattle.layout.specs.declared.header.Header.{Header}
use Rattle.layout.specs.header.Held.{held}
use Rattle.area.specs.load.Loading.{header_of}
use Rattle.area.specs.load.Ready.{ReadFrom}
use Rattle.area.proofs.test.Whole.{HeaderOf}

module _ {lim : Limits} {area rows bindings list roots names lines : List ℕ} {h : Header} (entries : List ℕ) (head : HeaderOf area h)
    (r : ReadFrom lim area (held (header_of area) rows bindings lines (take (entry_row_words * word area 0) entries)) list roots names) where
  -- the rows of the capacity lie in the slice
  pub front_fits : entry_row_words * h.capacity ≤ length entries
  unfolding header_of
  front_fits = omega (arith, head.0, length-take (entry_row_words * word area 0) entries, r.ready.sizes.entries_size)

  -- and are what was read
  pub front_read : ReadFrom lim area (held h rows bindings lines (take (entry_row_words * h.capacity) entries)) list roots names
  unfolding header_of
  front_read = rw (head.0, head.1, head.2, head.3) r
