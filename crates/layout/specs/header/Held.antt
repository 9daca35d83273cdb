-- A state in a header and slices, as it is loaded. Assumes nothing: these are definitions.
use Rattle.std.specs.Prelude.{List, ℕ}
use Rattle.layout.specs.declared.header.Header.{Header}
use Rattle.layout.specs.limits.Rows.{Loaded}

abbrev pub held : Header → List ℕ → List ℕ → List ℕ → List ℕ → Loaded
held h rows bindings lines entries =
    record {
      capacity = h.capacity;
      terms = h.terms;
      entries = h.entries;
      lines = h.lines;
      term_rows = rows;
      binding_words = bindings;
      line_words = lines;
      entry_rows = entries;
    }
