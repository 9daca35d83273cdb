-- What reading an entry answers, case by case. Assumes nothing.
use Rattle.std.proofs.Common.{◌≡◌, sym, ap, List, [], true, false, ℕ, ◌≤◌, ◌<◌, length, replicate, lt-ltb, le-ltb}
use Rattle.model.specs.Limits.{Limits}
use Rattle.model.specs.Table.{entry}
use Rattle.model.specs.Area.{entry_row_words, entry_words, word, sound, state_of}
use Rattle.model.specs.Call.{Outcome, refuse, accept, guard, call_entry}

-- The outcome of the call is this refusal with these numbers.
abbrev pub EntryAnswer : Limits → List ℕ → ℕ → ℕ → List ℕ → Type 0
EntryAnswer lim area i refusal numbers =
    (refusal ≡ (call_entry lim area i).refusal) × (numbers ≡ (call_entry lim area i).numbers)

module _ (lim : Limits) (area : List ℕ) (i : ℕ) where
  -- the parts of an outcome that is known
  answer : (o : Outcome) → call_entry lim area i ≡ o → EntryAnswer lim area i o.refusal o.numbers
  answer o e = (ap (λ o. o.refusal) (sym e), ap (λ o. o.numbers) (sym e))

  pub entry_seven : sound lim area ≡ false → EntryAnswer lim area i 7 (replicate entry_row_words 0)
  unfolding call_entry guard refuse
  entry_seven h = answer (refuse entry_row_words 7 area []) (rw h)

  module _ (h : sound lim area ≡ true) (size : length (state_of area lim).entries ≡ word area 2) where
    pub entry_eight : word area 2 ≤ i → EntryAnswer lim area i 8 (replicate entry_row_words 0)
    unfolding call_entry guard refuse
    entry_eight l = answer (refuse entry_row_words 8 area []) (rw (h, size, le-ltb i (word area 2) l))

    pub entry-there : i < word area 2 → (row : List ℕ) → row ≡ entry_words (entry (state_of area lim).entries i) → EntryAnswer lim area i 0 row
    unfolding call_entry guard accept
    entry-there l row e = rw e (answer (accept (entry_words (entry (state_of area lim).entries i)) area []) (rw (h, size, lt-ltb i (word area 2) l)))
