-- The words of an area that are loaded: one of them, some of them, and one run behind another. Assumes nothing.
use Rattle.std.proofs.Common.{◌≡◌, List, ◌++◌, ℕ, ◌+◌, ◌≤◌, ◌<◌, get_or, take, drop}
use Rattle.model.specs.Area.{word, words_at}
use Rattle.theory.proofs.Lists.From.{get_or-map-from, map-from-append, part_map-from}

module _ (area : List ℕ) (start : ℕ) where
  -- word i of n
  pub get_or-words_at : (n i d : ℕ) → i < n → get_or (words_at area start n) i d ≡ word area (start + i)
  unfolding words_at
  get_or-words_at n i d h = get_or-map-from (word area) start n i d h

  -- c words of n, behind the first i
  pub part_words_at : (n i c : ℕ) → i + c ≤ n → take c (drop i (words_at area start n)) ≡ words_at area (start + i) c
  unfolding words_at
  part_words_at n i c h = part_map-from (word area) start n i c h

  -- n words behind m
  pub words_at-append : (m n : ℕ) → words_at area start (m + n) ≡ words_at area start m ++ words_at area (start + m) n
  unfolding words_at
  words_at-append m n = map-from-append (word area) start m n
