-- Loading and storing undo each other (specs/words/Laws.antt), proved. Assumes nothing.
use Rattle.std.proofs.Common.{◌≡◌, refl, ap, List, [], ◌∷◌, ◌++◌, ℕ, zero, suc, ◌+◌, ◌*◌, ◌/◌, ◌%◌, ◌≤◌, ◌<◌, arith, T, ltb, ltb→lt, length, get_or, take, drop, length-drop, take-append-drop, length-take-le, take-add, drop-drop}
use Rattle.leb128.specs.Laws.{are_bytes}
use Rattle.model.specs.Lists.{from, concat_map}
use Rattle.model.specs.Area.{word_size, to_bytes, from_bytes, word, words_at}
use Rattle.layout.specs.words.Words.{laid}
use Rattle.layout.specs.words.Laws.{WordFromItsBytes, BytesOfTheirWord, LoadsWhatIsStored, StoresWhatIsLoaded}
use Rattle.layout.proofs.words.Runs.{length-words_at}
use Rattle.theory.proofs.Lists.Laws.{and_left, and_right}
use Rattle.theory.proofs.Lists.AreBytes.{bytes_drop, bytes_take}
use Rattle.theory.proofs.Lists.Rows.{map-from, drop_behind, below_all}
use Rattle.theory.proofs.Area.Words.{word_bytes, word_at}

-- a word is read from its bytes
pub word-from_its_bytes : WordFromItsBytes
word-from_its_bytes = word_bytes

-- bytes are those of the word that they make
pub bytes_of_their_word : BytesOfTheirWord
unfolding are_bytes to_bytes from_bytes
bytes_of_their_word [] t = refl
bytes_of_their_word (x ∷ xs) t =
    let small : x < 256 = ltb→lt x 256 (and_left (ltb x 256) (are_bytes xs) t) in
    let low : (x + 256 * from_bytes xs) % 256 ≡ x = omega arith in
    let high : (x + 256 * from_bytes xs) / 256 ≡ from_bytes xs = omega arith in
    rw (low, high) (ap (◌∷◌ x) (bytes_of_their_word xs (and_right (ltb x 256) (are_bytes xs) t)))

-- loading what was stored gives the words
pub loads_what_is_stored : LoadsWhatIsStored
unfolding words_at word laid
loads_what_is_stored area start words h small = map-from (word (laid area start words)) start words 0 at
  where
    at : (j : ℕ) → j < length words → word (laid area start words) (start + j) ≡ get_or words j 0
    at j l =
        let s = word_size * start in
        let apart : word_size * (start + j) ≡ s + word_size * j = omega arith in
        let rest = drop (word_size * (start + length words)) area in
        rw (apart, drop_behind (take s area) (concat_map (to_bytes word_size) words ++ rest) s (word_size * j) (length-take-le s area (omega arith)))
        (word_at words rest (below_all words (omega arith) small) j l)

module _ (area : List ℕ) (bytes : T (are_bytes area)) where
  -- the bytes of one word
  one_word : (i : ℕ) → word_size * (i + 1) ≤ length area → to_bytes word_size (word area i) ≡ take word_size (drop (word_size * i) area)
  unfolding word
  one_word i h =
      let xs = take word_size (drop (word_size * i) area) in
      let long : length xs ≡ word_size = length-take-le word_size (drop (word_size * i) area) (rw length-drop (omega arith)) in
      rw long at (bytes_of_their_word xs (bytes_take word_size (drop (word_size * i) area) (bytes_drop (word_size * i) area bytes)))

  -- the bytes of the words that were loaded
  pub loaded_bytes : (start n : ℕ) → word_size * (start + n) ≤ length area
      → concat_map (to_bytes word_size) (words_at area start n) ≡ take (word_size * n) (drop (word_size * start) area)
  unfolding words_at from concat_map
  loaded_bytes start zero h = refl
  loaded_bytes start (suc n) h =
      let more : word_size * suc n ≡ word_size + word_size * n = omega arith in
      let next : word_size * suc start ≡ word_size * start + word_size = omega arith in
      rw (
        one_word start (omega arith),
        loaded_bytes (suc start) n (omega arith),
        more,
        next,
        take-add word_size (word_size * n) (drop (word_size * start) area),
        drop-drop,
      )

-- storing what was loaded gives the bytes
pub stores_what_is-loaded : StoresWhatIsLoaded
unfolding laid
stores_what_is-loaded area start n bytes h =
    let s = word_size * start in
    let apart : word_size * (start + n) ≡ s + word_size * n = omega arith in
    rw (loaded_bytes area bytes start n h, length-words_at, apart, ← drop-drop (word_size * n) s area, take-append-drop) (take-append-drop s area)
