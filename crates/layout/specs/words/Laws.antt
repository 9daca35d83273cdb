-- Loading and storing undo each other. Statements only; the two about one word are over the number of its bytes.
use Rattle.std.specs.Prelude.{◌≡◌, List, ℕ, ◌+◌, ◌*◌, ◌^◌, ◌≤◌, ◌<◌, length, get_or, T}
use Rattle.leb128.specs.Laws.{are_bytes}
use Rattle.model.specs.Area.{word_size, to_bytes, from_bytes, words_at}
use Rattle.layout.specs.words.Words.{laid}

abbrev pub WordFromItsBytes : Type 0
WordFromItsBytes = (k w : ℕ) → w < 256 ^ k → from_bytes (to_bytes k w) ≡ w

abbrev pub BytesOfTheirWord : Type 0
BytesOfTheirWord = (bytes : List ℕ) → T (are_bytes bytes) → to_bytes (length bytes) (from_bytes bytes) ≡ bytes

-- Loading what was stored gives the words.
abbrev pub LoadsWhatIsStored : Type 0
LoadsWhatIsStored = (area : List ℕ) (start : ℕ) (words : List ℕ) → word_size * (start + length words) ≤ length area
    → ((i : ℕ) → i < length words → get_or words i 0 < 256 ^ word_size) → words_at (laid area start words) start (length words) ≡ words

-- Storing what was loaded gives the bytes.
abbrev pub StoresWhatIsLoaded : Type 0
StoresWhatIsLoaded = (area : List ℕ) (start n : ℕ) → T (are_bytes area) → word_size * (start + n) ≤ length area
    → laid area start (words_at area start n) ≡ area
