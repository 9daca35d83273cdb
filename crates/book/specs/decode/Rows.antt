-- The rows of a book (crate layout's bookOf is the way back), and what decoding answers (document 01, "Bytes" and "Turned
-- down"). Assumes nothing: these are definitions.
use Rattle.std.specs.Prelude.{List, [], ℕ}
use Rattle.model.specs.Lists.{concat_map, padded}
use Rattle.model.specs.Term.{Book}
use Rattle.model.specs.BookBytes.{Parsed, parsed, unparsed}
use Rattle.model.specs.Area.{node_words}

-- The rows of a book in `size` words, zeros behind them.
unfoldable pub book_rows : ℕ → Book → List ℕ
book_rows size b = padded size (concat_map node_words b)

-- Decoding's refusal, 0 where there is none, and the book, the empty one where there is a refusal.
unfoldable pub decoded_refusal : Parsed Book → ℕ
decoded_refusal (parsed b rest) = 0
decoded_refusal (unparsed n) = n

unfoldable pub decoded_book : Parsed Book → Book
decoded_book (parsed b rest) = b
decoded_book (unparsed n) = []
