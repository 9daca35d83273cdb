-- Lines of numbers as text (document 01, "Sessions"): numbers in decimal, parted by single blanks, a line feed at the end of each
-- line. Characters are bytes. Assumes nothing: these are definitions.
use Rattle.std.specs.Prelude.{◌≡◌, refl, List, [], ◌∷◌, ◌++◌, cond, ℕ, zero, suc, ◌+◌, ◌*◌, ◌/◌, ◌%◌, length, ltb}
use Rattle.model.specs.Lists.{concat_map}
use Rattle.model.specs.BookBytes.{Parsed, parsed, unparsed, parse_number}

-- the digit 0, the blank and the line feed
abbrev pub zero_digit : ℕ
zero_digit = 48

abbrev pub blank : ℕ
blank = 32

abbrev pub line_feed : ℕ
line_feed = 10

-- The digits of n, in at most k places.
unfoldable pub digits : ℕ → ℕ → List ℕ
digits zero n = []
digits (suc k) n = cond (ltb n 10) ((zero_digit + n) ∷ []) (digits k (n / 10) ++ (zero_digit + n % 10) ∷ [])

-- a number of 32 bits has at most so many
abbrev pub max_digits : ℕ
max_digits = 10

unfoldable pub decimal : ℕ → List ℕ
decimal n = digits max_digits n

-- numbers that follow another in a line: a blank before each
unfoldable pub spaced : ℕ → List ℕ
spaced n = blank ∷ decimal n

-- a number that was read takes at most so many bytes: a blank and five digits
abbrev pub number_most : ℕ
number_most = 6

unfoldable pub following : List ℕ → List ℕ
following ns = concat_map spaced ns

-- A line.
unfoldable pub line_text : List ℕ → List ℕ
line_text [] = line_feed ∷ []
line_text (n ∷ ns) = decimal n ++ (following ns ++ line_feed ∷ [])

-- The most bytes of a line of a number, `count` numbers of 32 bits behind it, and the numbers in `size` bytes.
abbrev pub line_most : ℕ → ℕ → ℕ
line_most count size = (1 + max_digits) * (1 + count) + number_most * size

-- The lines, one after the other.
unfoldable pub lines_text : List (List ℕ) → List ℕ
lines_text lines = concat_map line_text lines

-- Two lines in characters: 0, and 0 10 65535.
pub text_sample :
    lines_text ((0 ∷ []) ∷ (0 ∷ 10 ∷ 65535 ∷ []) ∷ []) ≡
    48 ∷ 10 ∷ 48 ∷ 32 ∷ 49 ∷ 48 ∷ 32 ∷ 54 ∷ 53 ∷ 53 ∷ 51 ∷ 53 ∷ 10 ∷ []
unfolding lines_text line_text following spaced decimal digits concat_map
text_sample = refl

-- The numbers that bytes hold, one after the other, at most k of them, as far as they are numbers.
unfoldable pub cons_number : Parsed ℕ → (List ℕ → List ℕ) → List ℕ
cons_number (parsed n rest) next = n ∷ next rest
cons_number (unparsed k) next = []

unfoldable pub numbers_within : ℕ → List ℕ → List ℕ
numbers_within zero bytes = []
numbers_within (suc k) bytes = cons_number (parse_number bytes) (numbers_within k)

-- All of them: no number takes less than a byte.
unfoldable pub numbers_in : List ℕ → List ℕ
numbers_in bytes = numbers_within (length bytes) bytes
