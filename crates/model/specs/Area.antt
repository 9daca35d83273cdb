-- The area: its layout, the state that it holds, and when it is sound (document 01, "Areas"; docs/LAYOUT.md has the table
-- of offsets). Assumes nothing: these are definitions.
use Rattle.std.specs.Prelude.{List, [], ◌∷◌, ◌++◌, map, Bool, true, false, cond, not, ◌&&◌, ℕ, zero, suc, ◌+◌, ◌*◌, ◌-◌, ◌/◌, ◌%◌, ◌≤◌, length, get_or, take, drop, eqb, ltb, leb}
use Rattle.std.proofs.Math.Option.{Option, none, some}
use Rattle.model.specs.Limits.{Limits, office, longest_area, max_arity, max_symbol}
use Rattle.model.specs.Lists.{all, from, concat_map, is_empty, eq_numbers, padded}
use Rattle.model.specs.Term.{Node, var, app, symbol, arguments, alike, Book, Bindings, root, acyclic}
use Rattle.model.specs.Table.{Kind, hole, common, Entry, Table, entry, holds, entry_of}
use Rattle.model.specs.Step.{State}

-- LAYOUT. An area is a run of words, each of `word_size` bytes, lowest byte first.
abbrev pub word_size : ℕ
word_size = 4

unfoldable pub to_bytes : ℕ → ℕ → List ℕ
to_bytes zero w = []
to_bytes (suc k) w = w % 256 ∷ to_bytes k (w / 256)

unfoldable pub from_bytes : List ℕ → ℕ
from_bytes [] = 0
from_bytes (x ∷ xs) = x + 256 * from_bytes xs

-- Words in the header (capacity, terms, entries, lines), in a term's row (symbol plus 1 or 0, count, arguments) and in an
-- entry's row (left, right, kind, symbol, count, arguments, same-as). A binding (term plus 1 or 0) and a line take one each.
abbrev pub header_words : ℕ
header_words = 4

abbrev pub term_words : ℕ
term_words = 2 + max_arity

abbrev pub entry_row_words : ℕ
entry_row_words = 6 + max_arity

module _ (lim : Limits) where
  -- the word at which the bindings, the lines and the entries begin
  abbrev pub bindings_at : ℕ
  bindings_at = header_words + term_words * lim.max_terms

  abbrev pub lines_at : ℕ
  lines_at = bindings_at + lim.max_terms

  abbrev pub entries_at : ℕ
  entries_at = lines_at + lim.max_lines

  -- The length that an area needs, in bytes: it follows from the capacity.
  unfoldable pub area_length : ℕ → ℕ
  area_length capacity = word_size * (entries_at + entry_row_words * capacity)

-- STATEMENT. At every capacity of the office an area needs at most 1,048,576 bytes (proofs/Length.antt).
abbrev pub NeededLength : Type 0
NeededLength = (capacity : ℕ) → capacity ≤ office.max_capacity → area_length office capacity ≤ longest_area

-- The words of each kind of row, with zeros in all unused places.
unfoldable pub node_words : Node → List ℕ
node_words var = padded term_words []
node_words (app s args) = suc s ∷ length args ∷ padded max_arity args

unfoldable pub binding_word : Option ℕ → ℕ
binding_word none = 0
binding_word (some t) = suc t

unfoldable pub kind_words : Kind → List ℕ
kind_words hole = padded (3 + max_arity) []
kind_words (common s args) = 1 ∷ s ∷ length args ∷ padded max_arity args

unfoldable pub entry_words : Entry → List ℕ
entry_words e = e.left ∷ e.right ∷ kind_words e.kind ++ e.same_as ∷ []

-- A state as words, and as the bytes of the needed length.
unfoldable pub area_words : Limits → State → List ℕ
area_words lim s =
    s.capacity ∷ length s.book ∷ length s.entries ∷ length s.lines ∷
    padded (term_words * lim.max_terms) (concat_map node_words s.book) ++
    (padded lim.max_terms (map binding_word s.bound) ++
    (padded lim.max_lines s.lines ++ padded (entry_row_words * s.capacity) (concat_map entry_words s.entries)))

unfoldable pub area_bytes : Limits → State → List ℕ
area_bytes lim s = concat_map (to_bytes word_size) (area_words lim s)

-- THE STATE THAT BYTES HOLD, whatever they are; past the end every byte is 0.
module _ (area : List ℕ) where
  unfoldable pub word : ℕ → ℕ
  word i = from_bytes (take word_size (drop (word_size * i) area))

  unfoldable pub words_at : ℕ → ℕ → List ℕ
  words_at i n = map word (from i n)

  -- the term and the entry whose row begins at word i, and the binding at word i
  unfoldable pub node_at : ℕ → Node
  node_at i = cond (eqb (word i) 0) var (app (word i - 1) (words_at (i + 2) (word (i + 1))))

  unfoldable pub binding_at : ℕ → Option ℕ
  binding_at i = cond (eqb (word i) 0) none (some (word i - 1))

  unfoldable pub kind_at : ℕ → Kind
  kind_at i = cond (eqb (word i) 0) hole (common (word (i + 1)) (words_at (i + 3) (word (i + 2))))

  unfoldable pub entry_at : ℕ → Entry
  entry_at i =
      record { left = word i; right = word (i + 1); kind = kind_at (i + 2); same_as = word (i + entry_row_words - 1) }

  unfoldable pub state_of : Limits → State
  state_of lim =
      record {
        book = map (λ t. node_at (header_words + term_words * t)) (from 0 (word 1));
        bound = map (λ t. binding_at (bindings_at lim + t)) (from 0 (word 1));
        entries = map (λ i. entry_at (entries_at lim + entry_row_words * i)) (from 0 (word 2));
        lines = words_at (lines_at lim) (word 3);
        capacity = word 0;
      }

-- SOUNDNESS. Capacity and counts lie in their ranges.
unfoldable pub ranges_ok : Limits → State → Bool
ranges_ok lim s =
    leb 1 s.capacity && leb s.capacity lim.max_capacity && leb (length s.book) lim.max_terms &&
    eqb (length s.bound) (length s.book) && leb (length s.entries) s.capacity &&
    leb (length s.lines) lim.max_lines

-- Node n as term t obeys the rules of terms: symbol, count and arguments in range.
unfoldable pub node_ok : ℕ → Node → Bool
node_ok t var = true
node_ok t (app s args) = leb s max_symbol && leb (length args) max_arity && all (λ a. ltb a t) args

-- Only variables are bound, and to terms.
unfoldable pub binding_ok : Book → Node → Option ℕ → Bool
binding_ok b n none = true
binding_ok b var (some t) = ltb t (length b)
binding_ok b (app s args) (some t) = false

unfoldable pub terms_ok : Book → Bindings → Bool
terms_ok b β = all (λ t. node_ok t (get_or b t var) && binding_ok b (get_or b t var) (get_or β t none)) (from 0 (length b))

module _ (b : Book) (β : Bindings) (es : Table) where
  -- Argument entries exist and have the values of the argument pairs, one for one.
  unfoldable pub arguments_ok : List ℕ → List ℕ → List ℕ → Bool
  arguments_ok [] ls rs = is_empty ls && is_empty rs
  arguments_ok (i ∷ is) [] rs = false
  arguments_ok (i ∷ is) (l ∷ ls) [] = false
  arguments_ok (i ∷ is) (l ∷ ls) (r ∷ rs) = ltb i (length es) && holds b β l r (entry es i) && arguments_ok is ls rs

  -- Common exactly where both sides stand for terms of one symbol and one count, and then with that symbol and those arguments.
  unfoldable pub kind_ok : Kind → Node → Node → Bool
  kind_ok hole l r = not (alike l r)
  kind_ok (common s args) l r = alike l r && eqb s (symbol l) && arguments_ok args (arguments l) (arguments r)

  -- An entry: its terms exist, its kind is right, and same-as is the lowest entry with its values.
  unfoldable pub entry_ok : Entry → Bool
  entry_ok e =
      ltb e.left (length b) && ltb e.right (length b) && kind_ok e.kind (root b β e.left) (root b β e.right) &&
      eqb e.same_as (entry_of b β es e.left e.right)

unfoldable pub same_pair : Entry → Entry → Bool
same_pair e f = eqb e.left f.left && eqb e.right f.right

-- No two entries hold the same two term numbers.
unfoldable pub distinct : Table → Bool
distinct [] = true
distinct (e ∷ es) = all (λ f. not (same_pair e f)) es && distinct es

-- What a sound state obeys.
unfoldable pub sound_state : Limits → State → Bool
sound_state lim s =
    ranges_ok lim s && terms_ok s.book s.bound && acyclic s.book s.bound &&
    all (entry_ok s.book s.bound s.entries) s.entries && distinct s.entries &&
    all (λ i. ltb i (length s.entries)) s.lines

-- An area is sound when it is long enough, its state is sound, and it holds that state's bytes: so every number lies in
-- its range and every unused place is 0.
unfoldable pub sound : Limits → List ℕ → Bool
sound lim area =
    let s = state_of area lim in
    leb (area_length lim s.capacity) (length area) && sound_state lim s &&
    eq_numbers (take (area_length lim s.capacity) area) (area_bytes lim s)
