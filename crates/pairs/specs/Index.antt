-- The index of a list of pairs of words: trees of places. Each pair has a bucket with a tree of its own, and goes down it by the bits
-- of its way. A cell holds a link, which is a place plus 1, or 0 where there is none. Assumes nothing: these are definitions.
use Rattle.std.specs.Prelude.{◌≡◌, List, ℕ, suc, ◌+◌, ◌*◌, ◌/◌, ◌%◌, ◌≤◌, ◌<◌, length, get_or, set}
use Rattle.pairs.specs.Pairs.{place_of}
use Rattle.pairs.specs.declared.Found.{Found}

-- The number of buckets.
abbrev pub buckets : ℕ
buckets = 4096

-- The hash of (a, b): a and the low 14 bits of b, multiplied by an odd number modulo 2 ^ 46, and above them the high bits of b. No
-- two pairs of words have one hash, and no two pairs of numbers below 2 ^ 14 one in its low 28 bits.
unfoldable pub hash_of : ℕ → ℕ → ℕ
hash_of a b = (a * 16384 + b % 16384) * 204665 % 70368744177664 + b / 16384 * 70368744177664

-- The bucket of (a, b), bits 16 to 27 of its hash, and its way down, the other 52 bits from the lowest. So a tree of pairs of
-- numbers below 2 ^ 14 is at most 17 places deep, and any tree at most 53. Nothing but time depends on this.
unfoldable pub bucket_of : ℕ → ℕ → ℕ
bucket_of a b = hash_of a b / 65536 % buckets

unfoldable pub way_of : ℕ → ℕ → ℕ
way_of a b = hash_of a b % 65536 + hash_of a b / 268435456 * 65536

-- The cells: a head for each bucket, then two for each place. Their number for n places, and the cell below place p on a way.
abbrev pub cells_of : ℕ → ℕ
cells_of n = buckets + 2 * n

abbrev pub cell_below : ℕ → ℕ → ℕ
cell_below p way = cells_of p + way % 2

-- From a cell a way leads to place p: the cell has the link to p, or to a lower place from which the rest of the way leads to p.
pub data Leads (cells : List ℕ) (p : ℕ) : ℕ → ℕ → Type 0 where
  here : {cell way : ℕ} → get_or cells cell 0 ≡ suc p → Leads cells p cell way
  down : {cell way : ℕ} (q : ℕ) → get_or cells cell 0 ≡ suc q → q < p → Leads cells p (cell_below q way) (way / 2) → Leads cells p cell way

-- The slices have room for n pairs and their cells, and a place is a word.
pub record Room (lefts rights cells : List ℕ) (n : ℕ) : Type 0 where
  pub lefts_fit : n ≤ length lefts
  pub rights_fit : n ≤ length rights
  pub cells_fit : cells_of n ≤ length cells
  pub words : length lefts < 4294967296

-- The first n pairs are indexed: there is room for them, a link goes to a place whose own cells come later, and the way of each pair
-- leads from its bucket's head to its first place.
pub record Indexed (lefts rights cells : List ℕ) (n : ℕ) : Type 0 where
  pub room : Room lefts rights cells n
  pub later : (cell p : ℕ) → cell < cells_of n → get_or cells cell 0 ≡ suc p → (p < n) × (cell < cells_of p)
  pub leads : (a b : ℕ) → place_of lefts rights n a b < n → Leads cells (place_of lefts rights n a b) (bucket_of a b) (way_of a b)

-- The links in the first m cells of one list stand in the other too.
abbrev pub LinksKept : List ℕ → List ℕ → ℕ → Type 0
LinksKept cells cells' m = (cell p : ℕ) → cell < m → get_or cells cell 0 ≡ suc p → get_or cells' cell 0 ≡ suc p

-- A cell without a link at which the search of (a, b) among the first n pairs ends: with the link to place n there, the way of (a, b)
-- leads to n.
pub record Ends (cells : List ℕ) (n a b cell : ℕ) : Type 0 where
  pub low : cell < cells_of n
  pub empty : get_or cells cell 0 ≡ 0
  pub joins : (cells' : List ℕ) → LinksKept cells cells' (cells_of n) → get_or cells' cell 0 ≡ suc n → Leads cells' n (bucket_of a b) (way_of a b)

-- The first place of (a, b) among the first n pairs, or n and the cell at which the search ends.
pub record Searched (lefts rights cells : List ℕ) (n a b : ℕ) (r : Found) : Type 0 where
  pub place : r.place ≡ place_of lefts rights n a b
  pub ends : r.place ≡ n → Ends cells n a b r.cell

-- One pair more, (a, b) at place n: the lists after it, which are indexed, and r, the first place of (a, b) in them. It is the
-- first place that (a, b) had, or n.
pub record Pushed (lefts rights lefts' rights' cells' : List ℕ) (n a b r : ℕ) : Type 0 where
  pub left : lefts' ≡ set lefts n a
  pub right : rights' ≡ set rights n b
  pub place : r ≡ place_of lefts rights n a b
  pub indexed : Indexed lefts' rights' cells' (suc n)
