-- Bytes laid over a list: at the front, the length, more behind, nothing, and a number that is written. Assumes nothing.
use Rattle.std.proofs.Common.{◌≡◌, refl, sym, ap, ◌∙◌, List, [], ◌∷◌, ◌++◌, append_assoc, append-nil, ℕ, ◌+◌, ◌-◌, ◌≤◌, ◌<◌, add-zero, zero-add, add_assoc, add-one, arith, length, take, drop, set, length-append, length-drop, take-append-drop, drop_of_length-le, length-take-le, take_at, take_all, drop-drop}
use Rattle.std.proofs.Math.Seq.{set_split}
use Rattle.leb128.specs.Number.{max_groups, max_number, write, write_within}
use Rattle.leb128.proofs.Writing.{all-written}
use Rattle.theory.proofs.Lists.Rows.{drop_behind}
use Rattle.runs.specs.Runs.{over_at}

module _ (out : List ℕ) where
  -- at the front nothing is kept before the bytes
  pub over_front : (bytes : List ℕ) → over_at out 0 bytes ≡ bytes ++ drop (length bytes) out
  unfolding over_at
  over_front bytes = rw zero-add

  module _ (at : ℕ) (xs : List ℕ) (room : at + length xs ≤ length out) where
    -- where what follows the bytes begins
    seam : length (take at out ++ xs) ≡ at + length xs
    seam = rw (length-append, length-take-le at out (omega arith))

    -- the length stays
    pub length_over : length (over_at out at xs) ≡ length out
    unfolding over_at
    length_over = rw (← append_assoc, length-append, seam, length-drop) (omega arith)

    -- bytes behind bytes are both at once
    pub over-more : (ys : List ℕ) → over_at (over_at out at xs) (at + length xs) ys ≡ over_at out at (xs ++ ys)
    unfolding over_at
    over-more ys =
        rw (
          ← append_assoc (take at out) xs (drop (at + length xs) out),
          take_at (take at out ++ xs) (drop (at + length xs) out) (at + length xs) seam,
          drop_behind (take at out ++ xs) (drop (at + length xs) out) (at + length xs) (length ys) seam,
          drop-drop,
          length-append,
          ← add_assoc,
        )
        (simp append_assoc)

  -- no bytes change nothing
  pub over_none : (at : ℕ) → over_at out at [] ≡ out
  unfolding over_at
  over_none at = rw add-zero (take-append-drop at out)

-- a store is one number laid
set-over : (out : List ℕ) (at x : ℕ) → at < length out → set out at x ≡ over_at out at (x ∷ [])
unfolding over_at
set-over out at x h = set_split out at x h ∙ rw add-one

-- the bytes laid over `out` from `at` on give `end`, and `next` is the place behind them
abbrev pub Laid : List ℕ → ℕ → List ℕ → List ℕ → ℕ → Type 0
Laid out at bytes end next = (next ≡ at + length bytes) × (end ≡ over_at out at bytes)

module _ (out : List ℕ) (at : ℕ) where
  -- at first no bytes are laid
  pub laid_none : Laid out at [] out at
  laid_none = (omega arith, sym (over_none out at))

  module _ (xs end : List ℕ) (next : ℕ) (room : at + length xs ≤ length out) (laid : Laid out at xs end next) where
    -- the length stays
    pub laid-length : length end ≡ length out
    laid-length = ap length laid.1 ∙ length_over out at xs room

    -- bytes laid behind them
    pub laid_more : (ys end' : List ℕ) (next' : ℕ) → Laid end next ys end' next' → Laid out at (xs ++ ys) end' next'
    laid_more ys end' next' h =
        (rw length-append (omega arith), h.1 ∙ rw (laid.1, laid.0) (over-more out at xs room ys))

    -- one more, by a store
    pub laid-set : next < length out → (x : ℕ) → Laid out at (xs ++ x ∷ []) (set end next x) (next + 1)
    laid-set l x = laid_more (x ∷ []) (set end next x) (next + 1) (refl, set-over end next x (omega (arith, laid-length)))

-- bytes laid at the front
pub laid_front : (out bytes end : List ℕ) (next : ℕ) → Laid out 0 bytes end next → (next ≡ length bytes) × (end ≡ bytes ++ drop next out)
laid_front out bytes end next laid =
    let count : next ≡ length bytes = omega arith in
    (count, laid.1 ∙ rw count (over_front out bytes))

-- what lies from `at` on is lent, and bytes are written to its front: said of the whole
module _ (out : List ℕ) (at : ℕ) where
  -- the part that is lent
  abbrev pub tail : List ℕ
  tail = take (length out - at) (drop at out)

  pub tail_all : tail ≡ drop at out
  tail_all = take_all (length out - at) (drop at out) (rw length-drop (omega arith))

  pub tail_length : length tail ≡ length out - at
  tail_length = rw (tail_all, length-drop)

  pub tail_laid : (bytes last : List ℕ) (r : ℕ) → r ≡ length bytes → last ≡ bytes ++ drop r tail
      → Laid out at bytes (take at out ++ (last ++ drop (length out - at) (drop at out))) (at + r)
  unfolding over_at
  tail_laid bytes last r e f =
      let none : drop (length out - at) (drop at out) ≡ [] = drop_of_length-le (drop at out) {i = length out - at} (rw length-drop (omega arith)) in
      (ap (λ (k : ℕ). at + k) e, rw (none, append-nil, f, tail_all, drop-drop, e))

-- so it is for a number, where there is room for it
pub number-laid : (out : List ℕ) (at n : ℕ) → n ≤ max_number → at + length (write max_groups n) ≤ length out
    → (r : ℕ) (last : List ℕ) → r ≡ length (write_within max_groups max_number (length (tail out at)) n)
    → last ≡ write_within max_groups max_number (length (tail out at)) n ++ drop r (tail out at)
    → Laid out at (write max_groups n) (take at out ++ (last ++ drop (length out - at) (drop at out))) (at + r)
number-laid out at n small room r last e f =
    let written : write_within max_groups max_number (length (tail out at)) n ≡ write max_groups n =
    all-written (length (tail out at)) n small (write max_groups n) refl (rw (tail_length out at) (omega arith)) in
    tail_laid out at (write max_groups n) last r (rw written at e) (rw written at f)
