-- A run that grows by one: the words loaded, the words laid. And bytes cleared. Assumes nothing.
use Rattle.std.proofs.Common.{◌≡◌, refl, sym, ◌∙◌, List, [], ◌∷◌, ◌++◌, append_assoc, append-nil, map, ℕ, zero, suc, ◌+◌, ◌*◌, ◌-◌, ◌≤◌, ◌<◌, add-zero, add-suc, suc-add, add-one, arith, length, get_or, take, drop, set, replicate, take-append-drop, length-append, length-drop, take_at, take-suc, drop-cons, drop-drop, length-take-le}
use Rattle.std.proofs.Math.ListN.{length-map}
use Rattle.std.proofs.Math.Seq.{sets, sets-eq, set_at, append_snoc}
use Rattle.model.specs.Lists.{from, concat_map}
use Rattle.model.specs.Area.{word_size, to_bytes, word, words_at}
use Rattle.layout.specs.words.Words.{laid, cleared}
use Rattle.theory.proofs.Lists.Laws.{length_from, concat_map-append}
use Rattle.theory.proofs.Lists.Rows.{drop_behind}
use Rattle.theory.proofs.Area.Words.{length-to_bytes, length-words}

-- one store behind a first list
set_more : (p l : List ℕ) (i x : ℕ) → length p ≡ i → i < length l → set (p ++ drop i l) i x ≡ p ++ x ∷ [] ++ drop (i + 1) l
set_more p l i x e h =
    rw (add-one, drop-cons l i 0 h) (set_at p (get_or l i 0) (drop (suc i) l) x i e ∙ sym (append_snoc p x (drop (suc i) l)))

-- stores one after the other behind a first list
sets_behind : (p l vs : List ℕ) (n : ℕ) → length p ≡ n → length vs ≤ length l → sets (p ++ l) n vs ≡ p ++ (vs ++ drop (length vs) l)
sets_behind p l vs n e h =
    rw (sets-eq vs (p ++ l) n (rw length-append (omega arith)), take_at p l n e, drop_behind p l n (length vs) e)
    (append_assoc p vs (drop (length vs) l))

-- WORDS LOADED. The numbers that f gives from i on: one number more
words_more : (f : ℕ → ℕ) (i n : ℕ) → map f (from i (suc n)) ≡ map f (from i n) ++ f (i + n) ∷ []
unfolding from
words_more f i zero = rw add-zero
words_more f i (suc n) = rw (words_more f (suc i) n, suc-add, add-suc)

module _ (area : List ℕ) (start : ℕ) where
  -- as many words as were asked for
  pub length-words_at : (n : ℕ) → length (words_at area start n) ≡ n
  unfolding words_at
  length-words_at n = rw (length-map, length_from)

  -- the places with the first i words loaded: with none, and with one more
  pub loads_none : (words : List ℕ) → words ≡ words_at area start 0 ++ drop 0 words
  unfolding words_at from
  loads_none words = refl

  pub loads_more : (words : List ℕ) (i : ℕ) → i < length words
      → set (words_at area start i ++ drop i words) i (word area (start + i)) ≡ words_at area start (i + 1) ++ drop (i + 1) words
  unfolding words_at
  loads_more words i h =
      rw (set_more (words_at area start i) words i (word area (start + i)) (length-words_at i) h, add-one, words_more (word area) start i)

-- WORDS LAID.
module _ (area : List ℕ) (start : ℕ) (words : List ℕ) where
  -- what stands up to the end of the words
  front : List ℕ
  front = take (word_size * start) area ++ concat_map (to_bytes word_size) words

  -- its length
  length_front : word_size * start ≤ length area → length front ≡ word_size * (start + length words)
  unfolding front
  length_front h =
      rw (length-append, length-take-le (word_size * start) area h, length-words word_size words) (omega arith)

  -- the area with the words is that, and then the area as it was
  laid_front : laid area start words ≡ front ++ drop (word_size * (start + length words)) area
  unfolding front laid
  laid_front = rw append_assoc

-- one word more at the end of the words
lays_one : (area : List ℕ) (start : ℕ) (words : List ℕ) (w : ℕ) → word_size * (start + length words + 1) ≤ length area
    → sets (laid area start words) (word_size * (start + length words)) (to_bytes word_size w) ≡ laid area start (words ++ w ∷ [])
unfolding front laid concat_map
lays_one area start words w h =
    let n = word_size * (start + length words) in
    let long : length (to_bytes word_size w) ≡ word_size = length-to_bytes word_size w in
    let end : word_size * (start + (length words + 1)) ≡ n + word_size = omega arith in
    rw (
      laid_front area start words,
      sets_behind (front area start words) (drop n area) (to_bytes word_size w) n
          (length_front area start words (omega arith)) (rw (long, length-drop) (omega arith)),
      long,
      drop-drop word_size n area,
      concat_map-append,
      append-nil (to_bytes word_size w),
      length-append,
      end,
    )
    (simp append_assoc)

-- the area with the first i words laid: with none, and with one more
pub lays_none : (area : List ℕ) (start : ℕ) → area ≡ laid area start []
unfolding laid concat_map
lays_none area start = rw (add-zero, take-append-drop)

pub lays_more : (area : List ℕ) (start : ℕ) (words : List ℕ) (i : ℕ) → word_size * (start + length words) ≤ length area → i < length words
    → sets (laid area start (take i words)) (word_size * (start + i)) (to_bytes word_size (get_or words i 0)) ≡ laid area start (take (i + 1) words)
lays_more area start words i h l =
    let long : length (take i words) ≡ i = length-take-le i words (omega arith) in
    rw (add-one, take-suc words i 0 l) (rw long at (lays_one area start (take i words) (get_or words i 0) (rw long (omega arith))))

-- BYTES CLEARED. The part from a up to e, filled with zeros
pub clears : (area zeros : List ℕ) (a n e : ℕ) → e ≤ length area → a + n ≡ e → zeros ≡ replicate (length (take n (drop a area))) 0
    → take a area ++ (zeros ++ drop n (drop a area)) ≡ cleared area a e
unfolding cleared
clears area zeros a n e h end filled =
    let long : length (take n (drop a area)) ≡ n = length-take-le n (drop a area) (rw length-drop (omega arith)) in
    let count : e - a ≡ n = omega arith in
    rw (filled, long, drop-drop n a area, end, count)
