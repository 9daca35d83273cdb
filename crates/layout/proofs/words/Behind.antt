-- Words laid behind a first part, and one run of words behind another. Assumes nothing.
use Rattle.std.proofs.Common.{◌≡◌, sym, ap, ◌∙◌, List, ◌++◌, append_assoc, ℕ, ◌+◌, ◌*◌, arith, length, drop, length-append, take_at, drop-drop}
use Rattle.std.proofs.Math.Seq.{drop-append-add}
use Rattle.model.specs.Lists.{concat_map}
use Rattle.model.specs.Area.{word_size, to_bytes}
use Rattle.model.specs.Call.{over}
use Rattle.theory.proofs.Lists.Laws.{concat_map-append}
use Rattle.theory.proofs.Area.Words.{length-words}
use Rattle.layout.specs.words.Words.{laid}

-- what a write behind a first part leaves
pub drop_behind : (p rest : List ℕ) (n m k : ℕ) → length p ≡ n → k ≡ n + m → drop k (p ++ rest) ≡ drop m rest
drop_behind p rest n m k h e = ap (λ i. drop i (p ++ rest)) (e ∙ ap (λ i. i + m) (sym h)) ∙ drop-append-add p rest m

pub laid_behind : (p rest : List ℕ) (start : ℕ) (words : List ℕ) → length p ≡ word_size * start
    → laid (p ++ rest) start words ≡ (p ++ concat_map (to_bytes word_size) words) ++ drop (word_size * length words) rest
unfolding laid
laid_behind p rest start words h =
    rw (take_at p rest (word_size * start) h, drop_behind p rest (word_size * start) (word_size * length words) (word_size * (start + length words)) h (omega arith), append_assoc)

-- words laid behind words that stand at the front: all of them stand at the front
pub laid_next : (area xs ys : List ℕ) (start : ℕ) → length xs ≡ start
    → laid (over (concat_map (to_bytes word_size) xs) area) start ys ≡ over (concat_map (to_bytes word_size) (xs ++ ys)) area
unfolding over
laid_next area xs ys start e =
    let long : length (concat_map (to_bytes word_size) xs) ≡ word_size * length xs = length-words word_size xs in
    let more : length (concat_map (to_bytes word_size) ys) ≡ word_size * length ys = length-words word_size ys in
    laid_behind (concat_map (to_bytes word_size) xs) _ start ys (long ∙ ap (λ n. word_size * n) e) ∙
    rw (concat_map-append, long, drop-drop, length-append (concat_map (to_bytes word_size) xs), long, more)

-- words laid at the front
pub laid-first : (area words : List ℕ) → laid area 0 words ≡ over (concat_map (to_bytes word_size) words) area
unfolding laid over
laid-first area words =
    let e : word_size * (0 + length words) ≡ word_size * length words = omega arith in
    rw (e, length-words word_size words)
