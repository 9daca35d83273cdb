-- The order of a stored book: variables first, each kind in rising number. There is one such list. Assumes nothing.
use mathlib.Core.Path.{◌≡◌, refl, ap, sym, ◌∙◌}
use mathlib.Core.List.{List, ◌++◌}
use mathlib.Core.Bool.{Bool, true, false, not, true≢false}
use Prim.Native.Nat.{ℕ, zero, suc, ◌+◌, ◌-◌, ◌≤◌, ◌<◌, zero-le}
use native.Mathlib.Decide.{dec_lt}
use native.Mathlib.Omega.{arith}
use lib.ListN.{length, get_or, length-append, get_or-append}
use lib.Seq.{ext_get_or, get_or-append-add}
use lib.Dec.{T}
use Rattle.model.specs.Lists.{keep, from}
use Rattle.model.specs.Term.{var, Book}
use Rattle.model.specs.Archive.{is_variable, variables_first, new_number, old_number}
use Rattle.theory.specs.Archive.{EachOnce}
use Rattle.theory.proofs.Lists.Laws.{T_true, length_from}
use Rattle.theory.proofs.Lists.Keep.{keep-holds, keep-count, keep_range, keep_rising}
use Rattle.theory.proofs.Archive.Moved.{new-lt, old-new, new-old}

-- whether the term t of b is a variable
abbrev pub variable : Book → ℕ → Bool
variable b t = is_variable (get_or b t var)

-- A list of old numbers in the order of a stored book.
pub record InOrder (b : Book) (list : List ℕ) : Type 0 where
  pub each_once : EachOnce (length b) list
  pub variables_first : (i j : ℕ) → i < j → j < length b → variable b (get_or list j 0) ≡ true → variable b (get_or list i 0) ≡ true
  pub old-order : (i j : ℕ) → i < j → j < length b → variable b (get_or list i 0) ≡ variable b (get_or list j 0)
      → get_or list i 0 < get_or list j 0

not-true : (t : Bool) → T (not t) → t ≡ false
not-true true h = absurd h
not-true false h = refl

bools : (t : Bool) → t ≡ true → t ≡ false → ⊥
bools t e g = true≢false (sym e ∙ g)

-- THE LIST OF A BOOK: variables, and others behind them.
module _ (b : Book) where
  abbrev vs : List ℕ
  vs = keep (variable b) (from 0 (length b))

  abbrev os : List ℕ
  os = keep (λ t. not (variable b t)) (from 0 (length b))

  -- what stands at an index, by its part
  data At (i : ℕ) : Type 0 where
    front : i < length vs → get_or (vs ++ os) i 0 ≡ get_or vs i 0 → variable b (get_or (vs ++ os) i 0) ≡ true → At i
    back : (k : ℕ) → i ≡ length vs + k → k < length os → get_or (vs ++ os) i 0 ≡ get_or os k 0
        → variable b (get_or (vs ++ os) i 0) ≡ false → At i

  both : length vs + length os ≡ length b
  both = keep-count (variable b) (from 0 (length b)) ∙ length_from 0 (length b)

  at_index : (i : ℕ) → i < length b → At i
  at_index i l = go (dec_lt i (length vs))
    where
      go : Dec (i < length vs) → At i
      go (yes h) =
          let e = get_or-append vs os 0 i h in
          front h e (rw e (T_true _ (keep-holds (variable b) (from 0 (length b)) 0 i h)))
      go (no h) =
          let s : i ≡ length vs + (i - length vs) = omega arith in
          let k : i - length vs < length os = omega (arith, both) in
          let e : get_or (vs ++ os) i 0 ≡ get_or os (i - length vs) 0 =
          ap (λ m. get_or (vs ++ os) m 0) s ∙ get_or-append-add vs os (i - length vs) 0 in
          back (i - length vs) s k e
          (rw e (not-true _ (keep-holds (λ t. not (variable b t)) (from 0 (length b)) 0 (i - length vs) k)))

  -- numbers of terms
  at_lt : (i : ℕ) → At i → get_or (vs ++ os) i 0 < length b
  at_lt i (front h e v) = rw e (omega (arith, (keep_range (variable b) 0 (length b) i h).1))
  at_lt i (back k s h e v) = rw e (omega (arith, (keep_range (λ t. not (variable b t)) 0 (length b) k h).1))

  -- variables first
  at_first : (i j : ℕ) → i < j → At i → At j → variable b (get_or (vs ++ os) j 0) ≡ true → variable b (get_or (vs ++ os) i 0) ≡ true
  at_first i j p (front h e v) y w = v
  at_first i j p (back k s h e v) (front h' e' v') w = absurd (omega arith)
  at_first i j p (back k s h e v) (back k' s' h' e' v') w = absurd (bools _ w v')

  -- each kind rises
  at_rise : (i j : ℕ) → i < j → At i → At j → variable b (get_or (vs ++ os) i 0) ≡ variable b (get_or (vs ++ os) j 0)
      → get_or (vs ++ os) i 0 < get_or (vs ++ os) j 0
  at_rise i j p (front h e v) (front h' e' v') w = rw (e, e') (keep_rising (variable b) 0 (length b) i j p h')
  at_rise i j p (front h e v) (back k' s' h' e' v') w = absurd (bools _ (sym w ∙ v) v')
  at_rise i j p (back k s h e v) (front h' e' v') w = absurd (bools _ (w ∙ v') v)
  at_rise i j p (back k s h e v) (back k' s' h' e' v') w =
      rw (e, e') (keep_rising (λ t. not (variable b t)) 0 (length b) k k' (omega arith) h')

  -- none stands twice
  at_apart : (i j : ℕ) → i < j → At i → At j → get_or (vs ++ os) i 0 ≡ get_or (vs ++ os) j 0 → ⊥
  at_apart i j p x y e = omega (arith, at_rise i j p x y (ap (variable b) e))

  pub in_order : InOrder b (variables_first b)
  unfolding variables_first
  in_order =
      let long : length (vs ++ os) ≡ length b = length-append vs os ∙ both in
      record {
        each_once = record {
          as_many = long;
          terms = λ i l. at_lt i (at_index i l);
          once = λ i j p l. at_apart i j p (at_index i (omega arith)) (at_index j (omega arith));
        };
        variables_first = λ i j p l. at_first i j p (at_index i (omega arith)) (at_index j l);
        old-order = λ i j p l. at_rise i j p (at_index i (omega arith)) (at_index j l);
      }

-- NEW NUMBERS: a term stands before another where it is a variable, or lower and the other is not a variable.
module _ (b : Book) (list : List ℕ) (o : InOrder b list) where
  pub stands_before : (x y : ℕ) → x < length b → y < length b → x < y → variable b y ≡ false → new_number list x < new_number list y
  unfolding old_number
  stands_before x y l k h w = go (dec_lt (new_number list x) (new_number list y)) (dec_lt (new_number list y) (new_number list x))
    where
      old_x : get_or list (new_number list x) 0 ≡ x
      old_x = old-new (length b) list o.each_once x l

      old_y : get_or list (new_number list y) 0 ≡ y
      old_y = old-new (length b) list o.each_once y k

      wrong : new_number list y < new_number list x → (t : Bool) → variable b x ≡ t → ⊥
      wrong q true e =
          bools (variable b y)
          (rw old_y at (o.variables_first (new_number list y) (new_number list x) q (new-lt (length b) list o.each_once x l) (rw old_x e))) w
      wrong q false e =
          omega (arith, old_x, old_y, o.old-order (new_number list y) (new_number list x) q (new-lt (length b) list o.each_once x l) (rw (old_x, old_y) (w ∙ sym e)))

      go : Dec (new_number list x < new_number list y) → Dec (new_number list y < new_number list x) → new_number list x < new_number list y
      go (yes q) r = q
      go (no q) (yes r) = absurd (wrong r (variable b x) refl)
      go (no q) (no r) =
          let e : new_number list x ≡ new_number list y = omega arith in
          let d : x ≡ y = sym old_x ∙ ap (λ m. get_or list m 0) e ∙ old_y in
          omega arith

-- ONE LIST. A function that rises on the numbers below n is nowhere below its argument.
rises : (n : ℕ) (f : ℕ → ℕ) → ((i j : ℕ) → i < j → j < n → f i < f j) → (i : ℕ) → i < n → i ≤ f i
rises n f h zero l = zero-le
rises n f h (suc i) l = omega (arith, rises n f h i (omega arith), h i (suc i) (omega arith) l)

module _ (b : Book) (list list' : List ℕ) (o : InOrder b list) (o' : InOrder b list') where
  -- what stands before another in one list does so in the other
  same_side : (i j : ℕ) → i < j → j < length b → new_number list' (get_or list i 0) < new_number list' (get_or list j 0)
  unfolding old_number
  same_side i j p l = go
      (dec_lt (new_number list' (get_or list i 0)) (new_number list' (get_or list j 0)))
      (dec_lt (new_number list' (get_or list j 0)) (new_number list' (get_or list i 0)))
    where
      back : (i : ℕ) → i < length b → get_or list' (new_number list' (get_or list i 0)) 0 ≡ get_or list i 0
      back i l = old-new (length b) list' o'.each_once (get_or list i 0) (o.each_once.terms i l)

      low : (i : ℕ) → i < length b → new_number list' (get_or list i 0) < length b
      low i l = new-lt (length b) list' o'.each_once (get_or list i 0) (o.each_once.terms i l)

      k : i < length b
      k = omega arith

      wrong : new_number list' (get_or list j 0) < new_number list' (get_or list i 0) → (t u : Bool) → variable b (get_or list i 0) ≡ t → variable b (get_or list j 0) ≡ u → ⊥
      wrong q true true e g = omega (
        arith,
        o.old-order i j p l (e ∙ sym g),
        back i k,
        back j l,
        o'.old-order _ _ q (low i k) (rw (back i k, back j l) (g ∙ sym e)),
      )
      wrong q false false e g = omega (
        arith,
        o.old-order i j p l (e ∙ sym g),
        back i k,
        back j l,
        o'.old-order _ _ q (low i k) (rw (back i k, back j l) (g ∙ sym e)),
      )
      wrong q false true e g = bools _ (o.variables_first i j p l g) e
      wrong q true false e g = bools _ (rw (back j l) at (o'.variables_first _ _ q (low i k) (rw (back i k) e))) g

      go : Dec (new_number list' (get_or list i 0) < new_number list' (get_or list j 0)) → Dec (new_number list' (get_or list j 0) < new_number list' (get_or list i 0))
          → new_number list' (get_or list i 0) < new_number list' (get_or list j 0)
      go (yes q) r = q
      go (no q) (yes r) = absurd (wrong r _ _ refl refl)
      go (no q) (no r) =
          let e : new_number list' (get_or list i 0) ≡ new_number list' (get_or list j 0) = omega arith in
          absurd (o.each_once.once i j p (omega (arith, o.each_once.as_many)) (sym (back i k) ∙ ap (λ m. get_or list' m 0) e ∙ back j l))

pub one_list : (b : Book) (list list' : List ℕ) → InOrder b list → InOrder b list' → list' ≡ list
unfolding old_number
one_list b list list' o o' = sym (ext_get_or 0 list list' (o.each_once.as_many ∙ sym o'.each_once.as_many) at)
  where
    at : (i : ℕ) → i < length list → get_or list i 0 ≡ get_or list' i 0
    at i l =
        let k : i < length b = omega (arith, o.each_once.as_many) in
        let x : ℕ = get_or list i 0 in
        let m : ℕ = new_number list' x in
        let low : x < length b = o.each_once.terms i k in
        let back : get_or list' m 0 ≡ x = old-new (length b) list' o'.each_once x low in
        let low-m : m < length b = new-lt (length b) list' o'.each_once x low in
        let there : new_number list x ≡ i = new-old (length b) list o.each_once i k in
        let up : i ≤ m = rises (length b) (λ i. new_number list' (get_or list i 0)) (same_side b list list' o o') i k in
        let down : m ≤ new_number list (get_or list' m 0) =
        rises (length b) (λ i. new_number list (get_or list' i 0)) (same_side b list' list o' o) m low-m in
        let down' : m ≤ i = rw (back, there) at down in
        let e : m ≡ i = omega arith in
        sym back ∙ ap (λ m. get_or list' m 0) e
