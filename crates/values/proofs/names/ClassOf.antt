-- The class of a term, the first along the list with its value: it is found from the classes of what the value is made of, and
-- for an application from the keys of the terms before it. Assumes nothing.
use Rattle.std.proofs.Common.{◌≡◌, refl, ap, ap₂, sym, ◌∙◌, List, [], ◌∷◌, map, ◌⊎◌, inl, inr, ℕ, suc, ◌≤◌, ◌<◌, zero-le, suc-le-suc, arith, length, get_or, take, get_or-take, length-take-le}
use Rattle.std.proofs.Math.Option.{Option, none, some}
use Rattle.model.specs.Lists.{first}
use Rattle.model.specs.Term.{Node, var, app, Tree, free, node, Trees, more, trees, eq_tree, val}
use Rattle.theory.proofs.Soundness.Facts.{Formed, Acyclic}
use Rattle.theory.proofs.Soundness.Terms.{acyclic_facts}
use Rattle.theory.proofs.Lists.Laws.{first_holds, first-least}
use Rattle.theory.proofs.Table.Search.{lt-or-le}
use Rattle.theory.proofs.Values.Equations.{eq_tree-eq, eq_tree_refl, val-free, val-bound, val-app}
use Rattle.layout.specs.limits.Rows.{at, node_of, book_of, binding_of, bound_of}
use Rattle.layout.proofs.limits.Rows.{length-book_of, get_or-book_of, get_or-bound_of, good_formed}
use Rattle.values.specs.order.Order.{parts_of, Before}
use Rattle.values.specs.roots.Reading.{Listed}
use Rattle.values.proofs.roots.Reading.{arguments_below}
use Rattle.values.proofs.roots.Settled.{list-fits, term-lt, settled-parts}
use Rattle.values.specs.names.Keys.{key_of, key_at, FirstTerms}
use Rattle.values.specs.names.Classes.{class_of, key_in, Classable}

-- classes that agree on the arguments give the same key
map_agree : (f g : ℕ → ℕ) (args : List ℕ) → ((j : ℕ) → j < length args → f (get_or args j 0) ≡ g (get_or args j 0)) → map f args ≡ map g args
map_agree f g [] h = refl
map_agree f g (a ∷ args) h = ap₂ ◌∷◌ (h 0 (suc-le-suc zero-le)) (map_agree f g args (λ j l. h (suc j) (suc-le-suc l)))

key_agree : (f g : ℕ → ℕ) (x : Node) (o : Option ℕ) → ((j : ℕ) → j < length (parts_of x o) → f (get_or (parts_of x o) j 0) ≡ g (get_or (parts_of x o) j 0))
    → key_of f x ≡ key_of g x
unfolding key_of parts_of
key_agree f g var o h = refl
key_agree f g (app s args) o h = ap (λ (cs : List ℕ). suc s ∷ cs) (map_agree f g args h)

-- where classes are equal exactly where values are, so are the classes of several arguments
module _ (value : ℕ → Tree) (class : ℕ → ℕ) where
  trees-classes : ((a b : ℕ) → value a ≡ value b → class a ≡ class b)
      → (xs ys : List ℕ) → trees value xs ≡ trees value ys → map class xs ≡ map class ys
  unfolding trees
  trees-classes h [] [] e = refl
  trees-classes h [] (y ∷ ys) e = let z : ◌≡◌ {A = ℕ} 0 1 = cc in absurd (omega arith)
  trees-classes h (x ∷ xs) [] e = let z : ◌≡◌ {A = ℕ} 0 1 = cc in absurd (omega arith)
  trees-classes h (x ∷ xs) (y ∷ ys) e = ap₂ ◌∷◌ (h x y (cc)) (trees-classes h xs ys (cc))

  classes-trees : (n : ℕ) → ((a b : ℕ) → a < n → b < n → class a ≡ class b → value a ≡ value b)
      → (xs ys : List ℕ) → ((j : ℕ) → j < length xs → get_or xs j 0 < n) → ((j : ℕ) → j < length ys → get_or ys j 0 < n)
      → map class xs ≡ map class ys → trees value xs ≡ trees value ys
  unfolding trees
  classes-trees n h [] [] p q e = refl
  classes-trees n h [] (y ∷ ys) p q e = let z : ◌≡◌ {A = ℕ} 0 1 = cc in absurd (omega arith)
  classes-trees n h (x ∷ xs) [] p q e = let z : ◌≡◌ {A = ℕ} 0 1 = cc in absurd (omega arith)
  classes-trees n h (x ∷ xs) (y ∷ ys) p q e =
      ap₂ more (h x y (p 0 (suc-le-suc zero-le)) (q 0 (suc-le-suc zero-le)) (cc))
      (classes-trees n h xs ys (λ j l. p (suc j) (suc-le-suc l)) (λ j l. q (suc j) (suc-le-suc l)) (cc))

-- the value of a term of the first n rows
abbrev Value : List ℕ → List ℕ → ℕ → ℕ → Tree
Value rows bindings n t = val (book_of rows n) (bound_of bindings n) t

-- the first place along the list of the value of t
abbrev place_along : List ℕ → List ℕ → List ℕ → ℕ → ℕ → ℕ
place_along rows bindings list n t = first (λ u. eq_tree (Value rows bindings n u) (Value rows bindings n t)) (take n list)

-- Term w is an application of s to terms with the values ts.
record Applied (rows bindings : List ℕ) (n w s : ℕ) (ts : Trees) : Type 0 where
  args : List ℕ
  is : node_of rows w ≡ app s args
  values : trees (Value rows bindings n) args ≡ ts

module _ {rows bindings list : List ℕ} {n : ℕ} (listed : Listed rows bindings list n) where
  formed : Formed (book_of rows n) (bound_of bindings n)
  formed = good_formed listed.good

  ended : Acyclic (book_of rows n) (bound_of bindings n)
  ended = acyclic_facts (book_of rows n) (bound_of bindings n) listed.no_cycle

  list-long : length (take n list) ≡ n
  list-long = length-take-le n list (list-fits listed)

  -- the value of a term by its node and its binding
  module _ (t : ℕ) (l : t < n) where
    in_book : t < length (book_of rows n)
    in_book = rw length-book_of l

    value-free : node_of rows t ≡ var → binding_of bindings t ≡ none → Value rows bindings n t ≡ free t
    value-free p q =
        val-free (book_of rows n) (bound_of bindings n) formed ended t in_book (get_or-book_of rows n t l ∙ p) (get_or-bound_of bindings n t l ∙ q)

    value-bound : (u : ℕ) → binding_of bindings t ≡ some u → Value rows bindings n t ≡ Value rows bindings n u
    value-bound u q = val-bound (book_of rows n) (bound_of bindings n) formed ended t u in_book (get_or-bound_of bindings n t l ∙ q)

    value-app : (s : ℕ) (args : List ℕ) → node_of rows t ≡ app s args → Value rows bindings n t ≡ node s (trees (Value rows bindings n) args)
    value-app s args p = val-app (book_of rows n) (bound_of bindings n) formed ended t s args in_book (get_or-book_of rows n t l ∙ p)

  -- a class is by the value alone
  pub class_same : (t u : ℕ) → Value rows bindings n t ≡ Value rows bindings n u → class_of rows bindings list n t ≡ class_of rows bindings list n u
  unfolding class_of
  class_same t u e = rw e

  -- no earlier term has the value
  place-first : (t i : ℕ) → i < n → Value rows bindings n (at list i) ≡ Value rows bindings n t → place_along rows bindings list n t ≤ i
  place-first t i l e =
      first-least (λ u. eq_tree (Value rows bindings n u) (Value rows bindings n t)) (take n list) 0 i (rw list-long l)
      (rw (get_or-take n list i 0 l, e) (eq_tree_refl (Value rows bindings n t)))

  module _ (t : ℕ) (l : t < n) where
    place-lt : place_along rows bindings list n t < n
    place-lt =
        let b : Before (take n list) (length (take n list)) t = listed.ordered.complete t (in_book t l) in
        let early : b.place < n = rw list-long at b.early in
        omega (arith, place-first t b.place early (ap (Value rows bindings n) (sym (get_or-take n list b.place 0 early) ∙ b.is)))

    -- the class is a term with the value
    pub class-lt : class_of rows bindings list n t < n
    unfolding class_of
    class-lt = term-lt listed (place_along rows bindings list n t) place-lt

    pub class-value : Value rows bindings n (class_of rows bindings list n t) ≡ Value rows bindings n t
    unfolding class_of
    class-value =
        eq_tree-eq _ _
        (rw (get_or-take n list (place_along rows bindings list n t) 0 place-lt) at
        (first_holds (λ u. eq_tree (Value rows bindings n u) (Value rows bindings n t)) (take n list) 0 (rw list-long place-lt)))

    -- which is made of nothing with that value: it is no bound variable
    class-parts : let w = class_of rows bindings list n t in
        (j : ℕ) → j < length (parts_of (node_of rows w) (binding_of bindings w))
        → Value rows bindings n (get_or (parts_of (node_of rows w) (binding_of bindings w)) j 0) ≡ Value rows bindings n t → ⊥
    unfolding class_of
    class-parts =
        settled-parts listed (λ u _. Value rows bindings n u ≡ Value rows bindings n t → ⊥) [] (place_along rows bindings list n t)
        (λ i q e. let least = place-first t i (omega (arith, place-lt)) e in omega (arith, least)) place-lt

    class_unbound : (u : ℕ) → node_of rows (class_of rows bindings list n t) ≡ var → binding_of bindings (class_of rows bindings list n t) ≡ some u → ⊥
    unfolding parts_of
    class_unbound u p q =
        (rw (p, q) at class-parts) 0 (suc-le-suc zero-le) (sym (value-bound (class_of rows bindings list n t) class-lt u q) ∙ class-value)

    -- the class of a free variable's value is that variable
    class-free_by : (v : ℕ) → Value rows bindings n t ≡ free v → (x : Node) (o : Option ℕ) → node_of rows (class_of rows bindings list n t) ≡ x
        → binding_of bindings (class_of rows bindings list n t) ≡ o → class_of rows bindings list n t ≡ v
    class-free_by v e var none p q = cc (value-free (class_of rows bindings list n t) class-lt p q, class-value)
    class-free_by v e var (some u) p q = absurd (class_unbound u p q)
    class-free_by v e (app s args) o p q =
        let z : ◌≡◌ {A = ℕ} 0 1 = cc (value-app (class_of rows bindings list n t) class-lt s args p, class-value) in absurd (omega arith)

    -- that of an application's value is an application
    class-app_by : (s : ℕ) (ts : Trees) → Value rows bindings n t ≡ node s ts → (x : Node) (o : Option ℕ) → node_of rows (class_of rows bindings list n t) ≡ x
        → binding_of bindings (class_of rows bindings list n t) ≡ o → Applied rows bindings n (class_of rows bindings list n t) s ts
    class-app_by s ts e var none p q =
        let z : ◌≡◌ {A = ℕ} 0 1 = cc (value-free (class_of rows bindings list n t) class-lt p q, class-value) in absurd (omega arith)
    class-app_by s ts e var (some u) p q = absurd (class_unbound u p q)
    class-app_by s ts e (app s' args) o p q =
        let a : Value rows bindings n (class_of rows bindings list n t) ≡ node s' (trees (Value rows bindings n) args) =
        value-app (class_of rows bindings list n t) class-lt s' args p in
        let v : Value rows bindings n (class_of rows bindings list n t) ≡ node s ts = class-value ∙ e in
        let same : s' ≡ s = cc in
        record { args = args; is = rw same at p; values = cc }

  -- classes are equal exactly where values are
  pub class_tells : (t u : ℕ) → t < n → u < n → class_of rows bindings list n t ≡ class_of rows bindings list n u
      → Value rows bindings n t ≡ Value rows bindings n u
  class_tells t u l k e = sym (class-value t l) ∙ (ap (Value rows bindings n) e ∙ class-value u k)

  -- an application and a term with its key have the same value
  key_value : (t u : ℕ) → t < n → u < n → (s : ℕ) (args : List ℕ) → node_of rows t ≡ app s args → (y : Node) → node_of rows u ≡ y
      → key_of (class_of rows bindings list n) (app s args) ≡ key_of (class_of rows bindings list n) y → Value rows bindings n t ≡ Value rows bindings n u
  unfolding key_of
  key_value t u l k s args p var q e = let z : ◌≡◌ {A = ℕ} 0 1 = cc in absurd (omega arith)
  key_value t u l k s args p (app s' args') q e =
      let heads : suc s ≡ suc s' = cc in
      let same : s ≡ s' = omega arith in
      value-app t l s args p
      ∙ (ap₂ node same
      (classes-trees (Value rows bindings n) (class_of rows bindings list n) n class_tells args args' (arguments_below listed.good l p) (arguments_below listed.good k q) (cc))
      ∙ sym (value-app u k s' args' q))

  -- an application whose key no earlier term has is its own class
  module _ (k : ℕ) (l : k < n) (s : ℕ) (args : List ℕ) (p : node_of rows (at list k) ≡ app s args) where
    new_by : ((j : ℕ) → j < k → key_in rows bindings list n (at list k) ≡ key_in rows bindings list n (at list j) → ⊥)
        → (place_along rows bindings list n (at list k) < k) ⊎ (k ≤ place_along rows bindings list n (at list k))
        → class_of rows bindings list n (at list k) ≡ at list k
    unfolding key_of class_of
    new_by h (inl q) =
        let t_lt : at list k < n = term-lt listed k l in
        let a : Applied rows bindings n (class_of rows bindings list n (at list k)) s (trees (Value rows bindings n) args) =
        class-app_by (at list k) t_lt s (trees (Value rows bindings n) args) (value-app (at list k) t_lt s args p) _ _ refl refl in
        let cs : map (class_of rows bindings list n) args ≡ map (class_of rows bindings list n) a.args =
        trees-classes (Value rows bindings n) (class_of rows bindings list n) class_same args a.args (sym a.values) in
        absurd (h (place_along rows bindings list n (at list k)) q (rw (p, a.is) (ap (λ (c : List ℕ). suc s ∷ c) cs)))
    new_by h (inr q) =
        let e : place_along rows bindings list n (at list k) ≡ k = omega (arith, place-first (at list k) k l refl) in ap (at list) e

-- the keys of the terms up to place k, where the classes before it are known
module _ {rows bindings list : List ℕ} {n : ℕ} (listed : Listed rows bindings list n) (classes : List ℕ) (k : ℕ) (l : k < n)
    (settled : (i : ℕ) → i < k → at classes (at list i) ≡ class_of rows bindings list n (at list i)) where
  pub key_settled : (j : ℕ) → j ≤ k → key_at rows classes (at list j) ≡ key_in rows bindings list n (at list j)
  key_settled j q =
      key_agree (at classes) (class_of rows bindings list n) (node_of rows (at list j)) (binding_of bindings (at list j))
      (settled-parts listed (λ t w. w ≡ class_of rows bindings list n t) classes j (λ i m. settled i (omega arith)) (omega arith))

-- the class of the term at place k
module _ {rows bindings classes list : List ℕ} {n k place : ℕ} (a : Classable rows bindings classes list n k place) where
  pub t_lt : at list k < n
  t_lt = term-lt a.listed k a.within

  keys : (j : ℕ) → j ≤ k → key_at rows classes (at list j) ≡ key_in rows bindings list n (at list j)
  keys = key_settled a.listed classes k a.within a.settled

  -- what the search for an earlier one asks
  pub earlier_terms : FirstTerms list n k × (at list k < n)
  earlier_terms = (
    record {
      list-fits = omega (arith, list-fits a.listed, a.within);
      term = λ j q. term-lt a.listed j (omega (arith, a.within));
    },
    t_lt,
  )

  pub earlier_place : (place ≤ k) × (place ≡ k → (j : ℕ) → j < k → key_at rows classes (at list k) ≡ key_at rows classes (at list j) → ⊥)
  earlier_place = (
    a.place-within,
    λ e j q h. a.no_key e j q (sym (keys k (omega arith)) ∙ (h ∙ keys j (omega arith))),
  )

  pub class-free : node_of rows (at list k) ≡ var → binding_of bindings (at list k) ≡ none → at list k ≡ class_of rows bindings list n (at list k)
  class-free p q = sym (class-free_by a.listed (at list k) t_lt (at list k) (value-free a.listed (at list k) t_lt p q) _ _ refl refl)

  pub class-bound : {u : ℕ} → node_of rows (at list k) ≡ var → binding_of bindings (at list k) ≡ some u
      → at classes u ≡ class_of rows bindings list n (at list k)
  unfolding parts_of
  class-bound {u} p o =
      (rw (p, o) at (settled-parts a.listed (λ t w. w ≡ class_of rows bindings list n t) classes k a.settled a.within)) 0 (suc-le-suc zero-le)
      ∙ sym (class_same a.listed (at list k) u (value-bound a.listed (at list k) t_lt _ o))

  module _ {s : ℕ} {args : List ℕ} (p : node_of rows (at list k) ≡ app s args) where
    pub class-new : ((j : ℕ) → j < k → key_at rows classes (at list k) ≡ key_at rows classes (at list j) → ⊥)
        → at list k ≡ class_of rows bindings list n (at list k)
    class-new h =
        sym
        (new_by a.listed k a.within _ _ p
        (λ j m e. h j m (keys k (omega arith) ∙ (e ∙ sym (keys j (omega arith))))) (lt-or-le _ k))

    module _ {r : ℕ} (e : (r < k) × (key_at rows classes (at list k) ≡ key_at rows classes (at list r))) where
      pub old-place : (r < length list) × (at list r < length classes)
      old-place = (
        omega (arith, list-fits a.listed, a.within, e.0),
        omega (arith, term-lt a.listed r (omega (arith, a.within, e.0)), a.classes_fit),
      )

      pub class-old : at classes (at list r) ≡ class_of rows bindings list n (at list k)
      class-old =
          let same : key_in rows bindings list n (at list k) ≡ key_in rows bindings list n (at list r) =
          sym (keys k (omega arith)) ∙ (e.1 ∙ keys r (omega (arith, e.0))) in
          a.settled r e.0
          ∙ sym
          (class_same a.listed (at list k) (at list r)
          (key_value a.listed (at list k) (at list r) t_lt (term-lt a.listed r (omega (arith, a.within, e.0))) _ _
          p (node_of rows (at list r)) refl (rw p at same)))
