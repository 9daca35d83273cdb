-- Keys of terms, from the words of a row: their hash, and whether two are the same. Assumes nothing.
use Rattle.std.proofs.Common.{◌≡◌, refl, ap, sym, ◌∙◌, List, [], ◌∷◌, map, true, false, ◌⊎◌, inl, inr, ℕ, suc, ◌+◌, ◌*◌, ◌-◌, ◌≤◌, ◌<◌, add-one, arith, eq-eqb, ne_eqb, length, drop, drop_of_length-le, drop-cons, T}
use Rattle.std.proofs.Math.ListN.{length-map}
use Rattle.model.specs.Lists.{is_empty, eq_numbers}
use Rattle.model.specs.Term.{var, app}
use Rattle.model.specs.Area.{term_words}
use Rattle.theory.proofs.Lists.Laws.{true_T, not-T_false, eq_numbers-eq, eq_numbers_refl}
use Rattle.theory.proofs.Table.Search.{eq-or-not}
use Rattle.layout.specs.limits.Rows.{at, node_of}
use Rattle.layout.proofs.limits.Rows.{node-var, node-app}
use Rattle.values.specs.names.Keys.{key_of, key_at, mixed, hash_from}

mixed-none : (c : ℕ) → mixed 0 c ≡ c
unfolding mixed
mixed-none c = omega arith

module _ (f : ℕ → ℕ) where
  -- one number more, and none
  pub hash_more : (args : List ℕ) (h j : ℕ) → j < length args
      → hash_from h (map f (drop j args)) ≡ hash_from (mixed h (f (at args j))) (map f (drop (j + 1) args))
  unfolding hash_from
  hash_more args h j l = rw (add-one, drop-cons args j 0 l)

  pub hash_none : (args : List ℕ) (h j : ℕ) → length args ≤ j → hash_from h (map f (drop j args)) ≡ h
  unfolding hash_from
  hash_none args h j l = rw (drop_of_length-le args l)

  -- two lists by their first numbers
  module _ {xs ys : List ℕ} {a b : ℕ} {us vs : List ℕ} (p : xs ≡ a ∷ us) (q : ys ≡ b ∷ vs) where
    pub numbers-same : f a ≡ f b → eq_numbers (map f xs) (map f ys) ≡ eq_numbers (map f us) (map f vs)
    unfolding eq_numbers
    numbers-same e = rw (p, q, eq-eqb (f a) (f b) e)

    pub numbers_differ : (f a ≡ f b → ⊥) → eq_numbers (map f xs) (map f ys) ≡ false
    unfolding eq_numbers
    numbers_differ e = rw (p, q, ne_eqb (f a) (f b) e)

  pub numbers-none : (xs ys : List ℕ) → length xs ≡ 0 → length ys ≡ 0 → eq_numbers (map f xs) (map f ys) ≡ true
  unfolding eq_numbers is_empty
  numbers-none [] [] p q = refl
  numbers-none [] (y ∷ ys) p q = absurd (omega arith)
  numbers-none (x ∷ xs) ys p q = absurd (omega arith)

  -- lists of other lengths are other lists
  pub numbers_lengths : (args others : List ℕ) → (length args ≡ length others → ⊥) → eq_numbers (map f args) (map f others) ≡ false
  numbers_lengths args others h =
      not-T_false (eq_numbers (map f args) (map f others))
      (λ e. h (sym (length-map args f) ∙ ap length (eq_numbers-eq (map f args) (map f others) e) ∙ length-map others f))

-- the test of two keys says whether they are the same
pub test_same : (xs ys : List ℕ) → true ≡ eq_numbers xs ys → xs ≡ ys
test_same xs ys e = eq_numbers-eq xs ys (true_T (eq_numbers xs ys) (sym e))

pub test_other : (xs ys : List ℕ) → false ≡ eq_numbers xs ys → xs ≡ ys → ⊥
test_other xs ys e q = let same : T (eq_numbers xs ys) = rw (sym q) (eq_numbers_refl xs) in absurd (rw (sym e) at same)

-- the symbol of an application is one below its word
pub word-app : (rows : List ℕ) (t : ℕ) {s : ℕ} {args : List ℕ} → node_of rows t ≡ app s args → at rows (term_words * t) ≡ suc s
word-app rows t {s} {args} p = go (eq-or-not (at rows (term_words * t)) 0)
  where
    go : (at rows (term_words * t) ≡ 0) ⊎ (at rows (term_words * t) ≡ 0 → ⊥) → at rows (term_words * t) ≡ suc s
    go (inl e) = let q : var ≡ app s args = sym (node-var rows t e) ∙ p in absurd (cc)
    go (inr h) = let q : s ≡ at rows (term_words * t) - 1 = cc (node-app rows t h) in omega arith

module _ (rows classes : List ℕ) (t : ℕ) where
  -- the hash of a key
  pub hash_var : node_of rows t ≡ var → 0 ≡ hash_from 0 (key_at rows classes t)
  unfolding hash_from key_of
  hash_var p = rw p

  pub hash_app : {s : ℕ} {args : List ℕ} → node_of rows t ≡ app s args
      → hash_from (suc s) (map (at classes) args) ≡ hash_from 0 (key_at rows classes t)
  unfolding hash_from key_of
  hash_app {s} {args} p = rw p (ap (λ (h : ℕ). hash_from h (map (at classes) args)) (sym (mixed-none (suc s))))

  -- two keys with one symbol, with two, and that of a variable
  module _ (u : ℕ) {s : ℕ} {args : List ℕ} (p : node_of rows t ≡ app s args) where
    pub keys_alike : {s' : ℕ} {others : List ℕ} → node_of rows u ≡ app s' others → at rows (term_words * t) ≡ at rows (term_words * u)
        → eq_numbers (map (at classes) args) (map (at classes) others) ≡ eq_numbers (key_at rows classes t) (key_at rows classes u)
    unfolding eq_numbers key_of
    keys_alike {s'} q e =
        let same : suc s ≡ suc s' = omega (arith, word-app rows t p, word-app rows u q) in rw (p, q, eq-eqb (suc s) (suc s') same)

    pub keys_differ : {s' : ℕ} {others : List ℕ} → node_of rows u ≡ app s' others → (at rows (term_words * t) ≡ at rows (term_words * u) → ⊥)
        → false ≡ eq_numbers (key_at rows classes t) (key_at rows classes u)
    unfolding eq_numbers key_of
    keys_differ {s'} q h =
        let other : suc s ≡ suc s' → ⊥ = λ e. h (word-app rows t p ∙ e ∙ sym (word-app rows u q)) in rw (p, q, ne_eqb (suc s) (suc s') other)

    pub keys_var : node_of rows u ≡ var → false ≡ eq_numbers (key_at rows classes t) (key_at rows classes u)
    unfolding eq_numbers key_of
    keys_var q = rw (p, q)
