-- Pairs of two lists one after the other, and a padded list that is filled. Assumes nothing.
use Rattle.std.proofs.Common.{◌≡◌, refl, ap, sym, List, [], ◌∷◌, ◌++◌, append_assoc, ℕ, suc, ◌-◌, ◌<◌, arith, length, get_or, set, replicate, length-append, ext_get_or}
use Rattle.std.proofs.Math.Nat.{suc_inj}
use Rattle.std.proofs.Math.Seq.{set_at}
use Rattle.model.specs.Lists.{pairwise, padded}
use Rattle.model.specs.Term.{Book, Bindings}
use Rattle.model.specs.Table.{Table, place, place_all}
use Rattle.theory.proofs.Lists.Laws.{length-pairwise, get_or-pairwise}

-- pairs of two lists put together
pub pairwise_append : (f : ℕ → ℕ → ℕ) (xs ys xs' ys' : List ℕ) → length xs ≡ length ys
    → pairwise f (xs ++ xs') (ys ++ ys') ≡ pairwise f xs ys ++ pairwise f xs' ys'
unfolding pairwise
pairwise_append f [] [] xs' ys' e = refl
pairwise_append f [] (y ∷ ys) xs' ys' e = absurd (omega arith)
pairwise_append f (x ∷ xs) [] xs' ys' e = absurd (omega arith)
pairwise_append f (x ∷ xs) (y ∷ ys) xs' ys' e = ap (◌∷◌ (f x y)) (pairwise_append f xs ys xs' ys' (suc_inj e))

pub place_all-append : (b : Book) (β : Bindings) (es : Table) (xs ys xs' ys' : List ℕ) → length xs ≡ length ys
    → place_all b β es (xs ++ xs') (ys ++ ys') ≡ place_all b β (place_all b β es xs ys) xs' ys'
unfolding place_all
place_all-append b β es [] [] xs' ys' e = refl
place_all-append b β es [] (y ∷ ys) xs' ys' e = absurd (omega arith)
place_all-append b β es (x ∷ xs) [] xs' ys' e = absurd (omega arith)
place_all-append b β es (x ∷ xs) (y ∷ ys) xs' ys' e = place_all-append b β (place b β es x y) xs ys xs' ys' (suc_inj e)

-- pairs of which two functions give the same
pub pairwise-alike : (f g : ℕ → ℕ → ℕ) (xs ys : List ℕ) → length xs ≡ length ys
    → ((j : ℕ) → j < length xs → f (get_or xs j 0) (get_or ys j 0) ≡ g (get_or xs j 0) (get_or ys j 0)) → pairwise f xs ys ≡ pairwise g xs ys
pairwise-alike f g xs ys e h =
    let long = length-pairwise f xs ys e in
    ext_get_or 0 (pairwise f xs ys) (pairwise g xs ys) (cc (long, length-pairwise g xs ys e))
    (λ j l.
    let k : j < length xs = omega arith in
    rw (get_or-pairwise f xs ys e j k, get_or-pairwise g xs ys e j k) (h j k))

-- the first zero behind a list is set
pub padded-set : (n : ℕ) (xs : List ℕ) (x : ℕ) → length xs < n → set (padded n xs) (length xs) x ≡ padded n (xs ++ x ∷ [])
unfolding padded
padded-set n xs x h =
    let more : n - length xs ≡ suc (n - length (xs ++ x ∷ [])) = rw length-append (omega arith) in
    rw (more, set_at xs 0 (replicate (n - length (xs ++ x ∷ [])) 0) x (length xs) refl) (sym (append_assoc xs (x ∷ []) _))
