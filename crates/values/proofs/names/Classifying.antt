-- Classes along the list: after k terms each of those has its class, and the pairs are the halves of the hashes of their keys.
-- Assumes nothing.
use Rattle.std.proofs.Common.{◌≡◌, ap, sym, ◌∙◌, List, ℕ, suc, ◌+◌, ◌/◌, ◌%◌, ◌≤◌, ◌<◌, add-one, arith, below_more, length, set, length-set}
use Rattle.layout.specs.limits.Rows.{at, book_of, bound_of}
use Rattle.pairs.specs.Index.{Room, Indexed, Pushed}
use Rattle.pairs.proofs.Laws.{Holds, place-le, place-least, kept_holds, kept_set, holds-set}
use Rattle.pairs.proofs.Rooms.{room_kept, room_fewer}
use Rattle.values.proofs.roots.Settled.{Filled, filled_more, filled_all}
use Rattle.values.specs.names.Keys.{key_at, hash_from}
use Rattle.values.specs.names.Classes.{class_of, key_in, Classable, SameClasses}
use Rattle.values.proofs.names.ClassOf.{class_same, class_tells, class-lt, key_settled}

-- the hash of the key of term t
abbrev pub hash_in : List ℕ → List ℕ → List ℕ → ℕ → ℕ → ℕ
hash_in rows bindings list n t = hash_from 0 (key_in rows bindings list n t)

-- the pair at place i holds the halves of a hash
abbrev Halves : List ℕ → List ℕ → ℕ → ℕ → Type 0
Halves lefts rights i h = Holds lefts rights i (h / 4294967296) (h % 4294967296)

-- After k terms: their classes, and the pairs of their hashes.
pub record Classifying (rows bindings list : List ℕ) (n : ℕ) (classes₀ classes lefts rights cells : List ℕ) (k : ℕ) : Type 0 where
  pub room : Room lefts rights cells n
  pub indexed : Indexed lefts rights cells k
  pub hashed : (i : ℕ) → i < k → Halves lefts rights i (hash_in rows bindings list n (at list i))
  pub filled : Filled rows bindings list n (λ t w. w ≡ class_of rows bindings list n t) classes₀ classes k

module _ {rows bindings list : List ℕ} {n : ℕ} {classes₀ : List ℕ} where
  module _ {classes lefts rights cells : List ℕ} {k : ℕ}
      (c : Classifying rows bindings list n classes₀ classes lefts rights cells k) where
    -- at the end the classes are those of the values
    pub classified : n ≤ k → SameClasses (book_of rows n) (bound_of bindings n) classes n
    classified l =
        record {
          same-value = λ t u p q e. class_tells c.filled.listed t u p q (sym (class t p) ∙ (e ∙ class u q));
          same_class = λ t u p q e. class t p ∙ (class_same c.filled.listed t u e ∙ sym (class u q));
          terms = λ t p. rw (class t p) (class-lt c.filled.listed t p);
        }
      where
        class : (t : ℕ) → t < n → at classes t ≡ class_of rows bindings list n t
        class = filled_all c.filled l

    module _ (l : k < n) where
      -- there is room for the next term's pair
      pub next-room : Room lefts rights cells (suc k)
      next-room = room_fewer l c.room

      key_same : key_at rows classes (at list k) ≡ key_in rows bindings list n (at list k)
      key_same = key_settled c.filled.listed classes k l c.filled.settled k (omega arith)

      -- its pair is pushed
      module _ {h : ℕ} (hash : h ≡ hash_from 0 (key_at rows classes (at list k))) {lefts' rights' cells' : List ℕ} {r : ℕ}
          (p : Pushed lefts rights lefts' rights' cells' k (h / 4294967296) (h % 4294967296) r) where
        hash_is : h ≡ hash_in rows bindings list n (at list k)
        hash_is = hash ∙ ap (hash_from 0) key_same

        -- it has an earlier place where its key has
        pub next_classable : Classable rows bindings classes list n k r
        next_classable =
            record {
              listed = c.filled.listed;
              classes_fit = omega (arith, c.filled.size, c.filled.fits);
              within = l;
              settled = c.filled.settled;
              place-within = rw p.place (place-le lefts rights k (h / 4294967296) (h % 4294967296));
              no_key = λ e j q s.
                  let same : hash_in rows bindings list n (at list j) ≡ h = sym (hash_is ∙ ap (hash_from 0) s) in
                  let low = place-least lefts rights k (h / 4294967296) (h % 4294967296) j q (rw same at (c.hashed j q)) in
                  omega (arith, low, p.place);
            }

        -- one term more
        pub classifying_more : length cells' ≡ length cells → {w : ℕ} → w ≡ class_of rows bindings list n (at list k)
            → Classifying rows bindings list n classes₀ (set classes (at list k) w) lefts' rights' cells' (k + 1)
        classifying_more e {w} is =
            record {
              room =
                  room_kept c.room (ap length p.left ∙ length-set lefts k (h / 4294967296))
                  (ap length p.right ∙ length-set rights k (h % 4294967296)) e;
              indexed = rw add-one p.indexed;
              hashed = below_more _ k (λ i q. kept i q) last;
              filled = filled_more c.filled w l is;
            }
          where
            kept : (i : ℕ) → i < k → Halves lefts' rights' i (hash_in rows bindings list n (at list i))
            kept i q = rw (p.left, p.right) (kept_holds (kept_set lefts rights k (h / 4294967296) (h % 4294967296)) i _ _ q (c.hashed i q))

            last : Halves lefts' rights' k (hash_in rows bindings list n (at list k))
            last = rw (← hash_is, p.left, p.right) (holds-set lefts rights k (h / 4294967296) (h % 4294967296) next-room.lefts_fit next-room.rights_fit)
