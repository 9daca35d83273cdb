-- The index as it is made: of no pairs, and of one pair more. Assumes nothing.
use Rattle.std.proofs.Common.{◌≡◌, refl, sym, ◌∙◌, List, ◌++◌, ◌⊎◌, inl, inr, ℕ, suc, ◌+◌, ◌≤◌, ◌<◌, add-one, arith, length, get_or, drop, set, replicate, length-set, get_or-set_same, get_or-set_other}
use Rattle.std.proofs.Math.ListN.{length-replicate, get_or-replicate, get_or-append}
use Rattle.pairs.specs.Pairs.{place_of}
use Rattle.pairs.specs.Index.{buckets, bucket_of, way_of, cells_of, Leads, here, down, Room, Indexed, LinksKept, Ends, Searched, Pushed}
use Rattle.pairs.specs.declared.Found.{Found}
use Rattle.theory.proofs.Table.Search.{lt-or-le, eq-or-not}
use Rattle.pairs.proofs.Laws.{place-le, place-old, place-new, place_other}
use Rattle.pairs.proofs.Rooms.{room_kept, room_fewer}
use Rattle.pairs.proofs.Descent.{bucket_low}

-- no pairs are indexed where the heads are cleared
pub indexed-none : {lefts rights cells : List ℕ} {n : ℕ} → Room lefts rights cells n → (cells₀ : List ℕ)
    → cells ≡ replicate buckets 0 ++ drop buckets cells₀ → Indexed lefts rights cells 0
indexed-none {cells = cells} room cells₀ e =
    record {
      room = room_fewer (omega arith) room;
      later = λ c p l q. absurd (omega (arith, q, empty c (omega arith)));
      leads = λ a b l. absurd (omega arith);
    }
  where
    empty : (c : ℕ) → c < buckets → get_or cells c 0 ≡ 0
    empty c l =
        rw e
        (get_or-append (replicate buckets 0) (drop buckets cells₀) 0 c (rw length-replicate l) ∙ get_or-replicate {A = ℕ} buckets c 0 0 l)

-- where the links are kept, a way leads where it led
pub leads_kept : {cells cells' : List ℕ} {n p cell way : ℕ} → LinksKept cells cells' (cells_of n) → p < n → cell < cells_of n
    → Leads cells p cell way → Leads cells' p cell way
leads_kept kept m l (here e) = here (kept _ _ l e)
leads_kept kept m l (down q e f t) = down q (kept _ _ l e) f (leads_kept kept m (omega arith) t)

-- The cells of one place more, n, have no links, and those before are as they were.
record Widened (cells wide : List ℕ) (n : ℕ) : Type 0 where
  same : (c : ℕ) → c < cells_of n → get_or wide c 0 ≡ get_or cells c 0
  bare : (c : ℕ) → cells_of n ≤ c → c < cells_of (suc n) → get_or wide c 0 ≡ 0

abbrev wider : List ℕ → ℕ → List ℕ
wider cells n = set (set cells (cells_of n) 0) (cells_of n + 1) 0

widened : (cells : List ℕ) (n : ℕ) → cells_of (suc n) ≤ length cells → Widened cells (wider cells n) n
widened cells n room =
    record {
      same = λ c l. other c (λ e. omega arith) ∙ get_or-set_other cells (cells_of n) c 0 0 (λ e. omega arith);
      bare = λ c l m. bare c (eq-or-not c (cells_of n)) l m;
    }
  where
    other : (c : ℕ) → (c ≡ cells_of n + 1 → ⊥) → get_or (wider cells n) c 0 ≡ get_or (set cells (cells_of n) 0) c 0
    other c g = get_or-set_other (set cells (cells_of n) 0) (cells_of n + 1) c 0 0 g

    bare : (c : ℕ) → (c ≡ cells_of n) ⊎ (c ≡ cells_of n → ⊥) → cells_of n ≤ c → c < cells_of (suc n) → get_or (wider cells n) c 0 ≡ 0
    bare c (inl e) l m = other c (λ q. omega arith) ∙ rw e (get_or-set_same cells (cells_of n) 0 0 (omega arith))
    bare c (inr e) l m =
        let last : c ≡ cells_of n + 1 = omega arith in
        rw last (get_or-set_same (set cells (cells_of n) 0) (cells_of n + 1) 0 0 (rw length-set (omega arith)))

-- One pair more, over cells in which the old links are kept: the index of n + 1 pairs, if a pair that was not there has its way.
module _ {lefts rights cells : List ℕ} {n : ℕ} (ix : Indexed lefts rights cells n) (a b : ℕ) (room : Room lefts rights cells (suc n)) where
  indexed-more : (cells' : List ℕ) → length cells' ≡ length cells → LinksKept cells cells' (cells_of n)
      → ((c p : ℕ) → c < cells_of (suc n) → get_or cells' c 0 ≡ suc p → (p < suc n) × (c < cells_of p))
      → (place_of lefts rights n a b ≡ n → Leads cells' n (bucket_of a b) (way_of a b))
      → Indexed (set lefts n a) (set rights n b) cells' (suc n)
  indexed-more cells' size kept later own =
      record {
        room = room_kept room (length-set lefts n a) (length-set rights n b) size;
        later = later;
        leads = λ x y l. leads x y l (lt-or-le _ n) (eq-or-not x a) (eq-or-not y b);
      }
    where
      other : (x y : ℕ) → place_of (set lefts n a) (set rights n b) (suc n) x y < suc n → n ≤ place_of lefts rights n x y → (x ≡ a → y ≡ b → ⊥) → ⊥
      other x y l h g = omega (arith, place_other lefts rights n a b room.lefts_fit room.rights_fit x y g (omega (arith, place-le lefts rights n x y)))

      leads : (x y : ℕ) → place_of (set lefts n a) (set rights n b) (suc n) x y < suc n → (place_of lefts rights n x y < n) ⊎ (n ≤ place_of lefts rights n x y)
          → (x ≡ a) ⊎ (x ≡ a → ⊥) → (y ≡ b) ⊎ (y ≡ b → ⊥)
          → Leads cells' (place_of (set lefts n a) (set rights n b) (suc n) x y) (bucket_of x y) (way_of x y)
      leads x y l (inl h) e f =
          rw (place-old lefts rights n a b x y h) (leads_kept kept h (omega (arith, bucket_low x y)) (ix.leads x y h))
      leads x y l (inr h) (inl e) (inl f) =
          let top : place_of lefts rights n a b ≡ n = omega (arith, place-le lefts rights n a b, rw (e, f) at h) in
          rw (e, f, place-new lefts rights n a b room.lefts_fit room.rights_fit, top) (own top)
      leads x y l (inr h) (inr e) f = absurd (other x y l h (λ p q. e p))
      leads x y l (inr h) (inl e) (inr f) = absurd (other x y l h (λ p q. f q))

-- what a push leaves: the pair was there, or it was not and the cell at which the search ended gets the link to its place
module _ {lefts rights cells : List ℕ} {n : ℕ} (ix : Indexed lefts rights cells n) (room : Room lefts rights cells (suc n)) {a b : ℕ} {r : Found} (found : Searched lefts rights cells n a b r) where
  wide : Widened cells (wider cells n) n
  wide = widened cells n room.cells_fit

  wide_size : length (wider cells n) ≡ length cells
  wide_size = rw (length-set, length-set)

  -- the cell at which the search ended is one of the widened cells
  end_fits : r.place ≡ n → r.cell < length (set (set cells (cells_of n) 0) (cells_of n + 1) 0)
  end_fits new = omega (arith, (found.ends new).low, wide_size, room.cells_fit)

  -- a link in the widened cells is an old one
  later-wide : (c p : ℕ) → c < cells_of (suc n) → get_or (wider cells n) c 0 ≡ suc p → (p < n) × (c < cells_of p)
  later-wide c p l e =
      elim (lt-or-le c (cells_of n)) [
        | inl h ↦ ix.later c p h (sym (wide.same c h) ∙ e)
        | inr h ↦ absurd (omega (arith, wide.bare c h l))
      ]

  pub pushed_there : (r.place ≡ n → ⊥)
      → Pushed lefts rights (set lefts n a) (set rights n b) (set (set cells (cells_of n) 0) (cells_of n + 1) 0) n a b r.place
  pushed_there g =
      record {
        left = refl;
        right = refl;
        place = found.place;
        indexed =
            indexed-more ix a b room _ wide_size
            (λ c p l e. wide.same c l ∙ e)
            (λ c p l e. let old = later-wide c p l e in (omega arith, old.1))
            (λ e. absurd (g (found.place ∙ e)));
      }

  module _ (new : r.place ≡ n) where
    abbrev joined : List ℕ
    joined = set (wider cells n) r.cell (n + 1)

    ends : Ends cells n a b r.cell
    ends = found.ends new

    put-here : get_or joined r.cell 0 ≡ suc n
    put-here = rw (add-one n) (get_or-set_same (wider cells n) r.cell (suc n) 0 (end_fits new))

    put_other : (c : ℕ) → (c ≡ r.cell → ⊥) → get_or joined c 0 ≡ get_or (wider cells n) c 0
    put_other c g = get_or-set_other (wider cells n) r.cell c (n + 1) 0 g

    kept_put : LinksKept cells joined (cells_of n)
    kept_put c p l e = put_other c (λ q. omega (arith, rw q at e, ends.empty)) ∙ wide.same c l ∙ e

    later-put : (c p : ℕ) → c < cells_of (suc n) → get_or joined c 0 ≡ suc p → (p < suc n) × (c < cells_of p)
    later-put c p l e =
        elim (eq-or-not c r.cell) [
          | inl q ↦
              let own : p ≡ n = omega (arith, rw q at e, put-here) in
              (omega arith, omega (arith, ends.low))
          | inr q ↦ let old = later-wide c p l (sym (put_other c q) ∙ e) in (omega arith, old.1)
        ]

    pub pushed_new : Pushed lefts rights (set lefts n a) (set rights n b) (set (set (set cells (cells_of n) 0) (cells_of n + 1) 0) r.cell (n + 1)) n a b r.place
    pushed_new =
        record {
          left = refl;
          right = refl;
          place = found.place;
          indexed =
              indexed-more ix a b room joined (rw length-set wide_size)
              kept_put
              later-put
              (λ e. ends.joins _ kept_put put-here);
        }
