-- The search down a tree: what is known of the cell that it has come to. Assumes nothing.
use Rattle.std.proofs.Common.{◌≡◌, refl, sym, ◌∙◌, List, ℕ, zero, suc, ◌+◌, ◌*◌, ◌-◌, ◌/◌, ◌%◌, ◌≤◌, ◌<◌, arith, get_or}
use Rattle.pairs.specs.Pairs.{place_of}
use Rattle.pairs.specs.Index.{buckets, hash_of, bucket_of, way_of, cells_of, cell_below, Leads, here, down, Indexed, LinksKept, Searched}
use Rattle.pairs.proofs.Laws.{Holds, place-holds, place-least, place_none}

-- every bucket is one of those that there are
pub bucket_low : (a b : ℕ) → bucket_of a b < buckets
unfolding bucket_of
bucket_low a b = omega arith

-- The search of (a, b) among the first n pairs has come to a cell, and the rest of the way: that leads to the pair if it is there, and
-- where it led to n, so would the whole way.
pub record Sought (lefts rights cells : List ℕ) (n a b cell way : ℕ) : Type 0 where
  pub low : cell < cells_of n
  pub small : get_or cells cell 0 ≤ n
  pub onward : place_of lefts rights n a b < n → Leads cells (place_of lefts rights n a b) cell way
  pub joins : (cells' : List ℕ) → LinksKept cells cells' (cells_of n) → Leads cells' n cell way → Leads cells' n (bucket_of a b) (way_of a b)

-- a link goes to one of the first n places
link_small : {lefts rights cells : List ℕ} {n : ℕ} → Indexed lefts rights cells n → (cell v : ℕ) → cell < cells_of n
    → get_or cells cell 0 ≡ v → v ≤ n
link_small ix cell zero l e = omega arith
link_small ix cell (suc p) l e = (ix.later cell p l e).0

module _ {lefts rights cells : List ℕ} {n : ℕ} (ix : Indexed lefts rights cells n) {a b : ℕ} where
  -- it starts at the head of the pair's bucket, with the whole way
  pub sought_head : (h : ℕ) → h ≡ hash_of a b → Sought lefts rights cells n a b (h / 65536 % buckets) (h % 65536 + h / 268435456 * 65536)
  unfolding bucket_of way_of
  sought_head h e =
      let low : bucket_of a b < cells_of n = omega (arith, bucket_low a b) in
      rw e
      (record {
        low = low;
        small = link_small ix _ _ low refl;
        onward = ix.leads a b;
        joins = λ cells' kept l. l;
      })

  -- what it finds there: a cell with the link v
  module _ {cell way v : ℕ} (s : Sought lefts rights cells n a b cell way) (is_link : get_or cells cell 0 ≡ v) where
    -- at a cell without a link the pair is not there
    leads_on : {p : ℕ} → v ≡ 0 → Leads cells p cell way → ⊥
    leads_on e (here q) = omega (arith, is_link, q)
    leads_on e (down r q l t) = omega (arith, is_link, q)

    none-there : v ≡ 0 → place_of lefts rights n a b ≡ n
    none-there e =
        place_none lefts rights n a b (λ i l h. leads_on e (s.onward (omega (arith, place-least lefts rights n a b i l h))))

    pub sought_none : v ≡ 0 → Searched lefts rights cells n a b (record { place = n; cell = cell })
    sought_none e =
        record {
          place = sym (none-there e);
          ends = λ q. record {
            low = s.low;
            empty = is_link ∙ e;
            joins = λ cells' kept l. s.joins cells' kept (here l);
          };
        }

    -- elsewhere the link goes to a place, whose cells come later
    pub sought_at : (v ≡ 0 → ⊥) → (v - 1 < n) × (cell < cells_of (v - 1))
    sought_at z = ix.later cell (v - 1) s.low (is_link ∙ omega arith)

    -- where the way leads to a pair that is there, which is at this place or further down
    found_at : {p : ℕ} → (v ≡ 0 → ⊥) → ((v - 1 < p) → ⊥) → Leads cells p cell way → v - 1 ≡ p
    found_at z g (here q) = omega (arith, is_link, q)
    found_at z g (down r q l t) = absurd (g (omega (arith, is_link, q)))

    pub sought_found : (v ≡ 0 → ⊥) → Holds lefts rights (v - 1) a b → Searched lefts rights cells n a b (record { place = v - 1; cell = cell })
    sought_found z h =
        let below = (sought_at z).0 in
        let least = place-least lefts rights n a b (v - 1) below h in
        record {
          place = found_at z (λ g. omega arith) (s.onward (omega arith));
          ends = λ q. absurd (omega arith);
        }

    -- if this place does not hold the pair, the search goes on at its cell on the way's side
    further : {p : ℕ} → (v ≡ 0 → ⊥) → (v - 1 ≡ p → ⊥) → Leads cells p cell way → Leads cells p (cell_below (v - 1) way) (way / 2)
    further z g (here q) = absurd (g (omega (arith, is_link, q)))
    further z g (down r q l t) =
        let same : v - 1 ≡ r = omega (arith, is_link, q) in
        rw same t

    pub sought_next : (v ≡ 0 → ⊥) → (Holds lefts rights (v - 1) a b → ⊥) → Sought lefts rights cells n a b (cell_below (v - 1) way) (way / 2)
    sought_next z g =
        let at = sought_at z in
        let low : cell_below (v - 1) way < cells_of n = omega arith in
        record {
          low = low;
          small = link_small ix _ _ low refl;
          onward = λ h. further z (λ e. g (rw e (place-holds lefts rights n a b h))) (s.onward h);
          joins = λ cells' kept l. s.joins cells' kept (down (v - 1) (kept cell (v - 1) s.low (is_link ∙ omega arith)) at.0 l);
        }
