-- The names of a table's sides, where an entry is appended or the sides stay. Assumes nothing.
use Rattle.std.proofs.Common.{◌≡◌, List, [], ◌∷◌, ◌++◌, ◌⊎◌, inl, inr, ℕ, suc, ◌≤◌, ◌<◌, arith, length, get_or, set, length-append, get_or-set_same, get_or-set_other}
use Rattle.std.proofs.Math.ListN.{get_or-append}
use Rattle.std.proofs.Math.Seq.{get_or-append_seam}
use Rattle.model.specs.Term.{Book, Bindings, name}
use Rattle.model.specs.Table.{Entry, Table, hole_at, entry}
use Rattle.theory.proofs.Table.Search.{Extends, lt-or-le}
use Rattle.soundness.specs.kinds.Sides.{SideNames}

-- Entry i of a table has terms for its sides, and the lists hold their names.
record Sided (b : Book) (β : Bindings) (es : Table) (lefts rights : List ℕ) (i : ℕ) : Type 0 where
  left-term : (entry es i).left < length b
  right-term : (entry es i).right < length b
  left-name : get_or lefts i 0 ≡ name b β (entry es i).left
  right-name : get_or rights i 0 ≡ name b β (entry es i).right

sides_of : {b : Book} {β : Bindings} {es : Table} {lefts rights : List ℕ} → SideNames b β es lefts rights → (i : ℕ) → i < length es → Sided b β es lefts rights i
sides_of s i l =
    record { left-term = s.left-term i l; right-term = s.right-term i l; left-name = s.left-name i l; right-name = s.right-name i l }

all_sided : {b : Book} {β : Bindings} {es : Table} {lefts rights : List ℕ} → ((i : ℕ) → i < length es → Sided b β es lefts rights i) → SideNames b β es lefts rights
all_sided h =
    record {
      left-term = λ i l. (h i l).left-term;
      right-term = λ i l. (h i l).right-term;
      left-name = λ i l. (h i l).left-name;
      right-name = λ i l. (h i l).right-name;
    }

module _ {b : Book} {β : Bindings} {es : Table} {lefts rights : List ℕ} (s : SideNames b β es lefts rights) where
  -- sides that stay keep their names
  pub names_same : (es' : Table) → Extends es es' → length es' ≡ length es → SideNames b β es' lefts rights
  names_same es' x e =
      all_sided (λ i l.
      let k : i < length es = omega arith in
      let old = sides_of s i k in
      record {
        left-term = rw (x.left i k) old.left-term;
        right-term = rw (x.right i k) old.right-term;
        left-name = rw (x.left i k) old.left-name;
        right-name = rw (x.right i k) old.right-name;
      })

  -- an entry more, whose names are put behind
  module _ (e : Entry) (p : e.left < length b) (q : e.right < length b) (room-left : length es < length lefts) (room-right : length es < length rights) where
    sided_more : (i : ℕ) → i < suc (length es) → (i < length es) ⊎ (length es ≤ i)
        → Sided b β (es ++ e ∷ []) (set lefts (length es) (name b β e.left)) (set rights (length es) (name b β e.right)) i
    sided_more i h (inl g) =
        let old = sides_of s i g in
        let other : i ≡ length es → ⊥ = λ k. omega arith in
        let same = get_or-append es (e ∷ []) (hole_at 0 0 0) i g in
        record {
          left-term = rw same old.left-term;
          right-term = rw same old.right-term;
          left-name = rw (same, get_or-set_other lefts (length es) i _ 0 other) old.left-name;
          right-name = rw (same, get_or-set_other rights (length es) i _ 0 other) old.right-name;
        }
    sided_more i h (inr g) =
        let here : i ≡ length es = omega arith in
        let new = get_or-append_seam es e [] (hole_at 0 0 0) in
        rw here
        (record {
          left-term = rw new p;
          right-term = rw new q;
          left-name = rw (new, get_or-set_same lefts (length es) _ 0 room-left);
          right-name = rw (new, get_or-set_same rights (length es) _ 0 room-right);
        })

    pub names_more : SideNames b β (es ++ e ∷ []) (set lefts (length es) (name b β e.left)) (set rights (length es) (name b β e.right))
    names_more = all_sided (λ i h. sided_more i (omega (arith, simp length-append at h)) (lt-or-le i (length es)))
