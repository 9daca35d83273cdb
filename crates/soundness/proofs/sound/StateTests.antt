-- The tests of `model` on a loaded state, row by row. Assumes nothing.
use Rattle.std.proofs.Common.{List, Bool, ◌&&◌, ◌↔◌, ℕ, ◌*◌, ◌+◌, ◌≤◌, ◌<◌, zero-le, length, get_or, T, eqb, ltb, leb, leb→le, le→leb}
use Rattle.std.proofs.Math.Option.{none}
use Rattle.model.specs.Limits.{max_arity, max_symbol}
use Rattle.model.specs.Lists.{all}
use Rattle.model.specs.Term.{Node, var, app, arguments, Book, Bindings, root}
use Rattle.model.specs.Table.{Entry, Table, entry_of}
use Rattle.model.specs.Area.{entry_row_words, node_ok, binding_ok, terms_ok, kind_ok, entry_ok}
use Rattle.theory.proofs.Lists.Conjunctions.{and₂, and₃, and₄}
use Rattle.theory.proofs.Lists.From.{all-map-from}
use Rattle.theory.proofs.Soundness.Terms.{all-below, below_all}
use Rattle.layout.specs.limits.Rows.{at, node_of, book_of, binding_of, bound_of, loaded_entry, table_of}
use Rattle.layout.proofs.limits.Rows.{length-book_of, get_or-book_of, get_or-bound_of}
use Rattle.soundness.specs.rows.RowTests.{node_in_range}
use Rattle.soundness.specs.sound.Sound.{values_ok}

-- a node obeys the rules of terms exactly when its numbers lie in their ranges and its arguments are not too many
pub node_tests_lem : (t : ℕ) (n : Node) → T (node_ok t n) ↔ (T (node_in_range t n) × (length (arguments n) ≤ max_arity))
unfolding node_ok node_in_range arguments
node_tests_lem t var = (λ h. (tt, zero-le), λ h. tt)
node_tests_lem t (app s args) =
    let three : _ = and₃ (leb s max_symbol) (leb (length args) max_arity) (all (λ a. ltb a t) args) in
    let two : _ = and₂ (leb s max_symbol) (all (λ a. ltb a t) args) in (
      λ h. let g : _ = three.0 h in (two.1 (g.0, g.2), leb→le (length args) max_arity g.1),
      λ h. let g : _ = two.0 h.0 in three.1 (g.0, le→leb (length args) max_arity h.1, g.1),
    )

module _ (rows bindings : List ℕ) (n : ℕ) where
  -- the loaded terms and their bindings pass exactly when each does
  pub terms_tests_lem : T (terms_ok (book_of rows n) (bound_of bindings n)) ↔
      ((t : ℕ) → t < n → T (node_ok t (node_of rows t)) × T (binding_ok (book_of rows n) (node_of rows t) (binding_of bindings t)))
  unfolding terms_ok
  terms_tests_lem =
      let b : Book = book_of rows n in
      let β : Bindings = bound_of bindings n in
      let test : ℕ → Bool = λ t. node_ok t (get_or b t var) && binding_ok b (get_or b t var) (get_or β t none) in (
        λ h t l. rw (get_or-book_of rows n t l, get_or-bound_of bindings n t l) at
            ((and₂ (node_ok t (get_or b t var)) (binding_ok b (get_or b t var) (get_or β t none))).0
            (all-below test (length b) h t (rw (length-book_of rows n) l))),
        λ h. below_all test (length b) (λ t l.
            let k : t < n = rw (length-book_of rows n) at l in
            rw (get_or-book_of rows n t k, get_or-bound_of bindings n t k)
            ((and₂ (node_ok t (node_of rows t)) (binding_ok b (node_of rows t) (binding_of bindings t))).1 (h t k))),
      )

-- an entry passes exactly when its sides are terms and its values are right
entry_tests_lem : (b : Book) (β : Bindings) (es : Table) (e : Entry)
    → T (entry_ok b β es e) ↔ (T (ltb e.left (length b)) × T (ltb e.right (length b)) × T (values_ok b β es e))
unfolding entry_ok values_ok
entry_tests_lem b β es e =
    let kind : Bool = kind_ok b β es e.kind (root b β e.left) (root b β e.right) in
    let same : Bool = eqb e.same_as (entry_of b β es e.left e.right) in
    let four : _ = and₄ (ltb e.left (length b)) (ltb e.right (length b)) kind same in (
      λ h. let g : _ = four.0 h in (g.0, g.1, (and₂ kind same).1 (g.2, g.3)),
      λ h. let g : _ = (and₂ kind same).0 h.2 in four.1 (h.0, h.1, g.0, g.1),
    )

module _ (b : Book) (β : Bindings) (entries : List ℕ) (m : ℕ) where
  -- the loaded entries pass exactly when the sides of each are terms and all values are right
  pub table_tests : T (all (entry_ok b β (table_of entries m)) (table_of entries m)) ↔
      (((i : ℕ) → i < m → T (ltb (at entries (entry_row_words * i)) (length b)) × T (ltb (at entries (entry_row_words * i + 1)) (length b))) ×
      T (all (values_ok b β (table_of entries m)) (table_of entries m)))
  unfolding table_of loaded_entry
  table_tests =
      let es : Table = table_of entries m in
      let passing : _ = all-map-from (loaded_entry entries) (entry_ok b β es) m in
      let values : _ = all-map-from (loaded_entry entries) (values_ok b β es) m in (
        λ h. (
          λ i l. let g : _ = (entry_tests_lem b β es (loaded_entry entries i)).0 (passing.0 h i l) in (g.0, g.1),
          values.1 (λ i l. ((entry_tests_lem b β es (loaded_entry entries i)).0 (passing.0 h i l)).2),
        ),
        λ h. passing.1 (λ i l. (entry_tests_lem b β es (loaded_entry entries i)).1 ((h.0 i l).0, (h.0 i l).1, values.0 h.1 i l)),
      )
