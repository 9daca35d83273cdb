-- A loaded table is known once its rows pass and its roots and names are computed. Assumes nothing.
use Rattle.std.proofs.Common.{◌≡◌, sym, ◌∙◌, List, ◌++◌, map, ℕ, ◌*◌, ◌≤◌, ◌<◌, zero-add, arith, length, length-append, T, eqb}
use Rattle.std.proofs.Math.ListN.{get_or-append}
use Rattle.model.specs.Lists.{from}
use Rattle.model.specs.Term.{deref, name, acyclic}
use Rattle.model.specs.Area.{entry_row_words, terms_ok}
use Rattle.theory.specs.Values.{proper}
use Rattle.theory.proofs.Lists.Conjunctions.{and₃}
use Rattle.theory.proofs.Lists.From.{length-map-from, get_or-map-from}
use Rattle.theory.proofs.Soundness.Table.{eq-T}
use Rattle.layout.specs.limits.Rows.{at, book_of, bound_of, GoodTerms}
use Rattle.layout.proofs.limits.Rows.{length-book_of, length-bound_of}
use Rattle.soundness.specs.rows.RowTests.{entry_rows_ok}
use Rattle.soundness.specs.kinds.Known.{Named, Known}

-- what f gives for n numbers stands at the front of a list
module _ (f : ℕ → ℕ) (n : ℕ) (ys : List ℕ) {xs : List ℕ} (e : xs ≡ map f (from 0 n) ++ ys) where
  front_fits : n ≤ length xs
  front_fits = rw (e, length-append, length-map-from f 0 n) (omega arith)

  front_at : (t : ℕ) → t < n → at xs t ≡ f t
  front_at t l =
      rw (e, get_or-append (map f (from 0 n)) ys 0 t (rw (length-map-from f 0 n) l), get_or-map-from f 0 n t 0 l, zero-add)

module _ (rows bindings : List ℕ) (n : ℕ) where
  -- the names of the terms are computed, and the rows of entries pass
  pub named-loaded : (ys : List ℕ) {names entries : List ℕ} {m : ℕ} → names ≡ map (name (book_of rows n) (bound_of bindings n)) (from 0 n) ++ ys
      → entry_row_words * m ≤ length entries → T (entry_rows_ok entries m n) → Named (book_of rows n) (bound_of bindings n) names entries m
  named-loaded ys e h t =
      let f = name (book_of rows n) (bound_of bindings n) in
      record {
        names_fit = rw length-book_of (front_fits f n ys e);
        is_name = rw length-book_of (front_at f n ys e);
        entries_fit = h;
        entry-rows = rw length-book_of t;
      }

  -- the rows of terms pass, no value contains itself, and the roots are computed too
  pub known-loaded : (ys : List ℕ) {names entries roots : List ℕ} {m : ℕ} → GoodTerms rows bindings n → T (acyclic (book_of rows n) (bound_of bindings n))
      → Named (book_of rows n) (bound_of bindings n) names entries m → roots ≡ map (deref (book_of rows n) (bound_of bindings n) n) (from 0 n) ++ ys
      → Known (book_of rows n) (bound_of bindings n) rows roots names entries m
  unfolding proper
  known-loaded ys g a k e =
      let b = book_of rows n in
      let β = bound_of bindings n in
      let f = deref b β n in
      record {
        held =
            record {
              is-proper = (and₃ (eqb (length β) (length b)) (terms_ok b β) (acyclic b β)).1 (
                eq-T (length β) (length b) (length-bound_of bindings n ∙ sym (length-book_of rows n)),
                g.rules,
                a,
              );
              is-book = rw length-book_of;
              rows_fit = rw length-book_of g.rows_fit;
              few-arguments = rw length-book_of g.few-arguments;
              named = k;
            };
        roots_fit = rw length-book_of (front_fits f n ys e);
        is-root = rw length-book_of (front_at f n ys e);
      }
