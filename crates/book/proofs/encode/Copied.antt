-- A book copied by way of its rows: what is emitted of the rows is the outcome of the call. Assumes nothing.
use Rattle.std.proofs.Common.{◌≡◌, refl, ap, ◌∙◌, List, [], map, ℕ, ◌*◌, ◌≤◌, arith, length}
use mathlib.Core.Option.{none}
use Rattle.model.specs.Limits.{Limits}
use Rattle.model.specs.Term.{Node, Book, Bindings}
use Rattle.model.specs.Area.{term_words}
use Rattle.model.specs.BookBytes.{Parsed, parse_book, book_bytes}
use Rattle.model.specs.Call.{refuse, emit, copy_parsed}
use Rattle.theory.specs.Modest.{Modest}
use Rattle.theory.proofs.Book.Round.{parsed_formed}
use Rattle.theory.proofs.Book.Opening.{Positive}
use Rattle.refusal.specs.declared.Refusal.{Refusal}
use Rattle.refusal.specs.Numbers.{number_of}
use Rattle.refusal.proofs.Numbers.{none_is_zero}
use Rattle.layout.specs.limits.Rows.{book_of}
use Rattle.runs.specs.Emits.{Writes}
use Rattle.runs.proofs.Emitted.{writes}
use Rattle.book.specs.decode.Rows.{book_rows, decoded_refusal, decoded_book}
use Rattle.book.proofs.decode.Outcome.{outcome_decoded, outcome-refused, decoded}
use Rattle.book.proofs.encode.BookHeld.{BookHeld, held-book}

-- What decoding leaves of an outcome that is no refusal: the rows of a book that obeys the rules, and the number of its terms.
pub record Decoded (size : ℕ) (p : Parsed Book) (rows : List ℕ) (terms : ℕ) (β : Bindings) : Type 0 where
  pub none-refused : decoded_refusal p ≡ 0
  pub held : BookHeld size rows terms (decoded_book p) β

module _ (p : Parsed Book) (out : List ℕ) where
  -- a book that is refused
  pub copied_refused : (k : Refusal) → number_of k ≡ decoded_refusal p → Writes (copy_parsed out p) (number_of k) 0 out
  unfolding refuse copy_parsed
  copied_refused k e = rw e (writes (ap (copy_parsed out) (outcome-refused p (λ z. none_is_zero k (e ∙ z)))) (refl, (refl, refl)))

  -- one that is not, and what is emitted of its rows
  pub copied : {size : ℕ} {rows : List ℕ} {terms : ℕ} {β : Bindings} → Positive p → Decoded size p rows terms β
      → {refusal written : ℕ} {out' : List ℕ} → Writes (emit (book_bytes (book_of rows terms)) [] out) refusal written out'
      → Writes (copy_parsed out p) refusal written out'
  unfolding copy_parsed
  copied h d w = writes (ap (copy_parsed out) (outcome_decoded p h d.none-refused).1) (rw (← held-book d.held) w)

-- what `decode` leaves of a book's bytes
pub book_decoded : (lim : Limits) → Modest lim → (book rows : List ℕ) (terms : ℕ) → let p = parse_book lim book in
    decoded_refusal p ≡ 0 → terms ≡ length (decoded_book p) → rows ≡ book_rows (term_words * lim.max_terms) (decoded_book p)
    → Decoded (term_words * lim.max_terms) p rows terms (map (λ (n : Node). none) (decoded_book p))
book_decoded lim m book rows terms z e w =
    let q = decoded lim book z in
    let f = parsed_formed lim book _ q.0 q.1 in
    record {
      none-refused = z;
      held = record { formed = f.0; few = omega (arith, f.1, m.terms); room = omega (arith, f.1); as_many = e; written = w };
    }

-- of no more terms than the limit
pub decoded_few : (lim : Limits) (book : List ℕ) {size : ℕ} {rows : List ℕ} {terms : ℕ} {β : Bindings} → Decoded size (parse_book lim book) rows terms β
    → terms ≤ lim.max_terms
decoded_few lim book d =
    let p = decoded lim book d.none-refused in omega (arith, d.held.as_many, (parsed_formed lim book _ p.0 p.1).1)
