-- The encoder's loop: the number of terms is laid at the front, then term after term behind it. Assumes nothing.
use Rattle.std.proofs.Common.{◌≡◌, subst, ◌∙◌, List, ◌++◌, ℕ, ◌+◌, ◌≤◌, ◌<◌, arith, length, drop, length-append}
use Rattle.leb128.specs.Number.{max_groups, write}
use Rattle.model.specs.BookBytes.{book_bytes}
use Rattle.layout.specs.limits.Rows.{book_of}
use Rattle.book.specs.encode.Encoding.{term_bytes, terms_bytes}
use Rattle.runs.proofs.Over.{Laid, laid_more, laid-length, laid_front}
use Rattle.book.proofs.encode.Terms.{terms-more, length-terms-more, terms_grow, book-terms}

-- a book's length is that of the number of its terms and of the terms
pub length-book : (rows : List ℕ) (n : ℕ) → length (book_bytes (book_of rows n)) ≡ length (write max_groups n) + length (terms_bytes rows n)
length-book rows n = rw (book-terms rows n, length-append)

module _ (rows : List ℕ) (n : ℕ) (out : List ℕ) (room : length (book_bytes (book_of rows n)) ≤ length out) where
  -- there is room for the number of terms
  pub first_fits : 0 + length (write max_groups n) ≤ length out
  first_fits = omega (arith, length-book rows n)

  module _ (out₀ : List ℕ) (at₀ : ℕ) (first : Laid out 0 (write max_groups n) out₀ at₀) where
    -- the length stays
    first-length : length out₀ ≡ length out
    first-length = laid-length out 0 (write max_groups n) out₀ at₀ first_fits first

    -- behind it there is room for the first t terms
    terms_fit : (t : ℕ) → t ≤ n → at₀ + length (terms_bytes rows t) ≤ length out₀
    terms_fit t h = omega (arith, first-length, length-book rows n, terms_grow rows t n h)

    module _ (t : ℕ) (h : t ≤ n) (end : List ℕ) (next : ℕ) (laid : Laid out₀ at₀ (terms_bytes rows t) end next) where
      -- once t terms are laid, the length is still the same
      pub terms-length : length end ≡ length out
      terms-length = laid-length out₀ at₀ (terms_bytes rows t) end next (terms_fit t h) laid ∙ first-length

      -- there is room for one more
      pub term_fits : t < n → next + length (term_bytes rows t) ≤ length end
      term_fits l = omega (arith, terms-length, first-length, terms_fit (t + 1) (omega arith), length-terms-more rows t)

      -- and once it is laid, t + 1 terms are
      pub term-laid : (end' : List ℕ) (next' : ℕ) → Laid end next (term_bytes rows t) end' next'
          → Laid out₀ at₀ (terms_bytes rows (t + 1)) end' next'
      term-laid end' next' g =
          rw (terms-more rows t)
          (laid_more out₀ at₀ (terms_bytes rows t) end next (terms_fit t h) laid (term_bytes rows t) end' next' g)

      -- all terms are the book
      pub book-laid : t ≡ n → (next ≡ length (book_bytes (book_of rows n))) × (end ≡ book_bytes (book_of rows n) ++ drop next out)
      book-laid e =
          let all = subst (λ (k : ℕ). Laid out₀ at₀ (terms_bytes rows k) end next) e laid in
          rw (book-terms rows n)
          (laid_front out (write max_groups n ++ terms_bytes rows n) end next
          (laid_more out 0 (write max_groups n) out₀ at₀ first_fits first (terms_bytes rows n) end next all))
