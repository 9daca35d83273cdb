-- What opening a book answers, case by case, from the outcome of the decoder. Assumes nothing.
use Rattle.std.proofs.Common.{sym, Some, None, ◌≡◌, refl, ap, ◌∙◌, List, [], Bool, true, false, ◌&&◌, ℕ, ◌*◌, ◌≤◌, ◌<◌, length, leb, le-leb}
use Rattle.std.proofs.lemmas.Bool.{lt-leb}
use Rattle.model.specs.Limits.{office}
use Rattle.model.specs.Lists.{concat_map}
use Rattle.model.specs.BookBytes.{parse_book}
use Rattle.model.specs.Area.{word_size, term_words, to_bytes, area_length, area_bytes}
use Rattle.model.specs.Call.{Outcome, refuse, accept, guard, over, open_parsed, call_open}
use Rattle.refusal.specs.declared.Refusal.{Refusal}
use Rattle.refusal.specs.Numbers.{number_of}
use Rattle.refusal.proofs.Numbers.{none_is_zero}
use Rattle.theory.proofs.Book.Round.{parsed_formed}
use Rattle.book.specs.decode.Rows.{book_rows, decoded_refusal, decoded_book}
use Rattle.book.proofs.decode.Outcome.{decoded, not_decoded}
use Rattle.area.specs.save.Opened.{opened_words}
use Rattle.office.specs.opening.Offered.{length_of}
use Rattle.area.proofs.save.JustOpened.{opened-words}

-- THE CAPACITY. Whether it lies in its range, by the outcome of two tests.
abbrev pub in_range : ℕ → Bool
in_range capacity = leb 1 capacity && leb capacity office.max_capacity

-- a length is answered where it does, and it is the needed one
pub length_there : (capacity n : ℕ) → length_of capacity ≡ Some n → (in_range capacity ≡ true) × (n ≡ area_length office capacity)
unfolding length_of
length_there capacity n h = go (in_range capacity) refl
  where
    go : (t : Bool) → in_range capacity ≡ t → (in_range capacity ≡ true) × (n ≡ area_length office capacity)
    go true e = let f = rw e at h in (e, cc)
    go false e = let f = rw e at h in absurd cc

pub length_none : (capacity : ℕ) → length_of capacity ≡ None → in_range capacity ≡ false
unfolding length_of
length_none capacity h = go (in_range capacity) refl
  where
    go : (t : Bool) → in_range capacity ≡ t → in_range capacity ≡ false
    go true e = let f = rw e at h in absurd cc
    go false e = e

-- OPENING. The outcome of the call is this refusal with this area.
abbrev pub OpenAnswer : ℕ → List ℕ → List ℕ → ℕ → List ℕ → Type 0
OpenAnswer capacity book area refusal area' =
    let o = call_open office capacity book area in (refusal ≡ o.refusal) × (area' ≡ o.area)

module _ (capacity : ℕ) (book area : List ℕ) where
  -- the parts of an outcome that is known
  answer : (o : Outcome) → call_open office capacity book area ≡ o → OpenAnswer capacity book area o.refusal o.area
  answer o e = (ap (λ o. o.refusal) (sym e), ap (λ o. o.area) (sym e))

  pub open_four : length_of capacity ≡ None → OpenAnswer capacity book area 4 area
  unfolding call_open guard refuse
  open_four h = answer (refuse 0 4 area []) (rw (length_none capacity h))

  -- The length is answered.
  module _ {n : ℕ} (h : length_of capacity ≡ Some n) where
    pub needed : n ≡ area_length office capacity
    needed = (length_there capacity n h).1

    pub open_seven : length area < n → OpenAnswer capacity book area 7 area
    unfolding call_open guard refuse
    open_seven g =
        let e = length_there capacity n h in
        answer (refuse 0 7 area []) (rw (e.0, lt-leb (area_length office capacity) (length area) (rw e.1 at g)))

    module _ (g : n ≤ length area) where
      parsed_there : call_open office capacity book area ≡ open_parsed office capacity area (parse_book office book)
      unfolding call_open guard
      parsed_there =
          let e = length_there capacity n h in
          rw (e.0, le-leb (area_length office capacity) (length area) (rw e.1 at g))

      pub open_refused : (k : Refusal) → number_of k ≡ decoded_refusal (parse_book office book) → OpenAnswer capacity book area (number_of k) area
      unfolding open_parsed refuse
      open_refused k e =
          rw e (answer (refuse 0 (decoded_refusal (parse_book office book)) area [])
          (parsed_there ∙ ap (open_parsed office capacity area) (not_decoded office book (λ z. none_is_zero k (e ∙ z)))))

      pub open_accepted : decoded_refusal (parse_book office book) ≡ 0 → (terms : ℕ) → terms ≡ length (decoded_book (parse_book office book))
          → (rows : List ℕ) → rows ≡ book_rows (term_words * office.max_terms) (decoded_book (parse_book office book)) → (area' : List ℕ)
          → area' ≡ over (concat_map (to_bytes word_size) (opened_words office capacity terms rows)) area → OpenAnswer capacity book area 0 area'
      unfolding open_parsed area_bytes book_rows accept
      open_accepted z terms as_many rows written area' stored =
          let d = decoded office book z in
          let b = decoded_book (parse_book office book) in
          rw (stored, as_many, written)
          (answer (accept [] (over (concat_map (to_bytes word_size) (opened_words office capacity (length b) (book_rows (term_words * office.max_terms) b))) area) [])
          (parsed_there ∙ ap (open_parsed office capacity area) d.1
          ∙ ap (λ words. accept [] (over (concat_map (to_bytes word_size) words) area) [])
          (opened-words office b capacity (parsed_formed office book b d.0 d.1).1)))
