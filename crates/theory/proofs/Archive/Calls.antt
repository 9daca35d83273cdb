-- Storing and restoring on bytes: what is written, that it restores, and where restoring works. Assumes nothing.
use mathlib.Core.Path.{◌≡◌, refl, ap, sym, ◌∙◌}
use mathlib.Core.List.{List, [], ◌∷◌}
use mathlib.Core.Bool.{Bool, true, false, not, cond, ◌&&◌}
use Prim.Native.Nat.{ℕ, zero, suc, ◌<◌}
use native.Mathlib.Omega.{arith}
use borrow.Author.Tests.{ne_eqb}
use lib.ListN.{length, get_or}
use lib.Seq.{take-append_seam}
use lib.Dec.{T, eqb, ltb, leb, leb→le, eqb_refl}
use Rattle.leb128.specs.Laws.{are_bytes}
use Rattle.model.specs.Limits.{Limits}
use Rattle.model.specs.Lists.{all, is_empty}
use Rattle.model.specs.Term.{var, Book}
use Rattle.model.specs.Report.{number_bytes}
use Rattle.model.specs.BookBytes.{Parsed, parsed, unparsed, and_then, need, parse_number, parse_book, book_bytes}
use Rattle.model.specs.Call.{refuse, accept, guard, over, emit, copy_parsed}
use Rattle.model.specs.Archive.{variables_first, new_number, old_number, renumbered, moved, stored_book, restored_book, parse_numbers, all_distinct, parse_list, arguments_lower, restore_by, parse_restored, call_restore, Stored, not_stored, emit_both, store_parsed, call_store}
use Rattle.theory.specs.Tests.{ArgumentsLower}
use Rattle.theory.specs.Archive.{EachOnce, Renumbers, OpensAs, Stores, StoresAsAsked, StoredRestores, RestoredFrom, RestoresAsAsked, Restores, RestoresWhereItOpens, WithoutSeven, Archive}
use Rattle.theory.proofs.Lists.Laws.{and_left, and_right, T_true, same_first, same_second}
use Rattle.theory.proofs.Book.Gives.{Gives, gives_at, need_gives, and_then_gives}
use Rattle.theory.proofs.Book.Round.{parsed_whole, written_back}
use Rattle.theory.proofs.Book.Parses.{parsed-small, decoded_opens}
use Rattle.theory.proofs.Book.Opening.{RefusedBy, need-refused, then-refused, refused_too, of_book, number-refused, book-refused, Positive}
use Rattle.theory.proofs.Refusals.Deciding.{Tells, holds, fails, tells_of}
use Rattle.theory.proofs.Refusals.Archive.{tells_lower}
use Rattle.theory.proofs.Archive.Moved.{new-lt, new-old, length_moved, moved_at, node_back, moved_back}
use Rattle.theory.proofs.Archive.Formed.{same_new, moved-opens, moved-renumbers, opens-lower, stored_as, stored_opens, stored_once}
use Rattle.theory.proofs.Archive.Reading.{reads_lists}

-- STORING. Both outputs, by whether there is room.
module _ (lim : Limits) (book out list : List ℕ) where
  both_written : (b : Book) (rest : List ℕ) → parse_book lim book ≡ parsed b rest → (t : Bool)
      → let first = book_bytes (stored_book b) in let second = number_bytes (variables_first b) in
      let o : Stored = cond t (record { refusal = 0; numbers = length first ∷ length second ∷ []; output = over first out; list = over second list })
      (not_stored 13 out list) in
      o.refusal ≡ 0 → Stores lim book o
  unfolding not_stored over
  both_written b rest e false z = absurd (omega arith)
  both_written b rest e true z =
      record {
        terms = b;
        list = variables_first b;
        new = stored_book b;
        opens = e ∙ ap (parsed b) (parsed_whole lim book b rest e);
        stored_as = stored_as b;
        numbers = refl;
        book-written = take-append_seam (book_bytes (stored_book b)) _;
        list_written = take-append_seam (number_bytes (variables_first b)) _;
        stored_opens = stored_opens lim book b rest e;
      }

  stores_at : (p : Parsed Book) → parse_book lim book ≡ p → (store_parsed out list p).refusal ≡ 0 → Stores lim book (store_parsed out list p)
  unfolding store_parsed emit_both not_stored
  stores_at (unparsed n) e z = absurd (rw (e, z) at (book-refused lim book))
  stores_at (parsed b rest) e z =
      both_written b rest e
      (leb (length (book_bytes (stored_book b))) (length out) && leb (length (number_bytes (variables_first b))) (length list)) z

pub stores_as_asked : StoresAsAsked
unfolding call_store
stores_as_asked lim book out list z = stores_at lim book out list (parse_book lim book) refl z

-- RESTORING. The book of which another is the renumbering.
pub renumbers_back : (list : List ℕ) (old new : Book) → EachOnce (length old) list → ArgumentsLower old → Renumbers list old new
    → restored_book list new ≡ old
unfolding restored_book
renumbers_back list old new o low r =
    let e : new ≡ moved (old_number list) (new_number list) old = same_new old list _ new (moved-renumbers old list) r in
    ap (moved (new_number list) (old_number list)) e
    ∙ moved_back old list o (λ t l i k. omega (arith, low t l i k))

-- a book is the renumbering of what is restored from it
pub restored_renumbers : (list : List ℕ) (new : Book) → EachOnce (length new) list → ArgumentsLower new
    → Renumbers list (restored_book list new) new
unfolding restored_book old_number
restored_renumbers list new o low =
    record {
      as_many = sym long;
      term = λ i l.
          let k : i < length new = omega (arith, long) in
          let there : get_or list i 0 < length new = o.terms i k in
          let back : new_number list (get_or list i 0) ≡ i = new-old (length new) list o i k in
          sym (ap (renumbered (new_number list)) (moved_at (new_number list) (old_number list) new (get_or list i 0) there)
          ∙ rw back
          (node_back (old_number list) (new_number list) (get_or new i var)
          (λ j h. new-old (length new) list o _ (omega (arith, low i k j h)))));
    }
  where
    long : length (moved (new_number list) (old_number list) new) ≡ length new
    long = length_moved (new_number list) (old_number list) new

module _ (lim : Limits) (bytes out : List ℕ) (new : Book) (rest : List ℕ) (list : List ℕ) (e : parse_book lim bytes ≡ parsed new rest)
    (o : EachOnce (length new) list) where
  -- by rule 5 of the restored book
  by_rule : (t : Bool) → arguments_lower (restored_book list new) ≡ t
      → call_restore lim bytes (number_bytes list) out ≡
      copy_parsed out (need t 5 (parsed (restored_book list new) []))
  unfolding call_restore parse_restored restore_by and_then
  by_rule t h = rw (e, reads_lists.taken (length new) list (parsed-small lim bytes new rest e) o, h)

  restored : ArgumentsLower (restored_book list new)
      → call_restore lim bytes (number_bytes list) out ≡ emit (book_bytes (restored_book list new)) [] out
  unfolding need copy_parsed
  restored low = go (arguments_lower (restored_book list new)) refl (tells_lower (restored_book list new))
    where
      go : (t : Bool) → arguments_lower (restored_book list new) ≡ t → Tells (ArgumentsLower (restored_book list new)) t
          → call_restore lim bytes (number_bytes list) out ≡ emit (book_bytes (restored_book list new)) [] out
      go true h d = by_rule true h
      go false h (fails d) = absurd (d low)

  lower-there : ((call_restore lim bytes (number_bytes list) out).refusal ≡ 5 → ⊥) → ArgumentsLower (restored_book list new)
  unfolding need copy_parsed refuse
  lower-there k = go (arguments_lower (restored_book list new)) refl (tells_lower (restored_book list new))
    where
      go : (t : Bool) → arguments_lower (restored_book list new) ≡ t → Tells (ArgumentsLower (restored_book list new)) t
          → ArgumentsLower (restored_book list new)
      go true h (holds d) = d
      go false h d = absurd (k (rw (by_rule false h)))

  -- what opens is restored
  back : (old : Book) → OpensAs lim old → Renumbers list old new → restored_book list new ≡ old
  back old h r =
      renumbers_back list old new (rw r.as_many at o) (opens-lower lim (book_bytes old) old [] h) r

  restores : Restores lim bytes out new list
  unfolding restored_book
  restores =
      record {
        works = λ old h r.
            let same : restored_book list new ≡ old = back old h r in
            restored (rw same (opens-lower lim (book_bytes old) old [] h))
            ∙ ap (λ b. emit (book_bytes b) [] out) same;
        only_there = λ k. (
          restored_book list new,
          moved-opens lim bytes new rest (new_number list) (old_number list) e (new-lt (length new) list o) (lower-there k),
          restored_renumbers list new o (opens-lower lim bytes new rest e),
        );
        one-book = λ old old' h h' r r'. sym (back old' h' r') ∙ back old h r;
      }

pub restores_where_it_opens : RestoresWhereItOpens
restores_where_it_opens = restores

-- a book that was restored opens
gives_equal : {A : Type 0} (p : Parsed A) → Gives p (λ a rest. p ≡ parsed a rest)
gives_equal (parsed a rest) = refl
gives_equal (unparsed n) = tt

-- What a restored book comes from.
pub record RestoredBy (lim : Limits) (book bytes : List ℕ) (b : Book) : Type 0 where
  pub new : Book
  pub behind : List ℕ
  pub opens : parse_book lim book ≡ parsed new behind
  pub list : List ℕ
  pub behind_list : List ℕ
  pub lists : parse_list (length new) bytes ≡ parsed list behind_list
  pub lower : ArgumentsLower (restored_book list new)
  pub is_restored : b ≡ restored_book list new

pub restored_by : (lim : Limits) (book bytes : List ℕ) (b : Book) (rest : List ℕ) → parse_restored lim book bytes ≡ parsed b rest
    → RestoredBy lim book bytes b
unfolding parse_restored restore_by
restored_by lim book bytes b rest e =
    gives_at (λ b rest. RestoredBy lim book bytes b) (parse_restored lim book bytes) b rest
    (and_then_gives _ _ (parse_book lim book) _ (gives_equal (parse_book lim book)) λ new mid h.
    and_then_gives _ _ (parse_list (length new) bytes) _ (gives_equal (parse_list (length new) bytes)) λ list mid' g.
    need_gives _ (arguments_lower (restored_book list new)) 5 (parsed (restored_book list new) []) λ low.
    record {
      new = new;
      behind = mid;
      opens = h;
      list = list;
      behind_list = mid';
      lists = g;
      lower = tells_of (tells_lower (restored_book list new)) low;
      is_restored = refl;
    }) e

module _ {lim : Limits} {book bytes : List ℕ} {b : Book} (r : RestoredBy lim book bytes b) where
  by_once : EachOnce (length r.new) r.list
  by_once = (reads_lists.only_these (length r.new) bytes r.list r.behind_list r.lists).0

  by_opens : OpensAs lim b
  unfolding restored_book
  by_opens =
      rw r.is_restored
      (moved-opens lim book r.new r.behind (new_number r.list) (old_number r.list) r.opens (new-lt (length r.new) r.list by_once) r.lower)

  by_renumbers : Renumbers r.list b r.new
  by_renumbers = rw r.is_restored (restored_renumbers r.list r.new by_once (opens-lower lim book r.new r.behind r.opens))

pub restored_opens : (lim : Limits) (book bytes : List ℕ) (b : Book) (rest : List ℕ) → parse_restored lim book bytes ≡ parsed b rest → OpensAs lim b
restored_opens lim book bytes b rest e = by_opens (restored_by lim book bytes b rest e)

-- THERE AND BACK.
pub stored_restores : StoredRestores
stored_restores lim book out list w z m n h back =
    let s = stores_as_asked lim book out list z in
    let p : length (book_bytes s.new) ∷ length (number_bytes s.list) ∷ [] ≡ m ∷ n ∷ [] = sym s.numbers ∙ h in
    let r = s.stored_as.renumbers in
    let opened : OpensAs lim s.terms = decoded_opens lim book s.terms [] s.opens in
    rw (← same_first p, ← same_second p, s.book-written, s.list_written)
    ((restores lim (book_bytes s.new) back s.new [] s.list s.stored_opens (rw r.as_many s.stored_as.each_once)).works s.terms opened r
    ∙ ap (λ bytes. emit bytes [] back) (written_back lim book s.terms [] w s.opens))

-- NO SEVEN, NO SIX. What is read is refused by a number that is none of 0, 6, 7 and 13.
abbrev of_archive : ℕ → Bool
of_archive n = not (eqb n 0) && (not (eqb n 6) && (not (eqb n 7) && not (eqb n 13)))

book_too : {A : Type 0} (p : Parsed A) → RefusedBy of_book p → RefusedBy of_archive p
book_too p h = refused_too of_book of_archive go p h
  where
    go : (n : ℕ) → T (of_book n) → T (of_archive n)
    go n h =
        let low = leb→le 1 n (and_left (leb 1 n) _ h) in
        let high = leb→le n 5 (and_right (leb 1 n) _ h) in
        rw (ne_eqb n 0 (λ e. omega (arith, low)), ne_eqb n 6 (λ e. omega (arith, high)), ne_eqb n 7 (λ e. omega (arith, high)), ne_eqb n 13 (λ e. omega (arith, high))) tt

numbers-refused : (k : ℕ) (bytes : List ℕ) → RefusedBy of_archive (parse_numbers k bytes)
unfolding parse_numbers
numbers-refused zero bytes = tt
numbers-refused (suc k) bytes =
    then-refused of_archive (parse_number bytes) _ (book_too (parse_number bytes) (number-refused bytes))
    (λ x rest. then-refused of_archive (parse_numbers k rest) _ (numbers-refused k rest) (λ xs rest'. tt))

restored_refused : (lim : Limits) (book list : List ℕ) → RefusedBy of_archive (parse_restored lim book list)
unfolding parse_restored restore_by parse_list
restored_refused lim book list =
    then-refused of_archive (parse_book lim book) _ (book_too (parse_book lim book) (book-refused lim book))
    (λ new rest. then-refused of_archive (parse_list (length new) list) _
    (then-refused of_archive (parse_numbers (length new) list) _ (numbers-refused (length new) list)
    (λ listed rest'. need-refused of_archive (is_empty rest') 3 _ tt
    (need-refused of_archive (all (λ t. ltb t (length new)) listed) 8 _ tt (need-refused of_archive (all_distinct listed) 14 _ tt tt))))
    (λ listed rest'. need-refused of_archive (arguments_lower (restored_book listed new)) 5 _ tt tt))

-- none of these
module _ (n : ℕ) (h : T (of_archive n)) where
  not_zero : T (not (eqb n 0))
  not_zero = and_left (not (eqb n 0)) _ h

  not_six_lem : T (not (eqb n 6))
  not_six_lem = and_left (not (eqb n 6)) _ (and_right (not (eqb n 0)) _ h)

  not_seven : T (not (eqb n 7))
  not_seven = and_left (not (eqb n 7)) _ (and_right (not (eqb n 6)) _ (and_right (not (eqb n 0)) _ h))

  not_thirteen : T (not (eqb n 13))
  not_thirteen = and_right (not (eqb n 7)) _ (and_right (not (eqb n 6)) _ (and_right (not (eqb n 0)) _ h))

pub restored_positive : (lim : Limits) (book list : List ℕ) → Positive (parse_restored lim book list)
restored_positive lim book list =
    refused_too of_archive (λ n. not (eqb n 0)) not_zero (parse_restored lim book list) (restored_refused lim book list)

pub restored_not_thirteen : (lim : Limits) (book list : List ℕ) → RefusedBy (λ n. not (eqb n 13)) (parse_restored lim book list)
restored_not_thirteen lim book list =
    refused_too of_archive (λ n. not (eqb n 13)) not_thirteen (parse_restored lim book list) (restored_refused lim book list)

-- a refusal that reading does not give, and that is not 0 or 13, is not given by copying, restoring or storing
module _ (k : ℕ) (accepted : T (not (eqb 0 k))) (short : T (not (eqb 13 k))) where
  not_at : (n : ℕ) → T (not (eqb n k)) → n ≡ k → ⊥
  not_at n h e = let z : T (not (eqb k k)) = rw e at h in rw (T_true (eqb k k) (eqb_refl k)) at z

  pub copy_not : (out : List ℕ) (p : Parsed Book) → RefusedBy (λ n. not (eqb n k)) p → (copy_parsed out p).refusal ≡ k → ⊥
  unfolding copy_parsed emit refuse guard accept
  copy_not out (unparsed n) h z = not_at n h z
  copy_not out (parsed b rest) h z = go (leb (length (book_bytes b)) (length out)) z
    where
      go : (t : Bool) → (guard t (refuse 1 13 [] out) (accept (length (book_bytes b) ∷ []) [] (over (book_bytes b) out))).refusal ≡ k → ⊥
      go true z = not_at 0 accepted z
      go false z = not_at 13 short z

  pub store_not : (out list : List ℕ) (p : Parsed Book) → RefusedBy (λ n. not (eqb n k)) p → (store_parsed out list p).refusal ≡ k → ⊥
  unfolding store_parsed emit_both not_stored
  store_not out list (unparsed n) h z = not_at n h z
  store_not out list (parsed b rest) h z =
      go (leb (length (book_bytes (stored_book b))) (length out) && leb (length (number_bytes (variables_first b))) (length list)) z
    where
      go : (t : Bool) → (cond t (record { refusal = 0; numbers = length (book_bytes (stored_book b)) ∷ length (number_bytes (variables_first b)) ∷ []; output = over (book_bytes (stored_book b)) out; list = over (number_bytes (variables_first b)) list }) (not_stored 13 out list)).refusal ≡ k → ⊥
      go true z = not_at 0 accepted z
      go false z = not_at 13 short z

without_seven : WithoutSeven
unfolding call_store call_restore
without_seven = (
  λ lim book out list. store_not 7 tt tt out list (parse_book lim book)
      (refused_too of_archive (λ n. not (eqb n 7)) not_seven (parse_book lim book) (book_too (parse_book lim book) (book-refused lim book))),
  λ lim book list out. copy_not 7 tt tt out (parse_restored lim book list)
      (refused_too of_archive (λ n. not (eqb n 7)) not_seven (parse_restored lim book list) (restored_refused lim book list)),
)

pub restored_not_six : (lim : Limits) (book list : List ℕ) → RefusedBy (λ n. not (eqb n 6)) (parse_restored lim book list)
restored_not_six lim book list =
    refused_too of_archive (λ n. not (eqb n 6)) not_six_lem (parse_restored lim book list) (restored_refused lim book list)

-- AN ACCEPTED RESTORING.
module _ (lim : Limits) (book bytes out : List ℕ) (w : T (are_bytes bytes)) where
  restored_written : (b : Book) → RestoredBy lim book bytes b → (t : Bool)
      → let o = guard t (refuse 1 13 [] out) (accept (length (book_bytes b) ∷ []) [] (over (book_bytes b) out)) in
      o.refusal ≡ 0 → RestoredFrom lim book bytes o
  unfolding guard refuse accept over
  restored_written b r false z = absurd (omega arith)
  restored_written b r true z =
      record {
        new = r.new;
        list = r.list;
        old = b;
        opens = r.opens ∙ ap (parsed r.new) (parsed_whole lim book r.new r.behind r.opens);
        listed = (reads_lists.only_these (length r.new) bytes r.list r.behind_list r.lists).2 w;
        each_once = by_once r;
        renumbers = by_renumbers r;
        restored_opens = by_opens r;
        numbers = refl;
        written = take-append_seam (book_bytes b) _;
      }

  restores_at : (p : Parsed Book) → parse_restored lim book bytes ≡ p → (copy_parsed out p).refusal ≡ 0 → RestoredFrom lim book bytes (copy_parsed out p)
  unfolding copy_parsed emit refuse
  restores_at (unparsed n) e z = absurd (rw (e, z) at (restored_positive lim book bytes))
  restores_at (parsed b rest) e z = restored_written b (restored_by lim book bytes b rest e) (leb (length (book_bytes b)) (length out)) z

restores_as_asked : RestoresAsAsked
unfolding call_restore
restores_as_asked lim book bytes out w z = restores_at lim book bytes out w (parse_restored lim book bytes) refl z

-- ALL.
pub archive : Archive
archive =
    record {
      stored_as_asked = stored_as;
      stores_as_asked = stores_as_asked;
      stored_once = stored_once;
      stored_restores = stored_restores;
      reads_lists = reads_lists;
      restores_as_asked = restores_as_asked;
      restores_where_it_opens = restores_where_it_opens;
      without_seven = without_seven;
    }
