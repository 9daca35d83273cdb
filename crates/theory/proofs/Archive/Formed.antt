-- A book moved obeys the rules of terms where its arguments are lower than their terms. So a stored book opens, and it is what was
-- asked for. Assumes nothing.
use mathlib.Core.Path.{◌≡◌, refl, ap, sym, ◌∙◌}
use mathlib.Core.List.{List, map}
use mathlib.Core.Bool.{true, false, true≢false}
use mathlib.Core.Option.{none}
use Prim.Native.Nat.{ℕ, ◌<◌}
use native.Mathlib.Omega.{arith}
use native.Mathlib.Nat.{not-suc-le-zero}
use lib.ListN.{length, get_or, length-map}
use lib.Seq.{ext_get_or}
use Rattle.model.specs.Limits.{Limits}
use Rattle.model.specs.Term.{Node, var, app, symbol, arguments, Book, Bindings}
use Rattle.model.specs.BookBytes.{parsed, parse_book}
use Rattle.model.specs.Archive.{is_variable, variables_first, new_number, old_number, renumbered, moved, stored_book}
use Rattle.theory.specs.Tests.{ArgumentsLower}
use Rattle.theory.specs.Archive.{Renumbers, StoredAs, StoredOnce, OpensAs}
use Rattle.theory.proofs.Table.Search.{get_or-map-lt}
use Rattle.theory.proofs.Soundness.Facts.{Formed}
use Rattle.theory.proofs.Book.Round.{nothing_bound, parsed_formed}
use Rattle.theory.proofs.Book.Parses.{formed_opens, parsed-small}
use Rattle.theory.proofs.Archive.Moved.{new-old, length_moved, moved_at}
use Rattle.theory.proofs.Archive.VariablesFirst.{variable, InOrder, in_order, stands_before, one_list}

-- A NODE RENUMBERED has its symbol, its kind and its count.
pub renumbered-symbol : (f : ℕ → ℕ) (n : Node) → symbol (renumbered f n) ≡ symbol n
unfolding renumbered symbol
renumbered-symbol f var = refl
renumbered-symbol f (app s args) = refl

pub renumbered-kind : (f : ℕ → ℕ) (n : Node) → is_variable (renumbered f n) ≡ is_variable n
unfolding renumbered is_variable
renumbered-kind f var = refl
renumbered-kind f (app s args) = refl

pub renumbered-count : (f : ℕ → ℕ) (n : Node) → length (arguments (renumbered f n)) ≡ length (arguments n)
unfolding renumbered arguments
renumbered-count f var = refl
renumbered-count f (app s args) = length-map args f

pub renumbered-at : (f : ℕ → ℕ) (n : Node) (i : ℕ) → i < length (arguments n) → get_or (arguments (renumbered f n)) i 0 ≡ f (get_or (arguments n) i 0)
unfolding renumbered arguments
renumbered-at f var i l = absurd (not-suc-le-zero l)
renumbered-at f (app s args) i l = get_or-map-lt f args i 0 0 l

-- A BOOK MOVED.
pub moved_formed : (source target : ℕ → ℕ) (b : Book) (β : Bindings) → Formed b β → ((i : ℕ) → i < length b → source i < length b)
    → ArgumentsLower (moved source target b) → Formed (moved source target b) (map (λ (n : Node). none) (moved source target b))
moved_formed source target b β f terms low =
    record {
      same_length = length-map new (λ (n : Node). none);
      lower = low;
      small_arity = λ t l. rw (at t l, renumbered-count target) (f.small_arity (source t) (terms t (there t l)));
      small-symbol = λ t l. rw (at t l, renumbered-symbol target) (f.small-symbol (source t) (terms t (there t l)));
      bound-var = λ t u e. absurd (nothing_bound new t u e);
    }
  where
    new : Book
    new = moved source target b

    there : (t : ℕ) → t < length (moved source target b) → t < length b
    there t l = omega (arith, length_moved source target b)

    at : (t : ℕ) → t < length (moved source target b) → get_or (moved source target b) t var ≡ renumbered target (get_or b (source t) var)
    at t l = moved_at source target b t (there t l)

-- a moved book opens where its arguments are lower
pub moved-opens : (lim : Limits) (bytes : List ℕ) (b : Book) (rest : List ℕ) (source target : ℕ → ℕ) → parse_book lim bytes ≡ parsed b rest
    → ((i : ℕ) → i < length b → source i < length b) → ArgumentsLower (moved source target b) → OpensAs lim (moved source target b)
moved-opens lim bytes b rest source target e terms low =
    let f = parsed_formed lim bytes b rest e in
    formed_opens lim (moved source target b) _ (moved_formed source target b _ f.0 terms low)
    (omega (arith, f.1, length_moved source target b)) (omega (arith, parsed-small lim bytes b rest e, length_moved source target b))

-- and a book that opens has lower arguments
pub opens-lower : (lim : Limits) (bytes : List ℕ) (b : Book) (rest : List ℕ) → parse_book lim bytes ≡ parsed b rest → ArgumentsLower b
opens-lower lim bytes b rest e = (parsed_formed lim bytes b rest e).0.lower

-- THE STORED BOOK. An application has its arguments before it.
app-kind : (n : Node) (i : ℕ) → i < length (arguments n) → is_variable n ≡ false
unfolding arguments is_variable
app-kind var i l = absurd (not-suc-le-zero l)
app-kind (app s args) i l = refl

module _ (b : Book) (list : List ℕ) (o : InOrder b list) (low : ArgumentsLower b) where
  stored_lower : ArgumentsLower (moved (old_number list) (new_number list) b)
  unfolding old_number
  stored_lower i l j k =
      let m : i < length b = omega (arith, length_moved (old_number list) (new_number list) b) in
      let t : ℕ = get_or list i 0 in
      let at : get_or (moved (old_number list) (new_number list) b) i var ≡ renumbered (new_number list) (get_or b (get_or list i 0) var) =
      moved_at (old_number list) (new_number list) b i m in
      let k' : j < length (arguments (get_or b (get_or list i 0) var)) = rw (at, renumbered-count (new_number list)) at k in
      let t_term : t < length b = o.each_once.terms i m in
      let a-low : get_or (arguments (get_or b t var)) j 0 < t = low t t_term j k' in
      let here : new_number list t ≡ i = new-old (length b) list o.each_once i m in
      let before : new_number list (get_or (arguments (get_or b t var)) j 0) < new_number list t =
      stands_before b list o (get_or (arguments (get_or b t var)) j 0) t (omega arith) t_term a-low (app-kind (get_or b t var) j k') in
      rw (at, renumbered-at (new_number list) (get_or b (get_or list i 0) var) j k') (omega (arith, before, here))

  pub list-opens : (lim : Limits) (bytes rest : List ℕ) → parse_book lim bytes ≡ parsed b rest
      → OpensAs lim (moved (old_number list) (new_number list) b)
  unfolding old_number
  list-opens lim bytes rest e =
      moved-opens lim bytes b rest (old_number list) (new_number list) e o.each_once.terms stored_lower

pub stored_opens : (lim : Limits) (bytes : List ℕ) (b : Book) (rest : List ℕ) → parse_book lim bytes ≡ parsed b rest → OpensAs lim (stored_book b)
unfolding stored_book
stored_opens lim bytes b rest e = list-opens b (variables_first b) (in_order b) (opens-lower lim bytes b rest e) lim bytes rest e

-- WHAT IS STORED. A variable is what has the kind of one.
pub is-var : (n : Node) → is_variable n ≡ true → n ≡ var
unfolding is_variable
is-var var e = refl
is-var (app s args) e = absurd (true≢false (sym e))

pub var-is : (n : Node) → n ≡ var → is_variable n ≡ true
unfolding is_variable
var-is n e = rw e

pub moved-renumbers : (b : Book) (list : List ℕ) → Renumbers list b (moved (old_number list) (new_number list) b)
unfolding old_number
moved-renumbers b list =
    record { as_many = length_moved (old_number list) (new_number list) b; term = λ i l. moved_at (old_number list) (new_number list) b i l }

pub stored_as : (b : Book) → StoredAs b (variables_first b) (stored_book b)
unfolding stored_book
stored_as b =
    record {
      each_once = o.each_once;
      renumbers = r;
      variables_first = λ i j p l e.
          is-var _ (kind i (omega arith) ∙ o.variables_first i j p l (sym (kind j l) ∙ var-is _ e));
      old-order = λ i j p l e. o.old-order i j p l (sym (kind i (omega arith)) ∙ e ∙ kind j l);
    }
  where
    o : InOrder b (variables_first b)
    o = in_order b

    r : Renumbers (variables_first b) b (moved (old_number (variables_first b)) (new_number (variables_first b)) b)
    r = moved-renumbers b (variables_first b)

    kind : (i : ℕ) → i < length b
        → is_variable (get_or (moved (old_number (variables_first b)) (new_number (variables_first b)) b) i var) ≡ variable b (get_or (variables_first b) i 0)
    kind i l = ap is_variable (r.term i l) ∙ renumbered-kind (new_number (variables_first b)) _

-- ONE LIST AND ONE BOOK.
stored_list : (b : Book) (list : List ℕ) (new : Book) → StoredAs b list new → InOrder b list
stored_list b list new s =
    record {
      each_once = s.each_once;
      variables_first = λ i j p l e. sym (kind i (omega arith)) ∙ var-is _ (s.variables_first i j p l (is-var _ (kind j l ∙ e)));
      old-order = λ i j p l e. s.old-order i j p l (kind i (omega arith) ∙ e ∙ sym (kind j l));
    }
  where
    kind : (i : ℕ) → i < length b → is_variable (get_or new i var) ≡ variable b (get_or list i 0)
    kind i l = ap is_variable (s.renumbers.term i l) ∙ renumbered-kind (new_number list) _

pub same_new : (b : Book) (list : List ℕ) (new new' : Book) → Renumbers list b new → Renumbers list b new' → new' ≡ new
same_new b list new new' r r' =
    ext_get_or var new' new (r'.as_many ∙ sym r.as_many)
    (λ i l. let k : i < length b = omega (arith, r'.as_many) in r'.term i k ∙ sym (r.term i k))

pub stored_once : StoredOnce
stored_once b list list' new new' s s' =
    let e : list' ≡ list = one_list b list list' (stored_list b list new s) (stored_list b list' new' s') in
    (e, same_new b list new new' s.renumbers (rw e at s'.renumbers))
