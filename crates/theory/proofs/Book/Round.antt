-- A book's bytes: what opens is written back as it was, and opening gives a sound state. Assumes nothing.
use mathlib.Core.Path.{◌≡◌, refl, ap, sym}
use mathlib.Core.List.{List, [], ◌∷◌, ◌++◌, append_assoc, append-nil, map}
use mathlib.Core.Bool.{Bool}
use mathlib.Core.Option.{none, some}
use Prim.Native.Nat.{ℕ, zero, suc, ◌+◌, ◌≤◌, ◌<◌, zero-le}
use native.Mathlib.Nat.{le_of_suc-le-suc, not-suc-le-zero}
use native.Mathlib.Decide.{dec_lt}
use native.Mathlib.Omega.{arith}
use lib.ListN.{length, get_or, length-append, length-map, get_or-append, get_or-map}
use lib.Seq.{append_snoc, get_or_at}
use lib.Dec.{T, ltb, leb, ltb→lt, leb→le}
use Rattle.leb128.specs.Number.{max_groups, max_number, Read, number, cut, invalid, read, write}
use Rattle.leb128.specs.Laws.{are_bytes}
use Rattle.leb128.proofs.Laws.{only_the_shortest}
use Rattle.model.specs.Limits.{Limits, max_arity, max_symbol}
use Rattle.model.specs.Lists.{concat_map, is_empty}
use Rattle.model.specs.Term.{Node, var, app, symbol, arguments, Book, Bindings, ends_step, ends}
use Rattle.model.specs.Step.{opened}
use Rattle.model.specs.Report.{number_bytes}
use Rattle.model.specs.BookBytes.{parsed, from_read, parse_number, parse_arguments, parse_app, parse_node, parse_terms, parse_written, parse_book, as_written, node_numbers, book_bytes}
use Rattle.theory.proofs.Lists.Laws.{all_intro, concat_map-append}
use Rattle.theory.proofs.Book.Written.{parsed_as_written, written-bytes}
use Rattle.theory.proofs.Book.Gives.{Gives, gives_at, need_gives, and_then_gives, and_then-any}
use Rattle.theory.proofs.Lists.AreBytes.{bytes_behind}
use Rattle.theory.proofs.Soundness.Facts.{NodeRight, Formed, TableRight, SoundFacts}

-- The bytes are those of the numbers ns, and the rest.
pub record Wrote (bytes ns rest : List ℕ) : Type 0 where
  pub whole : bytes ≡ number_bytes ns ++ rest
  pub are_bytes_lem : T (are_bytes rest)

-- at first none is read
pub wrote_none : (bytes : List ℕ) → T (are_bytes bytes) → Wrote bytes [] bytes
unfolding number_bytes concat_map
wrote_none bytes h = record { whole = refl; are_bytes_lem = h }

module _ (bytes : List ℕ) where
  -- one number more
  wrote_more : (ns mid : List ℕ) (n : ℕ) (rest : List ℕ) → Wrote bytes ns mid
      → read max_groups max_number mid ≡ number n rest → Wrote bytes (ns ++ n ∷ []) rest
  unfolding number_bytes concat_map
  wrote_more ns mid n rest w e =
      let split : mid ≡ write max_groups n ++ rest = only_the_shortest max_groups max_number mid n rest w.are_bytes_lem e in
      record {
        whole = rw (concat_map-append, append-nil, append_assoc, ← split) w.whole;
        are_bytes_lem = bytes_behind (write max_groups n) rest (rw split at w.are_bytes_lem);
      }

  -- a number that is read is one number more
  pub number-written : (ns mid : List ℕ) → Wrote bytes ns mid → Gives (parse_number mid) (λ n rest. Wrote bytes (ns ++ n ∷ []) rest)
  unfolding parse_number from_read
  number-written ns mid w = go (read max_groups max_number mid) refl
    where
      go : (r : Read) → read max_groups max_number mid ≡ r → Gives (from_read r) (λ n rest. Wrote bytes (ns ++ n ∷ []) rest)
      go (number n rest) e = wrote_more ns mid n rest w e
      go cut e = tt
      go invalid e = tt

  -- so are c arguments c numbers more
  arguments-written : (t c : ℕ) (ns mid : List ℕ) → Wrote bytes ns mid
      → Gives (parse_arguments t c mid) (λ args rest. Wrote bytes (ns ++ args) rest × (length args ≡ c))
  unfolding parse_arguments
  arguments-written t zero ns mid w = (rw append-nil w, refl)
  arguments-written t (suc c) ns mid w =
      and_then_gives _ _ (parse_number mid) _ (number-written ns mid w) λ a rest v.
      need_gives _ (ltb a t) 5 _ λ l.
      and_then_gives _ _ (parse_arguments t c rest) _ (arguments-written t c (ns ++ a ∷ []) rest v) λ args rest' u.
      (rw append_snoc at u.0, ap suc u.1)

  -- a term's numbers: its first is read before them
  node-written : (t tag : ℕ) (ns mid : List ℕ) → Wrote bytes (ns ++ tag ∷ []) mid
      → Gives (parse_node t tag mid) (λ n rest. Wrote bytes (ns ++ node_numbers n) rest)
  unfolding parse_node parse_app node_numbers
  node-written t zero ns mid w = w
  node-written t (suc s) ns mid w =
      need_gives _ (leb s max_symbol) 4 _ λ l.
      and_then_gives _ _ (parse_number mid) _ (number-written (ns ++ suc s ∷ []) mid w) λ c rest v.
      need_gives _ (leb c max_arity) 4 _ λ l'.
      and_then_gives _ _ (parse_arguments t c rest) _ (arguments-written t c (ns ++ suc s ∷ [] ++ c ∷ []) rest v) λ args rest' u.
      rw u.1 (simp append_assoc at u.0)

  -- the terms' numbers, where those of the terms before them are read: x terms in all
  terms-written : (k x : ℕ) (before : Book) (mid : List ℕ) → length before + k ≡ x → Wrote bytes (x ∷ concat_map node_numbers before) mid
      → Gives (parse_terms k before mid) (λ b rest. Wrote bytes (length b ∷ concat_map node_numbers b) rest)
  unfolding parse_terms concat_map
  terms-written zero x before mid e w = let e' : length before ≡ x = omega arith in rw e' w
  terms-written (suc k) x before mid e w =
      and_then_gives _ _ (parse_number mid) _ (number-written (x ∷ concat_map node_numbers before) mid w) λ tag rest v.
      and_then_gives _ _ (parse_node (length before) tag rest) _ (node-written (length before) tag (x ∷ concat_map node_numbers before) rest v) λ n rest' u.
      terms-written k x (before ++ n ∷ []) rest' (omega (arith, length-append before (n ∷ []))) (rw (concat_map-append, append-nil) u)

-- an empty list has no element
pub empty-nil : (xs : List ℕ) → T (is_empty xs) → xs ≡ []
unfolding is_empty
empty-nil [] h = refl
empty-nil (x ∷ xs) h = absurd h

-- a decoded book leaves no bytes
pub parsed_whole : (lim : Limits) (bytes : List ℕ) (b : Book) (rest : List ℕ) → parse_book lim bytes ≡ parsed b rest → rest ≡ []
unfolding parse_written
parsed_whole lim bytes b rest e =
    gives_at (λ b rest. rest ≡ []) (parse_written lim (as_written bytes)) b rest
    (and_then-any _ (parse_number (as_written bytes)) _ λ n mid.
    need_gives _ (leb n lim.max_terms) 4 _ λ l.
    and_then-any _ (parse_terms n [] mid) _ λ b' rest'. need_gives _ (is_empty rest') 3 (parsed b' []) λ h. refl)
    (parsed_as_written lim bytes _ e)

-- writing what was decoded gives back its bytes as they are written
pub written_back : (lim : Limits) (bytes : List ℕ) (b : Book) (rest : List ℕ) → T (are_bytes bytes)
    → parse_book lim bytes ≡ parsed b rest → book_bytes b ≡ as_written bytes
unfolding parse_written book_bytes concat_map
written_back lim bytes b rest h e =
    let written = as_written bytes in
    gives_at (λ b rest. book_bytes b ≡ written) (parse_written lim written) b rest
    (and_then_gives _ _ (parse_number written) _ (number-written written [] written (wrote_none written (written-bytes bytes h))) λ n mid w.
    need_gives _ (leb n lim.max_terms) 4 _ λ l.
    and_then_gives _ _ (parse_terms n [] mid) _ (terms-written written n n [] mid (omega arith) w) λ b mid' v.
    need_gives _ (is_empty mid') 3 _ λ l.
    sym (rw (empty-nil mid' l, append-nil) at v.whole)) (parsed_as_written lim bytes _ e)

-- a book's bindings where nothing is bound
abbrev unbound : Book → Bindings
unbound b = map (λ (n : Node). none) b

-- so every term has none
unbound_none : (b : Book) (t : ℕ) → get_or (unbound b) t none ≡ none
unbound_none b t = get_or-map (λ (n : Node). none) b t var

-- so no term is bound to another
pub nothing_bound : (b : Book) (t u : ℕ) → get_or (map (λ (n : Node). none) b) t none ≡ some u → ⊥
nothing_bound b t u e = let z : ◌≡◌ {A = ℕ} 0 1 = cc (unbound_none b t) in omega arith

-- what holds of each term of b and of n behind them holds of each term of both
snoc_cases : (P : ℕ → Node → Type 0) (b : Book) (n : Node) → ((t : ℕ) → t < length b → P t (get_or b t var)) → P (length b) n
    → (t : ℕ) → t < length (b ++ n ∷ []) → P t (get_or (b ++ n ∷ []) t var)
snoc_cases P b n old new t l = go (dec_lt t (length b))
  where
    go : Dec (t < length b) → P t (get_or (b ++ n ∷ []) t var)
    go (yes h) = rw (get_or-append b (n ∷ []) var t h) (old t h)
    go (no h) = let e : length b ≡ t = omega (arith, length-append b (n ∷ [])) in rw (get_or_at b n [] var t e) (rw e at new)

module _ (b : Book) (n : Node) (f : Formed b (unbound b)) (g : NodeRight (length b) n) where
  -- the rules hold with one more term that fits
  snoc_formed : Formed (b ++ n ∷ []) (unbound (b ++ n ∷ []))
  snoc_formed = record {
    same_length = length-map (b ++ n ∷ []) (λ (n : Node). none);
    lower = snoc_cases (λ t x. (i : ℕ) → i < length (arguments x) → get_or (arguments x) i 0 < t) b n f.lower g.lower;
    small_arity = snoc_cases (λ t x. length (arguments x) ≤ max_arity) b n f.small_arity g.small_arity;
    small-symbol = snoc_cases (λ t x. symbol x ≤ max_symbol) b n f.small-symbol g.small-symbol;
    bound-var = λ t u e. absurd (nothing_bound (b ++ n ∷ []) t u e);
  }

-- the rules hold of no terms
pub empty_formed : Formed [] []
empty_formed = record {
  same_length = refl;
  lower = λ t l. absurd (not-suc-le-zero l);
  small_arity = λ t l. absurd (not-suc-le-zero l);
  small-symbol = λ t l. absurd (not-suc-le-zero l);
  bound-var = λ t u e. absurd (nothing_bound [] t u e);
}

-- a number before the others, at an index
cons-lower : (a n : ℕ) (args : List ℕ) → a < n → ((i : ℕ) → i < length args → get_or args i 0 < n)
    → (i : ℕ) → i < length (a ∷ args) → get_or (a ∷ args) i 0 < n
cons-lower a n args h g zero l = h
cons-lower a n args h g (suc i) l = g i (le_of_suc-le-suc l)

-- arguments are as many as asked for, and lower than their term
arguments-lower : (t c : ℕ) (bytes : List ℕ)
    → Gives (parse_arguments t c bytes) (λ args rest. ((i : ℕ) → i < length args → get_or args i 0 < t) × (length args ≡ c))
unfolding parse_arguments
arguments-lower t zero bytes = (λ i l. absurd (not-suc-le-zero l), refl)
arguments-lower t (suc c) bytes =
    and_then-any _ (parse_number bytes) _ λ a rest.
    need_gives _ (ltb a t) 5 _ λ l.
    and_then_gives _ _ (parse_arguments t c rest) _ (arguments-lower t c rest) λ args rest' u.
    (cons-lower a t args (ltb→lt a t l) u.0, ap suc u.1)

-- a term that is decoded fits
node-fits : (t tag : ℕ) (bytes : List ℕ) → Gives (parse_node t tag bytes) (λ n rest. NodeRight t n)
unfolding parse_node parse_app arguments symbol
node-fits t zero bytes = record { lower = λ i l. absurd (not-suc-le-zero l); small_arity = zero-le; small-symbol = zero-le }
node-fits t (suc s) bytes =
    need_gives _ (leb s max_symbol) 4 _ λ l.
    and_then-any _ (parse_number bytes) _ λ c rest.
    need_gives _ (leb c max_arity) 4 _ λ k.
    and_then_gives _ _ (parse_arguments t c rest) _ (arguments-lower t c rest) λ args rest' u.
    record {
      lower = u.0;
      small_arity = rw u.1 (leb→le c max_arity k);
      small-symbol = leb→le s max_symbol l;
    }

-- terms after those that obey the rules: x in all
pub terms_formed : (k x : ℕ) (before : Book) (bytes : List ℕ) → length before + k ≡ x → Formed before (map (λ (n : Node). none) before)
    → Gives (parse_terms k before bytes) (λ b rest. Formed b (map (λ (n : Node). none) b) × (length b ≡ x))
unfolding parse_terms
terms_formed zero x before bytes e f = (f, omega arith)
terms_formed (suc k) x before bytes e f =
    and_then-any _ (parse_number bytes) _ λ tag rest.
    and_then_gives _ _ (parse_node (length before) tag rest) _ (node-fits (length before) tag rest) λ n rest' g.
    terms_formed k x (before ++ n ∷ []) rest' (omega (arith, length-append before (n ∷ []))) (snoc_formed before n f g)

-- a book that is decoded obeys the rules of terms, and is not too long
pub parsed_formed : (lim : Limits) (bytes : List ℕ) (b : Book) (rest : List ℕ) → parse_book lim bytes ≡ parsed b rest
    → Formed b (map (λ (n : Node). none) b) × (length b ≤ lim.max_terms)
unfolding parse_written
parsed_formed lim bytes b rest e =
    gives_at (λ b rest. Formed b (unbound b) × (length b ≤ lim.max_terms)) (parse_written lim (as_written bytes)) b rest
    (and_then-any _ (parse_number (as_written bytes)) _ λ n mid.
    need_gives _ (leb n lim.max_terms) 4 _ λ l.
    and_then_gives _ _ (parse_terms n [] mid) _ (terms_formed n n [] mid (omega arith) empty_formed) λ b mid' v.
    need_gives _ (is_empty mid') 3 _ λ l'.
    (v.0, rw v.1 (leb→le n lim.max_terms l))) (parsed_as_written lim bytes _ e)

-- unfolding ends where the arguments end and nothing is bound
step-ends : (below : ℕ → Bool) (x : Node) → ((i : ℕ) → i < length (arguments x) → T (below (get_or (arguments x) i 0))) → T (ends_step below x none)
unfolding ends_step arguments
step-ends below var h = tt
step-ends below (app s args) h = all_intro below args 0 h

-- so each term ends within one step more than its number: its arguments are lower
unbound_ends : (b : Book) → Formed b (unbound b) → (k t : ℕ) → t < k → t < length b → T (ends b (unbound b) k t)
unfolding ends
unbound_ends b f zero t l h = absurd (not-suc-le-zero l)
unbound_ends b f (suc k) t l h =
    rw (unbound_none b t)
    (step-ends (ends b (unbound b) k) (get_or b t var) λ i g.
    let low : get_or (arguments (get_or b t var)) i 0 < t = f.lower t h i g in
    unbound_ends b f k (get_or (arguments (get_or b t var)) i 0) (omega arith) (omega arith))

-- the empty table is right
empty_right : (b : Book) (β : Bindings) → TableRight b β []
empty_right b β = record {
  left-term = λ i l. absurd (not-suc-le-zero l);
  right-term = λ i l. absurd (not-suc-le-zero l);
  kind-right = λ i l. absurd (not-suc-le-zero l);
  same_as = λ i l. absurd (not-suc-le-zero l);
  distinct-pairs = λ i j k l. absurd (not-suc-le-zero l);
}

-- so a book just opened is sound
pub opened-sound : (lim : Limits) (bytes : List ℕ) (b : Book) (rest : List ℕ) (c : ℕ) → 1 ≤ c → c ≤ lim.max_capacity
    → parse_book lim bytes ≡ parsed b rest → SoundFacts lim (opened b c)
unfolding opened
opened-sound lim bytes b rest c h g e =
    let f : Formed b (unbound b) × (length b ≤ lim.max_terms) = parsed_formed lim bytes b rest e in
    record {
      some_capacity = h;
      capacity-fits = g;
      few-terms = f.1;
      few-entries = zero-le;
      few-lines = zero-le;
      formed = f.0;
      acyclic = λ t l. unbound_ends b f.0 (length b) t l l;
      table = empty_right b (unbound b);
      line-entries = λ k l. absurd (not-suc-le-zero l);
    }
