-- The parts of decoding (specs/parse/Parts.antt) against the definition of decoding in crate model. Assumes nothing.
use Rattle.std.proofs.Common.{◌≡◌, refl, sym, ◌∙◌, List, [], ◌∷◌, ◌++◌, append-nil, Bool, true, false, ℕ, zero, suc, ◌≤◌, arith, leb-true, leb-false, lt-ltb, le-ltb, le-leb, ltb, leb}
use Rattle.std.proofs.Math.Seq.{append_snoc}
use Rattle.model.specs.Limits.{max_arity, max_symbol}
use Rattle.model.specs.Term.{Node}
use Rattle.model.specs.BookBytes.{Parsed, parsed, unparsed, and_then, need, parse_number, parse_arguments, parse_app, parse_node}
use Rattle.book.specs.parse.Below.{parse_below}
use Rattle.book.specs.parse.Parts.{parse_count, parse_head, node_from, parse_node_of}
use Rattle.book.proofs.reader.Below.{below_then}

-- ---- one part after another

-- what follows two parts
pub then-then : {A B C : Type 0} (p : Parsed A) (f : A → List ℕ → Parsed B) (g : B → List ℕ → Parsed C)
    → and_then (and_then p f) g ≡ and_then p (λ a rest. and_then (f a rest) g)
unfolding and_then
then-then (parsed a rest) f g = refl
then-then (unparsed k) f g = refl

-- nothing follows
pub then_same : {A : Type 0} (p : Parsed A) → and_then p parsed ≡ p
unfolding and_then
then_same (parsed a rest) = refl
then_same (unparsed k) = refl

-- the same follows
then-alike : {A B : Type 0} (p : Parsed A) (f g : A → List ℕ → Parsed B) → ((a : A) (rest : List ℕ) → f a rest ≡ g a rest)
    → and_then p f ≡ and_then p g
unfolding and_then
then-alike (parsed a rest) f g h = h a rest
then-alike (unparsed k) f g h = refl

-- ---- a number up to a limit

-- a limit that may be met, as one that may not
leb-ltb : (n limit : ℕ) → leb n limit ≡ ltb n (suc limit)
leb-ltb n limit = go (leb n limit) refl
  where
    go : (b : Bool) → leb n limit ≡ b → b ≡ ltb n (suc limit)
    go true e = sym (lt-ltb n (suc limit) (omega (arith, leb-true n limit e)))
    go false e = sym (le-ltb n (suc limit) (omega (arith, leb-false n limit e)))

-- a number that is needed to be at most the limit, and what follows it
pub up_to_then : {A : Type 0} (limit k : ℕ) (bytes : List ℕ) (f : ℕ → List ℕ → Parsed A)
    → and_then (parse_number bytes) (λ n rest. need (leb n limit) k (f n rest)) ≡ and_then (parse_below (suc limit) k bytes) f
up_to_then limit k bytes f =
    then-alike (parse_number bytes) _ _ (λ n rest. rw (leb-ltb n limit)) ∙ below_then (suc limit) k bytes f

-- ---- a term

module _ (t : ℕ) where
  -- from its first number on
  parse_tagged : ℕ → List ℕ → Parsed Node
  parse_tagged tag rest = and_then (parse_count tag rest) (parse_node_of t)

  -- from its count on
  counted-parsed : (s : ℕ) (bytes : List ℕ) → s ≤ max_symbol → parse_app t s bytes ≡ parse_tagged (suc s) bytes
  unfolding parse_app parse_tagged parse_count node_from and_then need
  counted-parsed s bytes l =
      rw (le-leb s max_symbol l)
      (up_to_then max_arity 4 bytes _ ∙ sym (then-then (parse_below (suc max_arity) 4 bytes) (λ c rest. parsed (suc s, c) rest) (parse_node_of t)))

  tagged_parsed : (tag : ℕ) (rest : List ℕ) → parse_node t tag rest ≡ and_then (need (ltb tag (suc (suc max_symbol))) 4 (parsed tag rest)) parse_tagged
  unfolding parse_node parse_tagged parse_count node_from parse_app and_then need
  tagged_parsed zero rest = refl
  tagged_parsed (suc s) rest = go (leb s max_symbol) refl
    where
      go : (b : Bool) → leb s max_symbol ≡ b → parse_app t s rest ≡ and_then (need (ltb (suc s) (suc (suc max_symbol))) 4 (parsed (suc s) rest)) parse_tagged
      go true e =
          let l : s ≤ max_symbol = leb-true s max_symbol e in
          rw (lt-ltb (suc s) (suc (suc max_symbol)) (omega arith)) (counted-parsed s rest l)
      go false e = rw (le-ltb (suc s) (suc (suc max_symbol)) (omega (arith, leb-false s max_symbol e)), e)

  -- its parts make the term of the model
  pub parts-parsed : (bytes : List ℕ)
      → and_then (parse_head bytes) (parse_node_of t) ≡ and_then (parse_number bytes) (parse_node t)
  unfolding parse_head parse_below parse_tagged
  parts-parsed bytes =
      then-then (parse_below (suc (suc max_symbol)) 4 bytes) parse_count (parse_node_of t)
      ∙ then-then (parse_number bytes) (λ n rest. need (ltb n (suc (suc max_symbol))) 4 (parsed n rest)) parse_tagged
      ∙ then-alike (parse_number bytes) _ _ (λ tag rest. sym (tagged_parsed tag rest))

-- ---- arguments

-- more arguments behind those that were read
unfoldable pub behind : List ℕ → Parsed (List ℕ) → Parsed (List ℕ)
behind args p = and_then p (λ more rest. parsed (args ++ more) rest)

-- at first there are none
pub behind_none : (p : Parsed (List ℕ)) → p ≡ behind [] p
unfolding behind
behind_none p = sym (then_same p)

-- one argument and the others
arguments-more : (t c : ℕ) (bytes : List ℕ) → parse_arguments t (suc c) bytes
    ≡ and_then (parse_below t 5 bytes) (λ a rest. and_then (parse_arguments t c rest) (λ args rest'. parsed (a ∷ args) rest'))
unfolding parse_arguments
arguments-more t c bytes = below_then t 5 bytes (λ a rest. and_then (parse_arguments t c rest) (λ args rest'. parsed (a ∷ args) rest'))

module _ (t c : ℕ) (args bytes : List ℕ) where
  -- one argument more, and what refuses it
  pub behind_more : (a : ℕ) (rest : List ℕ) → parse_below t 5 bytes ≡ parsed a rest
      → behind args (parse_arguments t (suc c) bytes) ≡ behind (args ++ a ∷ []) (parse_arguments t c rest)
  unfolding behind and_then
  behind_more a rest e = rw (arguments-more t c bytes, e) (simp (then-then, append_snoc))

  pub behind_refused : (k : ℕ) → parse_below t 5 bytes ≡ unparsed k → behind args (parse_arguments t (suc c) bytes) ≡ unparsed k
  unfolding behind and_then
  behind_refused k e = rw (arguments-more t c bytes, e)

  -- and none more
  pub behind_last : behind args (parse_arguments t 0 bytes) ≡ parsed args bytes
  unfolding behind parse_arguments and_then
  behind_last = rw append-nil
