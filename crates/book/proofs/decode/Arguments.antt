-- The arguments of a term, one after the other: what holds after i of them (`Read`), at first, after one more, at a refusal
-- and at the end. Assumes nothing.
use Rattle.std.proofs.Common.{◌≡◌, refl, ap, ◌∙◌, List, [], ◌∷◌, ◌++◌, ℕ, suc, ◌+◌, ◌*◌, ◌-◌, ◌<◌, ◌≤◌, arith, length, drop, set, length-append, Ok}
use Rattle.std.proofs.Math.Nat.{sub-zero}
use Rattle.std.proofs.Math.Seq.{sets}
use Rattle.model.specs.Area.{term_words}
use Rattle.model.specs.BookBytes.{parsed, unparsed, parse_arguments}
use Rattle.book.specs.parse.Below.{parse_below}
use Rattle.book.specs.parse.Parts.{AdvanceOf, ArgumentsIn}
use Rattle.book.proofs.decode.Parsing.{behind, behind_none, behind_more, behind_refused, behind_last}
use Rattle.book.proofs.decode.TermRows.{sets_more}

-- after i arguments the next one is at `next`
pub record Read (bytes : List ℕ) (at t count : ℕ) (rows₀ rows : List ℕ) (next i : ℕ) : Type 0 where
  pub args : List ℕ
  pub as_many : length args ≡ i
  pub most : i ≤ count
  pub within : next ≤ length bytes
  pub written : rows ≡ sets rows₀ (term_words * t + 2) args
  pub parse : parse_arguments t count (drop at bytes) ≡ behind args (parse_arguments t (count - i) (drop next bytes))

module _ (bytes : List ℕ) (at t count : ℕ) (rows₀ : List ℕ) where
  pub read_none : at ≤ length bytes → Read bytes at t count rows₀ rows₀ at 0
  read_none w = record {
    args = [];
    as_many = refl;
    most = omega arith;
    within = w;
    written = refl;
    parse = rw sub-zero (behind_none (parse_arguments t count (drop at bytes)));
  }

  module _ (rows : List ℕ) (next i : ℕ) (r : Read bytes at t count rows₀ rows next i) where
    pub read_more : (a after : ℕ) → i < count → parse_below t 5 (drop next bytes) ≡ parsed a (drop after bytes) → after ≤ length bytes
        → Read bytes at t count rows₀ (set rows (term_words * t + 2 + i) a) after (i + 1)
    read_more a after l e w =
        let left : count - i ≡ suc (count - (i + 1)) = omega arith in
        record {
          args = r.args ++ a ∷ [];
          as_many = length-append r.args (a ∷ []) ∙ ap (λ (n : ℕ). n + 1) r.as_many;
          most = omega arith;
          within = w;
          written = rw (sets_more, r.as_many, ← r.written);
          parse = r.parse ∙ rw left (behind_more t (count - (i + 1)) r.args (drop next bytes) a (drop after bytes) e);
        }

    pub read-refused : (k : ℕ) → i < count → parse_below t 5 (drop next bytes) ≡ unparsed k → parse_arguments t count (drop at bytes) ≡ unparsed k
    read-refused k l e =
        let left : count - i ≡ suc (count - (i + 1)) = omega arith in
        r.parse ∙ rw left (behind_refused t (count - (i + 1)) r.args (drop next bytes) k e)

    pub read_all : count ≤ i → AdvanceOf bytes (parse_arguments t count (drop at bytes)) (ArgumentsIn t count rows₀ rows) (Ok next)
    read_all l =
        let left : count - i ≡ 0 = omega arith in
        let whole : i ≡ count = omega arith in
        (r.args, r.parse ∙ rw left (behind_last t 0 r.args (drop next bytes)), r.within, record { as_many = r.as_many ∙ whole; written = r.written })
