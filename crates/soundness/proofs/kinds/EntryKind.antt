-- The kind of an entry, by the words of its row and of the rows of two terms. Assumes nothing.
use Rattle.std.proofs.Common.{◌≡◌, List, Bool, true, false, cond, ◌&&◌, ℕ, ◌+◌, ◌*◌, ◌-◌, ◌<◌, ne_eqb, length, take, drop, eqb}
use Rattle.model.specs.Term.{Node, symbol, arguments, alike, Book, Bindings}
use Rattle.model.specs.Table.{hole, common, Table}
use Rattle.model.specs.Area.{term_words, arguments_ok, kind_ok}
use Rattle.layout.specs.limits.Rows.{at, node_of, kind_of}
use Rattle.layout.proofs.limits.Rows.{node-app}
use Rattle.layout.proofs.limits.Symbols.{left-applied, right-applied}
use Rattle.soundness.specs.kinds.Known.{Named, RowsKnown, Terms}
use Rattle.soundness.proofs.kinds.Rows.{argument-terms}

-- the test of a kind that is a hole where t holds, for nodes that are not alike
unlike_at : (b : Book) (β : Bindings) (es : Table) (s : ℕ) (args : List ℕ) (n o : Node) → alike n o ≡ false → (t : Bool)
    → t ≡ kind_ok b β es (cond t hole (common s args)) n o
unfolding kind_ok
unlike_at b β es s args n o e true = rw e
unlike_at b β es s args n o e false = rw e

module _ (b : Book) (β : Bindings) (es : Table) (entries rows : List ℕ) (k l r : ℕ) where
  -- terms that are not alike: a hole is right
  pub unlike_kind : alike (node_of rows l) (node_of rows r) ≡ false → eqb (at entries k) 0 ≡ kind_ok b β es (kind_of entries k) (node_of rows l) (node_of rows r)
  unfolding kind_of
  unlike_kind e = unlike_at b β es _ _ (node_of rows l) (node_of rows r) e (eqb (at entries k) 0)

  module _ (e : alike (node_of rows l) (node_of rows r) ≡ true) where
    -- terms that are alike: a hole is wrong
    pub hole-kind : at entries k ≡ 0 → false ≡ kind_ok b β es (kind_of entries k) (node_of rows l) (node_of rows r)
    unfolding kind_of kind_ok
    hole-kind z = rw (z, e)

    -- and a common entry is right by its symbol and its arguments
    pub common-kind : (at entries k ≡ 0 → ⊥) → kind_ok b β es (kind_of entries k) (node_of rows l) (node_of rows r)
        ≡ eqb (at entries (k + 1)) (at rows (term_words * l) - 1)
        && arguments_ok b β es (take (at entries (k + 2)) (drop (k + 3) entries)) (take (at rows (term_words * l + 1)) (drop (term_words * l + 2) rows))
        (take (at rows (term_words * r + 1)) (drop (term_words * r + 2) rows))
    unfolding kind_of kind_ok symbol arguments
    common-kind d =
        rw (ne_eqb (at entries k) 0 d, e, node-app rows l (left-applied rows l r e), node-app rows r (right-applied rows l r e))

-- what the test of the arguments asks: those of two terms that are alike are terms
pub arguments-known : {b : Book} {β : Bindings} {rows names entries : List ℕ} {m : ℕ} → RowsKnown b β rows names entries m
    → (l r : ℕ) → l < length b → r < length b → alike (node_of rows l) (node_of rows r) ≡ true → {ls rs : List ℕ}
    → ls ≡ take (at rows (term_words * l + 1)) (drop (term_words * l + 2) rows) → rs ≡ take (at rows (term_words * r + 1)) (drop (term_words * r + 2) rows)
    → Named b β names entries m × Terms b ls × Terms b rs
arguments-known {rows = rows} k l r p q e f g = (
  k.named,
  rw f (argument-terms k l p (left-applied rows l r e)),
  rw g (argument-terms k r q (right-applied rows l r e)),
)
