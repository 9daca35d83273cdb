-- A table walked through and its same-as set: what that answers and leaves (document 01, "Fix a choice", "The pair table"). Assumes
-- nothing: these are definitions.
use Rattle.std.specs.Prelude.{◌≡◌, List, cond, ℕ, suc, ◌-◌, ◌≤◌, length, leb, Result, Ok, Err}
use Rattle.model.specs.Term.{Book, Bindings}
use Rattle.model.specs.Table.{Table, walk, settle}
use Rattle.model.specs.Step.{turned}
use Rattle.layout.specs.declared.header.Header.{Header}
use Rattle.table.specs.place.Stands.{HoldsTable}
use Rattle.refusal.specs.declared.Refusal.{Refusal}
use Rattle.refusal.specs.declared.Refusal.TheVariants.{Full}
use Rattle.step.specs.declared.answer.Accepted.TheVariants.{Bound}
use Rattle.step.specs.declared.answer.Stepped.{Stepped}

-- The answer where the walk leads from one table to another: 11 where that needs more entries than the capacity, else how many
-- entries turned, how many were appended, and the numbers of entries and of lines.
unfoldable pub walked_answer : Header → Table → Table → Result Stepped Refusal
walked_answer h es es' =
    cond (leb (length es') h.capacity)
    (Ok (record { accepted = Bound (turned es es') (length es' - length es); entries = length es'; lines = h.lines }))
    (Err Full)

-- The table is walked through under these bindings, and where it stays within the capacity its same-as is set.
pub record IsSettled (h : Header) (entries : List ℕ) (s : Result Stepped Refusal) (b : Book) (β : Bindings) (es : Table) : Type 0 where
  pub answer : s ≡ walked_answer h es (walk b β (suc h.capacity) 0 es)
  pub table : length (walk b β (suc h.capacity) 0 es) ≤ h.capacity
      → HoldsTable entries (settle b β (walk b β (suc h.capacity) 0 es))
