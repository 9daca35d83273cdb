-- Classes of terms: numbers that are equal exactly where the values are. Assumes nothing: these are definitions.
use Rattle.std.specs.Prelude.{◌≡◌, List, ℕ, ◌≤◌, ◌<◌, length, take, eqb}
use Rattle.model.specs.Lists.{first, from}
use Rattle.model.specs.Term.{Book, Bindings, eq_tree, val}
use Rattle.layout.specs.limits.Rows.{at, node_of, book_of, bound_of}
use Rattle.pairs.specs.Index.{Room}
use Rattle.values.specs.roots.Reading.{Listed}
use Rattle.values.specs.names.Keys.{key_of}

-- The class of term t: the first of the n terms along the list with its value.
unfoldable pub class_of : List ℕ → List ℕ → List ℕ → ℕ → ℕ → ℕ
class_of rows bindings list n t =
    let value = val (book_of rows n) (bound_of bindings n) in at list (first (λ u. eq_tree (value u) (value t)) (take n list))

-- The key of term t by these classes.
abbrev pub key_in : List ℕ → List ℕ → List ℕ → ℕ → ℕ → List ℕ
key_in rows bindings list n t = key_of (class_of rows bindings list n) (node_of rows t)

-- What is asked to find the class of the term at place k: the classes of those before it, and a place that is k only where none
-- of those has its key.
pub record Classable (rows bindings classes list : List ℕ) (n k place : ℕ) : Type 0 where
  pub listed : Listed rows bindings list n
  pub classes_fit : n ≤ length classes
  pub within : k < n
  pub settled : (i : ℕ) → i < k → at classes (at list i) ≡ class_of rows bindings list n (at list i)
  pub place-within : place ≤ k
  pub no_key : place ≡ k → (j : ℕ) → j < k → key_in rows bindings list n (at list k) ≡ key_in rows bindings list n (at list j) → ⊥

-- The slices are long enough for n terms with a pair for each.
pub record Scratch (classes lefts rights cells : List ℕ) (n : ℕ) : Type 0 where
  pub room : Room lefts rights cells n
  pub classes_fit : n ≤ length classes

-- Terms have one class exactly where they have one value, and a class is a term.
pub record SameClasses (b : Book) (β : Bindings) (classes : List ℕ) (n : ℕ) : Type 0 where
  pub same-value : (t u : ℕ) → t < n → u < n → at classes t ≡ at classes u → val b β t ≡ val b β u
  pub same_class : (t u : ℕ) → t < n → u < n → val b β t ≡ val b β u → at classes t ≡ at classes u
  pub terms : (t : ℕ) → t < n → at classes t < n

-- The lowest of n terms with the class of t.
unfoldable pub lowest_same : List ℕ → ℕ → ℕ → ℕ
lowest_same classes n t = first (λ u. eqb (at classes u) (at classes t)) (from 0 n)

-- Number r is `seen` where that is a term below t with its class, and else t.
pub data Seen (classes : List ℕ) (seen t r : ℕ) : Type 0 where
  lower : seen < t → at classes seen ≡ at classes t → r ≡ seen → Seen classes seen t r
  own : (seen < t → at classes seen ≡ at classes t → ⊥) → r ≡ t → Seen classes seen t r

-- What is asked to find it: classes are below n, and there is a place for each class and each name.
pub record Nameable (classes names firsts : List ℕ) (n : ℕ) : Type 0 where
  pub classes_fit : n ≤ length classes
  pub terms : (t : ℕ) → t < n → at classes t < n
  pub firsts_fit : n ≤ length firsts
  pub names_fit : n ≤ length names
