-- What holds of a decoded result: a statement is carried through the steps of decoding. Assumes nothing.
use mathlib.Core.Path.{◌≡◌}
use mathlib.Core.List.{List}
use mathlib.Core.Bool.{Bool, true, false}
use Prim.Native.Nat.{ℕ}
use lib.Dec.{T}
use Rattle.model.specs.BookBytes.{Parsed, parsed, unparsed, and_then, need}

-- P holds of what was decoded and of the bytes after it, where it was not refused
abbrev pub Gives : {A : Type 0} → Parsed A → (A → List ℕ → Type 0) → Type 0
Gives (parsed a rest) P = P a rest
Gives (unparsed n) P = Unit {0}

module _ {A : Type 0} (P : A → List ℕ → Type 0) where
  -- so it holds of a result that is known
  pub gives_at : (p : Parsed A) (a : A) (rest : List ℕ) → Gives p P → p ≡ parsed a rest → P a rest
  gives_at p a rest g e = rw e at g

  -- a test that was needed holds
  pub need_gives : (t : Bool) (n : ℕ) (p : Parsed A) → (T t → Gives p P) → Gives (need t n p) P
  unfolding need
  need_gives true n p g = g tt
  need_gives false n p g = tt

  -- what follows a first part, from what holds of that part
  pub and_then_gives : {B : Type 0} (Q : B → List ℕ → Type 0) (p : Parsed B) (f : B → List ℕ → Parsed A)
      → Gives p Q → ((b : B) (rest : List ℕ) → Q b rest → Gives (f b rest) P) → Gives (and_then p f) P
  unfolding and_then
  and_then_gives Q (parsed b rest) f h g = g b rest h
  and_then_gives Q (unparsed n) f h g = tt

  -- and where nothing of it matters
  pub and_then-any : {B : Type 0} (p : Parsed B) (f : B → List ℕ → Parsed A)
      → ((b : B) (rest : List ℕ) → Gives (f b rest) P) → Gives (and_then p f) P
  unfolding and_then
  and_then-any (parsed b rest) f g = g b rest
  and_then-any (unparsed n) f g = tt
