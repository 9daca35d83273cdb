-- The report of a sound state is a function of the book, the bindings and the value pairs of the lines. Assumes nothing.
use mathlib.Core.Path.{◌≡◌, ap₂, sym, ◌∙◌, subst₂}
use mathlib.Core.List.{List, [], ◌∷◌, map}
use Prim.Native.Nat.{ℕ, ◌<◌}
use native.Mathlib.Omega.{arith}
use lib.ListN.{length, get_or}
use Rattle.model.specs.Limits.{Limits}
use Rattle.model.specs.Term.{Book, Bindings, val}
use Rattle.model.specs.Table.{Table, entry}
use Rattle.model.specs.Step.{State}
use Rattle.model.specs.Pattern.{left_value, right_value}
use Rattle.model.specs.Report.{report}
use Rattle.theory.proofs.Soundness.Facts.{SoundFacts, TableRight}
use Rattle.theory.proofs.Report.Matching.{Both, none, one, both_length, both_intro, both_get_or, Match}
use Rattle.theory.proofs.Report.Pair.{table_report, table_report_same}

-- two lists of the same images match in them
pub maps_both : {B : Type 0} (f g : ℕ → B) (is js : List ℕ) → map f is ≡ map g js → Both (λ (i j : ℕ). f i ≡ g j) is js
maps_both f g [] [] e = none
maps_both f g [] (j ∷ js) e = let z : ◌≡◌ {A = ℕ} 0 1 = cc in absurd (omega arith)
maps_both f g (i ∷ is) [] e = let z : ◌≡◌ {A = ℕ} 0 1 = cc in absurd (omega arith)
maps_both f g (i ∷ is) (j ∷ js) e =
    let h : f i ≡ g j = cc in
    let t : map f is ≡ map g js = cc in
    one h (maps_both f g is js t)

-- lines of the same left and right values match
lines_match : (b : Book) (β : Bindings) (es es' : Table) (is js : List ℕ)
    → ((k : ℕ) → k < length is → get_or is k 0 < length es) → ((k : ℕ) → k < length js → get_or js k 0 < length es')
    → map (λ (i : ℕ). val b β (entry es i).left) is ≡ map (λ (i : ℕ). val b β (entry es' i).left) js
    → map (λ (i : ℕ). val b β (entry es i).right) is ≡ map (λ (i : ℕ). val b β (entry es' i).right) js
    → Both (Match b β es es') is js
lines_match b β es es' is js below below' l r =
    let ls = maps_both (λ (i : ℕ). val b β (entry es i).left) (λ (i : ℕ). val b β (entry es' i).left) is js l in
    let rs = maps_both (λ (i : ℕ). val b β (entry es i).right) (λ (i : ℕ). val b β (entry es' i).right) is js r in
    let e : length is ≡ length js = both_length ls in
    both_intro is js e
    (λ k h. record { present = below k h; present' = below' k (omega arith); left = both_get_or ls k h; right = both_get_or rs k h })

pub report_of_values : (lim₁ lim₂ : Limits) (s₁ s₂ : State) → SoundFacts lim₁ s₁ → SoundFacts lim₂ s₂ → s₁.book ≡ s₂.book
    → s₁.bound ≡ s₂.bound → map (left_value s₁) s₁.lines ≡ map (left_value s₂) s₂.lines
    → map (right_value s₁) s₁.lines ≡ map (right_value s₂) s₂.lines → report s₁ ≡ report s₂
unfolding report table_report left_value right_value
report_of_values lim₁ lim₂ s₁ s₂ f₁ f₂ b β l r =
    let es = s₂.entries in
    let right = subst₂ (λ (c : Book) (γ : Bindings). TableRight c γ es) (sym b) (sym β) f₂.table in
    let ls = l ∙ ap₂ (λ (c : Book) (γ : Bindings). map (λ (i : ℕ). val c γ (entry es i).left) s₂.lines) (sym b) (sym β) in
    let rs = r ∙ ap₂ (λ (c : Book) (γ : Bindings). map (λ (i : ℕ). val c γ (entry es i).right) s₂.lines) (sym b) (sym β) in
    table_report_same s₁.book s₁.bound f₁.formed f₁.acyclic s₁.entries es f₁.table right s₁.lines s₂.lines
    (lines_match s₁.book s₁.bound s₁.entries es s₁.lines s₂.lines f₁.line-entries f₂.line-entries ls rs) ∙
    ap₂ (λ (c : Book) (γ : Bindings). table_report c γ es s₂.lines) b β
