-- The bytes of the report of a sound state tell the value pairs of the lines. Assumes nothing.
use mathlib.Core.Path.{◌≡◌, sym, ◌∙◌, subst₂}
use mathlib.Core.List.{List, ◌∷◌, ◌++◌, map}
use Prim.Native.Nat.{ℕ, ◌≤◌, ◌<◌}
use native.Mathlib.Omega.{arith}
use lib.ListN.{length, get_or, length-map}
use lib.Dec.{eqb, eqb→eq, eqb_refl}
use Rattle.model.specs.Lists.{first, concat_map}
use Rattle.model.specs.Term.{Book, Bindings, val}
use Rattle.model.specs.Table.{Table, entry}
use Rattle.model.specs.Pattern.{left_value, right_value}
use Rattle.model.specs.Report.{class, order, number, entry_numbers, report, report_bytes}
use Rattle.theory.specs.Numbering.{NumberedBelow, Numbering}
use Rattle.theory.specs.ReportOfValues.{ReportTells}
use Rattle.theory.proofs.Lists.Laws.{first_holds, first-least}
use Rattle.theory.proofs.Soundness.Facts.{TableRight}
use Rattle.theory.proofs.Soundness.Test.{sound_facts}
use Rattle.theory.proofs.Report.Matching.{Both, both_intro, both_get_or, both_map, Match}
use Rattle.theory.proofs.Report.Meeting.{class_has}
use Rattle.theory.proofs.Report.Pair.{table_report}
use Rattle.theory.proofs.Report.Values.{maps_both}
use Rattle.theory.proofs.Report.Numbering.{numbering}
use Rattle.theory.proofs.Report.Small.{report-small}
use Rattle.theory.proofs.Report.Decoding.{cut-same, number_bytes_tell, entries_tell}

-- a number that stands in a list stands where `first` finds it
found : (xs : List ℕ) (x : ℕ) → NumberedBelow xs (length xs) x → (first (eqb x) xs < length xs) × (get_or xs (first (eqb x) xs) 0 ≡ x)
found xs x h =
    let le : first (eqb x) xs ≤ h.number = first-least (eqb x) xs 0 h.number h.below (rw h.is (eqb_refl x)) in
    let lt : first (eqb x) xs < length xs = omega (arith, h.below) in
    (lt, sym (eqb→eq x _ (first_holds (eqb x) xs 0 lt)))

module _ (b : Book) (β : Bindings) (es es' : Table) (right : TableRight b β es) (right' : TableRight b β es') where
  -- lines whose classes have one number match, where the classes of each number do
  lines_tell : (met met' : List ℕ) → Both (Match b β es es') met met' → (i j : ℕ) → i < length es → j < length es'
      → NumberedBelow met (length met) (class es i) → NumberedBelow met' (length met') (class es' j)
      → number es met i ≡ number es' met' j → Match b β es es' i j
  unfolding number
  lines_tell met met' hs i j p q h g e =
      let n : ℕ = first (eqb (class es i)) met in
      let at : (n < length met) × (get_or met n 0 ≡ class es i) = found met (class es i) h in
      let at' : get_or met' n 0 ≡ class es' j = rw (← e) at (found met' (class es' j) g).1 in
      let m : Match b β es es' (class es i) (class es' j) = rw (at.1, at') at (both_get_or hs n at.0) in
      let own = class_has b β es right i p in
      let own' = class_has b β es' right' j q in
      record {
        present = p;
        present' = q;
        left = sym own.left ∙ m.left ∙ own'.left;
        right = sym own.right ∙ m.right ∙ own'.right;
      }

  -- lines of tables that have one report match
  table_report_tells : (is js : List ℕ) → ((k : ℕ) → k < length is → get_or is k 0 < length es) → ((k : ℕ) → k < length js → get_or js k 0 < length es')
      → table_report b β es is ≡ table_report b β es' js → Both (Match b β es es') is js
  unfolding table_report
  table_report_tells is js below below' e =
      let met : List ℕ = order es is in
      let met' : List ℕ = order es' js in
      let ks : List ℕ = map (number es met) is in
      let ks' : List ℕ = map (number es' met') js in
      let rows : List ℕ = concat_map (entry_numbers es b β met) met in
      let rows' : List ℕ = concat_map (entry_numbers es' b β met') met' in
      let count : length is ≡ length js = cc in
      let behind : ks ++ (length met ∷ rows) ≡ ks' ++ (length met' ∷ rows') = cc in
      let cut = cut-same ks _ ks' _ (length-map is _ ∙ count ∙ sym (length-map js _)) behind in
      let same : rows ≡ rows' = cc cut.1 in
      let n : Numbering es is met = numbering b β es right is below in
      let n' : Numbering es' js met' = numbering b β es' right' js below' in
      let mets = entries_tell es es' met met' b β right right' met met' (λ k l. (n.classes k l).0) (λ k l. (n'.classes k l).0) same in
      let numbers = maps_both (number es met) (number es' met') is js cut.0 in
      both_intro is js count
      (λ k l.
      let l' : k < length js = omega arith in
      lines_tell met met' mets (get_or is k 0) (get_or js k 0) (below k l) (below' k l') (n.lines_numbered k l) (n'.lines_numbered k l')
      (both_get_or numbers k l))

-- The lines is of the table es, over the book b and the bindings β, have the left and the right values of the lines js of es',
-- over c and γ.
abbrev SameValues : Book → Bindings → Table → List ℕ → Book → Bindings → Table → List ℕ → Type 0
SameValues b β es is c γ es' js =
    (map (λ (i : ℕ). val b β (entry es i).left) is ≡ map (λ (j : ℕ). val c γ (entry es' j).left) js) ×
    (map (λ (i : ℕ). val b β (entry es i).right) is ≡ map (λ (j : ℕ). val c γ (entry es' j).right) js)

-- lines that match have the same values
match_values : (b : Book) (β : Bindings) (es es' : Table) (is js : List ℕ) → Both (Match b β es es') is js
    → SameValues b β es is b β es' js
match_values b β es es' is js hs = (both_map _ _ (λ i j m. m.left) hs, both_map _ _ (λ i j m. m.right) hs)

pub report_tells : ReportTells
unfolding report_bytes report table_report left_value right_value
report_tells lim₁ lim₂ m₁ m₂ s₁ s₂ h₁ h₂ b β e =
    let f₁ = sound_facts lim₁ s₁ h₁ in
    let f₂ = sound_facts lim₂ s₂ h₂ in
    let es = s₁.entries in
    let es' = s₂.entries in
    let same : report s₁ ≡ report s₂ =
    number_bytes_tell (report s₁) (report s₂) (report-small lim₁ s₁ m₁ f₁) (report-small lim₂ s₂ m₂ f₂) e in
    subst₂
    (λ (c : Book) (γ : Bindings). TableRight c γ es' → table_report s₁.book s₁.bound es s₁.lines ≡ table_report c γ es' s₂.lines
    → SameValues s₁.book s₁.bound es s₁.lines c γ es' s₂.lines)
    b β
    (λ right q.
    match_values s₁.book s₁.bound es es' s₁.lines s₂.lines
    (table_report_tells s₁.book s₁.bound es es' f₁.table right s₁.lines s₂.lines f₁.line-entries f₂.line-entries q))
    f₂.table same
