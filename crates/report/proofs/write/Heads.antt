-- The numbers before the entries, put into a slice. Assumes nothing.
use Rattle.std.proofs.Common.{◌≡◌, sym, List, [], ◌∷◌, ◌++◌, map, ℕ, ◌+◌, ◌-◌, ◌≤◌, length, take, drop, arith}
use Rattle.std.proofs.Math.ListN.{set, length-map}
use Rattle.leb128.specs.Number.{max_number}
use Rattle.model.specs.Step.{State}
use Rattle.theory.proofs.Report.Small.{few_numbered}
use Rattle.runs.proofs.Over.{Laid, laid_none, laid_more, laid-set, laid_front, tail, tail_laid}
use Rattle.report.specs.numbering.Numbering.{new_number}
use Rattle.report.specs.write.Shown.{classes, Tabled, head_numbers}
use Rattle.report.proofs.write.Tables.{facts, line-numbers}

-- few lines, and few classes
pub few-lines : {s : State} {entries numbers : List ℕ} → Tabled s entries numbers → length s.lines ≤ max_number
few-lines t = omega (arith, (facts t.held).few-lines, t.held.modest.lines)

pub few-classes : {s : State} {entries numbers : List ℕ} → Tabled s entries numbers → length (classes s) ≤ max_number
few-classes {s} t = few_numbered t.held.limits s t.held.modest (facts t.held)

-- a number in front, numbers behind it that were put into what is left, and a number behind those
module _ (head : List ℕ) (k count : ℕ) (xs last : List ℕ) (room : k + 2 ≤ length head) (as_many : length xs ≡ k)
    (e : last ≡ xs ++ drop k (tail (set head 0 k) 1)) where
  first : Laid head 0 (k ∷ []) (set head 0 k) 1
  first = laid-set head 0 [] head 0 (omega arith) (laid_none head 0) (omega arith) k

  abbrev end : List ℕ
  end = take 1 (set head 0 k) ++ (last ++ drop (length (set head 0 k) - 1) (drop 1 (set head 0 k)))

  second : Laid head 0 (k ∷ xs) end (1 + k)
  second = laid_more head 0 (k ∷ []) (set head 0 k) 1 (omega arith) first xs end (1 + k) (tail_laid (set head 0 k) 1 xs last k (sym as_many) e)

  pub numbers_laid : set end (k + 1) count ≡ (k ∷ xs ++ count ∷ []) ++ drop (length (k ∷ xs ++ count ∷ [])) head
  numbers_laid =
      let next : 1 + k ≡ k + 1 = omega arith in
      let third = laid-set head 0 (k ∷ xs) end (1 + k) (omega arith) second (omega arith) count in
      let front = laid_front head (k ∷ xs ++ count ∷ []) _ _ third in
      rw (front.0, next) at front.1

module _ {s : State} {entries numbers : List ℕ} (t : Tabled s entries numbers) (lines : List ℕ) (count : ℕ) (e : lines ≡ s.lines)
    (f : count ≡ length (classes s)) where
  -- the numbers before the entries, by the marks
  by_marks : head_numbers s ≡ length lines ∷ map (new_number entries numbers) lines ++ count ∷ []
  unfolding head_numbers
  by_marks = rw (f, e, line-numbers t)

  -- so they are put
  pub head_put : (head last : List ℕ) → length lines + 2 ≤ length head
      → last ≡ map (new_number entries numbers) lines ++ drop (length lines) (tail (set head 0 (length lines)) 1)
      → set (take 1 (set head 0 (length lines)) ++ (last ++ drop (length (set head 0 (length lines)) - 1) (drop 1 (set head 0 (length lines))))) (length lines + 1) count
      ≡ head_numbers s ++ drop (length (head_numbers s)) head
  head_put head last room g =
      rw by_marks (numbers_laid head (length lines) count (map (new_number entries numbers) lines) last room (length-map lines _) g)
