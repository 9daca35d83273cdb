-- Fixing a choice on a loaded state: what is asked, and the tests before the walk (document 01, "Fix a choice", "Turned down").
-- Assumes nothing: these are definitions.
use Rattle.std.specs.Prelude.{List, cond, ◌&&◌, ℕ, length, get_or, ltb}
use Rattle.std.proofs.Math.Option.{none}
use Rattle.model.specs.Limits.{Limits}
use Rattle.model.specs.Term.{var, Book, Bindings, val, occurs}
use Rattle.model.specs.Step.{is_free}
use Rattle.layout.specs.declared.header.Header.{Header}
use Rattle.layout.specs.header.Held.{held}
use Rattle.area.specs.load.Ready.{Lent, Ready}

-- The slices hold a sound state with its lines, within the limits, and are lent room for every such state.
pub record Asked (h : Header) (rows bindings list roots names entries lefts rights cells : List ℕ) (lim : Limits) (lines : List ℕ) : Type 0 where
  pub ready : Ready lim (held h rows bindings lines entries) list roots names
  pub lent : Lent lim list roots names lefts rights cells

-- Something is known for some limits and some lines.
pub record GivenLines (P : Limits → List ℕ → Type 0) : Type 0 where
  pub lim : Limits
  pub lines : List ℕ
  pub known : P lim lines

-- The refusal of the choice (v, t) by the tests before the walk, or 0: 8 where v or t is no term, 9 where v is not a free variable,
-- 10 where v occurs in the value of t.
unfoldable pub early_refusal : Book → Bindings → ℕ → ℕ → ℕ
early_refusal b β v t =
    cond (ltb v (length b) && ltb t (length b)) (cond (is_free (get_or b v var) (get_or β v none)) (cond (occurs v (val b β t)) 10 0) 9) 8
