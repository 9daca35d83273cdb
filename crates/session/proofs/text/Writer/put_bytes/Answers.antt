-- `text::Writer::put_bytes` meets its contract: a part of the buffer is copied over. Assumes nothing.
use Rattle.std.proofs.Common.{rules, ◌≡◌, List, ℕ, ◌+◌, ◌-◌, length, arith}
use borrow.Rule.Slice.PartMut.{put_mid}
use lib.Seq.{drop-drop}
use Rattle.runs.specs.Runs.{over_at}
use Rattle.session.proofs.text.Writer.put_bytes.Goals as goal

copied : (out : List ℕ) (at : ℕ) (xs ys : List ℕ) → ys ≡ xs → put_mid at (at + length xs - at) out ys ≡ over_at out at xs
unfolding over_at
copied out at xs ys e = let n : at + length xs - at ≡ length xs = omega arith in rw (e, n, drop-drop)

pub returns : goal.returns
returns c = record {
  same_reference = search rules;
  next = search rules;
  bytes = copied _ _ _ _ c.copy_from_slice.ensures.after;
  kept = search rules;
}
