-- The bytes of the word lie at their place. Assumes nothing.
use Rattle.std.proofs.Common.{◌≡◌, ◌∙◌, [], ◌∷◌, ℕ, ◌/◌, ◌%◌, arith, append_assoc}
use Rattle.std.proofs.Math.Nat.{add-sub_cancel_left}
use Rattle.std.proofs.Math.Seq.{drop-drop}
use Rattle.std.proofs.lemmas.List.Edits.{sets-eq}
use Rattle.model.specs.Area.{word_size, to_bytes}
use Rattle.theory.proofs.Area.Words.{length-to_bytes}
use Rattle.layout.proofs.words.Elements.{bytes_of}
use Rattle.layout.proofs.words.put_word.Goals as goal

-- the four bytes of an operand that is the word
bytes_as : (x w : ℕ) → x ≡ w → x % 256 ∷ x / 256 % 256 ∷ x / 65536 % 256 ∷ x / 16777216 % 256 ∷ [] ≡ to_bytes word_size w
bytes_as x w e = rw e (bytes_of w)

pub returns : goal.returns
returns c =
    let area = c.args.area.now in
    let at = c.args.at in
    let bytes = to_bytes word_size c.args.w in
    let long = length-to_bytes word_size c.args.w in
    let put : c.copy_from_slice.new.self ≡ bytes = c.copy_from_slice.ensures.after ∙ (c.to_le_bytes.ensures ∙ bytes_as _ c.args.w (omega arith)) in
    rw (put, add-sub_cancel_left, sets-eq bytes area at (rw long (omega arith)), long, drop-drop, append_assoc)
