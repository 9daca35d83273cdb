-- What a writer puts: nothing, more behind it, and at the front of a buffer. Assumes nothing.
use Rattle.std.proofs.Common.{◌≡◌, refl, List, [], ◌++◌, ℕ, length, drop}
use Rattle.runs.proofs.Over.{Laid, laid_none, laid_more, laid_front}
use Rattle.session.specs.declared.text.Writer.{Writer}
use Rattle.session.specs.text.Writing.{Room, Puts}

laid : {old new : Writer} {put : List ℕ} → Puts old new put → Laid old.text.now old.at put new.text.now new.at
laid p = (p.next, p.bytes)

pub puts_none : (w : Writer) → Puts w w []
puts_none w =
    let none = laid_none w.text.now w.at in
    record { same_reference = refl; next = none.0; bytes = none.1; kept = refl }

pub puts_more : {w w' w'' : Writer} {xs ys : List ℕ} → Room w (length xs) → Puts w w' xs → Puts w' w'' ys → Puts w w'' (xs ++ ys)
puts_more {w} {w'} {w''} {xs} {ys} room p q =
    let both = laid_more w.text.now w.at xs w'.text.now w'.at room (laid p) ys w''.text.now w''.at (laid q) in
    record { same_reference = cc; next = both.0; bytes = both.1; kept = cc }

-- the length of what stands at the front of the buffer, and the buffer
pub puts_front : {w w' : Writer} {xs : List ℕ} → w.at ≡ 0 → Puts w w' xs → (w'.at ≡ length xs) × (w'.text.now ≡ xs ++ drop w'.at w.text.now)
puts_front {w} {w'} {xs} e p = laid_front w.text.now xs w'.text.now w'.at (rw e at (laid p))
