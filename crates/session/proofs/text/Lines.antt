-- A line of text at the front of a buffer: its first number, the numbers behind it, its end. Assumes nothing.
use Rattle.std.proofs.Common.{◌≡◌, ◌∙◌, List, [], ◌∷◌, ◌++◌, ℕ, ◌+◌, ◌*◌, ◌≤◌, ◌<◌, arith, add-one, length, get_or, take, drop, length-append}
use mathlib.Core.List.{append-nil}
use lib.Seq.{take-suc, take_all}
use Rattle.model.specs.Lists.{concat_map}
use Rattle.theory.proofs.Lists.Laws.{concat_map-append}
use Rattle.session.specs.declared.text.Writer.{Writer}
use Rattle.session.specs.text.Text.{line_feed, max_digits, decimal, spaced, following, line_text}
use Rattle.session.specs.text.Writing.{Room, Puts}
use Rattle.session.proofs.text.Digits.{Word, decimal_short}
use Rattle.session.proofs.text.Puts.{puts_none, puts_more, puts_front}

-- one number behind others
following-more : (ns : List ℕ) (n : ℕ) → following (ns ++ n ∷ []) ≡ following ns ++ spaced n
unfolding following concat_map
following-more ns n = concat_map-append spaced ns (n ∷ []) ∙ rw append-nil

spaced_short : (n : ℕ) → Word n → length (spaced n) ≤ 1 + max_digits
unfolding spaced
spaced_short n w = omega (arith, decimal_short n w)

-- A LINE, part by part.
pub line_front : (first : ℕ) (ns : List ℕ) {w w' w'' w''' : Writer} → w.at ≡ 0
    → Room w (length (decimal first)) → Puts w w' (decimal first) → Room w' (length (following ns)) → Puts w' w'' (following ns)
    → Puts w'' w''' (line_feed ∷ []) → (w'''.at ≡ length (line_text (first ∷ ns))) × (w'''.text.now ≡ line_text (first ∷ ns) ++ drop w'''.at w.text.now)
unfolding line_text
line_front first ns e room p room' p' p'' = puts_front e (puts_more room p (puts_more room' p' p''))

-- NUMBERS OF A LIST. The first i of them are put, where there is room for all and the end of the line.
pub record Some (old : Writer) (others : List ℕ) (now : Writer) (i : ℕ) : Type 0 where
  pub room : Room old ((1 + max_digits) * length others + 1)
  pub within : i ≤ length others
  pub short : length (following (take i others)) ≤ (1 + max_digits) * i
  pub puts : Puts old now (following (take i others))

-- at first none
pub some_none : (old : Writer) (others : List ℕ) → Room old ((1 + max_digits) * length others + 1) → Some old others old 0
unfolding following concat_map
some_none old others h = record { room = h; within = omega arith; short = omega arith; puts = puts_none old }

module _ {old : Writer} {others : List ℕ} {now : Writer} {i : ℕ} (s : Some old others now i) where
  fits : Room old (length (following (take i others)))
  fits = omega (arith, s.room, s.within, s.short)

  -- there is room for one more, and for the end
  pub some_room : i < length others → Room now (1 + max_digits)
  some_room l = omega (arith, s.puts.kept, s.room, s.short, s.puts.next)

  pub some_end : Room now 1
  some_end = omega (arith, s.puts.kept, s.room, s.within, s.short, s.puts.next)

  -- one number more
  pub some_more : i < length others → Word (get_or others i 0) → {now' : Writer} → Puts now now' (spaced (get_or others i 0)) → Some old others now' (i + 1)
  some_more l w {now'} h =
      let n : ℕ = get_or others i 0 in
      let one : following (take (i + 1) others) ≡ following (take i others) ++ spaced n =
      rw (add-one, take-suc others i 0 l) (following-more (take i others) n) in
      record {
        room = s.room;
        within = omega arith;
        short = rw (one, length-append) (omega (arith, s.short, spaced_short n w));
        puts = rw one (puts_more fits s.puts h);
      }

  -- all of them
  pub some_all : length others ≤ i → Puts old now (following others) × Room old (length (following others))
  some_all l =
      let whole : take i others ≡ others = take_all i others l in
      (rw whole at s.puts, omega (arith, s.room, s.within, rw whole at s.short))
