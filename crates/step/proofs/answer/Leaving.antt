-- From the parts after a step to the words of the state that it leaves. Assumes nothing.
use Rattle.std.proofs.Common.{◌≡◌, refl, List, ℕ, ◌*◌, length, Ok, Err}
use Rattle.model.specs.Limits.{Limits}
use Rattle.model.specs.Lists.{concat_map, padded}
use Rattle.model.specs.Table.{Table}
use Rattle.model.specs.Step.{State, Answer, refused, accepted}
use Rattle.model.specs.Area.{entry_row_words, entry_words}
use Rattle.layout.specs.limits.Rows.{Loaded, Sized}
use Rattle.soundness.proofs.sound.Parts.{Holds, whole}
use Rattle.refusal.specs.declared.Refusal.{Refusal}
use Rattle.refusal.specs.Numbers.{number_of}
use Rattle.refusal.proofs.Numbers.{numbers_tell, none_is_zero}
use Rattle.table.specs.place.Stands.{HoldsTable}
use Rattle.step.specs.declared.answer.Step.{Step}
use Rattle.step.specs.answer.Stepped.{step_numbers, accepted_as, Leaves, Gives}

-- the rows of a table, for its capacity
pub table-words : {entries : List ℕ} {es : Table} (capacity : ℕ) → HoldsTable entries es → length entries ≡ entry_row_words * capacity
    → entries ≡ padded (entry_row_words * capacity) (concat_map entry_words es)
table-words capacity h e = rw (← e) h.words

-- parts of their lengths, each with the words of a state
pub leaves : {lim : Limits} {w : Loaded} {s : State} → Sized lim w → Holds lim w s → Leaves lim s w
leaves {lim} {w} {s} z h = record { sized = z; words = whole lim w s h }

-- a refusal, whatever the words are
pub gives_refused : (lim : Limits) (w : Loaded) (step : Step) {a : Answer} (e : Refusal) → a ≡ refused (number_of e) → Gives lim step a (Err e) w
unfolding Gives
gives_refused lim w step e is = rw is (rw (numbers_tell e) refl, refl, none_is_zero e)

-- an accepted step gives the answer's numbers and leaves the words of its state
pub gives_accepted : {lim : Limits} {w : Loaded} {s : State} {a : Answer} {numbers : List ℕ} (step : Step) → a ≡ accepted numbers s
    → step_numbers step (Ok (accepted_as step numbers)) ≡ numbers → Leaves lim s w → Gives lim step a (Ok (accepted_as step numbers)) w
unfolding Gives
gives_accepted step e n l = rw e (refl, n, l)
