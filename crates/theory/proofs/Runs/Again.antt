-- From a book just opened, the accepted choices of a run and then its accepted lines are all accepted, and end in a state with
-- the run's report. Assumes nothing.
use mathlib.Core.Path.{◌≡◌, refl, ap₂, sym, ◌∙◌}
use mathlib.Core.List.{List, [], ◌∷◌, ◌++◌, map, append_assoc, append-nil}
use mathlib.Core.Bool.{true, false, ◌&&◌}
use Prim.Native.Nat.{ℕ, suc, ◌+◌, ◌≤◌}
use native.Mathlib.Nat.{not-suc-le-zero}
use native.Mathlib.Omega.{arith}
use lib.ListN.{length, length-append}
use lib.Dec.{leb-zero}
use borrow.Author.Tests.{lt-ltb}
use Rattle.model.specs.Limits.{Limits}
use Rattle.model.specs.Term.{Book, Bindings, val}
use Rattle.model.specs.Table.{Table, walk, settle}
use Rattle.model.specs.Step.{State, Answer, refused, accepted, require, saturate, add_line, is_free, turned, bind, opened}
use Rattle.model.specs.Report.{report}
use Rattle.theory.specs.Run.{Request, add, fix, ask, is_line, is_choice, left_term, right_term, is_accepted, after, answer, next, state_run, AllAccepted}
use Rattle.theory.proofs.Soundness.Facts.{TableRight, SoundFacts}
use Rattle.theory.proofs.Lists.Laws.{true_T}
use Rattle.theory.proofs.Steps.Kept.{Added, added, added_sound, Bound}
use Rattle.theory.proofs.Runs.Fits.{Within, add-within}
use Rattle.theory.proofs.Report.Values.{report_of_values}
use Rattle.theory.proofs.Runs.States.{picked, accepted_in, state_run-append, all-accepted-append, moved, next-sound, run_sound}
use Rattle.theory.proofs.Runs.Lines.{Line, Pairs, none, more, pairs-length, Lines, lines_left, lines-right, lines_added, and-false, lines-run}

-- The state without its table and lines.
abbrev pub bare : State → State
bare s = record { book = s.book; bound = s.bound; entries = []; lines = []; capacity = s.capacity }

-- a choice that is accepted is accepted without the table
bare_bind : (s s' : State) (v t : ℕ) → Bound s s' v t → bind (bare s) v t ≡ accepted (0 ∷ 0 ∷ []) (bare s')
unfolding bind require is_free saturate walk turned settle
bare_bind s s' v t c =
    rw (lt-ltb v (length s.book) c.v_term, lt-ltb t (length s.book) c.t_term, c.v_var, c.v_free, c.absent, leb-zero s.capacity, c.same-book, c.now_bound, c.same-capacity)

module _ (lim : Limits) where
  -- What an accepted choice does to the state it does to the bare state; a line and a report do nothing to that.
  record Barely (s' u : State) (qs : List Request) : Type 0 where
    ends_bare : state_run lim u qs ≡ bare s'
    all : AllAccepted lim u qs

  -- an accepted call
  barely_accepted : (s s' : State) (q : Request) (ns : List ℕ) → SoundFacts lim s → answer lim s q ≡ accepted ns s'
      → Barely s' (bare s) (picked (is_choice q && true) q)
  unfolding is_choice
  barely_accepted s s' (add l r) ns f e =
      let m = moved lim s s' (add l r) ns f e in
      record { ends_bare = rw (m.1.same-book, m.1.same-bound, m.1.same-capacity); all = tt }
  barely_accepted s s' (fix v t) ns f e =
      let b : bind (bare s) v t ≡ accepted (0 ∷ 0 ∷ []) (bare s') = bare_bind s s' v t (moved lim s s' (fix v t) ns f e) in
      record { ends_bare = rw b; all = (rw b, tt) }
  barely_accepted s s' (ask out) ns f e = record { ends_bare = rw (moved lim s s' (ask out) ns f e); all = tt }

  -- any call
  barely_after : (s : State) (q : Request) (a : Answer) → SoundFacts lim s → answer lim s q ≡ a
      → Barely (after s a) (bare s) (picked (is_choice q && is_accepted a) q)
  barely_after s q (refused n) f e = rw (and-false (is_choice q)) (record { ends_bare = refl; all = tt })
  barely_after s q (accepted ns s') f e = barely_accepted s s' q ns f e

  -- so the accepted choices of a list end in its bare state
  barely_append : (s s' u : State) (qs rs : List Request) → Barely s u qs → Barely s' (bare s) rs → Barely s' u (qs ++ rs)
  barely_append s s' u qs rs h g =
      record {
        ends_bare = state_run-append lim u qs rs ∙ rw h.ends_bare g.ends_bare;
        all = all-accepted-append lim u qs rs h.all (rw h.ends_bare g.all);
      }

  -- a list of calls
  barely_run : (s : State) (calls : List Request) → SoundFacts lim s → Barely (state_run lim s calls) (bare s) (accepted_in lim is_choice s calls)
  barely_run s [] f = record { ends_bare = refl; all = tt }
  barely_run s (q ∷ calls) f =
      barely_append (next lim s q) (state_run lim s (q ∷ calls)) (bare s) (picked (is_choice q && is_accepted (answer lim s q)) q)
      (accepted_in lim is_choice (next lim s q) calls) (barely_after s q (answer lim s q) f refl)
      (barely_run (next lim s q) calls (next-sound lim s q f))

  -- Lines that have entries in the right table `big` are added to a state whose table is within it.
  module _ (b : Book) (β : Bindings) (big : Table) (right : TableRight b β big) where
    -- A state with this book and these bindings, within `big`, with room for `to-come` lines; its lines are `before`.
    record Copy (w : State) (to-come : ℕ) (before : List Request) : Type 0 where
      facts : SoundFacts lim w
      same-book : w.book ≡ b
      same-bound : w.bound ≡ β
      within : Within b β big w.entries
      fits : length big ≤ w.capacity
      room : length w.lines + to-come ≤ lim.max_lines
      so_far : Lines w before

    -- all of the lines are accepted, and the end is again such a state
    record Copied (w : State) (qs before : List Request) : Type 0 where
      all : AllAccepted lim w qs
      end : Copy (state_run lim w qs) 0 (before ++ qs)

    -- one line
    copy_then : (w w' : State) (l r i n : ℕ) (before : List Request) → Copy w (suc n) before → Added lim w w' l r i → SoundFacts lim w'
        → Within w.book w.bound big w'.entries → Copy w' n (before ++ add l r ∷ [])
    copy_then w w' l r i n before c a f h =
        record {
          facts = f;
          same-book = a.same-book ∙ c.same-book;
          same-bound = a.same-bound ∙ c.same-bound;
          within = rw (c.same-book, c.same-bound) at h;
          fits = rw a.same-capacity c.fits;
          room = rw (a.one_line, length-append) (omega (arith, c.room));
          so_far = lines_added lim w w' l r i before a c.so_far;
        }

    -- the line is accepted, and the state after it is again such a state
    record CopiedLine (w : State) (l r n : ℕ) (before : List Request) : Type 0 where
      ns : List ℕ
      w' : State
      accepts : add_line lim w l r ≡ accepted ns w'
      then : Copy w' n (before ++ add l r ∷ [])

    -- where the line is accepted, this is so
    copy_accepted : (w w' : State) (l r n : ℕ) (ns : List ℕ) (before : List Request) → Copy w (suc n) before
        → add_line lim w l r ≡ accepted ns w' → Within w.book w.bound big w'.entries → CopiedLine w l r n before
    copy_accepted w w' l r n ns before c e h =
        let a = added lim w w' l r ns c.facts e in
        record {
          ns = ns;
          w' = w';
          accepts = e;
          then = copy_then w w' l r a.0 n before c a.2 (added_sound lim w w' l r ns c.facts e) h;
        }

    -- a line with an entry in `big` is accepted
    copy_line : (w : State) (l r i n : ℕ) (before : List Request) → Copy w (suc n) before → Line b β big i (add l r) → CopiedLine w l r n before
    unfolding left_term right_term
    copy_line w l r i n before c p =
        let fit =
        add-within lim w big l r c.facts (rw (c.same-book, c.same-bound) right) (rw (c.same-book, c.same-bound) c.within)
        c.fits (rw c.same-book p.left-term) (rw c.same-book p.right-term)
        (rw (c.same-book, c.same-bound) (i, p.has)) (omega (arith, c.room)) in
        copy_accepted w fit.1 l r n (fit.0 ∷ []) before c fit.2 fit.3

    -- a line at the front of the rest, which the given fact copies
    copy_front : (w : State) (q : Request) (i : ℕ) (qs before : List Request) → Copy w (suc (length qs)) before → Line b β big i q
        → ((w' : State) (before' : List Request) → Copy w' (length qs) before' → Copied w' qs before') → Copied w (q ∷ qs) before
    unfolding is_line
    copy_front w (add l r) i qs before c p rest =
        let one = copy_line w l r i (length qs) before c p in
        let then = rest one.w' (before ++ add l r ∷ []) one.then in
        record { all = rw one.accepts (refl, then.all); end = rw one.accepts (rw append_assoc at then.end) }
    copy_front w (fix v t) i qs before c p rest = absurd (true_T false p.is-line)
    copy_front w (ask out) i qs before c p rest = absurd (true_T false p.is-line)

    -- lines that have entries in `big` are all accepted
    copy_lines : {is : List ℕ} {qs : List Request} → Pairs (Line b β big) is qs → (w : State) (before : List Request)
        → Copy w (length qs) before → Copied w qs before
    copy_lines none w before c = record { all = tt; end = rw append-nil c }
    copy_lines (more {i = i} {q = q} {qs = qs} p ps) w before c = copy_front w q i qs before c p (copy_lines ps)

  -- Two sound states with one book, one list of bindings and the same lines have one report.
  same-lines-report : (s₁ s₂ : State) (qs : List Request) → SoundFacts lim s₁ → SoundFacts lim s₂ → s₁.book ≡ s₂.book
      → s₁.bound ≡ s₂.bound → Lines s₁ qs → Lines s₂ qs → report s₁ ≡ report s₂
  same-lines-report s₁ s₂ qs f₁ f₂ h g k₁ k₂ =
      report_of_values lim lim s₁ s₂ f₁ f₂ h g
      (lines_left s₁ qs k₁ ∙ (same-values left_term ∙ sym (lines_left s₂ qs k₂)))
      (lines-right s₁ qs k₁ ∙ (same-values right_term ∙ sym (lines-right s₂ qs k₂)))
    where
      same-values : (f : Request → ℕ)
          → map (λ (q : Request). val s₁.book s₁.bound (f q)) qs ≡ map (λ (q : Request). val s₂.book s₂.bound (f q)) qs
      same-values f = ap₂ (λ (b : Book) (β : Bindings). map (λ (q : Request). val b β (f q)) qs) h g

  -- From a book just opened.
  module _ (b : Book) (c : ℕ) (facts : SoundFacts lim (opened b c)) (calls : List Request) where
    -- the accepted choices and lines, and the end of the run
    abbrev pub choices_in : List Request
    choices_in = accepted_in lim is_choice (opened b c) calls

    abbrev pub lines_in : List Request
    lines_in = accepted_in lim is_line (opened b c) calls

    abbrev ended : State
    ended = state_run lim (opened b c) calls

    -- it is sound, and its lines are the accepted ones
    ended-sound : SoundFacts lim ended
    ended-sound = run_sound lim (opened b c) calls facts

    pub ended-lines : Lines ended lines_in
    unfolding opened
    ended-lines = lines-run lim (opened b c) calls [] facts none

    -- the accepted choices end in its bare state, which is sound
    choices_again : Barely ended (opened b c) choices_in
    unfolding opened
    choices_again = barely_run (opened b c) calls facts

    bare_sound : SoundFacts lim (bare ended)
    bare_sound = rw choices_again.ends_bare at (run_sound lim (opened b c) choices_in facts)

    -- from there the accepted lines are accepted
    lines_again : Copied ended.book ended.bound ended.entries ended-sound.table (bare ended) lines_in []
    lines_again =
        copy_lines ended.book ended.bound ended.entries ended-sound.table ended-lines (bare ended) []
        (record {
          facts = bare_sound;
          same-book = refl;
          same-bound = refl;
          within = record { apart = λ i j h g. absurd (not-suc-le-zero g); inside = λ i h. absurd (not-suc-le-zero h) };
          fits = ended-sound.few-entries;
          room = omega (arith, ended-sound.few-lines, pairs-length ended-lines);
          so_far = none;
        })

    -- the choices, then the lines, are all accepted
    pub again_accepted : AllAccepted lim (opened b c) (choices_in ++ lines_in)
    again_accepted =
        all-accepted-append lim (opened b c) choices_in lines_in choices_again.all (rw choices_again.ends_bare lines_again.all)

    -- they end as the lines do after the bare state
    again_end : state_run lim (opened b c) (choices_in ++ lines_in) ≡ state_run lim (bare ended) lines_in
    again_end = state_run-append lim (opened b c) choices_in lines_in ∙ rw choices_again.ends_bare

    -- the end of those taken again
    abbrev ended_again : State
    ended_again = state_run lim (bare ended) lines_in

    -- both ends have one report
    pub same_reports : report ended ≡ report (state_run lim (opened b c) (choices_in ++ lines_in))
    same_reports =
        rw again_end
        (same-lines-report ended ended_again lines_in ended-sound lines_again.end.facts (sym lines_again.end.same-book)
        (sym lines_again.end.same-bound) ended-lines lines_again.end.so_far)
