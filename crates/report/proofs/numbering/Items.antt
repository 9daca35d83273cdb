-- The classes of a list of entries, met one after the other. Assumes nothing.
use Rattle.std.proofs.Common.{◌≡◌, sym, ◌∙◌, refl, List, ◌∷◌, ◌++◌, [], map, ℕ, ◌+◌, ◌*◌, ◌≤◌, ◌<◌, length, take}
use Rattle.std.proofs.lemmas.List.{map_more}
use Rattle.model.specs.Area.{entry_row_words}
use Rattle.model.specs.Report.{class}
use Rattle.layout.specs.limits.Rows.{at, loaded_entry, table_of}
use Rattle.report.specs.declared.numbering.Classes.{Classes}
use Rattle.report.specs.numbering.Numbering.{Entries}
use Rattle.report.specs.numbering.Classes.{Meets}
use Rattle.report.proofs.numbering.Meeting.{meet-none, meet-more}
use Rattle.report.proofs.numbering.Rows.{class-row}

-- no class is met, and more are met
pub meets_none : (a : Classes) → Meets a [] a
meets_none a = (meet-none a.sound, refl, refl, refl, refl)

pub meets_more : (a b c : Classes) (xs ys : List ℕ) → Meets a xs b → Meets b ys c → Meets a (xs ++ ys) c
meets_more a b c xs ys p q = (meet-more p.0 (rw p.1 at q.0), q.1 ∙ p.1, q.2 ∙ p.2, q.3 ∙ p.3, q.4 ∙ p.4)

module _ (a b : Classes) (items : List ℕ) (ok : Entries a.m items) (j : ℕ) (l : j < length items)
    (h : Meets a (map (class (table_of a.entries.now a.m)) (take j items)) b) where
  -- entry j of the list has a row
  pub item_row : entry_row_words * at items j + entry_row_words ≤ length b.entries.now
  item_row = rw h.2 ((a.closed.row (at items j) (ok j l)).within)

  module _ (x : ℕ) (e : x ≡ (loaded_entry b.entries.now (at items j)).same_as) where
    is-class : x ≡ class (table_of a.entries.now a.m) (at items j)
    is-class = (rw h.2 at e) ∙ sym (class-row a.entries.now (at items j) a.m (ok j l))

    -- its class is one of m
    pub item_class : x < b.m
    item_class = rw (h.1, is-class) (a.closed.classes (at items j) (ok j l))

    -- and is met behind those of the first j entries
    pub items_more : (c : Classes) → Meets b (x ∷ []) c → Meets a (map (class (table_of a.entries.now a.m)) (take (j + 1) items)) c
    items_more c g =
        rw (map_more (class (table_of a.entries.now a.m)) items j 0 l, ← is-class)
        (meets_more a b c (map (class (table_of a.entries.now a.m)) (take j items)) (x ∷ []) h g)
