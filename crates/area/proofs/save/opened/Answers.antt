-- `save::opened` meets its contract: three writes, of the header, of the rows and of zeros. Assumes nothing.
use Rattle.std.proofs.Common.{ap, ◌∙◌, ◌*◌}
use Rattle.model.specs.Area.{word_size, header_words}
use Rattle.layout.specs.limits.Limits.{limits_of}
use Rattle.layout.specs.header.Row.{words_of}
use Rattle.layout.specs.words.Words.{laid}
use Rattle.area.proofs.save.JustOpened.{laid-opened}
use Rattle.area.proofs.save.opened.Goals as goal

pub returns : goal.returns
unfolding words_of
returns c =
    let rows = c.args.rows.now in
    let parts = c.store.ensures ∙ ap (λ area. laid area header_words rows) c.store_header.ensures in
    let start = ap (λ n. word_size * n) c.bindings_at.ensures in
    c.clear.ensures ∙ rw (parts, start, c.requires.0)
    (laid-opened (limits_of c.args.lim) c.args.capacity c.args.terms rows c.args.area.now c.requires.2)
