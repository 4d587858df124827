-- The size lookup refuses, or gives the size that the rows are counted by; they fit, or not.
use mathlib.Core.Path.{sym, ◌∙◌}
use Rattle.page.specs.declared.refusal.Refusal.{Refusal}
use Rattle.file.proofs.Chunks.{ok_before, table_filled}
use Rattle.file.proofs.table.table_in.Goals as goal

pub returns-clause-table_after : goal.returns-clause-table_after
returns-clause-table_after c =
    let sized = sym c.size.ensures ∙ ok_before Refusal _ _ c.in_ok-size.ensures.cases in
    rw (c.fill.ensures, c.first_link-first.ensures, c.words_of-words.ensures, c.chunks_in-count.ensures.value) (sym (table_filled _ _ _ _ _ _ _ c.requires sized c.args.table.now))
