-- The spare is what is left behind the data, and the tags lie in it, for any layout with room.
use borrow.Author.Rules.{rules}
use Rattle.page.proofs.Layouts.{roomy_facts}
use Rattle.page.proofs.tags.Tags.of_page.Goals as goal

pub slice_bounds-parse-end : goal.slice_bounds-parse-end
slice_bounds-parse-end c =
    let f = roomy_facts c.args.l c.requires.l_value in
    search rules
