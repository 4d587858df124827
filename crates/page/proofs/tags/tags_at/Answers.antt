-- A page that lies in the dump has room and is as long as its layout says.
use mathlib.Core.Path.{◌∙◌, ap}
use lib.ListN.{length}
use Rattle.page.proofs.Lengths.{page_within}
use Rattle.page.proofs.Pages.{page_length}
use Rattle.page.proofs.tags.tags_at.Goals as goal

pub of_page-requires : goal.of_page-requires
of_page-requires c =
    let a = c.args in
    record { l_value = (page_within a.g (length a.dump.now) a.n.0 c.requires).room; page_len = ap length c.page_at.ensures ∙ page_length a.g a.dump.now a.n.0 c.requires }
