-- An accepted dump has pages and data bytes that marks tell apart.
use mathlib.Core.Path.{sym, ◌∙◌}
use Rattle.why.proofs.Filling.{opened_sized}
use lib.ListN.{length}
use Rattle.why.proofs.spans.live_file.Goals as goal

pub measure-marks-requires : goal.measure-marks-requires
measure-marks-requires c =
    let z = opened_sized c.args.g (length c.args.dump.now) c.in_ok-pages.pages (sym c.opened.ensures ∙ c.in_ok-pages.was) in
    record { pages_lt_page_values = z.pages; data_bound = z.most }
