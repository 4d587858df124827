-- A refused dump is not counted.
use mathlib.Core.Path.{sym}
use lib.ListN.{length}
use native.Mathlib.Omega.{arith}
use Rattle.page.proofs.Lengths.{opened_most}
use Rattle.page.proofs.count.count_kinds.Goals as goal

pub count_pages-requires : goal.count_pages-requires
count_pages-requires c = let a = c.args in omega (arith, opened_most a.g (length a.dump.now) _ (sym c.in_ok-pages.ensures))
