-- A page that is a header lies in the dump, and is long enough for one.
use mathlib.Core.Bool.{true}
use mathlib.Core.Path.{◌≡◌, ap, sym}
use lib.ListN.{length}
use native.Mathlib.Omega.{arith}
use Rattle.page.specs.Lengths.{page_in}
use Rattle.page.proofs.Layouts.{roomy_facts}
use Rattle.page.proofs.Lengths.{page_within}
use Rattle.page.proofs.Pages.{page_length}
use Rattle.page.proofs.Sound.{asked_in}
use Rattle.page.proofs.header.header.Goals as goal
use Rattle.page.proofs.header.header.Goals.{In_ok-ask_header}

lies : (c : In_ok-ask_header) → let a = c.args in page_in a.g (length a.dump.now) a.n.0 ≡ true
lies c = let a = c.args in asked_in a.g a.dump.now a.n.0 (sym c.in_ok-ask_header.ensures)

pub page_at-requires : goal.page_at-requires
page_at-requires c = lies c

pub of_page-requires : goal.of_page-requires
of_page-requires c =
    let a = c.args in
    let h = lies (goal.at.of_page-requires c).In_ok-ask_header in
    let w = page_within a.g (length a.dump.now) a.n.0 h in
    omega (arith, roomy_facts a.g.layout w.room, ap length c.page_at.ensures, page_length a.g a.dump.now a.n.0 h)
