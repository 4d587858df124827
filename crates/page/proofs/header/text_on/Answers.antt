-- Each field that is bytes lies in a header, and a page of the dump has room for one.
use Prim.Native.Nat.{◌+◌, ◌≤◌}
use mathlib.Core.Path.{ap}
use lib.ListN.{length}
use native.Mathlib.Omega.{arith}
use Rattle.page.proofs.Layouts.{roomy_facts}
use Rattle.page.proofs.Lengths.{page_within}
use Rattle.page.proofs.Pages.{page_length}
use Rattle.page.proofs.Sound.{text_fits}
use Rattle.page.proofs.header.text_on.Goals as goal
use Rattle.page.proofs.header.text_on.Goals.{After-length}

-- the field ends within the page
within : (c : After-length) → c.place-from.result + c.length.result ≤ length c.page_at-page.result.now
within c =
    let a = c.args in
    let w = page_within a.g (length a.dump.now) a.n.0 c.requires in
    omega (
      arith,
      text_fits a.f,
      c.place-from.ensures,
      c.length.ensures,
      roomy_facts a.g.layout w.room,
      ap length c.page_at-page.ensures,
      page_length a.g a.dump.now a.n.0 c.requires,
    )

pub slice_bounds-result-end : goal.slice_bounds-result-end
slice_bounds-result-end c = omega (arith, within c)
