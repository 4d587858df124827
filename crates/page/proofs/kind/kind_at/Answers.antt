-- A page that lies in the dump has room and is as long as its layout says.
use mathlib.Core.Bool.{true}
use mathlib.Core.Path.{◌≡◌, ◌∙◌, ap}
use lib.ListN.{length}
use Rattle.page.specs.Lengths.{page_in}
use Rattle.page.proofs.Lengths.{page_within}
use Rattle.page.proofs.Pages.{page_length}
use Rattle.page.proofs.kind.kind_at.Goals as goal
use Rattle.page.proofs.kind.kind_at.Goals.{Else-not-holds}

lies : (c : Else-not-holds) → page_in c.args.g (length c.args.dump.now) c.args.n.0 ≡ true
lies c = rw (← c.holds.ensures) c.if-not-holds.false

pub kind_on-requires : goal.kind_on-requires
kind_on-requires c =
    let s = c.args in
    let h = lies (goal.at.kind_on-requires c).Else-not-holds in
    record { l_value = (page_within s.g (length s.dump.now) s.n.0 h).room; page_len = ap length c.page_at.ensures ∙ page_length s.g s.dump.now s.n.0 h }
