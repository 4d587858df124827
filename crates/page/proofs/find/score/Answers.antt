-- A refused dump scores nothing; the pages of another come out even.
use Prim.Native.Nat.{◌%◌}
use mathlib.Core.Logic.{inr}
use mathlib.Core.Path.{◌≡◌, refl, sym, ◌∙◌}
use native.Mathlib.Omega.{arith}
use lib.ListN.{length}
use Rattle.page.specs.Find.{score_in, score_under}
use Rattle.page.proofs.Layouts.{roomy_facts}
use Rattle.page.proofs.Lengths.{opened_facts, opened_most, block_some, block_most}
use Rattle.page.proofs.Blocks.{whole_pages}
use Rattle.page.proofs.Leaving.{not_least}
use Rattle.page.proofs.find.score.Goals as goal

pub returns-in-Err : goal.returns-in-Err
unfolding score_under score_in
returns-in-Err c = rw (← c.opened.ensures, c.in-Err.is) (sym (not_least c.args.need 0 (inr refl)))

pub score_in-requires : goal.score_in-requires
score_in-requires c =
    let a = c.args in
    let e = sym c.opened.ensures ∙ c.in-Ok.is in
    let f = opened_facts a.g (length a.dump.now) c.in-Ok.pages e in
    let r = roomy_facts a.g.layout f.room in
    let some = block_some a.g.block f.block in
    let even : c.in-Ok.pages % a.g.block ≡ 0 = rw (← f.pages) (whole_pages a.g (length a.dump.now) some (omega (arith, r)) f.whole) in
    record { block_nonzero = some; block_bound = omega (arith, block_most a.g.block f.block); pages_bound = omega (arith, opened_most a.g (length a.dump.now) c.in-Ok.pages e); block_value = even }
