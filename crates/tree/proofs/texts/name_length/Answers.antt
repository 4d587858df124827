-- The place of the first zero byte, or the number of bytes where there is none.
use Rattle.std.proofs.Common.{ℕ, arith, rules, tests}
use Rattle.std.proofs.lemmas.Iterator.{YieldsList-from_slice}
use Rattle.std.proofs.lemmas.Iterator.Search.{position_from_yields_List}
use lib.Dec.{eqb}
use Rattle.tree.proofs.Texting.{name_within, name_found}
use Rattle.tree.proofs.texts.name_length.Goals as goal

pub returns : goal.returns
returns c =
    let L = c.args.bytes.now in
    let zero =
    position_from_yields_List (λ (x : ℕ). eqb x 0) _ _ c.position.result c.position.ensures.ran (YieldsList-from_slice L cc) (λ x b q k. search (rules, tests)) in
    let value = name_found L _ _ zero c.unwrap_or.ensures in
    record { value = value; upper_bound = omega (arith, value, name_within L) }
