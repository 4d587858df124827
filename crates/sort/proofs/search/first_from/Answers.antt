use Rattle.std.proofs.Common.{rules, ltb, arith, ltb-true, ltb-false, lt-ltb}
use Rattle.std.proofs.lemmas.List.Sorted.{IsPartitionPoint-from_clause}
use Rattle.std.proofs.lemmas.Grind.{get_or_default_zero}
use Rattle.sort.proofs.search.first_from.Goals as goal

pub returns-clause-parted : goal.returns-clause-parted
returns-clause-parted c = λ s.
    let words = c.args.words.now in
    let x = c.args.x in
    let p = IsPartitionPoint-from_clause (λ y. ltb y x) words c.partition_point.result c.partition_point.ensures.partitioned
    (λ i j d h k below. lt-ltb _ _ (omega (arith, s.rise i j h k, ltb-true _ _ below, get_or_default_zero words i d (omega arith), get_or_default_zero words j d k)))
    (λ a r q k. search rules) in
    record {
      inside = c.partition_point.ensures.bound;
      low = λ i h. ltb-true _ _ (p.0 i 0 (omega arith) h);
      high = λ i h k. ltb-false _ _ (p.1 i 0 h k);
    }
