-- The loop's invariant is `Listed`: the ages of the records passed stand in front of the words. All of them fill the words, as there are as many words
-- as records; sorted they are `written`.
use Rattle.page.specs.Records.{record_at}
use Rattle.chunk.specs.Records.{age_of}
use Rattle.chunk.specs.Takes.{seen_by}
use Rattle.chunk.proofs.Sorting.{Listed}
use Rattle.records.specs.Written.{is_record}
use Rattle.records.proofs.written.fill_ages.Given as goal

abbrev pub invariant-loop-i : goal.invariant-loop-i
invariant-loop-i l =
    let says = seen_by l.t (record_at l.g l.dump) in
    Listed (is_record says l.o.0) (age_of says) l.initial.words l.words l.at l.i
