-- What is no live file, by its records, has no rows. Of a live file the walk along its records gives them, up to its size; the work has room for it, so
-- that it is not refused.
use mathlib.Core.List.{map}
use mathlib.Core.Path.{◌≡◌, sym, ap, ◌∙◌}
use native.Mathlib.Omega.{arith}
use lib.ListN.{length, take, length-map}
use Rattle.page.specs.Records.{record_at}
use Rattle.sort.specs.Packed.{value_of}
use Rattle.index.specs.Held.{from_list}
use Rattle.index.specs.Walks.{size_walk}
use Rattle.file.specs.Along.{shown_by}
use Rattle.file.specs.Copies.{packed_copy}
use Rattle.file.proofs.Listing.{along_few, along_rows, along_left_lem}
use Rattle.compare.specs.Heads.{size_by}
use Rattle.compare.specs.Rows.{rows_in}
use Rattle.compare.specs.Views.{size_in}
use Rattle.compare.proofs.Filling.{room_front}
use Rattle.compare.proofs.Heads.{head_size}
use Rattle.compare.proofs.rows.rows_of.Goals as goal
use Rattle.compare.proofs.rows.rows_of.Goals.{After-size_of}

found : (k : After-size_of) → size_in (size_walk (record_at k.args.g k.args.dump.now) k.args.g.layout.«data» (from_list (map value_of k.args.list.now))) ≡ k.size_of.result
found k =
    head_size (record_at k.args.g k.args.dump.now) k.args.g.layout.«data» (map value_of k.args.list.now)
    ∙ ap (size_by (record_at k.args.g k.args.dump.now)) (sym k.head_of.ensures)
    ∙ sym k.size_of.ensures

pub returns-in-Some : goal.returns-in-Some
unfolding rows_in
returns-in-Some c =
    let t = c.args in
    let p = c.requires in
    let z = c.in-Some.size in
    let L = shown_by t.g t.dump.now t.list.now z in
    let told = c.copies_along.ensures.value ∙ along_rows t.g t.dump.now t.list.now z t.pages t.work.now p.dump_value p.list_len_bound (omega (arith, p.list_in_bounds)) in
    let m : c.unwrap_or.result ≡ length L = rw told at c.unwrap_or.ensures in
    let few = along_few (record_at t.g t.dump.now) t.g.layout.«data» z (map value_of t.list.now) in record {
      upper_bound = omega (arith, m, few, length-map t.list.now value_of);
      work_after = rw (found (goal.at.returns-in-Some c).After-size_of, c.in-Some.is)
          (ap (take c.unwrap_or.result)
          (c.copies_along.ensures.rows_after
          ∙ along_left_lem t.g t.dump.now t.list.now z t.pages t.work.now p.dump_value p.list_len_bound (omega (arith, p.list_in_bounds)))
          ∙ room_front (map packed_copy L) _ _ _ (m ∙ sym (length-map L packed_copy)));
    }
