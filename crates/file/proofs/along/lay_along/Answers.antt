-- The first walk puts nothing and counts the copies that are met; the second puts them all. Their keys are sorted, and so the rows of the newest are
-- gathered.
use Prim.Native.Nat.{◌<◌}
use Rattle.std.specs.Prelude.{None}
use mathlib.Core.Bool.{true}
use mathlib.Core.List.{map}
use mathlib.Core.Path.{◌≡◌}
use native.Mathlib.Omega.{arith}
use lib.ListN.{length, take}
use lib.Seq.{length-take-le}
use Rattle.page.specs.Records.{record_at}
use Rattle.sort.specs.Packed.{word_values, value_of}
use Rattle.index.specs.Held.{from_list}
use Rattle.file.specs.Along.{met_on}
use Rattle.file.specs.Copies.{room_for}
use Rattle.file.specs.Table.{chunks_in}
use Rattle.file.proofs.Arranged.{put_long, put_below, put_gathered}
use Rattle.file.proofs.Listing.{along_gathered}
use Rattle.file.proofs.Shown.{met_some}
use Rattle.file.proofs.along.lay_along.Goals as goal
use Rattle.file.proofs.along.lay_along.Goals.{After-walk_along}

few : (w : After-walk_along) → length (let a = w.args in met_on (record_at a.g a.dump.now) a.g.layout.«data» a.size (map value_of a.list.now)) < word_values
few w = omega (arith, w.walk_along-n.ensures.value, w.walk_along-n.ensures.upper_bound, w.requires.list_len_bound)

words : (w : After-walk_along) → length (take w.words_of.result w.args.rows.now) ≡ w.words_of.result
words w = length-take-le _ _ (omega (arith, w.walk_along-n.ensures.upper_bound, w.requires.list_in_bounds, w.words_of.ensures))

-- there is room for all
room : (w : After-walk_along) → length (take w.words_of.result w.args.rows.now) ≡ room_for (length (let a = w.args in met_on (record_at a.g a.dump.now) a.g.layout.«data» a.size (map value_of a.list.now)))
room w = omega (arith, words w, w.walk_along-n.ensures.value, w.words_of.ensures)

pub gather-requires : goal.gather-requires
gather-requires c = let w = (goal.at.gather-requires c).After-walk_along in put_below _ _ (room w) (few w) _ c.walk_along.ensures.rows_after

pub returns : goal.returns
returns c =
    let w = (goal.at.returns c).After-walk_along in
    let a = c.args in
    let says = record_at a.g a.dump.now in
    let P = a.g.layout.«data» in
    let L = map value_of a.list.now in
    let f =
    put_gathered _ _ (room w) (few w) _ c.walk_along.ensures.rows_after (met_some says P (chunks_in P a.size) a.size (from_list L) true None)
    _ _ c.gather.ensures.value c.gather.ensures.rows_after in
    let e = along_gathered says P a.size L c.walk_along-n.result _ a.rows.now _ c.walk_along-n.ensures.value f.0 (rw (words w, c.words_of.ensures) at f.1) in
    record {
      value = e.0;
      upper_bound = omega (arith, c.gather.ensures.upper_bound, put_long _ _ (room w) (few w) _ c.walk_along.ensures.rows_after, words w, c.words_of.ensures, c.walk_along-n.ensures.upper_bound);
      rows_after = rw c.words_of.ensures e.1;
    }
