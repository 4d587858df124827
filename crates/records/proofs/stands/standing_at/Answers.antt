-- The first of the ages is that of the record at place i. It stands as the laws of `Last` say, by what it says and the last place of its chunk: its own, and
-- then it is the newest of its kind; or a later one, whose age is among those behind.
use mathlib.Core.Path.{◌∙◌}
use native.Mathlib.Omega.{arith}
use lib.ListN.{length}
use Rattle.page.specs.Records.{record_at}
use Rattle.page.proofs.Lengths.{opened_pages}
use Rattle.chunk.specs.Takes.{seen_by}
use Rattle.records.specs.Written.{written}
use Rattle.records.proofs.Last.{rest_said, rest_inside, rest_at, has_its, ByLast, by_last}
use Rattle.records.proofs.Accepted.{seen_chunk}
use Rattle.records.proofs.stands.standing_at.Goals as goal
use Rattle.records.proofs.stands.standing_at.Goals.{After-last_place-q}

pub last_place-q-requires : goal.last_place-q-requires
last_place-q-requires c =
    let a = c.args in
    let r = c.requires in
    let says = seen_by a.t (record_at a.g a.dump.now) in
    rw (r.places_value, c.chunk_of.ensures, rest_said (written says a.o.0 a.pages) a.ages.now a.i r.ages_value says c.value_of.ensures c.seen_at-r.ensures)
    (has_its says a.o.0 a.pages (opened_pages a.g (length a.dump.now) a.pages r.dump_value) (seen_chunk a.g a.dump.now a.t) a.i r.i_in_bounds)

-- the last place of its chunk says how it stands
last : (c : After-last_place-q) → let a = c.args in
    ByLast (seen_by a.t (record_at a.g a.dump.now)) a.o.0 a.pages (opened_pages a.g (length a.dump.now) a.pages c.requires.dump_value) (seen_chunk a.g a.dump.now a.t)
    a.g.layout.«data» a.i c.seen_at-r.result c.last_place-q.result
last c =
    let a = c.args in
    let r = c.requires in
    let says = seen_by a.t (record_at a.g a.dump.now) in
    by_last says a.o.0 a.pages (opened_pages a.g (length a.dump.now) a.pages r.dump_value) (seen_chunk a.g a.dump.now a.t) a.g.layout.«data» a.i r.i_in_bounds
    c.seen_at-r.result c.last_place-q.result
    (rest_said (written says a.o.0 a.pages) a.ages.now a.i r.ages_value says c.value_of.ensures c.seen_at-r.ensures)
    (rw (← c.chunk_of.ensures, ← r.places_value) c.last_place-q.ensures)

pub copy_standing-requires-clause-pages_value : goal.copy_standing-requires-clause-pages_value
copy_standing-requires-clause-pages_value c = (last (goal.at.copy_standing-requires-clause-pages_value c).After-last_place-q).copy _ c.in-Data.is c.if-q-i-2.true

pub overflow_sub-q : goal.overflow_sub-q
overflow_sub-q c = omega (arith, ((last (goal.at.overflow_sub-q c).After-last_place-q).behind c.if-q-i-2.false).0)

pub bounds-ages-q : goal.bounds-ages-q
bounds-ages-q c =
    let a = c.args in
    let b = (last (goal.at.bounds-ages-q c).After-last_place-q).behind c.if-q-i-2.false in
    omega (arith, rest_inside (written (seen_by a.t (record_at a.g a.dump.now)) a.o.0 a.pages) a.ages.now a.i c.requires.ages_value c.last_place-q.result b.0 b.1)

pub returns-in-Other : goal.returns-in-Other
returns-in-Other c = (last (goal.at.returns-in-Other c).After-last_place-q).other c.in-Other.is

pub returns-in-Header : goal.returns-in-Header
returns-in-Header c = (last (goal.at.returns-in-Header c).After-last_place-q).newest _ c.in-Header.is c.if-q-i.true

pub returns-in-Header-2 : goal.returns-in-Header-2
returns-in-Header-2 c = (last (goal.at.returns-in-Header-2 c).After-last_place-q).older _ c.in-Header-2.is c.if-q-i.false

pub returns-in-Data : goal.returns-in-Data
returns-in-Data c = c.copy_standing.ensures ∙ (last (goal.at.returns-in-Data c).After-last_place-q).stands _ c.in-Data.is c.if-q-i-2.true

pub returns-in-Data-2 : goal.returns-in-Data-2
returns-in-Data-2 c =
    let a = c.args in
    let w = last (goal.at.returns-in-Data-2 c).After-last_place-q in
    rw (
      c.value_of-in-Data-2.ensures,
      rest_at (written (seen_by a.t (record_at a.g a.dump.now)) a.o.0 a.pages) a.ages.now a.i c.requires.ages_value c.last_place-q.result (w.behind c.if-q-i-2.false).0,
    ) (w.superseded _ c.in-Data-2.is c.if-q-i-2.false)
