-- The walk lands on a page of the dump, and the chain below that page is what is left; the records above it and those are the whole chain.
use mathlib.Core.Path.{sym}
use Rattle.std.specs.Prelude.{None}
use native.Mathlib.Omega.{arith}
use Rattle.page.specs.Records.{record_at}
use Rattle.chunk.specs.Records.{age_of}
use Rattle.index.specs.Chains.{objects, top}
use Rattle.index.specs.Walks.{chunk_walk, under}
use Rattle.index.proofs.Chain.Turns.{few, lands}
use Rattle.index.proofs.Walk.Visits.{reach_visits}
use Rattle.index.proofs.lookups.chunk_walk.Goals as goal

pub chunk_file-requires : goal.chunk_file-requires
chunk_file-requires c =
    let a = c.args in
    let says = record_at a.g a.dump.now in
    let t = under says a.pages a.cells.now a.o.0 top a.first in
    let e = sym c.in_ok-page.ensures in
    let d = rw e at (lands says a.pages a.cells.now a.o.0 a.g.layout.«data» a.c.0 top a.first) in
    let v = rw (e, d.1) at (reach_visits says a.g.layout.«data» a.c.0 t 0 None 0) in
    omega (arith, v, few a.pages (objects says) (age_of says) a.cells.now a.o.0 top a.first)

pub returns : goal.returns
unfolding chunk_walk
returns c =
    let a = c.args in
    let says = record_at a.g a.dump.now in
    let e = sym c.in_ok-page.ensures in
    let d = rw e at (lands says a.pages a.cells.now a.o.0 a.g.layout.«data» a.c.0 top a.first) in
    rw (e, d.1) c.chunk_file.ensures
