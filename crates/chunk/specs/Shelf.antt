-- The twelve marked cases of document 01, as one table: what the definitions say, and what the paper says.
use Rattle.std.specs.Prelude.{ℕ, List, ◌∷◌, map, eqb}
use Rattle.page.specs.Choice.{pick}
use Rattle.page.specs.Records.{record_of, record_at}
use Rattle.page.specs.Shelf.{shelf_geometry, shelf, page_cases, kind_in}
use Rattle.page.specs.declared.record.Record.{Record}
use Rattle.page.specs.declared.kind.Kind.{Kind}
use Rattle.page.specs.declared.kind.Kind.TheVariants.{Blank}
use Rattle.page.specs.declared.refusal.Refusal.TheVariants.{PastEnd, NoObject}
use Rattle.chunk.specs.Lookups.{sized_of, looked_of}
use Rattle.chunk.specs.Answers.{size_on, chunk_on}
use Rattle.chunk.specs.Sized.{Sized}
use Rattle.chunk.specs.Sized as sized
use Rattle.chunk.specs.Looked.{Looked}
use Rattle.chunk.specs.Looked as looked

-- an answer of a marked case: a size, a chunk or the kind of a page
pub data Answer : Type 0 where
  size : Sized → Answer
  chunk : Looked → Answer
  kind : Kind → Answer

-- page p read as blank
abbrev pub without : (page : ℕ) (says : ℕ → Record) → ℕ → Record
without p says i = pick (eqb i p) (record_of Blank) (says i)

-- by the definitions: cases 1 to 5 on W, 6 and 7 on W without pages, 8 to 11 on single pages, 12
unfoldable pub answers : List Answer
answers =
    size (size_on shelf_geometry shelf 257) ∷
    chunk (chunk_on shelf_geometry shelf 257 1) ∷
    chunk (chunk_on shelf_geometry shelf 257 2) ∷
    chunk (chunk_on shelf_geometry shelf 257 3) ∷
    chunk (chunk_on shelf_geometry shelf 257 4) ∷
    chunk (looked_of (without 5 (record_at shelf_geometry shelf)) 257 8 512 1) ∷
    size (sized_of (without 6 (without 5 (record_at shelf_geometry shelf))) 257 8 512) ∷
    chunk (looked_of (without 6 (without 5 (record_at shelf_geometry shelf))) 257 8 512 2) ∷
    size (size_on shelf_geometry shelf 258) ∷
    map kind (map kind_in page_cases)

-- by the paper
unfoldable pub expected : List Answer
expected =
    size (sized.Size 1034 3) ∷
    chunk (looked.Copy (record { 0 = 5 }) 300 512 3) ∷
    chunk (looked.Hole 512 7) ∷
    chunk (looked.Copy (record { 0 = 6 }) 10 10 3) ∷
    chunk (looked.Refused PastEnd 3 0) ∷
    chunk (looked.Copy (record { 0 = 1 }) 300 512 5) ∷
    size (sized.Size 300 1) ∷
    chunk (looked.Refused PastEnd 1 0) ∷
    size (sized.Refused NoObject 0) ∷
    map kind (map (λ c. c.kind) page_cases)
