-- What each call on a dump answers (document 01, the refusal table and "Newest, size and cuts").
use Rattle.std.specs.Prelude.{ℕ, ◌&&◌, List, [], ◌++◌, length, take, drop, replicate, ltb, leb, Result, Ok, Err}
use Rattle.page.specs.Choice.{pick}
use Rattle.page.specs.Lengths.{opened_of, page_in}
use Rattle.page.specs.Pages.{page_at}
use Rattle.page.specs.Records.{record_at}
use Rattle.page.specs.declared.geometry.Geometry.{Geometry}
use Rattle.page.specs.declared.refusal.Refusal.{Refusal}
use Rattle.page.specs.declared.refusal.Refusal.TheVariants.{ShortBuffer}
use Rattle.chunk.specs.Lookups.{sized_of, looked_of}
use Rattle.chunk.specs.Sized.{Sized}
use Rattle.chunk.specs.Sized as sized
use Rattle.chunk.specs.Looked.{Looked}
use Rattle.chunk.specs.Looked as looked
use Rattle.chunk.specs.Looked.{shown_in, visits_in}

-- an answer about an accepted dump, by its number of pages; a refused dump is refused before anything else
abbrev pub on_pages : {A : Type 0} → (Refusal → A) → (ℕ → A) → Result ℕ Refusal → A
on_pages refuse answer (Err r) = refuse r
on_pages refuse answer (Ok n) = answer n

module _ (g : Geometry) (dump : List ℕ) (o : ℕ) where
  -- the size of object o
  unfoldable pub size_on : Sized
  size_on = on_pages (λ r. sized.Refused r 0) (λ n. sized_of (record_at g dump) o n g.layout.«data») (opened_of g (length dump))

  -- chunk c of object o
  unfoldable pub chunk_on : ℕ → Looked
  chunk_on c = on_pages (λ r. looked.Refused r 0 0) (λ n. looked_of (record_at g dump) o n g.layout.«data» c) (opened_of g (length dump))

-- a read into a buffer: refused if the buffer is shorter than what would be written, which is the shown length
unfoldable pub read_by : ℕ → Looked → Looked
read_by room (Err e) = Err e
read_by room (Ok x) = pick (ltb room (shown_in x)) (looked.Refused ShortBuffer (visits_in x) (shown_in x)) (Ok x)

-- the first bytes of the data on page p; none where the page is not in the dump or has not so many
unfoldable pub valid_part : Geometry → (dump : List ℕ) (page valid : ℕ) → List ℕ
valid_part g dump p valid = pick (page_in g (length dump) p && leb valid g.layout.«data») (take valid (page_at g dump p)) []

-- the valid bytes as a part of the dump; an empty part for a hole or a refusal
unfoldable pub part_by : Geometry → List ℕ → Looked → List ℕ
part_by g dump (Err e) = []
part_by g dump (looked.Hole s v) = []
part_by g dump (looked.Copy p a s v) = valid_part g dump p.0 a

-- a buffer with a part at its begin, zeros behind that up to a length, and the rest as it was
unfoldable pub overlaid : (part : List ℕ) (shown : ℕ) (buffer : List ℕ) → List ℕ
overlaid part shown buffer = take shown (part ++ replicate shown 0) ++ drop shown buffer

-- what a read that is answered so leaves in a buffer: the valid bytes, then zeros up to the shown length; a refused read leaves it as it was
unfoldable pub buffer_by : Geometry → (dump buffer : List ℕ) → Looked → List ℕ
buffer_by g dump buffer (Err e) = buffer
buffer_by g dump buffer (Ok x) = overlaid (part_by g dump (Ok x)) (shown_in x) buffer
