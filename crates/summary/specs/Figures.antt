-- What the report of a dump says (document 01, "The shelf dump W").
use Rattle.std.specs.Prelude.{ℕ, List, length, Result, Ok, Err}
use Rattle.page.specs.declared.layout.Layout.{Layout}
use Rattle.page.specs.declared.refusal.Refusal.{Refusal}
use Rattle.page.specs.Counts.{counts_below}
use Rattle.page.specs.Find.{find_of}
use Rattle.page.specs.Lengths.{geometry_of, page_count, opened_of}
use Rattle.page.specs.Records.{record_at}
use Rattle.page.specs.declared.geometry.Geometry.{Geometry}
use Rattle.chunk.specs.Answers.{on_pages}
use Rattle.chunk.specs.Live.{object_count, live_count}
use Rattle.summary.specs.declared.figures.Figures.{Figures}

-- the figures of a dump of so many pages
unfoldable pub figures_at : Geometry → (dump : List ℕ) (pages : ℕ) → Figures
figures_at g dump n = record {
  geometry = g;
  pages = n;
  counts = counts_below g dump n;
  objects = object_count (record_at g dump) n;
  live = live_count (record_at g dump) n;
}

-- those under a layout that was found, or why none was
unfoldable pub figured_by : Result Layout Refusal → (dump : List ℕ) (k : ℕ) → Result Figures Refusal
figured_by (Err r) dump k = Err r
figured_by (Ok l) dump k = let g = geometry_of l k in Ok (figures_at g dump (page_count g (length dump)))

-- those of a dump in blocks of k pages
unfoldable pub figured_of : (dump : List ℕ) (k : ℕ) → Result Figures Refusal
figured_of dump k = figured_by (find_of dump k) dump k

-- those of a dump that is read so, or why it is refused
unfoldable pub figured_on : Geometry → List ℕ → Result Figures Refusal
figured_on g dump = on_pages (λ r. Err r) (λ n. Ok (figures_at g dump n)) (opened_of g (length dump))
