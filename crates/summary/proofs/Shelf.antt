-- The report of W, letter by letter as document 01 has it: computed from the definitions. What W's pages are is known from the crate of pages.
use mathlib.Core.Path.{◌≡◌, sym, ◌∙◌}
use Rattle.std.specs.Prelude.{Ok}
use lib.ListN.{length}
use Rattle.page.specs.Counts.{counts_below}
use Rattle.page.specs.Lengths.{opened_of}
use Rattle.page.specs.Records.{record_at}
use Rattle.page.specs.Search.{count}
use Rattle.page.specs.Shelf.{shelf_geometry, shelf, shelf_kinds}
use Rattle.page.proofs.Counting.{counted_pages}
use Rattle.page.proofs.Marked as pages
use Rattle.chunk.specs.Gather.{gather}
use Rattle.chunk.specs.Live.{object_count, live_count}
use Rattle.chunk.specs.Newest.{newest_where, since}
use Rattle.text.specs.Decimal.{digits, decimal}
use Rattle.text.specs.Lines.{field_of, line_of}
use Rattle.text.specs.Quoted.{bytes_of}
use Rattle.summary.specs.Figures.{figures_at, figured_by, figured_of}
use Rattle.summary.specs.Report.{layout_line, kind_lines, ten_lines, text_of, report_of}

counts : counts_below shelf_geometry shelf 8 ≡ record { blank = 1; foreign = 0; damaged = 0; headers = 3; «data» = 4 }
counts =
    let opened : opened_of shelf_geometry (length shelf) ≡ Ok 8 = rw (pages.marked).shelf_length (pages.marked).shelf_opened in
    let e = sym (counted_pages shelf_geometry shelf 8 opened) ∙ (pages.marked).shelf_counts in
    cc

objects : object_count (record_at shelf_geometry shelf) 8 ≡ 1
unfolding object_count since gather count shelf_kinds
objects = rw pages.shelf_says

live : live_count (record_at shelf_geometry shelf) 8 ≡ 1
unfolding live_count newest_where gather count shelf_kinds
live = rw pages.shelf_says

pub shelf_report :
    report_of shelf 4 ≡ bytes_of "layout=512/16/0\nblock=4\npages=8\nblank=1\nforeign=0\ndamaged=0\nheaders=3\ndata=4\nobjects=1\nlive=1\n"
unfolding report_of text_of figured_of figured_by figures_at ten_lines layout_line kind_lines line_of field_of decimal digits
shelf_report = rw (pages.shelf_found, (pages.marked).shelf_length, counts, objects, live)
