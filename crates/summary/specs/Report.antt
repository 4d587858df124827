-- The report as a text (document 01, "The shelf dump W"): ten lines, or the one line of a refusal.
use Rattle.std.specs.Prelude.{ℕ, List, ◌++◌, Result, Ok, Err}
use Rattle.page.specs.Refusals.{refusal_number}
use Rattle.page.specs.declared.count.Counts.{Counts}
use Rattle.page.specs.declared.layout.Layout.{Layout}
use Rattle.page.specs.declared.refusal.Refusal.{Refusal}
use Rattle.text.specs.Lines.{field_of, line_of}
use Rattle.text.specs.Quoted.{bytes_of}
use Rattle.summary.specs.Figures.{figured_of}
use Rattle.summary.specs.declared.figures.Figures.{Figures}

-- the layout as P/S/T
unfoldable pub layout_line : Layout → List ℕ
layout_line l = field_of (bytes_of "layout=") l.«data» ++ field_of (bytes_of "/") l.spare ++ line_of (bytes_of "/") l.tag

-- how many pages are of each kind
unfoldable pub kind_lines : Counts → List ℕ
kind_lines c =
    line_of (bytes_of "blank=") c.blank ++
    line_of (bytes_of "foreign=") c.foreign ++
    line_of (bytes_of "damaged=") c.damaged ++
    line_of (bytes_of "headers=") c.headers ++
    line_of (bytes_of "data=") c.«data»

-- the ten lines
unfoldable pub ten_lines : Figures → List ℕ
ten_lines f =
    layout_line f.geometry.layout ++
    line_of (bytes_of "block=") f.geometry.block ++
    line_of (bytes_of "pages=") f.pages ++
    kind_lines f.counts ++
    line_of (bytes_of "objects=") f.objects ++
    line_of (bytes_of "live=") f.live

-- `refusal=` and its number
unfoldable pub refusal_line : Refusal → List ℕ
refusal_line r = line_of (bytes_of "refusal=") (refusal_number r)

-- the text of figures, or of a refusal
unfoldable pub text_of : Result Figures Refusal → List ℕ
text_of (Ok f) = ten_lines f
text_of (Err r) = refusal_line r

-- the report of a dump in blocks of k pages
unfoldable pub report_of : (dump : List ℕ) (k : ℕ) → List ℕ
report_of dump k = text_of (figured_of dump k)

-- the most bytes of a report
abbrev pub longest : ℕ
longest = 199
