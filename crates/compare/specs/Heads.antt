-- For the code alone: the newest header of an object by a list of its records, the newest first, with the largest end of the data above it. What it
-- says of the object is in Sides.
use Rattle.std.specs.Prelude.{ℕ, max, List, [], ◌∷◌, Option, Some, None}
use Rattle.page.specs.Choice.{pick}
use Rattle.page.specs.Records.{is_header}
use Rattle.page.specs.declared.record.Record.{Record}
use Rattle.chunk.specs.Records.{is_gone, is_file, file_size}
use Rattle.chunk.specs.Sizes.{end_of}
use Rattle.compare.specs.declared.head.Top.{Top}

-- the page of an object's newest header and the largest end of the data above it, if it has one
abbrev pub Head : Type 0
Head = Option Top

abbrev pub At : (page end : ℕ) → Head
At p end = Some (record { page = record { 0 = p }; end = end })

-- the first header of a list of pages, with the largest end so far
unfoldable pub head_from : (says : ℕ → Record) (P end : ℕ) (pages : List ℕ) → Head
head_from says P end [] = None
head_from says P end (p ∷ rest) = let on = head_from says P (max (end_of P (says p)) end) rest in pick (is_header (says p)) (At p end) on

-- its page
abbrev pub page_of : Head → Option ℕ
page_of None = None
page_of (Some q) = Some q.page.0

-- the size of the object, if it is a live file
abbrev pub size_by : (says : ℕ → Record) → Head → Option ℕ
size_by says None = None
size_by says (Some q) =
    pick (is_gone (says q.page.0)) None
    (pick (is_file (says q.page.0)) (Some (max (file_size (says q.page.0)) q.end))
    None)
