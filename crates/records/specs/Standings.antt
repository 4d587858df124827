-- How each record of an object stands, by the rules of document 01 and the reasons of document 02, item 5, over what each page says.
use Rattle.std.specs.Prelude.{ℕ, eqb, Option, Some, None, Err}
use Rattle.page.specs.Choice.{pick}
use Rattle.page.specs.declared.record.Record.{Record}
use Rattle.page.specs.declared.record.Record.TheVariants.{Other, Header, Data}
use Rattle.chunk.specs.Live.{is_at}
use Rattle.chunk.specs.Lookups.{looked_of}
use Rattle.chunk.specs.Newest.{newest_header, newest_copy}
use Rattle.chunk.specs.Records.{base_of}
use Rattle.chunk.specs.Looked.{Looked}
use Rattle.chunk.specs.Looked as looked
use Rattle.why.specs.Reasons.{cutter}
use Rattle.records.specs.declared.standing.Standing.{Standing}
use Rattle.records.specs.declared.standing.Standing.TheVariants.{NewestHeader, OlderHeader, Superseded, Cut, Holds, NoFile}

-- the newest copy of chunk c, by the lookup of the chunk: it holds as many bytes as are valid; where the lookup finds no copy, the object is no live file
abbrev pub held_by : (chunk : ℕ) → Looked → Standing
held_by c (looked.Copy q a s v) = Holds (record { 0 = c }) a
held_by c (looked.Hole s v) = NoFile
held_by c (Err e) = NoFile

-- object o of a dump of n pages, with P data bytes to a page
module _ (says : ℕ → Record) (P o n : ℕ) where
  -- the newest of the headers later than page p that cut at or below the begin of chunk c, where the object has a newest header
  abbrev pub cut_by : (page chunk : ℕ) → Option ℕ → Option ℕ
  cut_by p c None = None
  cut_by p c (Some h) = cutter says P o n h p (base_of P c)

  -- the newest copy of chunk c, by the header that cuts it, if one does
  abbrev pub copy_stands : (chunk : ℕ) → Option ℕ → Standing
  copy_stands c (Some h) = Cut (record { 0 = h })
  copy_stands c None = held_by c (looked_of says o n P c)

  -- page p, a copy of chunk c, by the newest copy of that chunk
  abbrev pub data_stands : (page chunk : ℕ) → Option ℕ → Standing
  data_stands p c None = NoFile
  data_stands p c (Some q) = pick (eqb q p) (copy_stands c (cut_by p c (newest_header says o n))) (Superseded (record { 0 = q }))

  -- page p, which says k
  unfoldable pub stands_by : (page : ℕ) → Record → Standing
  stands_by p Other = NoFile
  stands_by p (Header k) = pick (is_at p (newest_header says o n)) NewestHeader OlderHeader
  stands_by p (Data d) = data_stands p d.chunk.0 (newest_copy says o d.chunk.0 n)

  -- how page p stands
  abbrev pub stands_of : (page : ℕ) → Standing
  stands_of p = stands_by p (says p)
