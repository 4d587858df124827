-- What the lookups of an object answer (document 01, "Newest, size and cuts", "Index" for the visits, and the refusal table), over what each page says.
use Rattle.std.specs.Prelude.{ℕ, ◌-◌, min, eqb, leb, Option, Some, None, Ok, Err}
use Rattle.page.specs.Choice.{pick}
use Rattle.page.specs.Numbers.{bad_object, bad_chunk}
use Rattle.page.specs.declared.record.Record.{Record}
use Rattle.page.specs.declared.refusal.Refusal.TheVariants.{BadObject, BadChunk, NoObject, NoHeader, Deleted, NotAFile, PastEnd}
use Rattle.chunk.specs.Records.{age_of, is_gone, is_file, count_of, base_of}
use Rattle.chunk.specs.Newest.{newest_header, newest_copy, records}
use Rattle.chunk.specs.Cuts.{lowest_cut, hides, leaves}
use Rattle.chunk.specs.Sizes.{size_of}
use Rattle.chunk.specs.Visits.{copy, hole, headless, headed, visits}
use Rattle.chunk.specs.File.{File}
use Rattle.chunk.specs.File as file
use Rattle.chunk.specs.Sized.{Sized}
use Rattle.chunk.specs.Sized as sized
use Rattle.chunk.specs.Looked.{Looked}
use Rattle.chunk.specs.Looked as looked

-- what an object is whose newest header h says k, with the visits down to it: deleted, no file, or a live file
unfoldable pub file_at : Record → (header visits : ℕ) → File
file_at k h v =
    pick (is_gone k) (file.Refused Deleted v)
    (pick (is_file k) (file.Header (record { 0 = h }) v)
    (file.Refused NotAFile v))

-- how many bytes of chunk c a file of a size shows, with P data bytes to a page: as many as a page has, or as the size leaves
abbrev pub shown_of : (P chunk size : ℕ) → ℕ
shown_of P c size = min P (size - base_of P c)

-- how many bytes of a copy of chunk c that says k are valid: its byte count, no more than shown, and none behind a later cut
abbrev pub valid_of : (P chunk : ℕ) → Record → (shown : ℕ) → Option ℕ → ℕ
valid_of P c k shown cut = min (count_of k) (leaves cut (base_of P c) shown)

-- object o of a dump of n pages
module _ (says : ℕ → Record) (o n : ℕ) where
  -- by its newest header, if it has one
  unfoldable pub file_by : Option ℕ → File
  file_by None = file.Refused NoHeader (visits says o n headless)
  file_by (Some h) = file_at (says h) h (visits says o n (headed h))

  -- the live file that object o is, if it is one
  unfoldable pub file_of : File
  file_of = pick (eqb (records says o n) 0) (file.Refused NoObject 0) (file_by (newest_header says o n))

  module _ (P : ℕ) where
    -- the size of a live file
    unfoldable pub sized_by : File → Sized
    sized_by (Err e) = sized.Refused e.answer e.visits
    sized_by (Ok x) = sized.Size (size_of says P o x.answer.0 n) x.visits

    -- a size lookup
    unfoldable pub sized_of : Sized
    sized_of = pick (bad_object o) (sized.Refused BadObject 0) (sized_by file_of)

    module _ (c : ℕ) where
      -- the copy q of a live file with newest header h: hidden, and so a hole, if a later header cuts at or below the chunk's begin
      unfoldable pub copy_at : (header shown page : ℕ) → Looked
      copy_at h shown q =
          let cut = lowest_cut says o h (age_of says q) n in
          pick (hides cut (base_of P c)) (looked.Hole shown (visits says o n hole))
          (looked.Copy (record { 0 = q }) (valid_of P c (says q) shown cut) shown (visits says o n (copy h q)))

      -- by the copy, if there is one
      unfoldable pub copy_by : (header shown : ℕ) → Option ℕ → Looked
      copy_by h shown None = looked.Hole shown (visits says o n hole)
      copy_by h shown (Some q) = copy_at h shown q

      -- chunk c of a live file of a size, which ends before it or not
      unfoldable pub chunk_by : (header visits size : ℕ) → Looked
      chunk_by h v size = pick (leb size (base_of P c)) (looked.Refused PastEnd v 0) (copy_by h (shown_of P c size) (newest_copy says o c n))

      unfoldable pub looked_by : File → Looked
      looked_by (Err e) = looked.Refused e.answer e.visits 0
      looked_by (Ok x) = chunk_by x.answer.0 x.visits (size_of says P o x.answer.0 n)

      -- a chunk lookup
      unfoldable pub looked_of : Looked
      looked_of = pick (bad_object o) (looked.Refused BadObject 0 0) (pick (bad_chunk c) (looked.Refused BadChunk 0 0) (looked_by file_of))
