-- Why a byte of a file is what it is (document 02, item 5), over what each page says.
use Rattle.std.specs.Prelude.{ℕ, ◌+◌, ◌-◌, ◌/◌, ◌%◌, Bool, not, ◌&&◌, ◌||◌, List, eqb, ltb, leb, Option, Some, None}
use Rattle.page.specs.Choice.{pick}
use Rattle.page.specs.Numbers.{most_chunk}
use Rattle.page.specs.Search.{first_from}
use Rattle.page.specs.declared.record.Record.{Record}
use Rattle.chunk.specs.Records.{age_of, order_of, sequence_of, header_of, data_of, count_of, file_size}
use Rattle.chunk.specs.Newest.{newest_where, newest_copy}
use Rattle.chunk.specs.Cuts.{cut_of, hides}
use Rattle.chunk.specs.Sizes.{end_of, size_of}
use Rattle.chunk.specs.Live.{passed}
use Rattle.why.specs.Codes.{code_of, row_of}
use Rattle.why.specs.declared.reason.Reason.{Reason}
use Rattle.why.specs.declared.reason.Reason.TheVariants.{Held, NoCopy, Cut, Count, PastEnd}

-- the largest position
abbrev pub last_position : ℕ
last_position = 0xFFFFFFFFFFFFFFFF

-- the number of the chunk that a position lies in, with P data bytes to a page, and the data byte that it is there
abbrev pub chunk_at : (P position : ℕ) → ℕ
chunk_at P x = x / P + 1

abbrev pub byte_at : (P position : ℕ) → ℕ
byte_at P x = x % P

-- the page that a search found, or another
abbrev pub found_or : ℕ → Option ℕ → ℕ
found_or other None = other
found_or other (Some p) = p

-- the copy q at position x where nothing cuts it: its byte count ends before, or it holds the byte
abbrev pub held_by : (says : ℕ → Record) (P page position : ℕ) → Reason
held_by says P q x = pick (leb (count_of (says q)) (byte_at P x)) (Count (record { 0 = q })) (Held (record { 0 = q }) (byte_at P x))

-- whether page p, which says k, sets a size: it is the newest header h, and has it as its file size; or it is data of object o that is newer than an
-- age, and ends there
abbrev pub sets_by : (P object header age size page : ℕ) → Record → Bool
sets_by P o h x size p k =
    (eqb p h && eqb (file_size k) size) || (data_of o k && (ltb x (order_of (sequence_of k) p) && eqb (end_of P k) size))

-- object o of a dump of n pages, a live file whose newest header is h
module _ (says : ℕ → Record) (P o n h : ℕ) where
  -- the copy of the chunk that position x lies in; a chunk numbered above the largest has none
  unfoldable pub copy_for : (position : ℕ) → Option ℕ
  copy_for x = pick (ltb most_chunk (chunk_at P x)) None (newest_copy says o (chunk_at P x) n)

  -- whether page p is a header that cuts at or below position x
  abbrev pub cuts_at : (position page : ℕ) → Bool
  cuts_at x p = header_of o (says p) && hides (cut_of (eqb p h) (says p)) x

  -- the newest of those that are newer than page q
  unfoldable pub cutter : (page position : ℕ) → Option ℕ
  cutter q x = newest_where says (λ p. cuts_at x p && ltb (age_of says q) (age_of says p)) n

  -- the newest page that sets the size
  unfoldable pub setter : ℕ
  setter = found_or h (newest_where says (λ p. sets_by P o h (age_of says h) (size_of says P o h n) p (says p)) n)

  -- the copy q at position x, by the header that cuts it, if one does
  abbrev pub reason_behind : (page position : ℕ) → Option ℕ → Reason
  reason_behind q x (Some p) = Cut (record { 0 = p })
  reason_behind q x None = held_by says P q x

  abbrev pub reason_by : (position : ℕ) → Option ℕ → Reason
  reason_by x None = NoCopy
  reason_by x (Some q) = reason_behind q x (cutter q x)

  -- the reason of position x
  unfoldable pub reason_at : (position : ℕ) → Reason
  reason_at x = pick (leb (size_of says P o h n) x) (PastEnd (record { 0 = setter })) (reason_by x (copy_for x))

  -- the reason and its page, as one number
  abbrev pub code_at : (position : ℕ) → ℕ
  code_at x = code_of (reason_at x)

  -- whether the reason or its page changes at position x; at the begin it does
  unfoldable pub changes_at : (position : ℕ) → Bool
  changes_at x = eqb x 0 || not (eqb (code_at (x - 1)) (code_at x))

  -- up to where the reason and page of position x hold: the first later position of the file where either changes, or its end
  unfoldable pub until_of : (position : ℕ) → ℕ
  until_of x = pick (leb (size_of says P o h n) x) last_position (first_from changes_at (x + 1) (size_of says P o h n - (x + 1)))

  -- the spans of the whole file: a row for each position where the reason or its page changes, ascending
  unfoldable pub spans_of : List ℕ
  spans_of = passed changes_at (λ x. row_of x (code_at x)) (size_of says P o h n)
