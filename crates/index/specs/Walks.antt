-- Lookups down the chain of an object, on any chain (document 01, "Index" for the visits, and the refusal table). A lookup visits records from
-- the newest on, and meets the links that lead to them; v counts the records visited.
use Rattle.std.specs.Prelude.{ℕ, suc, ◌+◌, max, Bool, true, false, not, ◌&&◌, List, length, eqb, ltb, leb, Option, Some, None, Ok, Err}
use Rattle.page.specs.declared.number.PageNumber.{PageNumber}
use Rattle.page.specs.Choice.{pick}
use Rattle.page.specs.Records.{is_header, record_of, record_at}
use Rattle.page.specs.Lengths.{opened_of}
use Rattle.page.specs.Numbers.{bad_object, bad_chunk}
use Rattle.page.specs.declared.record.Record.{Record}
use Rattle.page.specs.declared.kind.Kind.TheVariants.{Blank}
use Rattle.page.specs.declared.geometry.Geometry.{Geometry}
use Rattle.page.specs.declared.refusal.Refusal.TheVariants.{BadObject, BadChunk, NoObject, NoHeader, PastEnd, ShortIndex, IndexDamaged}
use Rattle.chunk.specs.Records.{age_of, is_copy, file_size, base_of}
use Rattle.chunk.specs.Cuts.{cut_of, lower, hides}
use Rattle.chunk.specs.Sizes.{end_of}
use Rattle.chunk.specs.Lookups.{file_at, shown_of, valid_of}
use Rattle.chunk.specs.Answers.{on_pages}
use Rattle.chunk.specs.File.{File}
use Rattle.chunk.specs.Sized.{Sized}
use Rattle.chunk.specs.Sized as sized
use Rattle.chunk.specs.Looked.{Looked}
use Rattle.chunk.specs.Looked as looked
use Rattle.index.specs.Cells.{cells_for, word, link_at}
use Rattle.index.specs.Chains.{objects, Trace, clean, broken, rec, trace, chain}
use Rattle.index.specs.Reached.{Reached}
use Rattle.index.specs.Reached as reached

-- what the pages say, with those not yet added read as blank
abbrev pub seen_says : (ℕ → Record) → (ℕ → Bool) → ℕ → Record
seen_says says added p = pick (added p) (says p) (record_of Blank)

-- how many records a chain has
unfoldable pub records_in : Trace → ℕ
records_in clean = 0
records_in broken = 0
records_in (rec q t) = suc (records_in t)

-- the records that a lookup reports visiting
abbrev pub size_visits : Sized → ℕ
size_visits (Ok x) = x.visits
size_visits (Err e) = e.visits

abbrev pub chunk_visits : Looked → ℕ
chunk_visits (looked.Copy p a s v) = v
chunk_visits (looked.Hole s v) = v
chunk_visits (Err e) = e.visits

-- a chain that ends before a header was met: no record at all, or data records only
abbrev pub headless : ℕ → Reached
headless v = pick (eqb v 0) (reached.Refused NoObject 0) (reached.Refused NoHeader v)

-- the first copy met of a chunk, with page q too, which is one or not
abbrev pub met_by : (isOne : Bool) (page : ℕ) → Option PageNumber → Option PageNumber
met_by isOne q (Some p) = Some p
met_by isOne q None = pick isOne (Some (record { 0 = q })) None

-- the size of a live file
abbrev pub size_file : (size : ℕ) → File → Sized
size_file size (Err e) = Err e
size_file size (Ok x) = sized.Size size x.visits

module _ (says : ℕ → Record) where
  -- what is left of a chain behind its newest header
  unfoldable pub behind : Trace → Trace
  behind clean = clean
  behind broken = broken
  behind (rec q t) = pick (is_header (says q)) t (behind t)

  -- the size that the newest header h gives, with the largest end of the data above it
  abbrev pub size_at : (header end : ℕ) → ℕ
  size_at h end = max (file_size (says h)) end

  -- the size by what was reached
  unfoldable pub size_reached : Reached → Sized
  size_reached (Err e) = Err e
  size_reached (Ok x) = size_file (size_at x.page.0 x.end) (file_at (says x.page.0) x.page.0 x.visits)

  -- the lowest cut, with page q too, which is the newest header or not
  abbrev pub cut_by : (isNewest : Bool) (page : ℕ) → Option ℕ → Option ℕ
  cut_by isNewest q cut = pick (is_header (says q)) (lower (cut_of isNewest (says q)) cut) cut

  module _ (P c : ℕ) where
    -- the first copy met of chunk c, with page q too
    abbrev pub met_with : (page : ℕ) → Option PageNumber → Option PageNumber
    met_with q m = met_by (is_copy c (says q)) q m

    -- down to the newest header, with the largest end of data and the first copy met so far
    unfoldable pub reach : (end : ℕ) → Option PageNumber → (visits : ℕ) → Trace → Reached
    reach end m v clean = headless v
    reach end m v broken = reached.Refused IndexDamaged 0
    reach end m v (rec q t) =
        pick (is_header (says q)) (reached.Header (record { 0 = q }) end m (v + 1))
        (reach (max (end_of P (says q)) end) (met_with q m) (v + 1) t)

    -- page q is the copy of chunk c, where `cut` is the lowest cut of newer headers
    abbrev pub found : (shown : ℕ) → Option ℕ → (page visits : ℕ) → Looked
    found shown cut q v = looked.Copy (record { 0 = q }) (valid_of P c (says q) shown cut) shown v

    -- whether page q is a copy of chunk c that the lowest cut of newer headers does not hide
    abbrev pub is_shown : (Option ℕ) → (page : ℕ) → Bool
    is_shown cut q = is_copy c (says q) && not (hides cut (base_of P c))

    -- below the newest header, down to the first copy that is not hidden. What hides a copy hides all older ones too, so that behind a hidden
    -- copy there is none to be found; for a hole every record is visited
    unfoldable pub seek : (shown : ℕ) → Option ℕ → (visits : ℕ) → Trace → Looked
    seek shown cut v clean = looked.Hole shown v
    seek shown cut v broken = looked.Refused IndexDamaged 0 0
    seek shown cut v (rec q t) = pick (is_shown cut q) (found shown cut q (v + 1)) (seek shown (cut_by false q cut) (v + 1) t)

    -- the copy that was met above the newest header h, where nothing cuts, or else the copy below it
    unfoldable pub copy_from : (header shown visits : ℕ) → Trace → Option PageNumber → Looked
    copy_from h shown v t (Some q) = found shown None q.0 v
    copy_from h shown v t None = seek shown (cut_by true h None) v t

    -- chunk c of a live file of a size, which ends before it or not
    unfoldable pub chunk_file : (size : ℕ) → Option PageNumber → Trace → File → Looked
    chunk_file size m t (Err e) = looked.Refused e.answer e.visits 0
    chunk_file size m t (Ok x) =
        pick (leb size (base_of P c)) (looked.Refused PastEnd x.visits 0) (copy_from x.answer.0 (shown_of P c size) x.visits t m)

    -- chunk c by what was reached, and the chain behind that
    unfoldable pub chunk_reached : Trace → Reached → Looked
    chunk_reached t (Err e) = looked.Refused e.answer e.visits 0
    chunk_reached t (Ok x) = chunk_file (size_at x.page.0 x.end) x.met t (file_at (says x.page.0) x.page.0 x.visits)

    -- a chunk lookup
    unfoldable pub chunk_walk : Trace → Looked
    chunk_walk t = chunk_reached (behind t) (reach 0 None 0 t)

  -- a size lookup, which asks for no chunk: none has the number 0
  unfoldable pub size_walk : ℕ → Trace → Sized
  size_walk P t = size_reached (reach P 0 0 None 0 t)

-- the chain of object o from the link w and below the age b, and from below page h, on the cells of n pages
module _ (says : ℕ → Record) (n : ℕ) (cells : List ℕ) (o : ℕ) where
  abbrev pub under : (bound link : ℕ) → Trace
  under b w = trace n (objects says) (age_of says) cells o b w

  abbrev pub below : ℕ → Trace
  below h = under (age_of says h) (word cells (link_at h))

-- the lookups of object o on the cells of n pages
module _ (says : ℕ → Record) (P : ℕ) (cells : List ℕ) (o n : ℕ) where
  abbrev pub chain_of : Trace
  chain_of = chain n (objects says) (age_of says) cells o

  unfoldable pub size_in : Sized
  size_in =
      pick (ltb (length cells) (cells_for n)) (sized.Refused ShortIndex 0)
      (pick (bad_object o) (sized.Refused BadObject 0)
      (size_walk says P chain_of))

  unfoldable pub chunk_in : ℕ → Looked
  chunk_in c =
      pick (ltb (length cells) (cells_for n)) (looked.Refused ShortIndex 0 0)
      (pick (bad_object o) (looked.Refused BadObject 0 0)
      (pick (bad_chunk c) (looked.Refused BadChunk 0 0)
      (chunk_walk says P c chain_of)))

-- the lookups of object o on a dump, by any cells
module _ (g : Geometry) (dump cells : List ℕ) (o : ℕ) where
  unfoldable pub size_from : Sized
  size_from = on_pages (λ r. sized.Refused r 0) (λ n. size_in (record_at g dump) g.layout.«data» cells o n) (opened_of g (length dump))

  unfoldable pub chunk_from : ℕ → Looked
  chunk_from c = on_pages (λ r. looked.Refused r 0 0) (λ n. chunk_in (record_at g dump) g.layout.«data» cells o n c) (opened_of g (length dump))
