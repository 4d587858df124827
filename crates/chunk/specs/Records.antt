-- Records and their order (document 01, "Newest, size and cuts"), over what each page says.
use Rattle.std.specs.Prelude.{ℕ, ◌+◌, ◌*◌, Bool, false, ◌&&◌, ◌||◌, eqb}
use Rattle.page.specs.Numbers.{chunks_before}
use Rattle.page.specs.Records.{is_header, is_data}
use Rattle.page.specs.declared.record.Record.{Record}
use Rattle.page.specs.declared.record.Record.TheVariants.{Other, Header, Data}

-- the object of a record; 0, which no object has, for a page that is no record
abbrev pub object_of : Record → ℕ
object_of Other = 0
object_of (Header h) = h.object.0
object_of (Data d) = d.object.0

abbrev pub sequence_of : Record → ℕ
sequence_of Other = 0
sequence_of (Header h) = h.sequence
sequence_of (Data d) = d.sequence

-- the place of a record in the order: by sequence, then by page number, which is below 2^32
abbrev pub order_of : (sequence page : ℕ) → ℕ
order_of sequence page = sequence * 4294967296 + page

-- how new page p is
abbrev pub age_of : (says : ℕ → Record) (page : ℕ) → ℕ
age_of says p = order_of (sequence_of (says p)) p

-- whether a page is a record of object o; a header of it; a data page of it
abbrev pub is_of : (object : ℕ) → Record → Bool
is_of o Other = false
is_of o (Header h) = eqb h.object.0 o
is_of o (Data d) = eqb d.object.0 o

abbrev pub header_of : (object : ℕ) → Record → Bool
header_of o k = is_of o k && is_header k

abbrev pub data_of : (object : ℕ) → Record → Bool
data_of o k = is_of o k && is_data k

-- the chunk number of a data page; 0, which no chunk has, for another
abbrev pub chunk_of : Record → ℕ
chunk_of Other = 0
chunk_of (Header h) = 0
chunk_of (Data d) = d.chunk.0

-- whether a page is a data page with chunk number c
abbrev pub is_copy : (chunk : ℕ) → Record → Bool
is_copy c Other = false
is_copy c (Header h) = false
is_copy c (Data d) = eqb d.chunk.0 c

-- the byte count of a data page
abbrev pub count_of : Record → ℕ
count_of Other = 0
count_of (Header h) = 0
count_of (Data d) = d.count

-- the file size of a header
abbrev pub file_size : Record → ℕ
file_size Other = 0
file_size (Header h) = h.size
file_size (Data d) = 0

-- parent 3 is unlinked, parent 4 deleted
abbrev pub gone_under : ℕ → Bool
gone_under parent = eqb parent 3 || eqb parent 4

abbrev pub is_gone : Record → Bool
is_gone Other = false
is_gone (Header h) = gone_under h.parent.0
is_gone (Data d) = false

-- type 1 is a file
abbrev pub is_file : Record → Bool
is_file Other = false
is_file (Header h) = eqb h.page_type 1
is_file (Data d) = false

-- where chunk n begins in its file, with P data bytes to a page
abbrev pub base_of : (P chunk : ℕ) → ℕ
base_of P n = chunks_before n * P
