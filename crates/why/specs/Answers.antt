-- What is answered of a byte and of a whole file, and what the lent words hold then (document 02, item 5, and document 01's refusals).
use Rattle.std.specs.Prelude.{ℕ, ◌&&◌, List, [], ◌∷◌, length, get_or, eqb, ltb, Result, Ok, Err}
use Rattle.page.specs.declared.number.PageNumber.{PageNumber}
use Rattle.page.specs.Choice.{pick}
use Rattle.page.specs.Lengths.{opened_of, page_in}
use Rattle.page.specs.Numbers.{bad_object}
use Rattle.page.specs.Pages.{page_at}
use Rattle.page.specs.Records.{record_at}
use Rattle.page.specs.declared.geometry.Geometry.{Geometry}
use Rattle.page.specs.declared.record.Record.{Record}
use Rattle.page.specs.declared.refusal.Refusal.{Refusal}
use Rattle.page.specs.declared.refusal.Refusal.TheVariants.{BadPage, BadObject, ShortBuffer}
use Rattle.sort.specs.Room.{in_room}
use Rattle.chunk.specs.Answers.{on_pages}
use Rattle.chunk.specs.Lookups.{file_of}
use Rattle.chunk.specs.Sizes.{size_of}
use Rattle.chunk.specs.Takes.{seen_by}
use Rattle.chunk.specs.File.{File}
use Rattle.why.specs.Codes.{reason_of, from_of, code_in}
use Rattle.why.specs.Marks.{marks_to}
use Rattle.chunk.specs.Moments.{is_missing, takes_at}
use Rattle.why.specs.Reasons.{byte_at, reason_at, until_of, spans_of}
use Rattle.chunk.specs.declared.moment.Moment.{Moment}
use Rattle.why.specs.declared.reason.Reason.{Reason}
use Rattle.why.specs.declared.reason.Reason.TheVariants.{Held, NoCopy, Cut, Count, PastEnd}
use Rattle.why.specs.Spanned.{Spanned}
use Rattle.why.specs.Spanned as spanned
use Rattle.why.specs.Told.{Told}
use Rattle.why.specs.Told as told
use Rattle.why.specs.declared.byte.Span.{Span}
use Rattle.why.specs.declared.spans.Filed.{Filed}
use Rattle.page.specs.declared.refusal.Short.{Short}
use Rattle.why.specs.declared.byte.Found.{Found}

-- the file that a lookup of an object finds
abbrev pub filed_by : File → Result PageNumber Refusal
filed_by (Err e) = Err e.answer
filed_by (Ok x) = Ok x.answer

-- the file that object o of a dump of n pages is at a moment: the page of the moment, and then the object, refused as in lookups
unfoldable pub filed_in : (says : ℕ → Record) (pages : ℕ) → Moment → (object : ℕ) → Result PageNumber Refusal
filed_in says n m o =
    pick (is_missing n m) (Err BadPage)
    (pick (bad_object o) (Err BadObject)
    (filed_by (file_of says o n)))

-- an answer about a file, by its newest header
abbrev pub on_file : {A : Type 0} → (Refusal → A) → (ℕ → A) → Result PageNumber Refusal → A
on_file refuse answer (Err r) = refuse r
on_file refuse answer (Ok h) = answer h.0

-- object o of a dump at a moment
module _ (g : Geometry) (dump : List ℕ) (m : Moment) (o : ℕ) where
  -- what each page says then
  abbrev pub says_at : ℕ → Record
  says_at = seen_by (takes_at (record_at g dump) m) (record_at g dump)

  -- an answer about its file, by the number of pages and the newest header; what refuses a lookup of the object refuses it
  abbrev pub on_live : {A : Type 0} → (Refusal → A) → ((pages header : ℕ) → A) → A
  on_live refuse answer = on_pages refuse (λ n. on_file refuse (answer n) (filed_in says_at n m o)) (opened_of g (length dump))

  -- how many words it needs: one for each of its marks
  abbrev pub room_for : (pages header : ℕ) → ℕ
  room_for n h = length (marks_to says_at g.layout.«data» o h n)

  -- the file, if there are so many words
  unfoldable pub filed_on : (words : ℕ) → Result Filed (Short ℕ)
  filed_on words =
      on_live (λ r. Err (record { refusal = r; need = 0 }))
      (λ n h.
      pick (ltb words (room_for n h)) (Err (record { refusal = ShortBuffer; need = room_for n h }))
      (Ok (record { pages = n; takes = takes_at (record_at g dump) m; header = record { 0 = h }; size = size_of says_at g.layout.«data» o h n; marks = room_for n h })))

  -- the spans of the file, in so many words: its size, and how many they are
  unfoldable pub spans_on : (words : ℕ) → Spanned
  spans_on words =
      on_live (λ r. spanned.Refused r 0)
      (λ n h.
      pick (ltb words (room_for n h)) (spanned.Refused ShortBuffer (room_for n h))
      (spanned.Rows (size_of says_at g.layout.«data» o h n) (length (spans_of says_at g.layout.«data» o n h))))

  -- the words then: their rows, zeros in the rest of the room, and those behind it as they were; after a refusal all as they were
  unfoldable pub spans_left : (words : List ℕ) → List ℕ
  spans_left words =
      on_live (λ r. words)
      (λ n h. pick (ltb (length words) (room_for n h)) words (in_room (spans_of says_at g.layout.«data» o n h) (room_for n h) words))

  -- why byte x is what it is, and up to where, in so many words
  unfoldable pub why_on : (position words : ℕ) → Told
  why_on x words =
      on_live (λ r. told.Refused r 0)
      (λ n h.
      pick (ltb words (room_for n h)) (told.Refused ShortBuffer (room_for n h))
      (told.Because (reason_at says_at g.layout.«data» o n h x) (until_of says_at g.layout.«data» o n h x)))

  -- the words then: zeros in their room
  unfoldable pub why_left : (words : List ℕ) → List ℕ
  why_left words = on_live (λ r. words) (λ n h. pick (ltb (length words) (room_for n h)) words (in_room [] (room_for n h) words))

-- the byte that is shown for a reason: that of the page that holds it, and 0 for every other
abbrev pub shown_by : Geometry → (dump : List ℕ) → Reason → ℕ
shown_by g dump (Held p at) = pick (page_in g (length dump) p.0 && ltb at g.layout.«data») (get_or (page_at g dump p.0) at 0) 0
shown_by g dump NoCopy = 0
shown_by g dump (Cut p) = 0
shown_by g dump (Count p) = 0
shown_by g dump (PastEnd p) = 0

-- the span of a row, with P data bytes to a page
abbrev pub span_of : (P row : ℕ) → Span
span_of P row = record { from = from_of row; reason = reason_of (code_in row) (pick (eqb P 0) 0 (byte_at P (from_of row))) }

-- the code of the span that position x lies in, and where that ends: of rows that ascend, the last that does not begin behind x, and the next one's
-- begin
unfoldable pub found_in : (position end code : ℕ) (rows : List ℕ) → Found
found_in x end code [] = record { code = code; until = end }
found_in x end code (row ∷ rows) = pick (ltb x (from_of row)) (record { code = code; until = from_of row }) (found_in x end (code_in row) rows)
