-- A list of requests on one memory of words, for one unchanged dump and layout (document 01, "Demand 3 exactly"): what our calls answer and
-- leave, and beside it what the paper says. Each request has its own K, so that it reads the dump by the list's layout in blocks of its own, and
-- its own length of slice; the words past the slice stay as they are.
use Rattle.std.specs.Prelude.{ℕ, min, Bool, List, [], ◌∷◌, ◌++◌, ◌⊎◌, ◌≡◌, length, take, drop, ltb, leb, Result, Ok, Err}
use Rattle.page.specs.Choice.{pick}
use Rattle.page.specs.Lengths.{in_blocks, opened_of}
use Rattle.page.specs.Records.{record_at}
use Rattle.page.specs.declared.geometry.Geometry.{Geometry}
use Rattle.page.specs.declared.refusal.Refusal.{Refusal}
use Rattle.page.specs.declared.refusal.Refusal.TheVariants.{ShortIndex, BadPage, AlreadyAdded}
use Rattle.chunk.specs.Answers.{on_pages, read_by, buffer_by, part_by}
use Rattle.chunk.specs.Lookups.{sized_of, looked_of}
use Rattle.chunk.specs.Live.{live_ids}
use Rattle.chunk.specs.Lists.{listed_by, words_by}
use Rattle.chunk.specs.Listed.{Listed}
use Rattle.chunk.specs.Listed as listed
use Rattle.chunk.specs.Sized.{Sized}
use Rattle.chunk.specs.Sized as sized
use Rattle.chunk.specs.Looked.{Looked}
use Rattle.chunk.specs.Looked as looked
use Rattle.index.specs.Cells.{cells_for}
use Rattle.index.specs.Additions.{start_of, add_of}
use Rattle.index.specs.Held.{none_added, with}
use Rattle.index.specs.Walks.{seen_says, size_from, chunk_from}
use Rattle.index.specs.Listing.{ids_from, list_from}

-- a request: its K, how many words it is lent, and what it asks
pub data Request : Type 0 where
  start : (k words seed : ℕ) → Request
  add : (k words page : ℕ) → Request
  size : (k words object : ℕ) → Request
  chunk : (k words object chunk : ℕ) → Request
  read : (k words object chunk : ℕ) (buffer : List ℕ) → Request
  part : (k words object chunk : ℕ) → Request
  list : (k words : ℕ) (buffer : List ℕ) → Request

-- an answer; a read's and a listing's have the buffer afterwards, a borrowed part's its bytes
pub data Answer : Type 0 where
  addition : Result Unit Refusal → Answer
  a_size : Sized → Answer
  a_chunk : Looked → Answer
  a_read : Looked → (buffer : List ℕ) → Answer
  a_part : (bytes : List ℕ) → Answer
  a_list : Listed → (buffer : List ℕ) → Answer

-- that an answer is this refusal; a borrowed part's bytes carry none
abbrev pub Refuses : Refusal → Answer → Type 0
Refuses r (addition (Ok tt)) = ⊥
Refuses r (addition (Err s)) = s ≡ r
Refuses r (a_size (Ok x)) = ⊥
Refuses r (a_size (Err e)) = e.answer ≡ r
Refuses r (a_chunk (looked.Copy p a n v)) = ⊥
Refuses r (a_chunk (looked.Hole n v)) = ⊥
Refuses r (a_chunk (Err e)) = e.answer.refusal ≡ r
Refuses r (a_read (looked.Copy p a n v) buffer) = ⊥
Refuses r (a_read (looked.Hole n v) buffer) = ⊥
Refuses r (a_read (Err e) buffer) = e.answer.refusal ≡ r
Refuses r (a_part bytes) = ⊥
Refuses r (a_list (listed.Ids m) words) = ⊥
Refuses r (a_list (Err e) words) = e.refusal ≡ r

-- that one of these answers is this refusal
abbrev pub Given : Refusal → List Answer → Type 0
Given r [] = ⊥
Given r (a ∷ rest) = Refuses r a ⊎ Given r rest

-- what a listing of ids gives, by its answer
abbrev pub list_answer : (buffer ids : List ℕ) → Listed → Answer
list_answer buffer ids a = a_list a (words_by ids buffer a)

module _ (g : Geometry) (dump : List ℕ) where
  -- what a read and a borrowed part give of a chunk lookup
  abbrev pub read_answer : (k : ℕ) (buffer : List ℕ) → Looked → Answer
  read_answer k buffer a = a_read (read_by (length buffer) a) (buffer_by (in_blocks g k) dump buffer (read_by (length buffer) a))

  abbrev pub part_answer : (k : ℕ) → Looked → Answer
  part_answer k a = a_part (part_by (in_blocks g k) dump a)

  -- OUR CALLS, by the definitions that their contracts equal, on a memory of words of which each is lent the first so many

  unfoldable pub answer_on : (memory : List ℕ) → Request → Answer
  answer_on c (start k w seed) = addition (start_of (in_blocks g k) dump (take w c) seed).answer
  answer_on c (add k w p) = addition (add_of (in_blocks g k) dump (take w c) p).answer
  answer_on c (size k w o) = a_size (size_from (in_blocks g k) dump (take w c) o)
  answer_on c (chunk k w o n) = a_chunk (chunk_from (in_blocks g k) dump (take w c) o n)
  answer_on c (read k w o n buffer) = read_answer k buffer (chunk_from (in_blocks g k) dump (take w c) o n)
  answer_on c (part k w o n) = part_answer k (chunk_from (in_blocks g k) dump (take w c) o n)
  answer_on c (list k w buffer) = list_answer buffer (ids_from (in_blocks g k) dump (take w c)) (list_from (in_blocks g k) dump (take w c) (length buffer))

  unfoldable pub words_after : (memory : List ℕ) → Request → List ℕ
  words_after c (start k w seed) = (start_of (in_blocks g k) dump (take w c) seed).cells ++ drop w c
  words_after c (add k w p) = (add_of (in_blocks g k) dump (take w c) p).cells ++ drop w c
  words_after c (size k w o) = c
  words_after c (chunk k w o n) = c
  words_after c (read k w o n buffer) = c
  words_after c (part k w o n) = c
  words_after c (list k w buffer) = c

  -- the answers to a list of requests, and the words after it
  unfoldable pub answers_on : (memory : List ℕ) → List Request → List Answer
  answers_on c [] = []
  answers_on c (r ∷ rs) = answer_on c r ∷ answers_on (words_after c r) rs

  unfoldable pub words_of : (memory : List ℕ) → List Request → List ℕ
  words_of c [] = c
  words_of c (r ∷ rs) = words_of (words_after c r) rs

  -- THE PAPER, with no word of the index: which pages have been added, and what demand 2 answers on the dump with the others read as blank

  module _ (room : ℕ) where
    -- a dump of a named layout that is refused, an index slice that is too short, and then the rest, by the number of pages
    abbrev pub unless_refused : {A : Type 0} (refuse : Refusal → A) (answer : ℕ → A) (k words : ℕ) → A
    unless_refused refuse answer k w =
        on_pages refuse (λ n. pick (ltb (min w room) (cells_for n)) (refuse ShortIndex) (answer n)) (opened_of (in_blocks g k) (length dump))

    -- an addition of page p of n: BadPage, AlreadyAdded where it has been added, else done
    abbrev pub added_by : (done : ℕ → Bool) (page pages : ℕ) → Result Unit Refusal
    added_by done p n = pick (leb n p) (Err BadPage) (pick (done p) (Err AlreadyAdded) (Ok tt))

    -- demand 2's lookups, pages not yet added read as blank
    abbrev pub size_seen : (done : ℕ → Bool) (object pages : ℕ) → Sized
    size_seen done o n = sized_of (seen_says (record_at g dump) done) o n g.layout.«data»

    abbrev pub chunk_seen : (done : ℕ → Bool) (object chunk pages : ℕ) → Looked
    chunk_seen done o c n = looked_of (seen_says (record_at g dump) done) o n g.layout.«data» c

    abbrev pub looked_by : (done : ℕ → Bool) (k words object chunk : ℕ) → Looked
    looked_by done k w o c = unless_refused (λ r. looked.Refused r 0 0) (chunk_seen done o c) k w

    -- the live objects, pages not yet added read as blank
    abbrev pub live_seen : (done : ℕ → Bool) (pages : ℕ) → List ℕ
    live_seen done n = live_ids (seen_says (record_at g dump) done) n

    unfoldable pub answer_by : (done : ℕ → Bool) → Request → Answer
    answer_by done (start k w seed) = addition (unless_refused Err (λ n. (Ok tt)) k w)
    answer_by done (add k w p) = addition (unless_refused Err (added_by done p) k w)
    answer_by done (size k w o) = a_size (unless_refused (λ r. sized.Refused r 0) (size_seen done o) k w)
    answer_by done (chunk k w o c) = a_chunk (looked_by done k w o c)
    answer_by done (read k w o c buffer) = read_answer k buffer (looked_by done k w o c)
    answer_by done (part k w o c) = part_answer k (looked_by done k w o c)
    answer_by done (list k w buffer) =
        unless_refused (λ r. a_list (listed.Refused r 0) buffer) (λ n. list_answer buffer (live_seen done n) (listed_by (length buffer) (live_seen done n))) k w

    -- the pages added: an accepted start forgets all; an addition to which no refusal ordered before IndexDamaged applies adds its page
    unfoldable pub added_after : (done : ℕ → Bool) → Request → ℕ → Bool
    added_after done (start k w seed) = unless_refused (λ r. done) (λ n. none_added) k w
    added_after done (add k w p) = unless_refused (λ r. done) (λ n. pick (leb n p) done (with p done)) k w
    added_after done (size k w o) = done
    added_after done (chunk k w o c) = done
    added_after done (read k w o c buffer) = done
    added_after done (part k w o c) = done
    added_after done (list k w buffer) = done

    unfoldable pub answers_by : (done : ℕ → Bool) → List Request → List Answer
    answers_by done [] = []
    answers_by done (r ∷ rs) = answer_by done r ∷ answers_by (added_after done r) rs

    unfoldable pub added_of : (done : ℕ → Bool) → List Request → ℕ → Bool
    added_of done [] = done
    added_of done (r ∷ rs) = added_of (added_after done r) rs
