-- What listing the live objects answers and writes, and how many objects there are (document 01, the refusal table and the report).
use Rattle.std.specs.Prelude.{ℕ, List, [], ◌++◌, length, drop, ltb, Result, Ok, Err}
use Rattle.page.specs.declared.refusal.Refusal.{Refusal}
use Rattle.page.specs.Choice.{pick}
use Rattle.page.specs.Lengths.{opened_of}
use Rattle.page.specs.Records.{record_at}
use Rattle.page.specs.declared.geometry.Geometry.{Geometry}
use Rattle.page.specs.declared.refusal.Refusal.TheVariants.{ShortBuffer}
use Rattle.chunk.specs.Answers.{on_pages}
use Rattle.chunk.specs.Live.{live_ids, live_count, object_count}
use Rattle.chunk.specs.Listed.{Listed}
use Rattle.chunk.specs.Listed as listed

-- listing ids into so many words: refused if they do not all fit; the length needed counts ids
unfoldable pub listed_by : (room : ℕ) (ids : List ℕ) → Listed
listed_by room ids = pick (ltb room (length ids)) (listed.Refused ShortBuffer (length ids)) (listed.Ids (length ids))

-- words with ids in front, and the rest as it was
abbrev pub in_front : (ids words : List ℕ) → List ℕ
in_front ids words = ids ++ drop (length ids) words

-- what a listing of ids that is answered so leaves in the words: the ids, or after a refusal the words as they were
unfoldable pub words_by : (ids words : List ℕ) → Listed → List ℕ
words_by ids words (listed.Ids m) = in_front ids words
words_by ids words (Err e) = words

module _ (g : Geometry) (dump : List ℕ) where
  -- the live ids of a dump; none where it is refused
  unfoldable pub live_on : List ℕ
  live_on = on_pages (λ r. []) (λ n. live_ids (record_at g dump) n) (opened_of g (length dump))

  -- listing them into so many words
  unfoldable pub list_on : ℕ → Listed
  list_on room = on_pages (λ r. listed.Refused r 0) (λ n. listed_by room (live_ids (record_at g dump) n)) (opened_of g (length dump))

  -- how many objects are live, and how many there are
  unfoldable pub live_count_on : Result ℕ Refusal
  live_count_on = on_pages (λ r. Err r) (λ n. Ok (live_count (record_at g dump) n)) (opened_of g (length dump))

  unfoldable pub object_count_on : Result ℕ Refusal
  object_count_on = on_pages (λ r. Err r) (λ n. Ok (object_count (record_at g dump) n)) (opened_of g (length dump))
