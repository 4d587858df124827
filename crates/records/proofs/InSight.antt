-- How the newest copy of a chunk stands: by the newest later header that cuts it, or, where none does, by the lookup of its chunk. The lookup and the size
-- lookup go by the same file, and the lowest cut behind the copy is that of the newer headers.
use Prim.Native.Nat.{ℕ, ◌+◌, ◌-◌, ◌≤◌, ◌<◌, ◌^◌, min}
use Rattle.std.specs.Prelude.{Result, Ok, Err, Option, Some, None}
use mathlib.Core.Bool.{false}
use mathlib.Core.List.{List}
use mathlib.Core.Path.{◌≡◌, refl, sym, ap, ◌∙◌}
use native.Mathlib.Omega.{arith}
use borrow.Author.Tests.{leb-true, leb-false, le-leb, lt-leb}
use lib.Dec.{eqb, leb}
use lib.ListN.{length, get_or, drop}
use Rattle.page.specs.Lengths.{opened_of}
use Rattle.page.specs.Numbers.{bad_object, bad_chunk}
use Rattle.page.specs.Records.{is_header, record_at}
use Rattle.page.specs.declared.geometry.Geometry.{Geometry}
use Rattle.page.specs.declared.record.Data as «data»
use Rattle.page.specs.declared.record.Record.{Record}
use Rattle.page.specs.declared.record.Record.TheVariants.{Data}
use Rattle.page.specs.declared.refusal.Refusal.{Refusal}
use Rattle.page.specs.declared.refusal.Refusal.TheVariants.{BadObject}
use Rattle.page.proofs.Layouts.{listed_data}
use Rattle.page.proofs.Lengths.{opened_facts}
use Rattle.page.proofs.Searching.{by_test}
use Rattle.page.proofs.Within.{chunk_good}
use Rattle.sort.specs.Search.{Sorted, Parted}
use Rattle.chunk.specs.Cuts.{lowest_cut, hides, leaves}
use Rattle.chunk.specs.Lookups.{shown_of, valid_of, file_of, sized_by, sized_of, looked_by, looked_of}
use Rattle.chunk.specs.Newest.{newest_header, newest_copy, records}
use Rattle.chunk.specs.Records.{age_of, base_of}
use Rattle.chunk.specs.Sizes.{size_of}
use Rattle.chunk.specs.Takes.{seen_by}
use Rattle.chunk.specs.declared.takes.Takes.{Takes}
use Rattle.chunk.specs.Visits.{headed, visits}
use Rattle.chunk.specs.File as file
use Rattle.chunk.proofs.Cases.{file_cases, file_headless, file_headed, sized_refused, sized_file, size_bad, size_by_file, looked_refused, looked_past, looked_inside, copy_shown, chunk_bad_object, chunk_by_file}
use Rattle.records.specs.Held.{held_bytes, held_in}
use Rattle.records.specs.Histories.{answer_of}
use Rattle.records.specs.Lows.{nowhere, cut_word, low_of, lows_of}
use Rattle.records.specs.Standings.{held_by, cut_by, copy_stands}
use Rattle.records.specs.Written.{written, page_at}
use Rattle.records.specs.declared.standing.Standing.{Standing}
use Rattle.records.specs.declared.standing.Standing.TheVariants.{Cut, Holds, NoFile}
use Rattle.records.proofs.Accepted.{opened_few, seen_within}
use Rattle.records.proofs.Hiding.{low_past, low_later, low_headless, none_cuts, last_cuts}
use Rattle.records.proofs.Last.{rest_some, rest_first}
use Rattle.records.proofs.Lowering.{word_shows, word_leaves, lows_length, lows_drop, lows_at, lows_sorted}
use Rattle.records.proofs.Writing.{written_length, written_at}

-- by what the file is: none, one that ends before the chunk, and one that does not
module _ (P low : ℕ) (d : «data».Data) where
  pub held_refused : (r : Refusal) → held_in P (Err r) low d ≡ NoFile
  unfolding held_in
  held_refused r = refl

  pub held_past : (z : ℕ) → z ≤ base_of P d.chunk.0 → held_in P (Ok z) low d ≡ NoFile
  unfolding held_in
  held_past z h = rw (le-leb _ _ h)

  pub held_inside : (z : ℕ) → base_of P d.chunk.0 < z → held_in P (Ok z) low d ≡ Holds d.chunk (held_bytes P z low d.chunk.0 d.count)
  unfolding held_in
  held_inside z h = rw (lt-leb _ _ h)

  -- the same as the code has it
  pub held_something :
      (a : Result ℕ Refusal) (z base shown valid : ℕ) → a ≡ Ok z → base ≡ base_of P d.chunk.0 → base < z → shown ≡ min P (z - base) →
      valid ≡ min d.count (leaves (Some low) base shown) → Holds d.chunk valid ≡ held_in P a low d
  held_something a z base shown valid e b h s v = rw (e, held_inside z (rw (← b) h), v, s, b)

-- the words from a record on: the first is its own, and they ascend
module _ (says : ℕ → Record) (ages : List ℕ) (i : ℕ) (k : i < length ages) (lows : List ℕ) (e : lows ≡ drop i (lows_of says ages)) where
  pub first_there : 0 < length lows
  first_there = rest_some (lows_of says ages) lows i e (rw (lows_length says ages) k)

  pub first_word : get_or lows 0 0 ≡ cut_word (low_of says (drop i ages))
  first_word = rest_first (lows_of says ages) lows i e ∙ lows_at says ages i k

  pub words_sorted : Sorted lows
  words_sorted = rw (e, lows_drop says i ages) (lows_sorted says (drop i ages))

-- what there is to know of a record: it is the newest copy of its chunk, at place i among the records of object o of n pages; its chunk has a number, and
-- ends before the last word
pub record NewestAt (says : ℕ → Record) (P o n i : ℕ) (d : «data».Data) : Type 0 where
  pub few : n ≤ 4294967296
  pub inside : i < length (written says o n)
  pub said : says (page_at says o n i) ≡ Data d
  pub newest : newest_copy says o d.chunk.0 n ≡ Some (page_at says o n i)
  pub number : bad_chunk d.chunk.0 ≡ false
  pub short : base_of P d.chunk.0 + P < nowhere

-- of an accepted dump, where the begin of the chunk is told as the word that it is
module _ (g : Geometry) (dump : List ℕ) (t : Takes) (o n i : ℕ) (d : «data».Data) {base : ℕ} where
  pub newest_at :
      let says = seen_by t (record_at g dump) in
      opened_of g (length dump) ≡ Ok n → i < length (written says o n) → says (page_at says o n i) ≡ Data d →
      newest_copy says o d.chunk.0 n ≡ Some (page_at says o n i) → base ≡ base_of g.layout.«data» d.chunk.0 → base + 2 ^ 32 < 2 ^ 64 →
      NewestAt says g.layout.«data» o n i d
  newest_at accepted inside said newest value bound =
      record {
        few = opened_few g dump n accepted;
        inside = inside;
        said = said;
        newest = newest;
        number = chunk_good d.chunk.0 (seen_within g dump t _ d said).chunk;
        short = omega (arith, value, bound, listed_data g.layout (opened_facts g (length dump) n accepted).listed);
      }

-- how it stands
abbrev pub stands_at : (says : ℕ → Record) (P o n i : ℕ) (d : «data».Data) → Standing
stands_at says P o n i d = copy_stands says P o n d.chunk.0 (cut_by says P o n (page_at says o n i) d.chunk.0 (newest_header says o n))

-- hidden by the last of the first m words, which are not above its begin
pub record Hidden (says : ℕ → Record) (P o n i : ℕ) (d : «data».Data) (m : ℕ) : Type 0 where
  pub some_words : 0 < m
  pub inside : m ≤ length (written says o n) - i
  pub is_cut : Cut (record { 0 = page_at says o n (i + (m - 1)) }) ≡ stands_at says P o n i d

module _ {says : ℕ → Record} {P o n i : ℕ} {d : «data».Data} (c : NewestAt says P o n i d) where
  abbrev ages : List ℕ
  ages = written says o n

  abbrev page : ℕ
  page = page_at says o n i

  abbrev chunk : ℕ
  chunk = d.chunk.0

  abbrev base : ℕ
  base = base_of P chunk

  abbrev low : ℕ
  low = cut_word (low_of says (drop i ages))

  -- it is no header
  no_header : is_header (says page) ≡ false
  no_header = rw c.said

  -- the lowest later cut of a file with a newest header
  low_cut : (h : ℕ) → newest_header says o n ≡ Some h → low_of says (drop i ages) ≡ lowest_cut says o h (age_of says page) n
  low_cut h e =
      low_past says ages i c.inside no_header
      ∙ rw (written_at says o n c.few i c.inside).age (low_later says o n c.few h e i c.inside)

  -- what is no file
  by_refusal : (r : Refusal) (v : ℕ) → held_in P (answer_of (sized_by says o n P (file.Refused r v))) low d ≡ held_by chunk (looked_by says o n P chunk (file.Refused r v))
  by_refusal r v = rw (sized_refused says o n P r v, looked_refused says o n P chunk r v) (held_refused P low d r)

  -- a file with newest header h
  module _ (h : ℕ) (e : newest_header says o n ≡ Some h) (l : base < low) where
    abbrev cut : Option ℕ
    cut = lowest_cut says o h (age_of says page) n

    abbrev z : ℕ
    z = size_of says P o h n

    -- as many bytes are valid by the word as by the lookup
    bytes : held_bytes P z low chunk d.count ≡ valid_of P chunk (says page) (shown_of P chunk z) cut
    bytes =
        rw (← low_cut h e, c.said)
        (ap (min d.count) (word_leaves (low_of says (drop i ages)) base (shown_of P chunk z) (omega (arith, c.short))))

    -- so it stands as the lookup says
    by-header :
        (v : ℕ) →
        held_in P (answer_of (sized_by says o n P (file.Header (record { 0 = h }) v))) low d
        ≡ held_by chunk (looked_by says o n P chunk (file.Header (record { 0 = h }) v))
    by-header v =
        rw (sized_file says o n P (record { 0 = h }) v)
        (by_test (leb z base) _
        (λ t.
        let b = leb-true _ _ t in
        held_past P low d z b ∙ sym (ap (held_by chunk) (looked_past says o n P chunk (record { 0 = h }) v b)))
        (λ t.
        let b = leb-false _ _ t in
        let shows : hides cut base ≡ false = rw (← low_cut h e) (word_shows (low_of says (drop i ages)) base l) in
        held_inside P low d z b
        ∙ ap (Holds d.chunk) bytes
        ∙ rw (looked_inside says o n P chunk (record { 0 = h }) v b, c.newest, copy_shown says o n P chunk h (shown_of P chunk z) page shows)))

  -- so where no later header hides it, it stands as the lookup of its chunk says
  held_looked : base < low → held_in P (answer_of (sized_of says o n P)) low d ≡ held_by chunk (looked_of says o n P chunk)
  held_looked l =
      by_test (bad_object o) _
      (λ t. rw (size_bad says o n P t, chunk_bad_object says o n P chunk t) (held_refused P low d BadObject))
      (λ t. rw (size_by_file says o n P t, chunk_by_file says o n P chunk t c.number) (by-newest (newest_header says o n) refl))
    where
      by-newest :
          (r : Option ℕ) → newest_header says o n ≡ r →
          held_in P (answer_of (sized_by says o n P (file_of says o n))) low d ≡ held_by chunk (looked_by says o n P chunk (file_of says o n))
      by-newest None e =
          rw (file_headless says o n e) (by_test (eqb (records says o n) 0) _ (λ t. rw t (by_refusal _ _)) (λ t. rw t (by_refusal _ _)))
      by-newest (Some h) e =
          let any : records says o n ≡ 0 → ⊥ = λ q. omega (arith, q, c.inside, written_length says o n) in
          rw (file_headed says o n h any e)
          (file_cases (says h) h (visits says o n (headed h))
          (λ f. held_in P (answer_of (sized_by says o n P f)) low d ≡ held_by chunk (looked_by says o n P chunk f))
          (λ r. by_refusal r (visits says o n (headed h)))
          (by-header h e l (visits says o n (headed h))))

  -- whatever the size is told by, and the word
  pub stands_held : {a : Result ℕ Refusal} {word : ℕ} → a ≡ answer_of (sized_of says o n P) → word ≡ low → base < word → held_in P a word d ≡ stands_at says P o n i d
  stands_held q w l =
      let b : base < low = rw w at l in
      rw (q, w) (held_looked b ∙ by-newest b (newest_header says o n) refl)
    where
      by-newest : base < low → (r : Option ℕ) → newest_header says o n ≡ r → held_by chunk (looked_of says o n P chunk) ≡ copy_stands says P o n chunk (cut_by says P o n page chunk r)
      by-newest b None e = refl
      by-newest b (Some h) e = rw (none_cuts says o n c.few h e P i c.inside base b)

  -- and where its word is not above its begin, the last such word is that of the header that cuts it
  pub stands_cut : (m : ℕ) → Parted (base + 1) (drop i (lows_of says ages)) m → low ≤ base → Hidden says P o n i d m
  stands_cut m w l = by-newest (newest_header says o n) refl
    where
      by-newest : (r : Option ℕ) → newest_header says o n ≡ r → Hidden says P o n i d m
      by-newest None e = let z : low ≡ nowhere = rw (low_headless says o n c.few e i) in absurd (omega (arith, c.short))
      by-newest (Some h) e =
          let k = last_cuts says o n c.few h e P i c.inside base m w (omega (arith, c.short)) l no_header in
          record { some_words = k.0; inside = k.1; is_cut = rw (e, k.2) }
