-- The byte that a read shows at a position follows from its reason.
--
-- A lookup of the chunk answers a hole, or the copy with its valid bytes: those up to its byte count, no more than are shown, and none behind the
-- lowest later cut. The lowest later cut is at or below the position exactly when some later header's is. So the valid bytes reach the position exactly
-- when no such header cuts and the byte count does: when the reason is that a page holds the byte. A read puts those bytes of that page into the buffer
-- and zeros behind them.
use Prim.Native.Nat.{ℕ, ◌+◌, ◌≤◌, ◌<◌}
use Rattle.std.specs.Prelude.{Result, Ok, Err, Option, Some, None}
use mathlib.Core.Bool.{true, false, ◌&&◌}
use mathlib.Core.List.{List, [], ◌++◌}
use mathlib.Core.Path.{◌≡◌, refl, sym, ap, ◌∙◌}
use native.Mathlib.Omega.{arith}
use lib.Dec.{ltb, leb}
use lib.ListN.{length, take, drop, get_or, replicate, length-append, length-replicate, length-take, get_or-append, get_or-eq_default}
use lib.Seq.{get_or-take, length-take-le}
use borrow.Author.Tests.{ltb-true, ltb-false, lt-ltb, le-ltb, leb-true, leb-false, le-leb}
use Rattle.page.specs.Choice.{pick}
use Rattle.page.specs.Lengths.{opened_of, page_in}
use Rattle.page.specs.Numbers.{most_chunk, bad_object}
use Rattle.page.specs.Pages.{page_at}
use Rattle.page.specs.Records.{record_at}
use Rattle.page.specs.declared.geometry.Geometry.{Geometry}
use Rattle.page.specs.declared.number.PageNumber.{PageNumber}
use Rattle.page.specs.declared.record.Record.{Record}
use Rattle.page.specs.declared.refusal.Refusal.{Refusal}
use Rattle.page.specs.declared.refusal.Refusal.TheVariants.{PastEnd, ShortBuffer, BadPage, BadObject}
use Rattle.page.proofs.Layouts.{roomy_facts}
use Rattle.page.proofs.Lengths.{opened_facts}
use Rattle.page.proofs.Searching.{clash, by_test, pick_cases}
use Rattle.page.proofs.Within.{chunk_good, page_below}
use Rattle.chunk.specs.Records.{age_of, count_of, base_of}
use Rattle.chunk.specs.Newest.{newest_copy}
use Rattle.chunk.specs.Cuts.{lowest_cut, hides, leaves}
use Rattle.chunk.specs.Sizes.{size_of}
use Rattle.chunk.specs.Lookups.{file_of, shown_of, valid_of, copy_by, looked_by, looked_of}
use Rattle.chunk.specs.Answers.{on_pages, chunk_on, read_by, valid_part, part_by, overlaid, buffer_by}
use Rattle.chunk.specs.File.{File}
use Rattle.chunk.specs.File as file
use Rattle.chunk.specs.Looked.{Looked}
use Rattle.chunk.specs.Looked as looked
use Rattle.chunk.proofs.Cases.{copy_missing, copy_hidden, copy_shown, looked_past, looked_inside, chunk_by_file, valid_there, valid_none}
use Rattle.chunk.proofs.Cuts.{leaves_most}
use Rattle.chunk.proofs.Laying.{zero_at}
use Rattle.chunk.proofs.Meaning.{lowest_cut_hides, hides_lowest_cut}
use Rattle.why.specs.Answers.{filed_by, filed_in, on_file, says_at, room_for, why_on, shown_by}
use Rattle.chunk.specs.Moments.{is_missing}
use Rattle.why.specs.Told.{Told}
use Rattle.why.specs.Told as told
use Rattle.why.specs.declared.answer.Why.{Why}
use Rattle.chunk.specs.declared.moment.Moment.{Moment}
use Rattle.why.specs.Reasons.{last_position, chunk_at, byte_at, copy_for, cutter, reason_at, until_of}
use Rattle.why.specs.declared.reason.Reason.{Reason}
use Rattle.why.specs.declared.reason.Reason.TheVariants as reason
use Rattle.why.proofs.Meaning.{Means, BecauseHeld, reason_by_lem, cutter_found, cutter_missing, file_means}
use Rattle.why.proofs.Places.{position, byte_below}
use Rattle.why.proofs.Until.{HoldsUntil, until_holds, until_past}

-- ---- what a cut leaves of the bytes from a place on

-- a cut that hides a place hides what is behind it
hides_behind : (a : (Option ℕ)) (base at : ℕ) → hides a base ≡ true → hides a (base + at) ≡ true
hides_behind None base at t = t
hides_behind (Some a) base at t = le-leb a (base + at) (omega (arith, leb-true a base t))

-- it leaves exactly the bytes that it does not hide
leaves_more : (a : (Option ℕ)) (base at bytes : ℕ) → at < bytes → hides a (base + at) ≡ false → at < leaves a base bytes
leaves_more None base at bytes i t = i
leaves_more (Some a) base at bytes i t = omega (arith, leb-false a (base + at) t)

leaves_less : (a : (Option ℕ)) (base at bytes : ℕ) → hides a (base + at) ≡ true → leaves a base bytes ≤ at
leaves_less None base at bytes t = clash (cc)
leaves_less (Some a) base at bytes t = omega (arith, leb-true a (base + at) t)

-- ---- what a lookup answers

-- how many bytes it shows; a refused one none
abbrev pub shown_in : Looked → ℕ
shown_in (Err e) = 0
shown_in (looked.Hole s v) = s
shown_in (looked.Copy p a s v) = s

-- the page whose valid bytes reach data byte `at`, if one's do
abbrev pub holder_in : (at : ℕ) → Looked → Option ℕ
holder_in at (Err e) = None
holder_in at (looked.Hole s v) = None
holder_in at (looked.Copy p a s v) = pick (ltb at a) (Some p.0) None

-- the page that holds the byte by a reason, if one does
abbrev pub holder_of : Reason → Option ℕ
holder_of (reason.Held p at) = Some p.0
holder_of reason.NoCopy = None
holder_of (reason.Cut p) = None
holder_of (reason.Count p) = None
holder_of (reason.PastEnd p) = None

-- no more bytes are valid than are shown, and no more shown than a page has
abbrev pub Fits : (P : ℕ) → Looked → Type 0
Fits P (Err e) = Unit {0}
Fits P (looked.Hole s v) = s ≤ P
Fits P (looked.Copy p a s v) = (a ≤ s) × (s ≤ P)

-- position x of a live file, in a chunk that can be looked up
module _
    (says : ℕ → Record) (o n P v x : ℕ) (h : PageNumber)
    (some-data : 0 < P) (object : bad_object o ≡ false) (number : chunk_at P x ≤ most_chunk) (live : file_of says o n ≡ file.Header h v) where
  abbrev size : ℕ
  size = size_of says P o h.0 n

  abbrev c : ℕ
  c = chunk_at P x

  abbrev base : ℕ
  base = base_of P c

  abbrev at : ℕ
  at = byte_at P x

  abbrev shown : ℕ
  shown = shown_of P c size

  abbrev answer : Looked
  answer = looked_of says o n P c

  -- the lowest cut that is newer than page q
  abbrev lowest : ℕ → Option ℕ
  lowest q = lowest_cut says o h.0 (age_of says q) n

  -- the position is the begin of its chunk and its data byte
  place : base + at ≡ x
  place = position P some-data x

  small : at < P
  small = byte_below P some-data x

  -- the lookup goes by the size and by the copy
  by_file : answer ≡ looked_by says o n P c (file.Header h v)
  by_file = chunk_by_file says o n P c object (chunk_good c record { least = omega arith; most = number }) ∙ rw live

  by_copy : base < size → answer ≡ copy_by says o n P c h.0 shown (newest_copy says o c n)
  by_copy i = by_file ∙ looked_inside says o n P c h v i

  -- a copy, or a hole, is shown as far as the size leaves
  copy_fits : (r : Option ℕ) → (shown_in (copy_by says o n P c h.0 shown r) ≡ shown) × Fits P (copy_by says o n P c h.0 shown r)
  copy_fits None = rw (copy_missing says o n P c h.0 shown) (refl, omega arith)
  copy_fits (Some q) =
      by_test (hides (lowest q) base) _
      (λ t. rw (copy_hidden says o n P c h.0 shown q t) (refl, omega arith))
      (λ t. rw (copy_shown says o n P c h.0 shown q t) (refl, (omega (arith, leaves_most (lowest q) base shown), omega arith)))

  -- so what the lookup answers fits
  pub looked_fits : Fits P answer
  looked_fits =
      by_test (leb size base) _
      (λ t. rw (by_file, looked_past says o n P c h v (leb-true _ _ t)) tt)
      (λ t. rw (by_copy (leb-false _ _ t)) (copy_fits (newest_copy says o c n)).1)

  -- inside the size it shows the byte
  pub inside_shown : x < size → at < shown_in answer
  inside_shown i =
      let b : base < size = omega (arith, place) in
      let e : shown_in answer ≡ shown = ap shown_in (by_copy b) ∙ (copy_fits (newest_copy says o c n)).0 in
      omega (arith, place, small)

  -- and past the end it does not: it is refused, or shows fewer bytes
  pub past_shown : size ≤ x → shown_in answer ≤ at
  past_shown i =
      by_test (leb size base) _
      (λ t. rw (by_file, looked_past says o n P c h v (leb-true _ _ t)) (omega arith))
      (λ t.
      let b : base < size = leb-false _ _ t in
      let e : shown_in answer ≡ shown = ap shown_in (by_copy b) ∙ (copy_fits (newest_copy says o c n)).0 in
      omega (arith, place))

  -- refused it is exactly where the file ends before the chunk
  pub past_refused : size ≤ base → answer ≡ looked.Refused PastEnd v 0
  past_refused i = by_file ∙ looked_past says o n P c h v i

  -- and not where it begins inside the file
  pub not_refused : (r : Refusal) (w m : ℕ) → base < size → answer ≡ looked.Refused r w m → ⊥
  not_refused r w m b e = never (newest_copy says o c n) (sym (by_copy b) ∙ e)
    where
      never : (f : Option ℕ) → copy_by says o n P c h.0 shown f ≡ looked.Refused r w m → ⊥
      never None k = let z = copy_missing says o n P c h.0 shown in clash (cc)
      never (Some q) k =
          by_test (hides (lowest q) base) _
          (λ t. let z = copy_hidden says o n P c h.0 shown q t in clash (cc))
          (λ t. let z = copy_shown says o n P c h.0 shown q t in clash (cc))

  -- the copy that the reason goes by is that of the lookup; where there is none it answers a hole
  same_copy : copy_for says P o n h.0 x ≡ newest_copy says o c n
  unfolding copy_for
  same_copy = rw (le-ltb most_chunk c number)

  -- so no page's bytes reach x
  uncopied : x < size → newest_copy says o c n ≡ None → holder_in at answer ≡ None
  uncopied i e = ap (holder_in at) (by_copy (omega (arith, place)) ∙ ap (copy_by says o n P c h.0 shown) e ∙ copy_missing says o n P c h.0 shown)

  -- of a copy q: where the lowest later cut is at or below x its valid bytes do not reach x, and else they do as its byte count does
  module _ (i : x < size) (q : ℕ) (e : newest_copy says o c n ≡ Some q) where
    answered : answer ≡ copy_by says o n P c h.0 shown (Some q)
    answered = by_copy (omega (arith, place)) ∙ rw e

    behind-cut : hides (lowest q) x ≡ true → holder_in at answer ≡ None
    behind-cut t =
        by_test (hides (lowest q) base) _
        (λ u. ap (holder_in at) (answered ∙ copy_hidden says o n P c h.0 shown q u))
        (λ u.
        let l : leaves (lowest q) base shown ≤ at = leaves_less (lowest q) base at shown (ap (hides (lowest q)) place ∙ t) in
        ap (holder_in at) (answered ∙ copy_shown says o n P c h.0 shown q u) ∙ rw (le-ltb at (valid_of P c (says q) shown (lowest q)) (omega arith)))

    -- where the lowest later cut is behind x the copy is shown
    in_sight : hides (lowest q) x ≡ false → holder_in at answer ≡ pick (ltb at (valid_of P c (says q) shown (lowest q))) (Some q) None
    in_sight t =
        by_test (hides (lowest q) base) _
        (λ u. let z : false ≡ true = sym t ∙ ap (hides (lowest q)) (sym place) ∙ hides_behind (lowest q) base at u in clash (cc))
        (λ u. ap (holder_in at) (answered ∙ copy_shown says o n P c h.0 shown q u))

    counted-out : hides (lowest q) x ≡ false → count_of (says q) ≤ at → holder_in at answer ≡ None
    counted-out t k = in_sight t ∙ rw (le-ltb at (valid_of P c (says q) shown (lowest q)) (omega arith))

    counted-in : hides (lowest q) x ≡ false → at < count_of (says q) → holder_in at answer ≡ Some q
    counted-in t k =
        let s : at < shown = omega (arith, place, small) in
        let l : at < leaves (lowest q) base shown = leaves_more (lowest q) base at shown s (ap (hides (lowest q)) place ∙ t) in
        in_sight t ∙ rw (lt-ltb at (valid_of P c (says q) shown (lowest q)) (omega arith))

  -- the lowest later cut is at or below x exactly when a later header cuts there
  low_cut : (q p : ℕ) → cutter says P o n h.0 q x ≡ Some p → hides (lowest q) x ≡ true
  low_cut q p d = hides_lowest_cut says o h.0 (age_of says q) x n p (cutter_found says P o n h.0 x q p d).0

  no_cut : (q : ℕ) → cutter says P o n h.0 q x ≡ None → hides (lowest q) x ≡ false
  no_cut q d =
      by_test (hides (lowest q) x) _
      (λ t. absurd (lowest_cut_hides says o h.0 (age_of says q) x n ⊥ t (cutter_missing says P o n h.0 x q d)))
      (λ t. t)

  -- so the valid bytes of the lookup's copy reach the byte exactly when the reason is that this page holds it
  pub holder_is : x < size → holder_in at answer ≡ holder_of (reason_at says P o n h.0 x)
  holder_is i =
      reason_by_lem says P o n h.0 x (λ r. holder_in at answer ≡ holder_of r)
      (λ j. absurd (omega arith))
      (λ _ e. uncopied i (sym same_copy ∙ e))
      (λ q p _ e d. behind-cut i q (sym same_copy ∙ e) (low_cut q p d))
      (λ q _ e d k. counted-out i q (sym same_copy ∙ e) (no_cut q d) k)
      (λ q _ e d k. counted-in i q (sym same_copy ∙ e) (no_cut q d) k)

-- ---- what a read leaves in the buffer

-- behind the part there are zeros, as far as is shown
overlaid_at : (part buffer : List ℕ) (shown i : ℕ) → i < shown → get_or (overlaid part shown buffer) i 0 ≡ get_or part i 0
unfolding overlaid
overlaid_at part buffer shown i k =
    let zeros = part ++ replicate shown 0 in
    let l : length zeros ≡ length part + shown = length-append part (replicate shown 0) ∙ ap (λ (m : ℕ). length part + m) (length-replicate shown 0) in
    let f : length (take shown zeros) ≡ shown = length-take-le shown zeros (omega arith) in
    get_or-append (take shown zeros) (drop shown buffer) 0 i (omega arith)
    ∙ get_or-take shown zeros i 0 k
    ∙ by_test (ltb i (length part)) _
    (λ t. get_or-append part (replicate shown 0) 0 i (ltb-true _ _ t))
    (λ t.
    let b : length part ≤ i = ltb-false _ _ t in
    zero_at part shown i b (omega arith) ∙ sym (get_or-eq_default part 0 b))

module _ (g : Geometry) (dump : List ℕ) where
  -- the byte that a page holds, or 0 where none does
  abbrev byte_of : (at : ℕ) → Option ℕ → ℕ
  byte_of at None = 0
  byte_of at (Some p) = shown_by g dump (reason.Held (record { 0 = p }) at)

  -- the valid part of a page reaches as far as it is long
  valid_at_lem : (p valid at : ℕ) → valid ≤ g.layout.«data» → get_or (valid_part g dump p valid) at 0 ≡ byte_of at (pick (ltb at valid) (Some p) None)
  valid_at_lem p valid at i =
      by_test (page_in g (length dump) p) _
      (λ u.
      let page = page_at g dump p in
      let fits : page_in g (length dump) p && leb valid g.layout.«data» ≡ true = rw u (le-leb _ _ i) in
      rw (valid_there g dump p valid fits)
      (by_test (ltb at valid) _
      (λ t. let b : at < valid = ltb-true _ _ t in rw (t, u, lt-ltb at g.layout.«data» (omega arith)) (get_or-take valid page at 0 b))
      (λ t.
      let b : valid ≤ at = ltb-false _ _ t in
      rw t (get_or-eq_default (take valid page) 0 (omega (arith, length-take valid page))))))
      (λ u.
      let out : page_in g (length dump) p && leb valid g.layout.«data» ≡ false = rw u in
      rw (valid_none g dump p valid out) (by_test (ltb at valid) _ (λ t. rw (t, u)) (λ t. rw t)))

  -- so a buffer has the byte of the page whose valid bytes reach it, and else 0
  buffer_at :
      (buffer : List ℕ) (l : Looked) (at : ℕ) → Fits g.layout.«data» l → at < shown_in l → get_or (buffer_by g dump buffer l) at 0 ≡ byte_of at (holder_in at l)
  unfolding buffer_by part_by
  buffer_at buffer (Err e) at w i = absurd (omega arith)
  buffer_at buffer (looked.Hole s v) at w i = overlaid_at [] buffer s at i
  buffer_at buffer (looked.Copy p a s v) at w i = overlaid_at (valid_part g dump p.0 a) buffer s at i ∙ valid_at_lem p.0 a at (omega arith)

  -- a reason shows the byte of the page that holds it
  reason_byte :
      (says : ℕ → Record) (P o n h x : ℕ) → shown_by g dump (reason_at says P o n h x) ≡ byte_of (byte_at P x) (holder_of (reason_at says P o n h x))
  reason_byte says P o n h x =
      reason_by_lem says P o n h x (λ r. shown_by g dump r ≡ byte_of (byte_at P x) (holder_of r))
      (λ _. refl) (λ _ _. refl) (λ _ _ _ _ _. refl) (λ _ _ _ _ _. refl) (λ _ _ _ _ _. refl)

  -- and where none does, 0
  pub zero_byte : (r : Reason) → holder_of r ≡ None → shown_by g dump r ≡ 0
  zero_byte (reason.Held p at) e = clash (cc)
  zero_byte reason.NoCopy e = refl
  zero_byte (reason.Cut p) e = refl
  zero_byte (reason.Count p) e = refl
  zero_byte (reason.PastEnd p) e = refl

  abbrev P : ℕ
  P = g.layout.«data»

  -- what a lookup of the chunk leaves in the buffer at a position inside the size, whatever the pages say: what the reason shows
  pub shown_byte :
      (says : ℕ → Record) (o n v x : ℕ) (h : PageNumber) (buffer : List ℕ) →
      0 < P → bad_object o ≡ false → chunk_at P x ≤ most_chunk → file_of says o n ≡ file.Header h v → x < size_of says P o h.0 n →
      get_or (buffer_by g dump buffer (looked_of says o n P (chunk_at P x))) (byte_at P x) 0 ≡ shown_by g dump (reason_at says P o n h.0 x)
  shown_byte says o n v x h buffer k object number live i =
      buffer_at buffer (looked_of says o n P (chunk_at P x)) (byte_at P x)
      (looked_fits says o n P v x h k object number live)
      (inside_shown says o n P v x h k object number live i)
      ∙ ap (byte_of (byte_at P x)) (holder_is says o n P v x h k object number live i)
      ∙ sym (reason_byte says P o n h.0 x)

  -- an accepted dump
  module _ (n : ℕ) (accepted : opened_of g (length dump) ≡ Ok n) where
    data_some : 0 < P
    data_some = let r = roomy_facts g.layout (opened_facts g (length dump) n accepted).room in omega (arith, r.header)

    -- held: it is that byte of that page
    pub held_byte :
        (says : ℕ → Record) (o v x at : ℕ) (h q : PageNumber) →
        file_of says o n ≡ file.Header h v → reason_at says P o n h.0 x ≡ reason.Held q at → shown_by g dump (reason.Held q at) ≡ get_or (page_at g dump q.0) at 0
    held_byte says o v x at h q live e =
        let w : BecauseHeld says P o n h.0 x q.0 at = rw e at (file_means says P o n v x h live) in
        let b : at < P = rw w.byte (byte_below P data_some x) in
        rw (page_below g dump n accepted q.0 w.copy.newest.below, lt-ltb at P b)

    -- a read of the dump as it stands
    module _
        (o v x : ℕ) (h : PageNumber) (object : bad_object o ≡ false) (number : chunk_at P x ≤ most_chunk)
        (live : file_of (record_at g dump) o n ≡ file.Header h v) where
      abbrev lookup : Looked
      lookup = chunk_on g dump o (chunk_at P x)

      -- its lookup is that by what the pages say
      looked-up : lookup ≡ looked_of (record_at g dump) o n P (chunk_at P x)
      unfolding chunk_on
      looked-up = rw accepted

      -- with room for what is shown it is not refused for its buffer
      room-read : (room : ℕ) (l : Looked) → shown_in l ≤ room → read_by room l ≡ l
      unfolding read_by
      room-read room (Err e) i = refl
      room-read room (looked.Hole s w) i = rw (le-ltb room s i)
      room-read room (looked.Copy p a s w) i = rw (le-ltb room s i)

      -- inside the size it shows what the reason shows
      pub read_byte :
          (buffer : List ℕ) → shown_in lookup ≤ length buffer → x < size_of (record_at g dump) P o h.0 n →
          get_or (buffer_by g dump buffer (read_by (length buffer) lookup)) (byte_at P x) 0 ≡ shown_by g dump (reason_at (record_at g dump) P o n h.0 x)
      read_byte buffer r i =
          ap (λ (l : Looked). get_or (buffer_by g dump buffer l) (byte_at P x) 0) (room-read (length buffer) lookup r ∙ looked-up)
          ∙ shown_byte (record_at g dump) o n v x h buffer data_some object number live i

      -- it has no byte there exactly past the end
      pub read_past : size_of (record_at g dump) P o h.0 n ≤ x → shown_in lookup ≤ byte_at P x
      read_past i = rw looked-up (past_shown (record_at g dump) o n P v x h data_some object number live i)

      -- and the other way round
      pub past_read : shown_in lookup ≤ byte_at P x → size_of (record_at g dump) P o h.0 n ≤ x
      past_read i =
          by_test (leb (size_of (record_at g dump) P o h.0 n) x) _
          (λ t. leb-true _ _ t)
          (λ t.
          let k : byte_at P x < shown_in lookup = rw looked-up (inside_shown (record_at g dump) o n P v x h data_some object number live (leb-false _ _ t)) in
          absurd (omega arith))

-- ---- an answer

-- byte x of object o of a dump at a moment
module _ (g : Geometry) (dump : List ℕ) (m : Moment) (o x : ℕ) where
  abbrev seen : ℕ → Record
  seen = says_at g dump m o

  abbrev bytes : ℕ
  bytes = g.layout.«data»

  -- what it is to be told that reason r makes it what it is, up to u: the dump is accepted, and the object is a live file of it; the reason is true; it
  -- holds up to u, which past the end is the largest position; and what a read shows there is what the reason shows
  pub record Answered (r : Reason) (u : ℕ) : Type 0 where
    pub pages : ℕ
    pub header : PageNumber
    pub visits : ℕ
    pub accepted : opened_of g (length dump) ≡ Ok pages
    pub object : bad_object o ≡ false
    pub live : file_of seen o pages ≡ file.Header header visits
    pub means : Means seen bytes o pages header.0 x r
    pub inside : x < size_of seen bytes o header.0 pages → HoldsUntil seen bytes o pages header.0 x u
    pub past : size_of seen bytes o header.0 pages ≤ x → u ≡ last_position
    pub shown :
        (buffer : List ℕ) → chunk_at bytes x ≤ most_chunk → x < size_of seen bytes o header.0 pages →
        get_or (buffer_by g dump buffer (looked_of seen o pages bytes (chunk_at bytes x))) (byte_at bytes x) 0 ≡ shown_by g dump r

  -- what is told of a byte is one reason and one end
  same_why : (r s : Reason) (u v : ℕ) → told.Because r u ≡ told.Because s v → ◌≡◌ {A = Why} (record { reason = r; until = u }) (record { reason = s; until = v })
  same_why r s u v e = cc

  module _ (words u : ℕ) (r : Reason) where
    abbrev refuse : Refusal → Told
    refuse f = told.Refused f 0

    abbrev tell : (pages header : ℕ) → Told
    tell n h =
        pick (ltb words (room_for g dump m o n h)) (told.Refused ShortBuffer (room_for g dump m o n h))
        (told.Because (reason_at seen bytes o n h x) (until_of seen bytes o n h x))

    module _ (n : ℕ) (accepted : opened_of g (length dump) ≡ Ok n) where
      of_header :
          (h : PageNumber) (v : ℕ) → bad_object o ≡ false → file_of seen o n ≡ file.Header h v →
          reason_at seen bytes o n h.0 x ≡ r → until_of seen bytes o n h.0 x ≡ u → Answered r u
      of_header h v object live e k =
          record {
            pages = n;
            header = h;
            visits = v;
            accepted = accepted;
            object = object;
            live = live;
            means = rw e at (file_means seen bytes o n v x h live);
            inside = λ i. rw k at (until_holds seen bytes o n h.0 x i);
            past = λ i. sym k ∙ until_past seen bytes o n h.0 x i;
            shown = λ buffer number i. shown_byte g dump seen o n v x h buffer (data_some g dump n accepted) object number live i ∙ ap (shown_by g dump) e;
          }

      -- by what the object is, what refuses it, and what refuses the dump
      of-file : (f : File) → bad_object o ≡ false → file_of seen o n ≡ f → on_file refuse (tell n) (filed_by f) ≡ told.Because r u → Answered r u
      of-file (Err e) object live k = clash (cc)
      of-file (Ok x) object live k =
          pick_cases (ltb words (room_for g dump m o n x.answer.0)) _ _ _ _ k
          (λ _ j. clash (cc))
          (λ _ j.
          let w = same_why _ r _ u j in
          of_header x.answer x.visits object live (ap (λ (y : Why). y.reason) w) (ap (λ (y : Why). y.until) w))

      of-filed : on_file refuse (tell n) (filed_in seen n m o) ≡ told.Because r u → Answered r u
      unfolding filed_in
      of-filed k =
          by_test (is_missing n m) _
          (λ t. let j : refuse BadPage ≡ told.Because r u = rw t at k in clash (cc))
          (λ t.
          by_test (bad_object o) _
          (λ b. let j : refuse BadObject ≡ told.Because r u = rw (t, b) at k in clash (cc))
          (λ b. of-file (file_of seen o n) b refl (rw (t, b) at k)))

    of-dump : (p : (Result ℕ Refusal)) → opened_of g (length dump) ≡ p → on_pages refuse (λ n. on_file refuse (tell n) (filed_in seen n m o)) p ≡ told.Because r u → Answered r u
    of-dump (Err f) e k = clash (cc)
    of-dump (Ok n) e k = of-filed n e k

    -- what is told is so
    pub told_answered : why_on g dump m o x words ≡ told.Because r u → Answered r u
    unfolding why_on
    told_answered k = of-dump (opened_of g (length dump)) refl k
