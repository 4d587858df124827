-- What is answered of a file that was found, and of one that was not.
use Prim.Native.Nat.{ℕ, ◌-◌, ◌≤◌}
use Rattle.std.specs.Prelude.{Result, Ok, Err}
use mathlib.Core.List.{List, [], ◌++◌}
use mathlib.Core.Path.{◌≡◌, refl}
use lib.Dec.{ltb}
use lib.ListN.{length, drop, replicate}
use native.Mathlib.Omega.{arith}
use Rattle.sort.specs.Room.{in_room}
use borrow.Author.Tests.{ltb-false}
use Rattle.page.specs.Choice.{pick}
use Rattle.page.specs.Lengths.{opened_of}
use Rattle.page.specs.Records.{record_at}
use Rattle.page.specs.declared.geometry.Geometry.{Geometry}
use Rattle.page.specs.declared.number.PageNumber.{PageNumber}
use Rattle.page.specs.declared.refusal.Refusal.{Refusal}
use Rattle.page.specs.declared.refusal.Refusal.TheVariants.{ShortBuffer}
use Rattle.page.specs.declared.refusal.Short.{Short}
use Rattle.page.proofs.Searching.{clash, by_test, pick_cases}
use Rattle.chunk.specs.Answers.{on_pages}
use Rattle.chunk.specs.Moments.{takes_at}
use Rattle.chunk.specs.Sizes.{size_of}
use Rattle.chunk.specs.declared.moment.Moment.{Moment}
use Rattle.why.specs.Answers.{filed_in, on_file, on_live, says_at, room_for, filed_on}
use Rattle.why.specs.declared.spans.Filed.{Filed}

module _ (g : Geometry) (dump : List ℕ) (m : Moment) (o words : ℕ) where
  abbrev no-file : Refusal → Result Filed (Short ℕ)
  no-file r = Err (record { refusal = r; need = 0 })

  abbrev found : (pages header : ℕ) → Result Filed (Short ℕ)
  found n h =
      pick (ltb words (room_for g dump m o n h)) (Err (record { refusal = ShortBuffer; need = room_for g dump m o n h }))
      (Ok (record { pages = n; takes = takes_at (record_at g dump) m; header = record { 0 = h }; size = size_of (says_at g dump m o) g.layout.«data» o h n; marks = room_for g dump m o n h }))

  -- by what was found, or what refused it
  module _ {A : Type 0} (refuse : Refusal → ℕ → A) (tell : (pages header : ℕ) → A) where
    abbrev pub by : Result Filed (Short ℕ) → A
    by (Err e) = refuse e.refusal e.need
    by (Ok f) = tell f.pages f.header.0

    abbrev short : (pages header : ℕ) → A
    short n h = pick (ltb words (room_for g dump m o n h)) (refuse ShortBuffer (room_for g dump m o n h)) (tell n h)

    by-file : (n : ℕ) (f : Result PageNumber Refusal) → on_file (λ r. refuse r 0) (short n) f ≡ by (on_file no-file (found n) f)
    by-file n (Err r) = refl
    by-file n (Ok h) = by_test (ltb words (room_for g dump m o n h.0)) _ (λ t. rw t) (λ t. rw t)

    by-pages :
        (p : Result ℕ Refusal) →
        on_pages (λ r. refuse r 0) (λ n. on_file (λ r. refuse r 0) (short n) (filed_in (says_at g dump m o) n m o)) p
        ≡ by (on_pages no-file (λ n. on_file no-file (found n) (filed_in (says_at g dump m o) n m o)) p)
    by-pages (Err r) = refl
    by-pages (Ok n) = by-file n (filed_in (says_at g dump m o) n m o)

    pub told_by : (r : Result Filed (Short ℕ)) → filed_on g dump m o words ≡ r → on_live g dump m o (λ r. refuse r 0) short ≡ by r
    unfolding filed_on
    told_by r e = rw (← e) (by-pages (opened_of g (length dump)))

  -- what was found
  pub record Live (f : Filed) : Type 0 where
    pub opened : opened_of g (length dump) ≡ Ok f.pages
    pub takes : f.takes ≡ takes_at (record_at g dump) m
    pub size : f.size ≡ size_of (says_at g dump m o) g.layout.«data» o f.header.0 f.pages
    pub marks : f.marks ≡ room_for g dump m o f.pages f.header.0
    pub fits : f.marks ≤ words

  live-file :
      (f : Filed) (n : ℕ) → opened_of g (length dump) ≡ Ok n → (r : Result PageNumber Refusal) → on_file no-file (found n) r ≡ Ok f → Live f
  live-file f n e (Err r) k = clash (cc)
  live-file f n e (Ok h) k =
      pick_cases (ltb words (room_for g dump m o n h.0)) _ _ _ _ k
      (λ _ j. clash (cc))
      (λ t j.
      let z :
      ◌≡◌ {A = Filed}
      (record { pages = n; takes = takes_at (record_at g dump) m; header = h; size = size_of (says_at g dump m o) g.layout.«data» o h.0 n; marks = room_for g dump m o n h.0 })
      f = cc in
      rw (← z) record { opened = e; takes = refl; size = refl; marks = refl; fits = ltb-false _ _ t })

  live-pages :
      (f : Filed) (p : Result ℕ Refusal) → opened_of g (length dump) ≡ p →
      on_pages no-file (λ n. on_file no-file (found n) (filed_in (says_at g dump m o) n m o)) p ≡ Ok f → Live f
  live-pages f (Err r) e k = clash (cc)
  live-pages f (Ok n) e k = live-file f n e (filed_in (says_at g dump m o) n m o) k

  pub live : (f : Filed) → filed_on g dump m o words ≡ Ok f → Live f
  unfolding filed_on
  live f e = live-pages f (opened_of g (length dump)) refl e

-- words of which so many are cleared
pub zeros_room : (k : ℕ) (w : List ℕ) → replicate k 0 ++ drop k w ≡ in_room [] k w
zeros_room k w = let z : k - 0 ≡ k = omega arith in rw z
