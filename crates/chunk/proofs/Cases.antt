-- What each answer is, case by case. The crates above cite these laws, and open no definition of this crate.
use Rattle.std.specs.Prelude.{Some, None}
use Prim.Native.Nat.{ℕ, ◌≤◌, ◌<◌, max}
use mathlib.Core.Bool.{true, false, ◌&&◌}
use mathlib.Core.List.{List, []}
use mathlib.Core.Path.{◌≡◌, refl}
use lib.Dec.{eqb, ltb, leb}
use lib.ListN.{length, take}
use borrow.Author.Tests.{ne_eqb, le-leb, lt-leb}
use Rattle.page.specs.Choice.{pick}
use Rattle.page.specs.Lengths.{page_in}
use Rattle.page.specs.Numbers.{bad_object, bad_chunk}
use Rattle.page.specs.Pages.{page_at}
use Rattle.page.specs.declared.record.Record.{Record}
use Rattle.page.specs.declared.geometry.Geometry.{Geometry}
use Rattle.page.specs.declared.number.PageNumber.{PageNumber}
use Rattle.page.specs.declared.refusal.Refusal.{Refusal}
use Rattle.page.specs.declared.refusal.Refusal.TheVariants.{BadObject, BadChunk, NoObject, NoHeader, PastEnd, ShortBuffer}
use Rattle.page.proofs.Searching.{by_test}
use Rattle.chunk.specs.Records.{age_of, is_gone, is_file, file_size, base_of}
use Rattle.chunk.specs.Newest.{newest_header, newest_copy, records}
use Rattle.chunk.specs.Cuts.{lowest_cut, hides}
use Rattle.chunk.specs.Sizes.{data_end, size_of}
use Rattle.chunk.specs.Visits.{copy, hole, headless, headed, visits}
use Rattle.chunk.specs.Lookups.{file_at, file_by, file_of, sized_by, sized_of, shown_of, valid_of, copy_at, copy_by, chunk_by, looked_by, looked_of}
use Rattle.chunk.specs.Answers.{valid_part, part_by}
use Rattle.chunk.specs.Lists.{listed_by, in_front, words_by}
use Rattle.chunk.specs.File.{File}
use Rattle.chunk.specs.File as file
use Rattle.chunk.specs.Sized as sized
use Rattle.chunk.specs.Looked as looked
use Rattle.chunk.specs.Listed as listed

-- ---- the file

-- the newest header makes a file of its object, or it is refused; the visits are the same
pub file_cases :
    (k : Record) (h v : ℕ) (X : File → Type 0) → ((r : Refusal) → X (file.Refused r v)) → X (file.Header (record { 0 = h }) v) → X (file_at k h v)
unfolding file_at
file_cases k h v X f g = by_test (is_gone k) _ (λ t. rw t (f _)) (λ t. rw t (by_test (is_file k) _ (λ u. rw u g) (λ u. rw u (f _))))

module _ (says : ℕ → Record) (o n : ℕ) where
  -- without a header, by whether there is any record
  pub file_headless : newest_header says o n ≡ None → file_of says o n ≡ pick (eqb (records says o n) 0) (file.Refused NoObject 0) (file.Refused NoHeader (visits says o n headless))
  unfolding file_of file_by
  file_headless e = rw e

  -- with one, by what the newest says
  pub file_headed : (h : ℕ) → (records says o n ≡ 0 → ⊥) → newest_header says o n ≡ Some h → file_of says o n ≡ file_at (says h) h (visits says o n (headed h))
  unfolding file_of file_by
  file_headed h s e = rw (ne_eqb _ _ s, e)

  module _ (P : ℕ) where
    -- ---- its size

    -- the newest header's, or the largest end of newer data
    pub size_larger : (h : ℕ) → size_of says P o h n ≡ max (file_size (says h)) (data_end says P o (age_of says h) n)
    unfolding size_of
    size_larger h = refl

    -- what is no file has no size
    pub sized_refused : (r : Refusal) (v : ℕ) → sized_by says o n P (file.Refused r v) ≡ sized.Refused r v
    unfolding sized_by
    sized_refused r v = refl

    pub sized_file : (h : PageNumber) (v : ℕ) → sized_by says o n P (file.Header h v) ≡ sized.Size (size_of says P o h.0 n) v
    unfolding sized_by
    sized_file h v = refl

    -- a bad id is refused first, and then it goes by the file
    pub size_bad : bad_object o ≡ true → sized_of says o n P ≡ sized.Refused BadObject 0
    unfolding sized_of
    size_bad e = rw e

    pub size_by_file : bad_object o ≡ false → sized_of says o n P ≡ sized_by says o n P (file_of says o n)
    unfolding sized_of
    size_by_file e = rw e

    -- ---- its chunks

    module _ (c : ℕ) where
      -- no copy, a copy that a later header hides, and one that is in sight
      module _ (h shown : ℕ) where
        pub copy_missing : copy_by says o n P c h shown None ≡ looked.Hole shown (visits says o n hole)
        unfolding copy_by
        copy_missing = refl

        pub copy_hidden : (q : ℕ) → hides (lowest_cut says o h (age_of says q) n) (base_of P c) ≡ true → copy_by says o n P c h shown (Some q) ≡ looked.Hole shown (visits says o n hole)
        unfolding copy_by copy_at
        copy_hidden q i = rw i

        pub copy_shown :
            (q : ℕ) → hides (lowest_cut says o h (age_of says q) n) (base_of P c) ≡ false →
            copy_by says o n P c h shown (Some q)
            ≡ looked.Copy (record { 0 = q }) (valid_of P c (says q) shown (lowest_cut says o h (age_of says q) n)) shown (visits says o n (copy h q))
        unfolding copy_by copy_at
        copy_shown q i = rw i

      -- what is no file has no chunk
      pub looked_refused : (r : Refusal) (v : ℕ) → looked_by says o n P c (file.Refused r v) ≡ looked.Refused r v 0
      unfolding looked_by
      looked_refused r v = refl

      -- a file that ends before the chunk, and one that does not
      module _ (h : PageNumber) (v : ℕ) where
        pub looked_past : size_of says P o h.0 n ≤ base_of P c → looked_by says o n P c (file.Header h v) ≡ looked.Refused PastEnd v 0
        unfolding looked_by chunk_by
        looked_past i = rw (le-leb _ _ i)

        pub looked_inside :
            base_of P c < size_of says P o h.0 n →
            looked_by says o n P c (file.Header h v) ≡ copy_by says o n P c h.0 (shown_of P c (size_of says P o h.0 n)) (newest_copy says o c n)
        unfolding looked_by chunk_by
        looked_inside i = rw (lt-leb _ _ i)

      -- a bad id is refused first, then a bad chunk number, and then it goes by the file
      pub chunk_bad_object : bad_object o ≡ true → looked_of says o n P c ≡ looked.Refused BadObject 0 0
      unfolding looked_of
      chunk_bad_object e = rw e

      pub chunk_bad_number : bad_object o ≡ false → bad_chunk c ≡ true → looked_of says o n P c ≡ looked.Refused BadChunk 0 0
      unfolding looked_of
      chunk_bad_number e d = rw (e, d)

      pub chunk_by_file : bad_object o ≡ false → bad_chunk c ≡ false → looked_of says o n P c ≡ looked_by says o n P c (file_of says o n)
      unfolding looked_of
      chunk_by_file e d = rw (e, d)

-- ---- its bytes

module _ (g : Geometry) (dump : List ℕ) where
  -- the first bytes of a page that is there and has so many, and else none
  pub valid_there : (p valid : ℕ) → page_in g (length dump) p && leb valid g.layout.«data» ≡ true → valid_part g dump p valid ≡ take valid (page_at g dump p)
  unfolding valid_part
  valid_there p valid t = rw t

  pub valid_none : (p valid : ℕ) → page_in g (length dump) p && leb valid g.layout.«data» ≡ false → valid_part g dump p valid ≡ []
  unfolding valid_part
  valid_none p valid t = rw t

  -- only a copy has bytes
  pub part_copy : (p : PageNumber) (a s v : ℕ) → part_by g dump (looked.Copy p a s v) ≡ valid_part g dump p.0 a
  unfolding part_by
  part_copy p a s v = refl

  pub part_hole : (s v : ℕ) → part_by g dump (looked.Hole s v) ≡ []
  unfolding part_by
  part_hole s v = refl

  pub part_refused : (r : Refusal) (v n : ℕ) → part_by g dump (looked.Refused r v n) ≡ []
  unfolding part_by
  part_refused r v n = refl

-- ---- a listing

-- it goes by how many ids there are
pub listed_count : (room m : ℕ) (ids : List ℕ) → length ids ≡ m → listed_by room ids ≡ pick (ltb room m) (listed.Refused ShortBuffer m) (listed.Ids m)
unfolding listed_by
listed_count room m ids e = rw e

-- a refused one leaves the words as they were, and another has the ids in front
module _ (ids words : List ℕ) where
  pub words_kept : (r : Refusal) (need : ℕ) → words_by ids words (listed.Refused r need) ≡ words
  unfolding words_by
  words_kept r need = refl

  pub words_listed : (m : ℕ) → words_by ids words (listed.Ids m) ≡ in_front ids words
  unfolding words_by
  words_listed m = refl
