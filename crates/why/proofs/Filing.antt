-- The file of an object by its newest header alone. What an object is goes by what that header says; how many records a lookup visits is left out, so that
-- one pass is enough.
use Prim.Native.Nat.{ℕ}
use Rattle.std.specs.Prelude.{Err, Some, None}
use mathlib.Core.Path.{◌≡◌}
use borrow.Author.Tests.{eq-eqb, ne_eqb}
use Rattle.page.specs.declared.record.Record.{Record}
use Rattle.page.specs.declared.refusal.Refusal.TheVariants.{NoObject, NoHeader}
use Rattle.page.proofs.Layouts.{and_left}
use Rattle.page.proofs.Searching.{by_test}
use Rattle.chunk.specs.Records.{is_of, header_of, is_gone, is_file}
use Rattle.chunk.specs.Newest.{newest_header, records}
use Rattle.chunk.specs.Lookups.{file_at, file_by, file_of}
use Rattle.chunk.proofs.Living.{record_some}
use Rattle.chunk.proofs.Meaning.{newest_found}
use Rattle.why.specs.Answers.{filed_by}

-- what an object is does not go by the visits
same_file : (k : Record) (h v w : ℕ) → filed_by (file_at k h v) ≡ filed_by (file_at k h w)
unfolding file_at
same_file k h v w = by_test (is_gone k) _ (λ t. rw t) (λ t. by_test (is_file k) _ (λ u. rw (t, u)) (λ u. rw (t, u)))

module _ (says : ℕ → Record) (o n : ℕ) where
  -- no record; no header; or what the newest header says, which is a record
  pub filed_none : records says o n ≡ 0 → filed_by (file_of says o n) ≡ Err NoObject
  unfolding file_of
  filed_none e = rw (eq-eqb (records says o n) 0 e)

  pub filed_headless : (records says o n ≡ 0 → ⊥) → newest_header says o n ≡ None → filed_by (file_of says o n) ≡ Err NoHeader
  unfolding file_of file_by
  filed_headless f e = rw (ne_eqb (records says o n) 0 f, e)

  pub filed_at : (h : ℕ) → newest_header says o n ≡ Some h → filed_by (file_of says o n) ≡ filed_by (file_at (says h) h 0)
  unfolding file_of file_by
  filed_at h e =
      let w = newest_found says (header_of o) n h e in
      rw (ne_eqb (records says o n) 0 (record_some says o h n w.below (and_left (is_of o (says h)) _ w.passes)), e) (same_file (says h) h _ 0)
