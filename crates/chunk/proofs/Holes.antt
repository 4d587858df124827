-- Demand 2 on holes. A chunk that a live file reaches, and of which nothing is refused, is told as a hole if it has no copy, or a later cut hides its
-- newest one, and in no other case; else that copy is told, with at least one valid byte.
use Rattle.std.specs.Prelude.{Some, None}
use Prim.Native.Nat.{ℕ, ◌<◌}
use mathlib.Core.Bool.{false}
use mathlib.Core.Path.{◌≡◌, ◌∙◌}
use native.Mathlib.Omega.{arith}
use Rattle.page.specs.Numbers.{bad_object, bad_chunk}
use Rattle.page.specs.declared.record.Record.{Record}
use Rattle.page.specs.declared.number.PageNumber.{PageNumber}
use Rattle.page.proofs.Searching.{by_test}
use Rattle.chunk.specs.Records.{age_of, count_of, base_of}
use Rattle.chunk.specs.Newest.{newest_copy}
use Rattle.chunk.specs.Cuts.{lowest_cut, hides}
use Rattle.chunk.specs.Sizes.{size_of}
use Rattle.chunk.specs.Visits.{copy, hole, visits}
use Rattle.chunk.specs.Lookups.{file_of, copy_by, looked_of, shown_of, valid_of}
use Rattle.chunk.specs.File as file
use Rattle.chunk.specs.Looked.{Looked}
use Rattle.chunk.specs.Looked as looked
use Rattle.chunk.proofs.Cases.{copy_missing, copy_hidden, copy_shown, looked_inside, chunk_by_file}
use Rattle.chunk.proofs.Cuts.{leaves_some}
use Rattle.chunk.proofs.Meaning.{Hides, lowest_cut_hides, hides_lowest_cut}

module _
    (says : ℕ → Record) (o n P c v : ℕ) (h : PageNumber)
    (object : bad_object o ≡ false) (number : bad_chunk c ≡ false) (live : file_of says o n ≡ file.Header h v)
    (inside : base_of P c < size_of says P o h.0 n) where
  abbrev answer : Looked
  answer = looked_of says o n P c

  abbrev shown : ℕ
  shown = shown_of P c (size_of says P o h.0 n)

  -- the lookup answers by the newest copy
  by_copy : answer ≡ copy_by says o n P c h.0 shown (newest_copy says o c n)
  by_copy = chunk_by_file says o n P c object number ∙ rw live (looked_inside says o n P c h v inside)

  -- no copy: a hole
  pub hole_without_copy : newest_copy says o c n ≡ None → answer ≡ looked.Hole shown (visits says o n hole)
  hole_without_copy e = by_copy ∙ rw e (copy_missing says o n P c h.0 shown)

  -- the newest copy hidden by a later cut: a hole
  pub hole_behind_cut : (q p : ℕ) → newest_copy says o c n ≡ Some q → Hides says o h.0 (age_of says q) n (base_of P c) p → answer ≡ looked.Hole shown (visits says o n hole)
  hole_behind_cut q p e g = by_copy ∙ rw e (copy_hidden says o n P c h.0 shown q (hides_lowest_cut says o h.0 (age_of says q) (base_of P c) n p g))

  -- a copy that no later header hides is not hidden by the lowest later cut
  in_sight : (q : ℕ) → ((p : ℕ) → Hides says o h.0 (age_of says q) n (base_of P c) p → ⊥) → hides (lowest_cut says o h.0 (age_of says q) n) (base_of P c) ≡ false
  in_sight q g =
      by_test (hides (lowest_cut says o h.0 (age_of says q) n) (base_of P c)) _
      (λ t. absurd (lowest_cut_hides says o h.0 (age_of says q) (base_of P c) n ⊥ t g))
      (λ t. t)

  -- otherwise the newest copy
  pub copy_in_sight :
      (q : ℕ) → newest_copy says o c n ≡ Some q → ((p : ℕ) → Hides says o h.0 (age_of says q) n (base_of P c) p → ⊥) →
      answer ≡ looked.Copy (record { 0 = q }) (valid_of P c (says q) shown (lowest_cut says o h.0 (age_of says q) n)) shown (visits says o n (copy h.0 q))
  copy_in_sight q e g = by_copy ∙ rw e (copy_shown says o n P c h.0 shown q (in_sight q g))

  -- and it has valid bytes, since its byte count is at least 1 and a page has data
  pub valid_some :
      (q : ℕ) → 0 < P → 0 < count_of (says q) → ((p : ℕ) → Hides says o h.0 (age_of says q) n (base_of P c) p → ⊥) →
      0 < valid_of P c (says q) shown (lowest_cut says o h.0 (age_of says q) n)
  valid_some q p k g = omega (arith, leaves_some (lowest_cut says o h.0 (age_of says q) n) (base_of P c) shown (in_sight q g) (omega arith))
