-- The shelf dump W, the marked cases about pages and the limits of a dump's length: computed from the definitions, in one table.
use Prim.Native.Nat.{ℕ, zero, suc, ◌+◌, ◌≤◌, ◌<◌}
use Rattle.std.specs.Prelude.{Ok, Err}
use mathlib.Core.List.{List, map}
use mathlib.Core.Path.{◌≡◌, refl, sym, ap, ◌∙◌, fun_ext}
use lib.Dec.{ltb}
use lib.ListN.{length, get_or, get_or-eq_default}
use native.Mathlib.Nat.{add-zero, zero-add}
use native.Mathlib.Omega.{arith}
use borrow.Author.Tests.{ltb-true, ltb-false}
use Rattle.page.specs.Search.{first_from, count}
use Rattle.page.specs.Numbers.{bad_object}
use Rattle.page.specs.Words.{le32}
use Rattle.page.specs.Layouts.{data_sizes, spare_sizes, tag_offsets, layout_at, has_sizes, number_of_sizes, roomy}
use Rattle.page.specs.Lengths.{block_fits, length_fits, whole_blocks, opened_of, page_in}
use Rattle.page.specs.Pages.{page_at}
use Rattle.page.specs.Tags.{tags_of, tag_bytes, object_in, header_claim, data_claim, claim_of, claim_on, claim_at}
use Rattle.page.specs.Kinds.{bad_type, type_differs, header_of, kind_by, kind_of, kind_at}
use Rattle.page.specs.Records.{record_of, record_at}
use Rattle.page.specs.Counts.{counts_below, counted_in, counted_of}
use Rattle.page.specs.Find.{bears_sequence, first_sequence, block_sequence, is_scored, score_fits, fitting_score, candidate_score, highest, winner, winner_of, find_of}
use Rattle.page.specs.Shelf.{shelf_layout, shelf_geometry, word_bytes, tagged, header_page, data_page, blank_page, shelf_pages, dump_of, shelf, retagged, kinds_from, shelf_kinds, page_cases, kind_in}
use Rattle.page.specs.declared.geometry.Geometry.{Geometry}
use Rattle.page.specs.declared.kind.Kind.{Kind}
use Rattle.page.specs.declared.kind.Kind.TheVariants.{Blank}
use Rattle.page.specs.declared.refusal.Refusal.TheVariants.{BadLength}
use Rattle.page.proofs.Searching.{by_test}
use Rattle.page.proofs.Within.{blank_beyond}

-- the same layout in blocks of one page
abbrev one_page : Geometry
one_page = record { layout = shelf_layout; block = 1 }

pub record Marked : Type 0 where
  -- W has 4,224 bytes, in blocks of 4 it has 8 pages, of these kinds and with these counts
  pub shelf_length : length shelf ≡ 4224
  pub shelf_opened : opened_of shelf_geometry 4224 ≡ Ok 8
  pub shelf_kinds_lem : kinds_from shelf_geometry shelf 0 8 ≡ shelf_kinds
  pub shelf_counts : counted_of shelf_geometry shelf ≡ Ok (record { blank = 1; foreign = 0; damaged = 0; headers = 3; «data» = 4 })
  -- every row of cases 8 to 11
  pub page_cases_lem : map kind_in page_cases ≡ map (λ c. c.kind) page_cases
  -- the longest dump of the shortest pages, and the first length of them that is too long
  pub longest : opened_of one_page 1073741328 ≡ Ok 2033601
  pub too_long : opened_of one_page 1073741856 ≡ Err BadLength

pub marked : Marked
unfolding shelf shelf_pages dump_of header_page data_page blank_page tagged word_bytes retagged kinds_from shelf_kinds page_cases kind_in opened_of block_fits length_fits whole_blocks number_of_sizes first_from has_sizes layout_at data_sizes spare_sizes tag_offsets kind_at page_in roomy page_at kind_of kind_by header_of bad_type type_differs claim_on claim_of header_claim data_claim object_in bad_object tags_of tag_bytes le32 counted_of counted_in counts_below count
marked = record {
  shelf_length = refl;
  shelf_opened = refl;
  shelf_kinds_lem = refl;
  shelf_counts = refl;
  page_cases_lem = refl;
  longest = refl;
  too_long = refl;
}

-- and its layout is found
pub shelf_found : find_of shelf 4 ≡ Ok shelf_layout
unfolding shelf shelf_pages dump_of header_page data_page blank_page tagged word_bytes find_of block_fits length_fits whole_blocks winner_of winner highest first_from candidate_score fitting_score score_fits count is_scored block_sequence first_sequence bears_sequence claim_at page_in roomy layout_at data_sizes spare_sizes tag_offsets claim_on claim_of header_claim data_claim object_in bad_object tags_of tag_bytes page_at le32
shelf_found = refl

module _ (g : Geometry) (dump : List ℕ) where
  kinds_length : (i n : ℕ) → length (kinds_from g dump i n) ≡ n
  unfolding kinds_from
  kinds_length i zero = refl
  kinds_length i (suc n) = ap suc (kinds_length (i + 1) n)

  kinds_at : (i n j : ℕ) → j < n → get_or (kinds_from g dump i n) j Blank ≡ kind_at g dump (i + j)
  unfolding kinds_from
  kinds_at i zero j h = absurd (omega arith)
  kinds_at i (suc n) zero h = rw add-zero
  kinds_at i (suc n) (suc j) h = let e : i + 1 + j ≡ i + suc j = omega arith in rw (← e) (kinds_at (i + 1) n j (omega arith))

  -- a dump whose kinds are known has them at their numbers, and blank pages beyond
  pub kinds_known : (m : ℕ) (ks : List Kind) → opened_of g (length dump) ≡ Ok m → kinds_from g dump 0 m ≡ ks → (i : ℕ) → kind_at g dump i ≡ get_or ks i Blank
  kinds_known m ks o e i =
      by_test (ltb i m) _
      (λ t. rw (← e) (sym (rw zero-add at (kinds_at 0 m i (ltb-true i m t)))))
      (λ t.
      let h = ltb-false i m t in
      let n : length ks ≤ i = rw (← e) (omega (arith, kinds_length 0 m)) in
      blank_beyond g dump m o i h ∙ sym (get_or-eq_default ks Blank n))

-- the kinds of W by page number
pub shelf_kind : (i : ℕ) → kind_at shelf_geometry shelf i ≡ get_or shelf_kinds i Blank
shelf_kind = kinds_known shelf_geometry shelf 8 shelf_kinds (rw marked.shelf_length marked.shelf_opened) marked.shelf_kinds_lem

-- and the records that they are
pub shelf_record : (i : ℕ) → record_at shelf_geometry shelf i ≡ record_of (get_or shelf_kinds i Blank)
unfolding record_at
shelf_record i = ap record_of (shelf_kind i)

-- so that its pages say what its kinds do
pub shelf_says : record_at shelf_geometry shelf ≡ (λ i. record_of (get_or shelf_kinds i Blank))
shelf_says = fun_ext shelf_record
