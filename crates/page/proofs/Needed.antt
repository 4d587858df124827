-- None of the 16 tag bytes could be left out of what finding reads: for each there is a dump whose layout is found, and with another value of
-- that byte alone is not. Computed from the definitions, in one table.
use Prim.Native.Nat.{◌+◌}
use Rattle.std.specs.Prelude.{Ok, Err}
use mathlib.Core.List.{map}
use mathlib.Core.Path.{◌≡◌, refl}
use lib.ListN.{set, replicate}
use Rattle.page.specs.Search.{first_from, count}
use Rattle.page.specs.Numbers.{bad_object}
use Rattle.page.specs.Words.{le32}
use Rattle.page.specs.Layouts.{data_sizes, spare_sizes, tag_offsets, layout_at, roomy}
use Rattle.page.specs.Lengths.{block_fits, length_fits, whole_blocks, page_in}
use Rattle.page.specs.Pages.{page_at}
use Rattle.page.specs.Tags.{tags_of, tag_bytes, object_in, header_claim, data_claim, claim_of, claim_on, claim_at}
use Rattle.page.specs.Find.{bears_sequence, first_sequence, block_sequence, is_scored, score_fits, fitting_score, candidate_score, highest, winner, winner_of, find_of}
use Rattle.page.specs.Shelf.{shelf_layout, word_bytes, tagged}
use Rattle.page.specs.Reading.{tag_cases, tag_dump}
use Rattle.page.specs.declared.refusal.Refusal.TheVariants.{NoLayout}

pub record Needed : Type 0 where
  pub found : map (λ c. find_of (tag_dump c) 1) tag_cases ≡ replicate 16 (Ok shelf_layout)
  pub altered : map (λ c. find_of (set (tag_dump c) (512 + c.byte) c.value) 1) tag_cases ≡ replicate 16 (Err NoLayout)

pub needed : Needed
unfolding tag_cases tagged word_bytes find_of block_fits length_fits whole_blocks winner_of winner highest first_from candidate_score fitting_score score_fits count is_scored block_sequence first_sequence bears_sequence claim_at page_in roomy layout_at data_sizes spare_sizes tag_offsets claim_on claim_of header_claim data_claim object_in bad_object tags_of tag_bytes page_at le32
needed = record { found = refl; altered = refl }
