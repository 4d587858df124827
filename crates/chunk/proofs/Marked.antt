-- The twelve marked cases, computed from the definitions. W's kinds are known page by page from the crate of pages, so that no byte is looked at here.
use Prim.Native.Nat.{ℕ, ◌<◌}
use Rattle.std.specs.Prelude.{Ok}
use mathlib.Core.Bool.{false}
use mathlib.Core.Path.{◌≡◌}
use native.Mathlib.Omega.{arith}
use lib.ListN.{length}
use Rattle.page.specs.Numbers.{bad_object, bad_chunk}
use Rattle.page.specs.Lengths.{opened_of}
use Rattle.page.specs.Shelf.{shelf_geometry, shelf, shelf_kinds}
use Rattle.page.proofs.Marked as pages
use Rattle.page.proofs.Within.{object_good, chunk_good}
use Rattle.chunk.specs.Gather.{gather}
use Rattle.chunk.specs.Newest.{newest_where, since}
use Rattle.chunk.specs.Cuts.{cut_of, lowest_cut}
use Rattle.chunk.specs.Sizes.{data_end, size_of}
use Rattle.chunk.specs.Lookups.{file_at, file_by, file_of, sized_by, sized_of, copy_at, copy_by, chunk_by, looked_by, looked_of}
use Rattle.chunk.specs.Answers.{size_on, chunk_on}
use Rattle.chunk.specs.Shelf.{answers, expected}

-- W is accepted
opened : opened_of shelf_geometry (length shelf) ≡ Ok 8
opened = rw (pages.marked).shelf_length (pages.marked).shelf_opened

-- the ids and chunk numbers asked for are not bad
object : (o : ℕ) → 0 < o → o < 259 → bad_object o ≡ false
object o h i = object_good o (record { least = h; most = omega arith })

number : (c : ℕ) → 0 < c → c < 5 → bad_chunk c ≡ false
number c h i = chunk_good c (record { least = h; most = omega arith })

-- W's table is opened, being a closed example; no other definition of a crate below is
pub marked_cases : answers ≡ expected
unfolding answers expected size_on chunk_on sized_of sized_by looked_of looked_by chunk_by copy_by copy_at file_of file_by file_at size_of data_end lowest_cut cut_of since newest_where gather shelf_kinds
marked_cases =
    rw (
      opened,
      pages.shelf_says,
      (pages.marked).page_cases_lem,
      object 257 (omega arith) (omega arith),
      object 258 (omega arith) (omega arith),
      number 1 (omega arith) (omega arith),
      number 2 (omega arith) (omega arith),
      number 3 (omega arith) (omega arith),
      number 4 (omega arith) (omega arith),
    )
