-- A row whose first word is below 2 names no bytes; of another the part is that of the page.
use mathlib.Core.Path.{◌≡◌, sym}
use borrow.Author.Rules.{rules}
use borrow.Author.Tests.{le-ltb}
use Rattle.file.proofs.Chunks.{row_none, row_page}
use Rattle.capi.specs.Lookups.{no_place}
use Rattle.capi.proofs.Places.{valid_here}
use Rattle.capi.proofs.indexed.lohenarr_row.Goals as goal

pub returns-then-place-lt2-clause-dump_value : goal.returns-then-place-lt2-clause-dump_value
returns-then-place-lt2-clause-dump_value c =
    let none : c.default.result ≡ no_place = search rules in
    rw none (sym (row_none _ _ _ _ c.if-place-lt2.true))

pub returns : goal.returns
returns c = let a = c.args in record { value = rw (le-ltb _ _ c.if-place-lt2.false, ← c.geometry_at.ensures) c.place_of.ensures; dump_value = rw (row_page _ _ _ _ c.if-place-lt2.false, c.place_of.ensures, c.geometry_at.ensures) (valid_here _ a.dump.now _ _) }
