-- What lies ahead for a chunk on a walk down an object's whole chain, which looks for all chunks at once. Lookups stop at their copy, so
-- that the records visited are not the same; everything else is.
use Rattle.std.specs.Prelude.{ℕ, Bool, not, ◌&&◌, Option, Err}
use Rattle.page.specs.Choice.{pick}
use Rattle.page.specs.Records.{is_header}
use Rattle.page.specs.declared.record.Record.{Record}
use Rattle.page.specs.declared.refusal.Refusal.TheVariants.{IndexDamaged}
use Rattle.chunk.specs.Looked.{Looked}
use Rattle.chunk.specs.Looked as looked
use Rattle.index.specs.Chains.{Trace, clean, broken, rec}
use Rattle.index.specs.Walks.{found, is_shown, cut_by}

-- an answer without the records visited
abbrev pub unvisited : Looked → Looked
unvisited (looked.Copy p a s v) = looked.Copy p a s 0
unvisited (looked.Hole s v) = looked.Hole s 0
unvisited (Err e) = looked.Refused e.answer.refusal 0 e.answer.need

module _ (says : ℕ → Record) where
  -- whether the newest header is still ahead behind page q
  abbrev pub still_newest : (newest : Bool) (page : ℕ) → Bool
  still_newest newest q = newest && not (is_header (says q))

  module _ (P c shown : ℕ) where
    -- for chunk c, of which the file shows so many bytes: `newest` says whether the newest header is still ahead, `cut` is the lowest cut of
    -- the headers passed
    unfoldable pub ahead : (newest : Bool) → Option ℕ → Trace → Looked
    ahead newest cut clean = looked.Hole shown 0
    ahead newest cut broken = looked.Refused IndexDamaged 0 0
    ahead newest cut (rec q t) =
        pick (is_shown says P c cut q) (found says P c shown cut q 0) (ahead (still_newest newest q) (cut_by says newest q cut) t)
