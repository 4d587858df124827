-- The search for the page that sets the size. A page sets it as the newest header, or as data of the object; so one that is neither that header nor named
-- for the object may be passed over, and the newest of the others is the setter.
use Prim.Native.Nat.{ℕ}
use mathlib.Core.Bool.{Bool, true, false, ◌||◌}
use mathlib.Core.List.{List}
use mathlib.Core.Path.{◌≡◌}
use lib.Dec.{eqb}
use Rattle.page.specs.declared.record.Record.{Record}
use Rattle.page.specs.Records.{record_at}
use Rattle.page.specs.Tags.{names_at}
use Rattle.page.specs.declared.geometry.Geometry.{Geometry}
use Rattle.page.proofs.Searching.{clash, by_test}
use Rattle.page.specs.declared.number.PageNumber.{PageNumber}
use Rattle.chunk.specs.Records.{age_of}
use Rattle.chunk.specs.Newest.{newest_where}
use Rattle.chunk.specs.Scans.{newest_in}
use Rattle.chunk.specs.Sizes.{size_of}
use Rattle.chunk.specs.Takes.{seen_by}
use Rattle.chunk.specs.declared.takes.Takes.{Takes}
use Rattle.chunk.proofs.Records.{seen_unnamed}
use Rattle.chunk.specs.Aged.{At, Nothing}
use Rattle.chunk.proofs.Gathering.{in_none, in_some}
use Rattle.why.specs.Reasons.{found_or, sets_by, setter}

-- a page that is not the newest header, and whose tags do not name the object, does not
pub unnamed_sets :
    (g : Geometry) (dump : List ℕ) (t : Takes) (P o h x size p : ℕ) → eqb p h || names_at g dump p o ≡ false → sets_by P o h x size p (seen_by t (record_at g dump) p) ≡ false
unnamed_sets g dump t P o h x size p e =
    by_test (eqb p h) _
    (λ u. let z : true ≡ false = rw u at e in clash (cc))
    (λ u. rw (u, seen_unnamed g dump p o (rw u at e) t))

-- what the search found is the setter
module _ (says : ℕ → Record) (P o n h age size : ℕ) (a : age ≡ age_of says h) (s : size ≡ size_of says P o h n) where
  abbrev pub sets : ℕ → Bool
  sets p = sets_by P o h age size p (says p)

  -- the page found, or the newest header where none is, is the setter
  found : found_or h (newest_where says sets n) ≡ setter says P o n h
  unfolding setter
  found = rw (a, s)

  -- where the search kept nothing, and where it kept a page
  pub setter_none : newest_in says (newest_where says sets n) ≡ Nothing → h ≡ setter says P o n h
  setter_none e = let k = in_none says (newest_where says sets n) e in rw k at found

  pub setter_some : (p : PageNumber) (b : ℕ) → newest_in says (newest_where says sets n) ≡ At p b → p.0 ≡ setter says P o n h
  setter_some p b e = let k = in_some says (newest_where says sets n) p b e in rw k.0 at found
