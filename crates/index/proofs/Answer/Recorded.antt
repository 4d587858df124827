-- The records of an object by cells that hold exactly the added pages: its added records, the newest first, and NoObject where it has none.
use Prim.Native.Nat.{ℕ, ◌<◌}
use Rattle.std.specs.Prelude.{Ok}
use mathlib.Core.Bool.{Bool, false}
use mathlib.Core.List.{List}
use mathlib.Core.Path.{◌≡◌, ap, ◌∙◌}
use lib.ListN.{length}
use Rattle.page.specs.Numbers.{bad_object}
use Rattle.page.specs.declared.record.Record.{Record}
use Rattle.chunk.specs.Records.{age_of}
use Rattle.index.specs.Chains.{objects, Trace}
use Rattle.index.specs.Held.{seen, recs, from_list, Held}
use Rattle.index.specs.Walks.{chain_of}
use Rattle.index.specs.Recorded.{pages_of, tally_of, records_by, records_at}
use Rattle.index.proofs.Walk.Recorded.{list_pages, list_tally, records_tally}

module _
    (says : ℕ → Record) (P n : ℕ) (added : ℕ → Bool) (c : List ℕ) (g : Held n (objects says) (age_of says) added c)
    (o : ℕ) (pos : 0 < o) (good : bad_object o ≡ false)
  where
    -- its added records
    abbrev R : List ℕ
    R = recs (seen (objects says) added) (age_of says) o n

    pub pages_held : pages_of (chain_of says P c o n) ≡ R
    pages_held = ap pages_of (g.chains o pos) ∙ list_pages R

    pub records_held : (room : ℕ) → records_at says P c o n room ≡ records_by room R (Ok (length R))
    records_held room =
        records_tally says P c o n room g.room good
        ∙ ap (λ (t : Trace). records_by room (pages_of t) (tally_of t)) (g.chains o pos)
        ∙ ap (λ (L : List ℕ). records_by room L (tally_of (from_list R))) (list_pages R)
        ∙ ap (records_by room R) (list_tally R)
