-- The records of an accepted dump: there are fewer pages than page numbers; an object with a record has an id; and data have their bounds, also where only
-- some records are taken, since a page then says what it says itself, or nothing.
use Prim.Native.Nat.{ℕ, ◌≤◌, ◌<◌}
use Rattle.std.specs.Prelude.{Ok}
use mathlib.Core.Bool.{false, true}
use mathlib.Core.List.{List}
use mathlib.Core.Logic.{⊎_elim}
use mathlib.Core.Path.{◌≡◌, refl, sym, ◌∙◌}
use native.Mathlib.Omega.{arith}
use lib.ListN.{length}
use Rattle.page.specs.Lengths.{opened_of}
use Rattle.page.specs.Numbers.{bad_object}
use Rattle.page.specs.Records.{record_at, is_data}
use Rattle.page.specs.declared.geometry.Geometry.{Geometry}
use Rattle.page.specs.declared.record.Data as «data»
use Rattle.page.specs.declared.record.Record.{Record}
use Rattle.page.specs.declared.record.Record.TheVariants.{Other, Header, Data}
use Rattle.page.proofs.Lengths.{opened_pages}
use Rattle.page.proofs.Searching.{clash}
use Rattle.page.proofs.Within.{DataWithin, data_within}
use Rattle.chunk.specs.Records.{chunk_of}
use Rattle.chunk.specs.Takes.{seen_by}
use Rattle.chunk.specs.declared.takes.Takes.{Takes}
use Rattle.chunk.proofs.Records.{record_good, seen_own, seen_either}
use Rattle.records.specs.Written.{written, page_at}
use Rattle.records.proofs.Writing.{written_at}

module _ (g : Geometry) (dump : List ℕ) where
  -- no more pages than a word has values
  pub opened_few : (n : ℕ) → opened_of g (length dump) ≡ Ok n → n ≤ 4294967296
  opened_few n e = omega (arith, opened_pages g (length dump) n e)

  -- a page that is taken as a record of the object is one
  pub written_good : (k : Takes) (o n i : ℕ) → n ≤ 4294967296 → i < length (written (seen_by k (record_at g dump)) o n) → bad_object o ≡ false
  written_good k o n i few h =
      let says = seen_by k (record_at g dump) in
      let p = page_at says o n i in
      let t = (written_at says o n few i h).its in
      record_good g dump o p (rw (seen_own k (record_at g dump) o p t) at t)

  -- data lies within its bounds
  pub seen_within : (t : Takes) (p : ℕ) (d : «data».Data) → seen_by t (record_at g dump) p ≡ Data d → DataWithin g dump p d
  seen_within t p d e = data_within g dump p d (⊎_elim (λ k. sym k ∙ e) (λ k. clash (cc)) (seen_either t (record_at g dump) p))

  -- no chunk is 0
  pub seen_chunk : (t : Takes) (p : ℕ) → is_data (seen_by t (record_at g dump) p) ≡ true → chunk_of (seen_by t (record_at g dump) p) ≡ 0 → ⊥
  seen_chunk t p = go (seen_by t (record_at g dump) p) refl
    where
      go : (k : Record) → seen_by t (record_at g dump) p ≡ k → is_data k ≡ true → chunk_of k ≡ 0 → ⊥
      go Other e u z = clash (cc)
      go (Header h) e u z = clash (cc)
      go (Data d) e u z = omega (arith, (seen_within t p d e).chunk.least)
