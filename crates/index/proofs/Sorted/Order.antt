-- The records of a dump are in a strict order: by sequence, then by page. A page number is below 2^32, so that two ages are equal only if the
-- pages are; and no record's sequence is so large that its age reaches the top.
use Prim.Native.Nat.{ℕ, ◌≤◌, ◌<◌}
use Rattle.std.specs.Prelude.{Ok}
use mathlib.Core.Bool.{true, false}
use mathlib.Core.List.{List}
use mathlib.Core.Path.{◌≡◌, refl}
use native.Mathlib.Omega.{arith}
use lib.ListN.{length}
use Rattle.page.specs.Records.{is_header, record_at}
use Rattle.page.specs.Lengths.{opened_of}
use Rattle.page.specs.declared.record.Record.{Record}
use Rattle.page.specs.declared.record.Record.TheVariants.{Other, Header, Data}
use Rattle.page.specs.declared.geometry.Geometry.{Geometry}
use Rattle.page.proofs.Searching.{clash}
use Rattle.page.proofs.Lengths.{opened_most}
use Rattle.page.proofs.Within.{header_within, data_within}
use Rattle.chunk.specs.Records.{object_of, sequence_of, age_of}
use Rattle.index.specs.Chains.{objects, top}

-- a test comes out one way only
pub never : {A : Type 0} → false ≡ true → A
never e = clash (cc)

module _ (g : Geometry) (dump : List ℕ) where
  -- no sequence is the largest word
  sequence_below : (i : ℕ) → sequence_of (record_at g dump i) < 4294967295
  sequence_below i = go (record_at g dump i) refl
    where
      go : (k : Record) → record_at g dump i ≡ k → sequence_of k < 4294967295
      go Other e = omega arith
      go (Header h) e = omega (arith, (header_within g dump i h e).sequence.most)
      go (Data d) e = omega (arith, (data_within g dump i d e).sequence.most)

  pub header_object : (i : ℕ) → is_header (record_at g dump i) ≡ true → 0 < objects (record_at g dump) i
  header_object i = go (record_at g dump i) refl
    where
      go : (k : Record) → record_at g dump i ≡ k → is_header k ≡ true → 0 < object_of k
      go Other e t = never t
      go (Header h) e t = (header_within g dump i h e).object.least
      go (Data d) e t = never t

  -- no record is as new as the top
  pub age_below : (i : ℕ) → i < 4294967296 → age_of (record_at g dump) i < top
  age_below i h = omega (arith, sequence_below i)

  -- an accepted dump's pages
  module _ (n : ℕ) (e : opened_of g (length dump) ≡ Ok n) where
    pub pages_most : n ≤ 1073741824
    pages_most = opened_most g (length dump) n e

    pub ages_below : (x : ℕ) → x < n → age_of (record_at g dump) x < top
    ages_below x h = age_below x (omega (arith, pages_most))

    pub ages_differ : (x y : ℕ) → x < n → y < n → age_of (record_at g dump) x ≡ age_of (record_at g dump) y → x ≡ y
    ages_differ x y hx hy e = omega (arith, pages_most)
