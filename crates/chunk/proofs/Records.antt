-- Records by what each says: of which object it is, and of which chunk; and where only some records are taken, a page says what it says or nothing.
use Prim.Native.Nat.{ℕ}
use mathlib.Core.Bool.{true, false}
use mathlib.Core.List.{List}
use mathlib.Core.Logic.{◌⊎◌, inl, inr, ⊎_elim}
use mathlib.Core.Path.{◌≡◌, refl, sym, ap, ◌∙◌}
use native.Mathlib.Omega.{arith}
use lib.Dec.{eqb, ltb}
use borrow.Author.Tests.{eq-eqb, ne_eqb, eqb-true}
use Rattle.page.specs.Numbers.{bad_object}
use Rattle.page.specs.Records.{record_at, is_header}
use Rattle.page.specs.Tags.{names_at}
use Rattle.page.specs.declared.geometry.Geometry.{Geometry}
use Rattle.page.specs.declared.record.Record.{Record}
use Rattle.page.specs.declared.record.Record.TheVariants.{Other, Header, Data}
use Rattle.page.proofs.Searching.{clash, by_test}
use Rattle.page.proofs.Within.{object_good, header_within, data_within}
use Rattle.chunk.specs.Records.{age_of, object_of, is_of, chunk_of, is_copy}
use Rattle.chunk.specs.Takes.{seen_by}
use Rattle.chunk.specs.declared.takes.Takes.{Takes}
use Rattle.chunk.specs.declared.takes.Takes.TheVariants.{Every, Older}

-- a record of object o has that object
pub of_object : (o : ℕ) (r : Record) → is_of o r ≡ true → object_of r ≡ o
of_object o Other h = clash (cc)
of_object o (Header h) e = eqb-true _ _ e
of_object o (Data d) e = eqb-true _ _ e

-- and what has an object is a record of it
pub object_of_lem : (o : ℕ) (r : Record) → (o ≡ 0 → ⊥) → object_of r ≡ o → is_of o r ≡ true
object_of_lem o Other s e = absurd (s (omega arith))
object_of_lem o (Header h) s e = eq-eqb _ _ e
object_of_lem o (Data d) s e = eq-eqb _ _ e

-- what has another object is none of it
pub other_object : (o : ℕ) (r : Record) → eqb (object_of r) o ≡ false → is_of o r ≡ false
other_object o Other e = refl
other_object o (Header h) e = e
other_object o (Data d) e = e

-- the object of a record has an id
pub record_good : (g : Geometry) (dump : List ℕ) (o p : ℕ) → is_of o (record_at g dump p) ≡ true → bad_object o ≡ false
record_good g dump o p = go (record_at g dump p) refl
  where
    go : (r : Record) → record_at g dump p ≡ r → is_of o r ≡ true → bad_object o ≡ false
    go Other e t = clash (cc)
    go (Header h) e t = rw (eqb-true h.object.0 o t) at (object_good h.object.0 (header_within g dump p h e).object)
    go (Data d) e t = rw (eqb-true d.object.0 o t) at (object_good d.object.0 (data_within g dump p d e).object)

-- a copy of a chunk has its number, and a header has none
pub copy_chunk : (c : ℕ) (r : Record) → is_copy c r ≡ true → chunk_of r ≡ c
copy_chunk c Other t = clash (cc)
copy_chunk c (Header h) t = clash (cc)
copy_chunk c (Data d) t = eqb-true _ _ t

pub header_chunk : (r : Record) → is_header r ≡ true → chunk_of r ≡ 0
header_chunk Other t = refl
header_chunk (Header h) t = refl
header_chunk (Data d) t = clash (cc)

-- where only some records are taken, a page says what it says, or nothing
pub seen_either : (t : Takes) (says : ℕ → Record) (p : ℕ) → (seen_by t says p ≡ says p) ⊎ (seen_by t says p ≡ Other)
seen_either Every says p = inl refl
seen_either (Older b) says p = by_test (ltb (age_of says p) b) _ (λ u. inl (rw u)) (λ u. inr (rw u))

-- so a record of object o that is taken is what its page says
pub seen_own : (t : Takes) (says : ℕ → Record) (o p : ℕ) → is_of o (seen_by t says p) ≡ true → seen_by t says p ≡ says p
seen_own t says o p h = ⊎_elim (λ e. e) (λ e. let z : false ≡ true = rw e at h in clash (cc)) (seen_either t says p)

-- a page whose tags do not name object o is no record of it, and so not where only some are taken
module _ (g : Geometry) (dump : List ℕ) (p o : ℕ) (t : names_at g dump p o ≡ false) where
  unnamed : is_of o (record_at g dump p) ≡ false
  unnamed = go (record_at g dump p) refl
    where
      go : (r : Record) → record_at g dump p ≡ r → is_of o r ≡ false
      go Other e = refl
      go (Header h) e = ne_eqb h.object.0 o (λ q. let z : false ≡ true = sym t ∙ rw q at (header_within g dump p h e).named in clash (cc))
      go (Data d) e = ne_eqb d.object.0 o (λ q. let z : false ≡ true = sym t ∙ rw q at (data_within g dump p d e).named in clash (cc))

  pub seen_unnamed : (k : Takes) → is_of o (seen_by k (record_at g dump) p) ≡ false
  seen_unnamed k = ⊎_elim (λ e. ap (is_of o) e ∙ unnamed) (λ e. ap (is_of o) e) (seen_either k (record_at g dump) p)
