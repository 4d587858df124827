-- Laws of page kinds, for this crate and for those above, which need not see through the definitions.
use Prim.Native.Nat.{ℕ, ◌+◌, ◌≤◌}
use Rattle.std.specs.Prelude.{Result, Ok, Err}
use Rattle.page.specs.declared.refusal.Refusal.{Refusal}
use mathlib.Core.Bool.{true, false}
use mathlib.Core.List.{List}
use mathlib.Core.Path.{◌≡◌, refl}
use lib.ListN.{length}
use native.Mathlib.Omega.{arith}
use Rattle.page.specs.Layouts.{header_bytes}
use Rattle.page.specs.Lengths.{page_in, placed_of}
use Rattle.page.specs.Kinds.{kind_at, told_in, told_of}
use Rattle.page.specs.Counts.{is_header}
use Rattle.page.specs.Asked.{asked_by, asked_of}
use Rattle.page.specs.declared.geometry.Geometry.{Geometry}
use Rattle.page.specs.Headers.{text_place, text_length}
use Rattle.page.specs.declared.fields.Text.{Text}
use Rattle.page.specs.declared.fields.Text.TheVariants.{Name, Alias, Reserved}
use Rattle.page.specs.declared.kind.Kind.{Kind}
use Rattle.page.specs.declared.kind.Kind.TheVariants.{Blank, Foreign, Damaged, Header, Data}
use Rattle.page.specs.Records as records
use Rattle.page.specs.declared.record.Header as header
use Rattle.page.specs.declared.record.Data as «data»
use Rattle.page.specs.declared.record.Record.{Record}
use Rattle.page.specs.declared.record.Record.TheVariants as recorded
use Rattle.page.proofs.Searching.{clash, by_test, pick_cases}

-- every field that is bytes lies in the header
pub text_fits : (f : Text) → text_place f + text_length f ≤ header_bytes
text_fits Name = omega arith
text_fits Alias = omega arith
text_fits Reserved = omega arith

-- what a `let .. else` on a header leaves: no header
pub else_kind_header : (k : Kind) → ((h : header.Header) → k ≡ Header h → ⊥) → is_header k ≡ false
else_kind_header Blank h = refl
else_kind_header Foreign h = refl
else_kind_header Damaged h = refl
else_kind_header (Header s) h = absurd (h s refl)
else_kind_header (Data d) h = refl

-- the same of a record: no header, and no data page
pub else_header : (r : Record) → ((h : header.Header) → r ≡ recorded.Header h → ⊥) → records.is_header r ≡ false
else_header recorded.Other h = refl
else_header (recorded.Header s) h = absurd (h s refl)
else_header (recorded.Data d) h = refl

pub else_data : (r : Record) → ((d : «data».Data) → r ≡ recorded.Data d → ⊥) → records.is_data r ≡ false
else_data recorded.Other h = refl
else_data (recorded.Header s) h = refl
else_data (recorded.Data d) h = absurd (h d refl)

module _ (g : Geometry) (dump : List ℕ) (i : ℕ) where
  -- a header lies in the dump
  pub header_in : is_header (kind_at g dump i) ≡ true → page_in g (length dump) i ≡ true
  unfolding kind_at
  header_in h = by_test (page_in g (length dump) i) _ (λ t. t) (λ t. let z : false ≡ true = rw t at h in cc)

asked_by_lem : (p : (Result Unit Refusal)) (k : Kind) → asked_by (told_in p k) ≡ (Ok tt) → is_header k ≡ true
unfolding asked_by told_in
asked_by_lem (Err r) k e = clash (cc)
asked_by_lem (Ok tt) k e = pick_cases (is_header k) _ _ _ _ e (λ t _. t) (λ _ q. clash (cc))

-- a page whose fields can be read is a header, and lies in the dump
pub asked_in : (g : Geometry) (dump : List ℕ) (i : ℕ) → asked_of g dump i ≡ (Ok tt) → page_in g (length dump) i ≡ true
unfolding asked_of told_of
asked_in g dump i e = header_in g dump i (asked_by_lem (placed_of g (length dump) i) (kind_at g dump i) e)
