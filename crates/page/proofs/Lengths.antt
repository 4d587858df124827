-- Laws of what a dump measures, for any layout with room.
use Prim.Native.Nat.{ℕ, suc, ◌+◌, ◌*◌, ◌/◌, ◌%◌, ◌<◌, ◌≤◌}
use Rattle.std.specs.Prelude.{Ok, Err}
use mathlib.Core.Bool.{true, not}
use mathlib.Core.Path.{◌≡◌}
use mathlib.Core.Logic.{◌↔◌}
use native.Mathlib.Nat.{suc-mul, mul-le-mul_right, mul-le-mul_left, div-mul-le_self, div-lt_iff_lt-mul, div-le_self, le-div_iff_mul-le, mod-eq_of_lt}
use native.Mathlib.Decide.{dec_lt}
use native.Mathlib.Omega.{arith}
use lib.Dec.{leb, ltb, eqb}
use borrow.Author.Tests.{leb-true, leb-false, ltb-true, ltb-false, le-leb, lt-leb, eqb-true, eqb-false, not-true, not-false}
use Rattle.page.specs.Numbers.{page_values}
use Rattle.page.specs.Layouts.{most_bytes, page_len, roomy, number_of}
use Rattle.page.specs.Lengths.{block_fits, length_fits, whole_blocks, page_count, page_in, opened_of}
use Rattle.page.specs.declared.geometry.Geometry.{Geometry}
use Rattle.page.specs.declared.refusal.Refusal.{Refusal}
use Rattle.page.specs.declared.refusal.Refusal.TheVariants.{IndexDamaged}
use Rattle.page.proofs.Layouts.{and_left, and_right, roomy_facts, listed_roomy}
use Rattle.page.proofs.Searching.{clash, pick_cases, by_test}

pub block_some : (k : ℕ) → block_fits k ≡ true → 0 < k
unfolding block_fits
block_some k e = let h = eqb-false k 0 (not-true _ (and_left (not (eqb k 0)) (leb k 256) e)) in omega arith

pub block_most : (k : ℕ) → block_fits k ≡ true → k ≤ 256
unfolding block_fits
block_most k e = leb-true _ _ (and_right (not (eqb k 0)) (leb k 256) e)

pub length_most : (n : ℕ) → length_fits n ≡ true → n ≤ most_bytes
unfolding length_fits
length_most n e = leb-true _ _ (and_right (not (eqb n 0)) (leb n most_bytes) e)

pub length_some : (n : ℕ) → length_fits n ≡ true → 0 < n
unfolding length_fits
length_some n e = let h = eqb-false n 0 (not-true _ (and_left (not (eqb n 0)) (leb n most_bytes) e)) in omega arith

-- a page that lies in the dump has room, and ends within it
pub record PageWithin (g : Geometry) (n i : ℕ) : Type 0 where
  pub room : roomy g.layout ≡ true
  pub ends : i * page_len g.layout + page_len g.layout ≤ n

pub page_within : (g : Geometry) (n i : ℕ) → page_in g n i ≡ true → PageWithin g n i
unfolding page_in
page_within g n i e =
    let b = leb (i * page_len g.layout + page_len g.layout) n in
    record { room = and_left (roomy g.layout) b e; ends = leb-true _ _ (and_right (roomy g.layout) b e) }

-- what an accepted dump has
pub record Open (g : Geometry) (n m : ℕ) : Type 0 where
  pub listed : number_of g.layout < 13
  pub room : roomy g.layout ≡ true
  pub block : block_fits g.block ≡ true
  pub long : length_fits n ≡ true
  pub whole : whole_blocks g n ≡ true
  pub pages : page_count g n ≡ m

pub opened_facts : (g : Geometry) (n m : ℕ) → opened_of g n ≡ Ok m → Open g n m
unfolding opened_of
opened_facts g n m e =
    pick_cases (leb 13 (number_of g.layout)) _ _ _ _ e (λ _ q. refused q)
    (λ h₁ e₁. pick_cases (not (block_fits g.block)) _ _ _ _ e₁ (λ _ q. refused q)
    (λ h₂ e₂. pick_cases (not (length_fits n)) _ _ _ _ e₂ (λ _ q. refused q)
    (λ h₃ e₃. pick_cases (not (whole_blocks g n)) _ _ _ _ e₃ (λ _ q. refused q)
    (λ h₄ e₄.
    let a = leb-false 13 (number_of g.layout) h₁ in
    record {
      listed = a;
      room = listed_roomy g.layout a;
      block = not-false _ h₂;
      long = not-false _ h₃;
      whole = not-false _ h₄;
      pages = cc;
    }))))
  where
    refused : {r : Refusal} → Err r ≡ Ok m → Open g n m
    refused q = clash (cc)

-- a dump is refused for its layout or its length alone
pub opened_undamaged : (g : Geometry) (n : ℕ) → opened_of g n ≡ Err IndexDamaged → ⊥
unfolding opened_of
opened_undamaged g n e =
    pick_cases (leb 13 (number_of g.layout)) _ _ _ ⊥ e (λ _ q. clash (cc))
    (λ _ e₁. pick_cases (not (block_fits g.block)) _ _ _ ⊥ e₁ (λ _ q. clash (cc))
    (λ _ e₂. pick_cases (not (length_fits n)) _ _ _ ⊥ e₂ (λ _ q. clash (cc))
    (λ _ e₃. pick_cases (not (whole_blocks g n)) _ _ _ ⊥ e₃ (λ _ q. clash (cc)) (λ _ q. clash (cc)))))

-- a dump has fewer than 2^31 pages
pub opened_most : (g : Geometry) (n m : ℕ) → opened_of g n ≡ Ok m → m ≤ most_bytes
opened_most g n m e =
    let f = opened_facts g n m e in
    omega (arith, f.pages, length_most n f.long, div-le_self n (page_len g.layout))

-- and fewer pages than there are page numbers, since a page has room for a header and for tags
pub opened_pages : (g : Geometry) (n m : ℕ) → opened_of g n ≡ Ok m → m < page_values
opened_pages g n m e =
    let f = opened_facts g n m e in
    let r = roomy_facts g.layout f.room in
    let a : m * 528 ≤ m * page_len g.layout = mul-le-mul_left m (omega (arith, r.header, r.tags)) in
    let b : m * page_len g.layout ≤ n = rw f.pages at (div-mul-le_self n (page_len g.layout)) in
    omega (arith, length_most n f.long)

-- a dump has a page: a length that is whole blocks and not 0 is at least a block
pub opened_some : (g : Geometry) (n m : ℕ) → opened_of g n ≡ Ok m → 0 < m
unfolding whole_blocks
opened_some g n m e =
    let f = opened_facts g n m e in
    let r = roomy_facts g.layout f.room in
    let some = length_some n f.long in
    let block : 1 * page_len g.layout ≤ g.block * page_len g.layout = mul-le-mul_right (page_len g.layout) (block_some g.block f.block) in
    let d : (1 ≤ n / page_len g.layout) ↔ (1 * page_len g.layout ≤ n) = le-div_iff_mul-le (omega arith) in
    let whole : n % (g.block * page_len g.layout) ≡ 0 = eqb-true _ _ f.whole in
    elim (dec_lt n (page_len g.layout)) [
      | yes h ↦ let same : n % (g.block * page_len g.layout) ≡ n = mod-eq_of_lt (omega arith) in absurd (omega arith)
      | no h ↦ rw (← f.pages) (d.1 (omega arith))
    ]

-- the pages of a dump are those below its page count, for any layout with room
pub page_in_lem : (g : Geometry) (n i : ℕ) → roomy g.layout ≡ true → page_in g n i ≡ ltb i (page_count g n)
unfolding page_in
page_in_lem g n i h =
    let f = roomy_facts g.layout h in
    let d : (suc i ≤ n / page_len g.layout) ↔ (suc i * page_len g.layout ≤ n) = le-div_iff_mul-le (omega arith) in
    let e : (n / page_len g.layout < suc i) ↔ (n < suc i * page_len g.layout) = div-lt_iff_lt-mul (omega arith) in
    let m = suc-mul i (page_len g.layout) in
    by_test (ltb i (page_count g n)) _
    (λ t. rw (h, t, le-leb (i * page_len g.layout + page_len g.layout) n (omega (arith, d.0 (ltb-true i (page_count g n) t)))))
    (λ t. rw (h, t, lt-leb (i * page_len g.layout + page_len g.layout) n (omega (arith, e.0 (omega (arith, ltb-false i (page_count g n) t))))))
