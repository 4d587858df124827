-- Laws of the blocks of a dump, of their sequences and of what they score.
-- Blocks begin at the multiples of k, so that each page of the block from `block` on has its sequence there.
-- A good page's sequence is its sequence word, so that a page with another word does not bear it, whatever else its tags say.
use Prim.Native.Nat.{ℕ, suc, ◌+◌, ◌-◌, ◌*◌, ◌/◌, ◌%◌, ◌^◌, ◌≤◌, ◌<◌, zero-le}
use mathlib.Core.Bool.{Bool, true, false}
use mathlib.Core.Path.{◌≡◌, refl, sym, ◌∙◌}
use mathlib.Core.Logic.{⊎_elim}
use native.Mathlib.Nat.{suc-mul, mul-le-mul_right, div-add-mod', div-eq_of_lt-le, div-lt_iff_lt-mul, eq-or-lt_of_le, zero-mod, add-mod_right}
use native.Mathlib.Numerals.{add-one}
use native.Mathlib.Omega.{arith}
use lib.Arith.{mod-mul}
use lib.Dec.{eqb, ltb}
use borrow.Author.Tests.{eqb-true, eq-eqb, ne_eqb}
use Rattle.page.specs.Choice.{pick}
use Rattle.page.specs.Search.{count}
use Rattle.page.specs.Numbers.{bad_object, most_chunk}
use Rattle.page.specs.Layouts.{page_len}
use Rattle.page.specs.Lengths.{whole_blocks, page_count}
use Rattle.page.specs.Tags.{blank_sequence, least_sequence, most_sequence, is_typed, object_in, header_claim, data_claim, claim_of}
use Rattle.page.specs.Find.{is_good, sequence_of, is_marked, bears_sequence, first_sequence, block_sequence, is_scored, score_of, marked_at, marked_of}
use Rattle.page.specs.declared.geometry.Geometry.{Geometry}
use Rattle.page.specs.declared.number.ObjectId.{ObjectId}
use Rattle.page.specs.declared.record.Data as datum
use Rattle.page.specs.declared.tags.Tags.{Tags}
use Rattle.page.specs.declared.tags.Claim.{Claim}
use Rattle.page.specs.declared.tags.Claim.TheVariants.{Blank, Foreign, Damaged, Header, Data}
use Rattle.page.proofs.Searching.{clash, by_test, count_step, count_none, count_le}
use Rattle.page.proofs.Layouts.{product_pos}

-- a page is not good where neither good case was met
pub not_good :
    (c : Claim) → ((s : ℕ) → (o : ObjectId) → c ≡ Header s o → ⊥) → ((d : datum.Data) → c ≡ Data d → ⊥) → is_good c ≡ false
not_good Blank h d = refl
not_good Foreign h d = refl
not_good Damaged h d = refl
not_good (Header s o) h d = absurd (h s o refl)
not_good (Data e) h d = absurd (d e refl)

-- and marked where the blank case was not
pub not_blank : (c : Claim) → (c ≡ Blank → ⊥) → is_marked c ≡ true
not_blank Blank h = absurd (h refl)
not_blank Foreign h = refl
not_blank Damaged h = refl
not_blank (Header s o) h = refl
not_blank (Data d) h = refl

module _ (said : ℕ → Claim) where
  -- a search that is not at its end looks at the next page
  sequence_step : (i end : ℕ) → i < end → first_sequence said i (end - i) ≡ pick (is_good (said i)) (sequence_of (said i)) (first_sequence said (i + 1) (end - (i + 1)))
  unfolding first_sequence
  sequence_step i end h = let e : end - i ≡ suc (end - (i + 1)) = omega arith in rw e

  -- ends there if it is good
  pub sequence_here : (i end : ℕ) → i < end → is_good (said i) ≡ true → first_sequence said i (end - i) ≡ sequence_of (said i)
  sequence_here i end h g = sequence_step i end h ∙ rw g

  -- and goes on if it is not
  pub sequence_next : (i end : ℕ) → i < end → is_good (said i) ≡ false → first_sequence said i (end - i) ≡ first_sequence said (i + 1) (end - (i + 1))
  sequence_next i end h g = sequence_step i end h ∙ rw g

  -- a search at its end finds nothing
  pub sequence_end : (i end : ℕ) → end ≤ i → first_sequence said i (end - i) ≡ 0
  unfolding first_sequence
  sequence_end i end h = let e : end - i ≡ 0 = omega arith in rw e

module _ (test : ℕ → Bool) (from i n : ℕ) (e : count test from + n ≡ count test i) where
  -- a count that begins at `from`, with one number more, which passes
  pub tally_yes : test i ≡ true → count test from + (n + 1) ≡ count test (i + 1)
  tally_yes t = let s : count test (i + 1) ≡ count test i + 1 = count_step test i ∙ rw t in omega arith

  -- or does not
  pub tally_no : test i ≡ false → count test from + n ≡ count test (i + 1)
  tally_no t = let s : count test (i + 1) ≡ count test i = count_step test i ∙ rw t in omega arith

  -- counts no more than there are
  pub tally_le : n ≤ i
  tally_le = omega (arith, count_le test i)

-- a page of the block from `block` on has its block's start there
pub block_start : (k block i : ℕ) → block % k ≡ 0 → block ≤ i → i < block + k → i / k * k ≡ block
block_start k block i e h g =
    let b : block / k * k ≡ block = omega (arith, div-add-mod' block k) in
    let m : (block / k + 1) * k ≡ block / k * k + k = rw add-one (suc-mul (block / k) k) in
    let d : i / k ≡ block / k = div-eq_of_lt-le k (omega arith) (omega arith) in
    rw d b

-- so that it is scored if it is good and bears the sequence found there
pub scored_in_block : (said : ℕ → Claim) (k block i : ℕ) → block % k ≡ 0 → block ≤ i → i < block + k → is_scored said k i ≡ bears_sequence (first_sequence said block k) (said i)
unfolding is_scored block_sequence
scored_in_block said k block i e h g = rw (block_start k block i e h g)

-- a block that begins within pages that come out even ends within them
pub block_ends : (k block pages : ℕ) → 0 < k → block % k ≡ 0 → pages % k ≡ 0 → block < pages → block + k ≤ pages
block_ends k block pages h e f g =
    let a : block / k * k ≡ block = omega (arith, div-add-mod' block k) in
    let b : pages / k * k ≡ pages = omega (arith, div-add-mod' pages k) in
    let d : block / k < pages / k = (div-lt_iff_lt-mul h).1 (omega arith) in
    omega (arith, mul-le-mul_right k d, suc-mul (block / k) k)

-- the pages of whole blocks come out even
pub whole_pages : (g : Geometry) (n : ℕ) → 0 < g.block → 0 < page_len g.layout → whole_blocks g n ≡ true → page_count g n % g.block ≡ 0
unfolding whole_blocks
whole_pages g n h long e =
    let z : n % (g.block * page_len g.layout) ≡ 0 = eqb-true _ _ e in
    let s = mod-mul n h long in
    let low : 0 ≤ page_count g n % g.block = zero-le in
    ⊎_elim
    (λ q. sym q)
    (λ some. let p : 0 < page_count g n % g.block * page_len g.layout = product_pos some long in absurd (omega arith))
    (eq-or-lt_of_le low)

-- a page that is good bears this sequence
record Bears (s : ℕ) (c : Claim) : Type 0 where
  own : is_good c ≡ true → sequence_of c ≡ s

not_good_bears : (s : ℕ) (c : Claim) → is_good c ≡ false → Bears s c
not_good_bears s c e = record { own = λ g. clash (cc) }

by_way : (s : ℕ) (b : Bool) {x y : Claim} → Bears s x → Bears s y → Bears s (pick b x y)
by_way s true p q = p
by_way s false p q = q

module _ (t : Tags) where
  damaged : Bears t.sequence Damaged
  damaged = not_good_bears t.sequence Damaged refl

  header_bears : Bears t.sequence (header_claim t)
  unfolding header_claim
  header_bears = by_way _ (bad_object (object_in t)) damaged (record { own = λ g. refl })

  data_bears : (p : ℕ) → Bears t.sequence (data_claim p t)
  unfolding data_claim
  data_bears p =
      by_way _ (bad_object t.object) damaged
      (by_way _ (ltb most_chunk t.chunk) damaged (by_way _ (eqb t.count 0) damaged (by_way _ (ltb p t.count) damaged (record { own = λ g. refl }))))

  claim_bears : (p : ℕ) → Bears t.sequence (claim_of p t)
  unfolding claim_of
  claim_bears p =
      let foreign = not_good_bears t.sequence Foreign refl in
      by_way _ (eqb t.sequence blank_sequence) (not_good_bears t.sequence Blank refl)
      (by_way _ (ltb t.sequence least_sequence) foreign
      (by_way _ (ltb most_sequence t.sequence) foreign
      (by_way _ (is_typed t) header_bears (by_way _ (eqb t.chunk 0) header_bears (data_bears p)))))

  -- whether a page is good and bears a sequence is settled by its sequence word where that is another, and by the rest where it is that
  pub bears_other : (p s : ℕ) → (t.sequence ≡ s → ⊥) → bears_sequence s (claim_of p t) ≡ false
  unfolding bears_sequence
  bears_other p s n =
      by_test (is_good (claim_of p t)) _
      (λ g. rw (g, ne_eqb (sequence_of (claim_of p t)) s (λ e. n (sym ((claim_bears p).own g) ∙ e))))
      (λ g. rw g)

  pub bears_same : (p s : ℕ) → t.sequence ≡ s → bears_sequence s (claim_of p t) ≡ is_good (claim_of p t)
  unfolding bears_sequence
  bears_same p s e =
      by_test (is_good (claim_of p t)) _
      (λ g. rw (g, eq-eqb (sequence_of (claim_of p t)) s ((claim_bears p).own g ∙ e)))
      (λ g. rw g)

-- the blocks before `next` are gone through: what their pages score, and how many of them are not blank
pub record Through (said : ℕ → Claim) (k pages next score marked : ℕ) : Type 0 where
  pub some : 0 < k
  pub few : pages < 2 ^ 31
  pub even : pages % k ≡ 0
  pub starts : next % k ≡ 0
  pub within : next ≤ pages
  pub scored : score ≡ score_of said k next
  pub counted : marked ≡ marked_of said next

-- at first none is
pub through_none : (said : ℕ → Claim) (k pages : ℕ) → 0 < k → pages < 2 ^ 31 → pages % k ≡ 0 → Through said k pages 0 0 0
through_none said k pages h g e =
    record {
      some = h;
      few = g;
      even = e;
      starts = zero-mod k;
      within = zero-le;
      scored = sym (count_none (is_scored said k));
      counted = sym (count_none (marked_at said));
    }

module _ {said : ℕ → Claim} {k pages next score marked : ℕ} (t : Through said k pages next score marked) where
  -- the next block ends within the pages
  pub through_ends : next < pages → next + k ≤ pages
  through_ends h = block_ends k next pages t.some t.starts t.even h

  -- and is the next that is gone through
  pub through_on :
      (s m : ℕ) → next < pages → score_of said k next + s ≡ score_of said k (next + k) → marked_of said next + m ≡ marked_of said (next + k) →
      Through said k pages (next + k) (score + s) (marked + m)
  through_on s m h a b =
      record {
        some = t.some;
        few = t.few;
        even = t.even;
        starts = add-mod_right next k ∙ t.starts;
        within = through_ends h;
        scored = omega (arith, t.scored);
        counted = omega (arith, t.counted);
      }
