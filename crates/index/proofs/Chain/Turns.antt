-- One turn of each walk, by what the next link leads to. A chain has no more records than there are pages, since each is older than the last;
-- so the records visited, and those still ahead, never outnumber the pages.
use Prim.Native.Nat.{ℕ, zero, suc, ◌+◌, ◌≤◌, ◌<◌, zero-le}
use Rattle.std.specs.Prelude.{Option, None, Ok, Err}
use mathlib.Core.Bool.{Bool, true, false}
use mathlib.Core.List.{List}
use mathlib.Core.Path.{◌≡◌, refl}
use native.Mathlib.Nat.{not-suc-le-zero, le_refl, le_trans}
use native.Mathlib.Decide.{ℕ_discrete}
use native.Mathlib.Omega.{arith}
use lib.Dec.{eqb, ltb, leb}
use borrow.Author.Tests.{lt-ltb, le-ltb, ltb-true}
use Rattle.page.specs.Choice.{pick}
use Rattle.page.specs.Records.{is_header}
use Rattle.page.specs.Search.{count, more}
use Rattle.page.proofs.Searching.{clash, by_test, count_none, count_le}
use Rattle.page.specs.declared.number.PageNumber.{PageNumber}
use Rattle.page.specs.declared.record.Record.{Record}
use Rattle.page.specs.declared.refusal.Refusal.TheVariants.{PastEnd, IndexDamaged}
use Rattle.chunk.specs.Records.{age_of, base_of}
use Rattle.chunk.specs.Lookups.{file_at, shown_of}
use Rattle.chunk.specs.File as file
use Rattle.chunk.specs.Looked as looked
use Rattle.chunk.proofs.Cases.{file_cases}
use Rattle.index.specs.Cells.{word, link_at}
use Rattle.index.specs.Chains.{objects, Lead, End, Damaged, To, Trace, clean, broken, rec, by, lead_of, trace_by, trace}
use Rattle.index.specs.Walks.{records_in, headless, behind, cut_by, met_with, reach, found, is_shown, seek, copy_from, chunk_file, under, below}
use Rattle.index.specs.Reached.{Reached}
use Rattle.index.specs.Reached as reached
use Rattle.index.proofs.Slot.Counts.{count_suc}
use Rattle.index.proofs.Chain.Links.{Known, known, Told, told}
use Rattle.index.proofs.Walk.Walks.{end_by}

-- down to the newest header
module _ (says : ℕ → Record) (P c end : ℕ) (m : (Option PageNumber)) (v : ℕ) (t : Trace) where
  pub reach_end : t ≡ clean → reach says P c end m v t ≡ headless v
  unfolding reach
  reach_end e = rw e

  pub reach_broken : t ≡ broken → reach says P c end m v t ≡ reached.Refused IndexDamaged 0
  unfolding reach
  reach_broken e = rw e

  module _ (q : ℕ) (rest : Trace) (e : t ≡ rec q rest) where
    pub reach_here : is_header (says q) ≡ true → reach says P c end m v t ≡ reached.Header (record { 0 = q }) end m (v + 1)
    unfolding reach
    reach_here h = rw e (rw h)

    pub reach_on : is_header (says q) ≡ false → reach says P c end m v t ≡ reach says P c (end_by says P q end) (met_with says P c q m) (v + 1) rest
    unfolding reach
    reach_on h = rw e (rw h)

-- below it
module _ (says : ℕ → Record) (P c shown : ℕ) (cut : (Option ℕ)) (v : ℕ) (t : Trace) where
  pub seek_end : t ≡ clean → seek says P c shown cut v t ≡ looked.Hole shown v
  unfolding seek
  seek_end e = rw e

  pub seek_broken : t ≡ broken → seek says P c shown cut v t ≡ looked.Refused IndexDamaged 0 0
  unfolding seek
  seek_broken e = rw e

  module _ (q : ℕ) (rest : Trace) (e : t ≡ rec q rest) where
    pub seek_here : is_shown says P c cut q ≡ true → seek says P c shown cut v t ≡ found says P c shown cut q (v + 1)
    unfolding seek
    seek_here h = rw e (rw h)

    pub seek_on : is_shown says P c cut q ≡ false → seek says P c shown cut v t ≡ seek says P c shown (cut_by says false q cut) (v + 1) rest
    unfolding seek
    seek_on h = rw e (rw h)

-- one record of a chain, and the rest
pub count_on : (t : Trace) (q : ℕ) (rest : Trace) → t ≡ rec q rest → records_in t ≡ suc (records_in rest)
unfolding records_in
count_on t q rest e = rw e

-- a test that passes wherever another does, and once more, passes more often
module _ (weak strong : ℕ → Bool) (passes : (i : ℕ) → strong i ≡ true → weak i ≡ true) where
  more_mono : (i x y : ℕ) → x ≤ y → more (strong i) x ≤ more (weak i) y
  more_mono i x y h = by_test (strong i) _ (λ t. rw (t, passes i t) (omega arith)) (λ t. rw t (by_test (weak i) _ (λ u. rw u (omega arith)) (λ u. rw u h)))

  count_mono : (m : ℕ) → count strong m ≤ count weak m
  count_mono zero = rw (count_none strong) zero-le
  count_mono (suc m) = rw (count_suc strong m, count_suc weak m) (more_mono m _ _ (count_mono m))

  count_less : (q : ℕ) → strong q ≡ false → weak q ≡ true → (m : ℕ) → q < m → count strong m < count weak m
  count_less q e f zero h = absurd (not-suc-le-zero h)
  count_less q e f (suc m) h = rw (count_suc strong m, count_suc weak m) (go (ℕ_discrete q m) (λ k. count_less q e f m k))
    where
      go : Dec (q ≡ m) → (q < m → count strong m < count weak m) → more (strong m) (count strong m) < more (weak m) (count weak m)
      go (yes k) ih = rw (rw k at e, rw k at f) (omega (arith, count_mono m))
      go (no k) ih =
          let l = ih (omega arith) in
          by_test (strong m) _
          (λ t. rw (t, passes m t) (omega arith))
          (λ t. rw t (by_test (weak m) _ (λ u. rw u (omega arith)) (λ u. rw u (omega arith))))

module _ (n : ℕ) (obj age : ℕ → ℕ) (c : List ℕ) (o : ℕ) where
  -- how many pages are older than an age
  abbrev older : ℕ → ℕ
  older b = count (λ p. ltb (age p) b) n

  older_less : (q b : ℕ) → q < n → age q < b → older (age q) < older b
  older_less q b h k =
      count_less (λ p. ltb (age p) b) (λ p. ltb (age p) (age q))
      (λ i t. let l : age i < age q = ltb-true _ _ t in lt-ltb (age i) b (omega arith))
      q
      (le-ltb (age q) (age q) (le_refl _))
      (lt-ltb (age q) b k)
      n h

  few_by :
      (b w : ℕ) (rest : ℕ → ℕ → Trace) →
      ((q : ℕ) → records_in (rest q (age q)) ≤ older (age q)) →
      records_in (by (lead_of n obj age o b w) rest) ≤ older b
  unfolding records_in
  few_by b w rest h = go (lead_of n obj age o b w) (known n obj age o b w)
    where
      go : (l : Lead) → Known n obj age o b w l → records_in (by l rest) ≤ older b
      go End k = zero-le
      go Damaged k = zero-le
      go (To q a) k = rw k.1 (omega (arith, h q.0, older_less q.0 b k.0.inside k.0.older))

  few_older : (f b w : ℕ) → records_in (trace_by n obj age c o f b w) ≤ older b
  unfolding trace_by records_in
  few_older zero b w = few_by b w (λ q a. broken) (λ q. zero-le)
  few_older (suc f) b w = few_by b w (λ q a. trace_by n obj age c o f a (word c (link_at q))) (λ q. few_older f (age q) (word c (link_at q)))

  -- no chain has more records than there are pages
  pub few : (b w : ℕ) → records_in (trace n obj age c o b w) ≤ n
  unfolding trace
  few b w = le_trans (few_older b b w) (count_le (λ p. ltb (age p) b) n)

-- where a walk down to the newest header lands: at a page of the dump, with the chain below that page behind it
module _ (says : ℕ → Record) (n : ℕ) (cells : List ℕ) (o P c : ℕ) where
  abbrev pub Lands : Trace → Reached → Type 0
  Lands rest (Err e) = Unit {0}
  Lands rest (Ok x) = (x.page.0 < n) × (rest ≡ below says n cells o x.page.0)

  abbrev Landed : ℕ → ℕ → Type 0
  Landed b w = (end : ℕ) (m : (Option PageNumber)) (v : ℕ) → Lands (behind says (under says n cells o b w)) (reach says P c end m v (under says n cells o b w))

  -- by where the next link leads, if it holds from each older record on
  lands_on : (b w : ℕ) → ((q : ℕ) → age_of says q < b → Landed (age_of says q) (word cells (link_at q))) → Landed b w
  unfolding reach behind
  lands_on b w on end m v = go (lead_of n (objects says) (age_of says) o b w) (told n (objects says) (age_of says) o cells b w _ refl)
    where
      go :
          (l : Lead) →
          Told n (objects says) (age_of says) o cells b w l →
          Lands (behind says (under says n cells o b w)) (reach says P c end m v (under says n cells o b w))
      go End k = rw k.0 (by_test (eqb v 0) _ (λ t. rw t tt) (λ t. rw t tt))
      go Damaged k = rw k tt
      go (To q a) k =
          rw k.2
          (by_test (is_header (says q.0)) _
          (λ t. rw t (k.1.inside, refl))
          (λ t. rw t (on q.0 k.1.older (end_by says P q.0 end) (met_with says P c q.0 m) (v + 1))))

  lands_by : (f b w : ℕ) → b ≤ f → Landed b w
  lands_by zero b w h = lands_on b w (λ q k. absurd (omega arith))
  lands_by (suc f) b w h = lands_on b w (λ q k. lands_by f (age_of says q) (word cells (link_at q)) (omega arith))

  pub lands : (b w : ℕ) → Lands (behind says (under says n cells o b w)) (reach says P c 0 None 0 (under says n cells o b w))
  lands b w = lands_by b b w (le_refl b) 0 None 0

-- a chunk of a live file
pub chunk_live :
    (says : ℕ → Record) (P c size : ℕ) (m : (Option PageNumber)) (t : Trace) (k : Record) (h v : ℕ) (g : PageNumber) (u : ℕ) →
    file_at k h v ≡ file.Header g u →
    chunk_file says P c size m t (file_at k h v)
    ≡ pick (leb size (base_of P c)) (looked.Refused PastEnd v 0) (copy_from says P c h (shown_of P c size) v t m)
unfolding chunk_file
chunk_live says P c size m t k h v g u e =
    file_cases k h v
    (λ f. f ≡ file.Header g u → chunk_file says P c size m t f ≡ pick (leb size (base_of P c)) (looked.Refused PastEnd v 0) (copy_from says P c h (shown_of P c size) v t m))
    (λ r d. clash (cc))
    (λ d. refl)
    e
