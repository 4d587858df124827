-- What a file is, and what one record more makes of it, where that is newer than the others: a header is then the newest, behind which no data is, and
-- data is one end more.
use Prim.Native.Nat.{ℕ, zero, suc, ◌≤◌, ◌<◌, max}
use Rattle.std.specs.Prelude.{Result, Ok, Err, Option, Some, None}
use Rattle.page.specs.declared.refusal.Refusal.{Refusal}
use mathlib.Core.Bool.{Bool, true, false, ◌&&◌}
use mathlib.Core.Logic.{◌⊎◌, inl, inr, ⊎_elim}
use mathlib.Core.Path.{◌≡◌, refl, sym, ap, ◌∙◌}
use native.Mathlib.Nat.{le_refl, le_of_suc-le-suc, eq-or-lt_of_le}
use native.Mathlib.Omega.{arith}
use borrow.Author.Tests.{lt-ltb, le-ltb, eqb-true, eqb-false, ne_eqb}
use lib.Dec.{eqb, ltb}
use Rattle.page.specs.Choice.{pick}
use Rattle.page.specs.Numbers.{bad_object}
use Rattle.page.specs.Records.{is_header, is_data}
use Rattle.page.specs.declared.record.Record.{Record}
use Rattle.page.specs.declared.record.Record.TheVariants.{Other, Header, Data}
use Rattle.page.specs.declared.record.Data as datum
use Rattle.page.specs.declared.refusal.Refusal.TheVariants.{NoHeader, Deleted, NotAFile}
use Rattle.page.proofs.Layouts.{and_left}
use Rattle.page.proofs.Searching.{clash, by_test}
use Rattle.chunk.specs.Lookups.{file_at, file_by, file_of, sized_by, sized_of}
use Rattle.chunk.specs.Newest.{newest, newest_header, records}
use Rattle.chunk.specs.Records.{age_of, is_of, header_of, data_of, is_gone, is_file, file_size}
use Rattle.chunk.specs.Sizes.{end_of, data_end, size_of}
use Rattle.chunk.proofs.Gathering.{end_none, end_suc}
use Rattle.chunk.proofs.Meaning.{where_is, where_none_is, where_found, where_missing}
use Rattle.records.specs.Histories.{answer_of}
use Rattle.records.specs.Steps.{begun_by, grown_to, after_with}

-- no test holds together with one that fails
and_no : (b : Bool) → b && false ≡ false
and_no true = refl
and_no false = refl

-- ---- the answer, by the newest header

-- what an object is whose newest header says k, as a file of a size
abbrev pub filed : Record → (size : ℕ) → Result ℕ Refusal
filed k z = pick (is_gone k) (Err Deleted) (pick (is_file k) (Ok z) (Err NotAFile))

-- what is begun by a header, and grows
begun_filed : (k : Record) (h v : ℕ) → begun_by k (file_at k h v) ≡ filed k (file_size k)
unfolding file_at
begun_filed k h v = by_test (is_gone k) _ (λ t. rw t) (λ t. by_test (is_file k) _ (λ u. rw (t, u)) (λ u. rw (t, u)))

grown_filed : (end : ℕ) (k : Record) (z : ℕ) → grown_to end (filed k z) ≡ filed k (max end z)
grown_filed end k z = by_test (is_gone k) _ (λ t. rw t) (λ t. by_test (is_file k) _ (λ u. rw (t, u)) (λ u. rw (t, u)))

module _ (P o n : ℕ) where
  -- by the newest header, if there is one
  abbrev pub state_by : (says : ℕ → Record) → Option ℕ → Result ℕ Refusal
  state_by says None = Err NoHeader
  state_by says (Some h) = filed (says h) (size_of says P o h n)

  abbrev pub state_of : (says : ℕ → Record) → Result ℕ Refusal
  state_of says = state_by says (newest_header says o n)

  -- a size lookup of a header answers so
  filed_answer : (says : ℕ → Record) (k : Record) (h v : ℕ) → answer_of (sized_by says o n P (file_at k h v)) ≡ filed k (size_of says P o h n)
  unfolding file_at sized_by
  filed_answer says k h v = by_test (is_gone k) _ (λ t. rw t) (λ t. by_test (is_file k) _ (λ u. rw (t, u)) (λ u. rw (t, u)))

  -- and so of the newest header, if there is one
  state_by_lem : (says : ℕ → Record) (r : Option ℕ) → answer_of (sized_by says o n P (file_by says o n r)) ≡ state_by says r
  unfolding file_by sized_by
  state_by_lem says None = refl
  state_by_lem says (Some h) = filed_answer says (says h) h _

  -- a size lookup answers it, where the object has a record
  pub sized_state : (says : ℕ → Record) → bad_object o ≡ false → (records says o n ≡ 0 → ⊥) → answer_of (sized_of says o n P) ≡ state_of says
  unfolding sized_of file_of
  sized_state says good some-record = rw (good, ne_eqb (records says o n) 0 some-record) (state_by_lem says (newest_header says o n))

  -- ---- two readings of the pages

  -- two pages say the same, or neither passes
  abbrev pub Agree : (test : Record → Bool) (k m : Record) → Type 0
  Agree test k m = (k ≡ m) ⊎ ((test k ≡ false) × (test m ≡ false))

  module _ (S T : ℕ → Record) where
    -- the newest that passes is the same where all pages agree
    newest_same : (test : Record → Bool) → n ≤ 4294967296 → ((q : ℕ) → q < n → Agree test (S q) (T q)) → newest S test n ≡ newest T test n
    newest_same test few agree = go (newest T test n) refl
      where
        go : (r : Option ℕ) → newest T test n ≡ r → newest S test n ≡ r
        go None e =
            where_none_is S (λ q. test (S q)) n
            (λ q h. ⊎_elim (λ (k : S q ≡ T q). rw k (where_missing T (λ i. test (T i)) n e q h)) (λ k. k.0) (agree q h))
        go (Some p) e =
            let f = where_found T (λ q. test (T q)) n p e in
            ⊎_elim
            (λ (k : S p ≡ T p).
            where_is S (λ q. test (S q)) n p
            record {
              below = f.below;
              passes = rw k f.passes;
              newest =
                  λ q h u.
                  ⊎_elim
                  (λ (j : S q ≡ T q). rw (j, k) (f.newest q h (rw j at u)))
                  (λ j. let z : true ≡ false = sym u ∙ j.0 in clash (cc))
                  (agree q h);
            }
            few)
            (λ k. let z : true ≡ false = sym f.passes ∙ k.1 in clash (cc))
            (agree p f.below)

    module _ (x : ℕ) where
      -- so is the largest end
      end_same : (m : ℕ) → ((q : ℕ) → q < m → Agree (data_of o) (S q) (T q)) → data_end S P o x m ≡ data_end T P o x m
      end_same zero agree = end_none S P o x ∙ sym (end_none T P o x)
      end_same (suc m) agree =
          let e = end_same m (λ q h. agree q (omega (arith, h))) in
          end_suc S P o x m
          ∙ ⊎_elim (λ (k : S m ≡ T m). rw (k, e)) (λ k. rw (k.0, k.1) e) (agree m (le_refl _))
          ∙ sym (end_suc T P o x m)

      -- one page more that counts is one end more
      end_more :
          (p : ℕ) → (data_of o (S p) && ltb x (age_of S p)) ≡ true → data_of o (T p) ≡ false → (m : ℕ) → p < m →
          ((q : ℕ) → q < m → (q ≡ p → ⊥) → Agree (data_of o) (S q) (T q)) → data_end S P o x m ≡ max (end_of P (S p)) (data_end T P o x m)
      end_more p t u zero h agree = absurd (omega arith)
      end_more p t u (suc m) h agree =
          ⊎_elim
          (λ (k : p ≡ m).
          let e = end_same m (λ q i. agree q (omega (arith, i)) (λ j. omega (arith, i))) in
          let a : data_end T P o x (suc m) ≡ data_end T P o x m = end_suc T P o x m ∙ rw (← k, u) in
          end_suc S P o x m ∙ rw (a, ← k, t) (ap (max (end_of P (S p))) (rw k e)))
          (λ (k : p < m).
          let e = end_more p t u m k (λ q i. agree q (omega (arith, i))) in
          end_suc S P o x m
          ∙ ⊎_elim
          (λ (j : S m ≡ T m). rw (j, e) (onward (data_of o (T m) && ltb x (age_of T m)) (end_of P (T m))))
          (λ j. rw (j.0, j.1) e)
          (agree m (le_refl _) (λ i. omega arith))
          ∙ ap (max (end_of P (S p))) (sym (end_suc T P o x m)))
          (eq-or-lt_of_le (le_of_suc-le-suc h))
        where
          onward :
              (b : Bool) (end : ℕ) →
              pick b (max end (max (end_of P (S p)) (data_end T P o x m))) (max (end_of P (S p)) (data_end T P o x m))
              ≡ max (end_of P (S p)) (pick b (max end (data_end T P o x m)) (data_end T P o x m))
          onward true end = omega arith
          onward false end = refl

  -- where no newer data is
  end_nothing : (says : ℕ → Record) (x m : ℕ) → ((q : ℕ) → q < m → (data_of o (says q) && ltb x (age_of says q)) ≡ false) → data_end says P o x m ≡ 0
  end_nothing says x zero h = end_none says P o x
  end_nothing says x (suc m) h = end_suc says P o x m ∙ rw (h m (le_refl _)) (end_nothing says x m (λ q k. h q (omega (arith, k))))

  -- ---- one record more

  -- page p is a record of the object in the first reading alone, and newer than the others
  module _ (few : n ≤ 4294967296) (S T : ℕ → Record) (p : ℕ) (inside : p < n) (here : is_of o (S p) ≡ true) (gone : is_of o (T p) ≡ false)
      (others : (q : ℕ) → q < n → (q ≡ p → ⊥) → Agree (is_of o) (S q) (T q))
      (last : (q : ℕ) → q < n → is_of o (S q) ≡ true → age_of S q ≤ age_of S p)
    where
      -- what holds of a part of the records
      part : (part : Record → Bool) (q : ℕ) → q < n → (q ≡ p → ⊥) → Agree (λ k. is_of o k && part k) (S q) (T q)
      part test q h ne = ⊎_elim (λ e. inl e) (λ (e : (is_of o (S q) ≡ false) × (is_of o (T q) ≡ false)). inr (rw e.0, rw e.1)) (others q h ne)

      older : (q : ℕ) → q < n → (q ≡ p → ⊥) → is_of o (S q) ≡ true → age_of S q < age_of S p
      older q h ne t = let k : q ≡ p → ⊥ = ne in let e : age_of S q ≤ age_of S p = last q h t in omega arith

      no_header : (d : datum.Data) → S p ≡ Data d → (q : ℕ) → q < n → Agree (header_of o) (S q) (T q)
      no_header d e q h =
          by_test (eqb q p) _
          (λ t.
          let k : q ≡ p = eqb-true q p t in
          inr (rw (k, e) (and_no (is_of o (Data d))), rw (k, gone)))
          (λ t. part is_header q h (eqb-false q p t))

      -- data is one end more
      grown : (d : datum.Data) → S p ≡ Data d → (r : Option ℕ) → newest_header T o n ≡ r → state_by S r ≡ grown_to (end_of P (S p)) (state_by T r)
      unfolding size_of
      grown d e None f = refl
      grown d e (Some h) f =
          let w = where_found T (λ q. header_of o (T q)) n h f in
          let t : is_of o (T h) ≡ true = and_left (is_of o (T h)) _ w.passes in
          let ne : h ≡ p → ⊥ = λ (k : h ≡ p). let z : true ≡ false = sym t ∙ rw k gone in clash (cc) in
          ⊎_elim
          (λ (k : S h ≡ T h).
          let u : ltb (age_of S h) (age_of S p) ≡ true = lt-ltb _ _ (older h w.below ne (rw k t)) in
          let own : data_of o (S p) ≡ true = rw (here, e) in
          let more = end_more S T (age_of S h) p (rw (own, u)) (rw gone) n inside (part is_data) in
          longer (T h) (data_end T P o (age_of T h) n) (S h) (data_end S P o (age_of S h) n) k (more ∙ rw k))
          (λ k. let z : true ≡ false = sym t ∙ k.1 in clash (cc))
          (others h w.below ne)
        where
          longer :
              (k : Record) (end : ℕ) (m : Record) (all : ℕ) → m ≡ k → all ≡ max (end_of P (S p)) end →
              filed m (max (file_size m) all) ≡ grown_to (end_of P (S p)) (filed k (max (file_size k) end))
          longer k end m all i j =
              let z : max (file_size k) (max (end_of P (S p)) end) ≡ max (end_of P (S p)) (max (file_size k) end) = omega arith in
              rw (i, j, z) (sym (grown_filed (end_of P (S p)) k (max (file_size k) end)))

      -- and a header says anew what the object is
      begun : is_header (S p) ≡ true → state_of S ≡ filed (S p) (file_size (S p))
      unfolding size_of
      begun t =
          let w : newest_header S o n ≡ Some p =
          where_is S (λ q. header_of o (S q)) n p record { below = inside; passes = rw (here, t); newest = λ q h u. last q h (and_left (is_of o (S q)) _ u) } few in
          let none-newer : data_end S P o (age_of S p) n ≡ 0 =
          end_nothing S (age_of S p) n
          (λ q h. by_test (is_of o (S q)) _ (λ u. rw (le-ltb (age_of S p) (age_of S q) (last q h u)) (and_no (data_of o (S q)))) (λ u. rw u)) in
          let z : max (file_size (S p)) 0 ≡ file_size (S p) = omega arith in
          rw (w, none-newer, z)

      pub one_more : state_of S ≡ after_with P (state_of T) p (S p)
      unfolding after_with
      one_more = go (S p) refl
        where
          go : (k : Record) → S p ≡ k → state_of S ≡ after_with P (state_of T) p k
          go Other e = let z : true ≡ false = sym here ∙ ap (is_of o) e in clash (cc)
          go (Header h) e = begun (rw e) ∙ rw e (sym (begun_filed (Header h) p 0))
          go (Data d) e =
              ap (state_by S) (newest_same S T (header_of o) few (no_header d e))
              ∙ grown d e (newest_header T o n) refl
              ∙ ap (λ (k : Record). grown_to (end_of P k) (state_of T)) e
