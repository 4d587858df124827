-- What the definitions mean, in the paper's own terms: the newest is the one that none is newer than; a header cuts, or hides a copy, exactly
-- when the paper says so; a copy that is found has valid bytes.
use Prim.Native.Nat.{ℕ, zero, suc, ◌≤◌, ◌<◌}
use Rattle.std.specs.Prelude.{Option, Some, None}
use mathlib.Core.Bool.{Bool, true, false, ◌&&◌, ◌||◌}
use mathlib.Core.Path.{◌≡◌, refl, sym, ap, ◌∙◌}
use mathlib.Core.Logic.{⊎_elim}
use native.Mathlib.Nat.{not-suc-le-zero, le_of_suc-le-suc, eq-or-lt_of_le, le_refl, le-max_left, le_trans, le_antisymm}
use native.Mathlib.Omega.{arith}
use lib.Dec.{eqb, ltb, leb}
use borrow.Author.Tests.{leb-true, leb-false, ltb-true, lt-ltb}
use Rattle.page.specs.declared.record.Record.{Record}
use Rattle.page.proofs.Searching.{clash, by_test, pick_cases}
use Rattle.page.proofs.Layouts.{and_left, and_right}
use Rattle.chunk.specs.Records.{order_of, age_of, header_of, file_size, is_gone, is_file}
use Rattle.chunk.specs.Newest.{later, newest, newest_where}
use Rattle.chunk.specs.Cuts.{is_shrink, cut_of, lower, lowest_cut, hides}
use Rattle.chunk.specs.Sizes.{size_of, data_end}
use Rattle.chunk.proofs.Cuts.{lower_hides, lower_still, lower_leaves}
use Rattle.chunk.proofs.Gathering.{where_none, where_suc, cut_none, cut_suc}

-- a record of a lower sequence is older, on whatever page it stands; of one sequence the lower page is older
pub order_by_sequence : (s t p q : ℕ) → s < t → p < 4294967296 → order_of s p < order_of t q
order_by_sequence s t p q h k = omega arith

pub order_by_page : (s p q : ℕ) → p < q → order_of s p < order_of s q
order_by_page s p q h = omega arith

-- what a page is that a search for the newest found: it passes, and none that passes is newer
pub record IsNewest (says : ℕ → Record) (test : ℕ → Bool) (n p : ℕ) : Type 0 where
  pub below : p < n
  pub passes : test p ≡ true
  pub newest : (q : ℕ) → q < n → test q ≡ true → age_of says q ≤ age_of says p

module _ (says : ℕ → Record) (test : ℕ → Bool) where
  -- a search that finds nothing: no page passes
  pub where_missing : (n : ℕ) → newest_where says test n ≡ None → (q : ℕ) → q < n → test q ≡ false
  where_missing zero e q h = absurd (not-suc-le-zero h)
  where_missing (suc n) e q h =
      pick_cases (test n) _ _ None _ (sym (where_suc says test n) ∙ e)
      (λ t k. absurd (no-later (newest_where says test n) k))
      (λ t k.
      ⊎_elim
      (λ (i : q ≡ n). rw i t)
      (λ i. where_missing n k q i)
      (eq-or-lt_of_le (le_of_suc-le-suc h)))
    where
      no-later : (r : Option ℕ) → later says n r ≡ None → ⊥
      no-later None k = clash (cc)
      no-later (Some x) k = pick_cases (leb (age_of says x) (age_of says n)) _ _ None _ k (λ _ j. clash (cc)) (λ _ j. clash (cc))

  -- a search that finds a page: the newest that passes
  pub where_found : (n p : ℕ) → newest_where says test n ≡ Some p → IsNewest says test n p
  where_found zero p e = absurd (never (sym (where_none says test) ∙ e))
    where
      never : None ≡ Some p → ⊥
      never k = clash (cc)
  where_found (suc n) p e =
      pick_cases (test n) _ _ (Some p) _ (sym (where_suc says test n) ∙ e)
      (λ t k. taken t (newest_where says test n) refl k (λ x i. where_found n x i))
      (λ t k.
      let f = where_found n p k in
      record {
        below = omega (arith, f.below);
        passes = f.passes;
        newest = λ q h u. ⊎_elim (λ (i : q ≡ n). absurd (both t (rw i at u))) (λ i. f.newest q i u) (eq-or-lt_of_le (le_of_suc-le-suc h));
      })
    where
      both : test n ≡ false → test n ≡ true → ⊥
      both a b = clash (cc)

      last : p ≡ n → test n ≡ true → ((q : ℕ) → q < n → test q ≡ true → age_of says q ≤ age_of says n) → IsNewest says test (suc n) p
      last i t f =
          rw i record {
            below = le_refl _;
            passes = t;
            newest = λ q h u. ⊎_elim (λ (j : q ≡ n). rw j (le_refl _)) (λ j. f q j u) (eq-or-lt_of_le (le_of_suc-le-suc h));
          }

      taken :
          test n ≡ true → (r : Option ℕ) → newest_where says test n ≡ r → later says n r ≡ Some p →
          ((x : ℕ) → newest_where says test n ≡ Some x → IsNewest says test n x) → IsNewest says test (suc n) p
      taken t None i k ih =
          let j : p ≡ n = cc in
          last j t (λ q h u. let m = where_missing n i q h in absurd (clash (cc)))
      taken t (Some x) i k ih =
          let f = ih x i in
          pick_cases (leb (age_of says x) (age_of says n)) _ _ (Some p) _ k
          (λ b c. let j : p ≡ n = cc in last j t (λ q h u. le_trans (f.newest q h u) (leb-true _ _ b)))
          (λ b c.
          let j : p ≡ x = cc in
          let o : age_of says n < age_of says x = leb-false _ _ b in
          rw j record {
            below = omega (arith, f.below);
            passes = f.passes;
            newest = λ q h u. ⊎_elim (λ (y : q ≡ n). rw y (omega arith)) (λ y. f.newest q y u) (eq-or-lt_of_le (le_of_suc-le-suc h));
          })

  -- ages of different pages below 2^32 differ, so that the newest is the only one
  same_age : (p q : ℕ) → p < 4294967296 → q < 4294967296 → age_of says p ≡ age_of says q → p ≡ q
  same_age p q h k e = omega arith

  -- and so a search finds the page that is the newest
  pub where_is : (n p : ℕ) → IsNewest says test n p → n ≤ 4294967296 → newest_where says test n ≡ Some p
  where_is n p w h = found (newest_where says test n) refl
    where
      found : (r : Option ℕ) → newest_where says test n ≡ r → r ≡ Some p
      found None e = let m = where_missing n e p w.below in clash (cc w.passes)
      found (Some q) e =
          let f = where_found n q e in
          ap Some (same_age q p (omega (arith, f.below)) (omega (arith, w.below)) (le_antisymm (w.newest q f.below f.passes) (f.newest p w.below w.passes)))

  -- where no page passes, nothing is found
  pub where_none_is : (n : ℕ) → ((q : ℕ) → q < n → test q ≡ false) → newest_where says test n ≡ None
  where_none_is n h = found (newest_where says test n) refl
    where
      found : (r : Option ℕ) → newest_where says test n ≡ r → r ≡ None
      found None e = refl
      found (Some q) e = let f = where_found n q e in let u = h q f.below in clash (cc f.passes)

-- two tests that agree find the same
pub where_same :
    (says : ℕ → Record) (test other : ℕ → Bool) (n : ℕ) → ((q : ℕ) → q < n → test q ≡ other q) → newest_where says test n ≡ newest_where says other n
where_same says test other zero h = where_none says test ∙ sym (where_none says other)
where_same says test other (suc n) h =
    where_suc says test n
    ∙ rw (h n (le_refl _), where_same says test other n (λ q k. h q (omega (arith, k)))) (sym (where_suc says other n))

-- the same of a test of records
module _ (says : ℕ → Record) (test : Record → Bool) where
  pub newest_missing : (n : ℕ) → newest says test n ≡ None → (q : ℕ) → q < n → test (says q) ≡ false
  newest_missing = where_missing says (λ p. test (says p))

  pub newest_found : (n p : ℕ) → newest says test n ≡ Some p → IsNewest says (λ q. test (says q)) n p
  newest_found = where_found says (λ p. test (says p))

-- an old header of a plain file, neither shrink-marked nor deleted, cuts nowhere
pub plain_header_cuts_nowhere : (k : Record) → is_gone k ≡ false → is_shrink k ≡ false → cut_of false k ≡ None
unfolding cut_of
plain_header_cuts_nowhere k g m = rw (g, m) (by_test (is_file k) _ (λ t. rw t) (λ t. rw t))

-- a header under parent 3 or 4 cuts at 0, whatever its type, and the newest or not
pub gone_header_cuts_at_0 : (b : Bool) (k : Record) → is_gone k ≡ true → cut_of b k ≡ Some 0
unfolding cut_of
gone_header_cuts_at_0 b k g = rw g

-- any other header of a file cuts at its size if it is shrink-marked or the newest
pub file_header_cuts_at_size : (b : Bool) (k : Record) → is_gone k ≡ false → is_file k ≡ true → (is_shrink k || b) ≡ true → cut_of b k ≡ Some (file_size k)
unfolding cut_of
file_header_cuts_at_size b k g f m = rw (g, f, m)

-- the size never falls below the newest header's
pub size_at_least : (says : ℕ → Record) (P o h n : ℕ) → file_size (says h) ≤ size_of says P o h n
unfolding size_of
size_at_least says P o h n = le-max_left (file_size (says h)) (data_end says P o (age_of says h) n)

-- a header that hides what begins at base: one of object o, newer than x, that cuts at or below base
pub record Hides (says : ℕ → Record) (o h x n base p : ℕ) : Type 0 where
  pub below : p < n
  pub header : header_of o (says p) ≡ true
  pub newer : x < age_of says p
  pub cuts : hides (cut_of (eqb p h) (says p)) base ≡ true

module _ (says : ℕ → Record) (o h x base : ℕ) where
  abbrev later_header : ℕ → Bool
  later_header p = header_of o (says p) && ltb x (age_of says p)

  cut_taken : (n : ℕ) → later_header n ≡ true → lowest_cut says o h x (suc n) ≡ lower (cut_of (eqb n h) (says n)) (lowest_cut says o h x n)
  cut_taken n t = cut_suc says o h x n ∙ rw t

  cut_passed : (n : ℕ) → later_header n ≡ false → lowest_cut says o h x (suc n) ≡ lowest_cut says o h x n
  cut_passed n t = cut_suc says o h x n ∙ rw t

  -- the lowest later cut hides what begins at base exactly when a header does
  pub lowest_cut_hides : (n : ℕ) (P : Type 0) → hides (lowest_cut says o h x n) base ≡ true → ((p : ℕ) → Hides says o h x n base p → P) → P
  lowest_cut_hides zero P c f = absurd (never (rw (cut_none says o h x) at c))
    where
      never : false ≡ true → ⊥
      never e = clash (cc)
  lowest_cut_hides (suc n) P c f =
      by_test (later_header n) P
      (λ t.
      by_test (hides (cut_of (eqb n h) (says n)) base) P
      (λ u.
      f n record {
        below = le_refl _;
        header = and_left (header_of o (says n)) _ t;
        newer = ltb-true _ _ (and_right (header_of o (says n)) _ t);
        cuts = u;
      })
      (λ u. lowest_cut_hides n P (other t u) (λ p g. f p (more p g))))
      (λ t. lowest_cut_hides n P (rw (cut_passed n t) at c) (λ p g. f p (more p g)))
    where
      more : (p : ℕ) → Hides says o h x n base p → Hides says o h x (suc n) base p
      more p g = record { below = omega (arith, g.below); header = g.header; newer = g.newer; cuts = g.cuts }

      other : later_header n ≡ true → hides (cut_of (eqb n h) (says n)) base ≡ false → hides (lowest_cut says o h x n) base ≡ true
      other t u =
          by_test (hides (lowest_cut says o h x n) base) _
          (λ v. v)
          (λ v.
          let k = lower_leaves base (cut_of (eqb n h) (says n)) (lowest_cut says o h x n) u v in
          let z : true ≡ false = sym c ∙ rw (cut_taken n t) k in
          clash (cc))

  pub hides_lowest_cut : (n p : ℕ) → Hides says o h x n base p → hides (lowest_cut says o h x n) base ≡ true
  hides_lowest_cut zero p g = absurd (not-suc-le-zero g.below)
  hides_lowest_cut (suc n) p g =
      ⊎_elim
      (λ (i : p ≡ n).
      let t : later_header n ≡ true = rw (← i, g.header) (lt-ltb _ _ g.newer) in
      let k : hides (cut_of (eqb n h) (says n)) base ≡ true = rw (← i) g.cuts in
      rw (cut_taken n t) (lower_hides base (cut_of (eqb n h) (says n)) (lowest_cut says o h x n) k))
      (λ i.
      let r = hides_lowest_cut n p record { below = i; header = g.header; newer = g.newer; cuts = g.cuts } in
      by_test (later_header n) _ (λ t. rw (cut_taken n t) (lower_still base (cut_of (eqb n h) (says n)) (lowest_cut says o h x n) r)) (λ t. rw (cut_passed n t) r))
      (eq-or-lt_of_le (le_of_suc-le-suc g.below))
