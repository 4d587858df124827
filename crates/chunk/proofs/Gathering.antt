-- What one page more makes of each gathering: all that a scan's loop, and a walk along sorted records, need to know of its definition.
use Prim.Native.Nat.{ℕ, suc, ◌+◌, ◌<◌, ◌≤◌, max}
use Rattle.std.specs.Prelude.{Option, None, Some}
use mathlib.Core.Bool.{Bool, true, false, ◌&&◌}
use mathlib.Core.Path.{◌≡◌, refl, ap, ◌∙◌}
use native.Mathlib.Numerals.{add-one}
use borrow.Author.Tests.{le-leb, lt-leb}
use lib.Dec.{eqb, ltb, leb}
use Rattle.page.specs.Choice.{pick}
use Rattle.page.specs.Records.{is_header, is_data}
use Rattle.page.proofs.Searching.{clash, by_test}
use Rattle.page.specs.declared.record.Record.{Record}
use Rattle.page.specs.declared.number.PageNumber.{PageNumber}
use Rattle.chunk.specs.Gather.{gather}
use Rattle.chunk.specs.Records.{age_of, is_of, header_of, data_of}
use Rattle.chunk.specs.Newest.{later, newest_where, since}
use Rattle.chunk.specs.Cuts.{cut_of, lower, lowest_cut}
use Rattle.chunk.specs.Sizes.{end_of, data_end}
use Rattle.chunk.specs.Aged.{At, Nothing}
use Rattle.chunk.proofs.Alike.{same_page, same_age}
use Rattle.chunk.specs.Scans.{later_in, newest_in, end_with, cut_with}

-- a test joined with none
pub and_true : (b : Bool) → b && true ≡ b
and_true true = refl
and_true false = refl

-- one page more, as a loop counts
pub gather_step : {A : Type 0} (f : ℕ → A → A) (a : A) (n : ℕ) → gather f a (n + 1) ≡ f n (gather f a n)
unfolding gather
gather_step f a n = rw add-one

module _ (says : ℕ → Record) where
  pub where_none : (test : ℕ → Bool) → newest_where says test 0 ≡ None
  unfolding newest_where gather
  where_none test = refl

  pub where_suc : (test : ℕ → Bool) (n : ℕ) → newest_where says test (suc n) ≡ pick (test n) (later says n (newest_where says test n)) (newest_where says test n)
  unfolding newest_where gather
  where_suc test n = refl

  where_step : (test : ℕ → Bool) (n : ℕ) → newest_where says test (n + 1) ≡ pick (test n) (later says n (newest_where says test n)) (newest_where says test n)
  where_step test n = rw add-one (where_suc test n)

  -- a page that does not pass is passed over
  pub where_skip : (test : ℕ → Bool) (n : ℕ) → test n ≡ false → newest_where says test (n + 1) ≡ newest_where says test n
  where_skip test n t = where_step test n ∙ rw t

  pub where_take : (test : ℕ → Bool) (n : ℕ) → test n ≡ true → newest_where says test (n + 1) ≡ later says n (newest_where says test n)
  where_take test n t = where_step test n ∙ rw t

  -- the newer of two pages, kept with its age
  pub later_in_lem : (p : ℕ) (r : Option ℕ) → later_in (newest_in says r) p (age_of says p) ≡ newest_in says (later says p r)
  later_in_lem p None = refl
  later_in_lem p (Some q) = by_test (leb (age_of says q) (age_of says p)) _ (λ t. rw t) (λ t. rw t)

  -- what a scan found, as a page
  pub in_none : (r : Option ℕ) → newest_in says r ≡ Nothing → r ≡ None
  in_none None e = refl
  in_none (Some q) e = clash (cc)

  pub in_some : (r : Option ℕ) (p : PageNumber) (a : ℕ) → newest_in says r ≡ At p a → (r ≡ Some p.0) × (age_of says p.0 ≡ a)
  in_some None p a e = clash (cc)
  in_some (Some q) p a e = let h : q ≡ p.0 = ap (λ (x : PageNumber). x.0) (same_page _ _ _ _ e) in (ap Some h, rw (← h) (same_age _ _ _ _ e))

  pub since_none : (o x : ℕ) → since says o x 0 ≡ 0
  unfolding since gather
  since_none o x = refl

  pub since_suc : (o x n : ℕ) → since says o x (suc n) ≡ pick (is_of o (says n) && leb x (age_of says n)) (suc (since says o x n)) (since says o x n)
  unfolding since gather
  since_suc o x n = refl

  since_step : (o x n : ℕ) → since says o x (n + 1) ≡ pick (is_of o (says n) && leb x (age_of says n)) (suc (since says o x n)) (since says o x n)
  since_step o x n = rw add-one (since_suc o x n)

  pub since_skip : (o x n : ℕ) → is_of o (says n) ≡ false → since says o x (n + 1) ≡ since says o x n
  since_skip o x n t = since_step o x n ∙ rw t

  pub since_old : (o x n : ℕ) → age_of says n < x → since says o x (n + 1) ≡ since says o x n
  since_old o x n t = since_step o x n ∙ by_test (is_of o (says n)) _ (λ u. rw (u, lt-leb x (age_of says n) t)) (λ u. rw u)

  pub since_one : (o x n : ℕ) → is_of o (says n) ≡ true → x ≤ age_of says n → since says o x (n + 1) ≡ since says o x n + 1
  since_one o x n t h = since_step o x n ∙ rw (t, le-leb x (age_of says n) h, ← add-one)

  pub end_none : (P o x : ℕ) → data_end says P o x 0 ≡ 0
  unfolding data_end gather
  end_none P o x = refl

  pub end_suc :
      (P o x n : ℕ) → data_end says P o x (suc n) ≡ pick (data_of o (says n) && ltb x (age_of says n)) (max (end_of P (says n)) (data_end says P o x n)) (data_end says P o x n)
  unfolding data_end gather
  end_suc P o x n = refl

  pub end_step : (P o x n : ℕ) → data_end says P o x (n + 1) ≡ end_with (data_end says P o x n) P o x n (says n)
  unfolding end_with
  end_step P o x n = rw add-one (end_suc P o x n)

  pub end_skip : (P o x n : ℕ) → is_data (says n) ≡ false → data_end says P o x (n + 1) ≡ data_end says P o x n
  unfolding end_with
  end_skip P o x n t = end_step P o x n ∙ by_test (is_of o (says n)) _ (λ u. rw (u, t)) (λ u. rw u)

  pub end_other : (P o x n : ℕ) → is_of o (says n) ≡ false → data_end says P o x (n + 1) ≡ data_end says P o x n
  unfolding end_with
  end_other P o x n t = end_step P o x n ∙ rw t

  pub cut_none : (o h x : ℕ) → lowest_cut says o h x 0 ≡ None
  unfolding lowest_cut gather
  cut_none o h x = refl

  pub cut_suc :
      (o h x n : ℕ) →
      lowest_cut says o h x (suc n) ≡ pick (header_of o (says n) && ltb x (age_of says n)) (lower (cut_of (eqb n h) (says n)) (lowest_cut says o h x n)) (lowest_cut says o h x n)
  unfolding lowest_cut gather
  cut_suc o h x n = refl

  pub cut_step : (o h x n : ℕ) → lowest_cut says o h x (n + 1) ≡ cut_with (lowest_cut says o h x n) o h x n (says n)
  unfolding cut_with
  cut_step o h x n = rw add-one (cut_suc o h x n)

  pub cut_skip : (o h x n : ℕ) → is_header (says n) ≡ false → lowest_cut says o h x (n + 1) ≡ lowest_cut says o h x n
  unfolding cut_with
  cut_skip o h x n t = cut_step o h x n ∙ by_test (is_of o (says n)) _ (λ u. rw (u, t)) (λ u. rw u)

  pub cut_other : (o h x n : ℕ) → is_of o (says n) ≡ false → lowest_cut says o h x (n + 1) ≡ lowest_cut says o h x n
  unfolding cut_with
  cut_other o h x n t = cut_step o h x n ∙ rw t
