-- The rules of document 01 over an object's sorted list of records. Each rule is a gathering, and so a walk along the list (`listed`). Where the
-- list is parted at a record, a rule that asks for newer records goes by the part above it alone.
use Prim.Native.Nat.{ℕ, suc, ◌+◌, ◌≤◌, ◌<◌, max, zero-le}
use Rattle.std.specs.Prelude.{Option, None, Some}
use mathlib.Core.Bool.{Bool, true, false, ◌&&◌}
use mathlib.Core.List.{List, ◌∷◌, ◌++◌}
use mathlib.Core.Logic.{◌≢◌}
use mathlib.Core.Path.{◌≡◌, refl, ap, ◌∙◌}
use native.Mathlib.Nat.{le_refl}
use native.Mathlib.Omega.{arith}
use lib.ListN.{length}
use lib.Dec.{eqb, ltb, leb}
use borrow.Author.Tests.{lt-ltb, le-ltb, le-leb, lt-leb, leb-true, leb-false}
use Rattle.page.specs.Choice.{pick}
use Rattle.page.specs.Records.{is_data}
use Rattle.page.proofs.Searching.{by_test}
use Rattle.page.specs.declared.record.Record.{Record}
use Rattle.chunk.specs.Records.{age_of, is_of, header_of, data_of}
use Rattle.chunk.specs.Newest.{later, newest, since}
use Rattle.chunk.specs.Cuts.{cut_of, lower, lowest_cut}
use Rattle.chunk.specs.Sizes.{end_of, data_end}
use Rattle.chunk.proofs.Records.{of_object, object_of_lem, other_object}
use Rattle.chunk.proofs.Cuts.{lower_swap}
use Rattle.chunk.proofs.Gathering.{and_true, where_none, where_suc, since_none, since_suc, end_none, end_suc, cut_none, cut_suc}
use Rattle.sort.specs.Ascending.{In}
use Rattle.index.specs.Chains.{objects}
use Rattle.index.specs.Held.{recs}
use Rattle.index.specs.Walks.{cut_by}
use Rattle.index.proofs.Sorted.Records.{recs_of}
use Rattle.index.proofs.Chain.Insertion.{Falls, falls_in}
use Rattle.index.proofs.Sorted.Steps.{through, through_at, through_idle, through_same, through_count, gather_recs}
use Rattle.index.proofs.Sorted.Parting.{Fails, in_above, in_at, falls_above, falls_below}
use Rattle.index.proofs.Walk.Walks.{other_data, headed, end_by}

-- two steps, each taken or not, may change places if both were taken
pick_swap : {A : Type 0} (t u : Bool) (f g : A → A) (a : A) → f (g a) ≡ g (f a) → pick t (f (pick u (g a) a)) (pick u (g a) a) ≡ pick u (g (pick t (f a) a)) (pick t (f a) a)
pick_swap true true f g a e = e
pick_swap true false f g a e = refl
pick_swap false true f g a e = refl
pick_swap false false f g a e = refl

-- a step that a second test rules out
pick_off : {A : Type 0} (t u : Bool) (x a : A) → u ≡ false → pick (t && u) x a ≡ a
pick_off true u x a e = rw e
pick_off false u x a e = refl

-- the steps of the rules
module _ (S : ℕ → Record) (o : ℕ) where
  abbrev pub since_by : (x p a : ℕ) → ℕ
  since_by x p a = pick (is_of o (S p) && leb x (age_of S p)) (suc a) a

  abbrev pub newer_by : (Record → Bool) → ℕ → Option ℕ → Option ℕ
  newer_by test p r = pick (is_of o (S p) && test (S p)) (later S p r) r

  abbrev pub end_newer : (P x p a : ℕ) → ℕ
  end_newer P x p a = pick (data_of o (S p) && ltb x (age_of S p)) (max (end_of P (S p)) a) a

  abbrev pub cut_newer : (h x p : ℕ) → Option ℕ → Option ℕ
  cut_newer h x p a = pick (header_of o (S p) && ltb x (age_of S p)) (lower (cut_of (eqb p h) (S p)) a) a

-- a list that has the records of object o among n pages, which say S, the newest first; its records say the same to `says`
pub record Listed (says S : ℕ → Record) (o n b : ℕ) (L : List ℕ) : Type 0 where
  pub same : (q : ℕ) → In q L → S q ≡ says q
  pub own : (q : ℕ) → In q L → is_of o (S q) ≡ true
  pub falls : Falls (age_of S) b L
  pub counts : (x : ℕ) → since S o x n ≡ through (since_by S o x) 0 L
  pub newer : (test : Record → Bool) → newest S (λ k. is_of o k && test k) n ≡ through (newer_by S o test) None L
  pub ends : (P x : ℕ) → data_end S P o x n ≡ through (end_newer S o P x) 0 L
  pub cuts : (h x : ℕ) → lowest_cut S o h x n ≡ through (cut_newer S o h x) None L

-- the sorted list of an object's records is one
module _ (says S : ℕ → Record) (age : ℕ → ℕ) (o n b : ℕ) (pos : 0 < o) (few : n ≤ 4294967296) where
  -- the newer of two pages of different ages, whichever comes first
  later_pair : (p q : ℕ) → age_of S q ≢ age_of S p → later S q (Some p) ≡ later S p (Some q)
  later_pair p q d =
      by_test (leb (age_of S p) (age_of S q)) _
      (λ t. let h : age_of S p ≤ age_of S q = leb-true _ _ t in rw (t, lt-leb (age_of S q) (age_of S p) (omega arith)))
      (λ t. let h : age_of S q < age_of S p = leb-false _ _ t in rw (t, le-leb (age_of S q) (age_of S p) (omega arith)))

  later_swap : (p q : ℕ) → age_of S q ≢ age_of S p → (r : Option ℕ) → later S q (later S p r) ≡ later S p (later S q r)
  later_swap p q d None = later_pair p q d
  later_swap p q d (Some r) = go (leb (age_of S r) (age_of S p)) refl (leb (age_of S r) (age_of S q)) refl
    where
      go :
          (t : Bool) →
          leb (age_of S r) (age_of S p) ≡ t →
          (u : Bool) →
          leb (age_of S r) (age_of S q) ≡ u →
          later S q (later S p (Some r)) ≡ later S p (later S q (Some r))
      go true e true f = rw (e, f) (later_pair p q d)
      go true e false f =
          let h : age_of S r ≤ age_of S p = leb-true _ _ e in
          let i : age_of S q < age_of S r = leb-false _ _ f in
          simp (e, f, lt-leb (age_of S p) (age_of S q) (omega arith))
      go false e true f =
          let h : age_of S p < age_of S r = leb-false _ _ e in
          let i : age_of S r ≤ age_of S q = leb-true _ _ f in
          simp (e, f, lt-leb (age_of S q) (age_of S p) (omega arith))
      go false e false f = simp (e, f)

  abbrev R : List ℕ
  R = recs (objects S) age o n

  -- a gathering by a step that some of the object's records take
  along :
      {A : Type 0} (test : ℕ → Bool) (step : ℕ → A → A) (a : A) (G : ℕ → A) →
      G 0 ≡ a →
      ((m : ℕ) → G (suc m) ≡ pick (test m) (step m (G m)) (G m)) →
      ((p : ℕ) → is_of o (S p) ≡ false → test p ≡ false) →
      ((p q : ℕ) → age_of S q ≢ age_of S p → (x : A) → step q (step p x) ≡ step p (step q x)) →
      G n ≡ through (λ p x. pick (test p) (step p x) x) a R
  along test step a G first next others swaps =
      rw (← first)
      (gather_recs (objects S) age o n (λ p x. pick (test p) (step p x) x)
      (λ p e x. rw (others p (other_object o (S p) e)))
      (λ p q hp hq d x. pick_swap (test q) (test p) (step q) (step p) x (swaps p q (λ e. d (omega arith)) x))
      G next n (le_refl n))

  pub listed : ((q : ℕ) → In q R → S q ≡ says q) → Falls (age_of S) b R → Listed says S o n b R
  listed same falls = record {
    same = same;
    own = λ q i. object_of_lem o (S q) (λ z. absurd (omega arith)) (recs_of (objects S) age o n q i).1;
    falls = falls;
    counts = λ x.
        along (λ p. is_of o (S p) && leb x (age_of S p)) (λ p. suc) 0 (since S o x) (since_none S o x) (since_suc S o x) (λ p e. rw e) (λ p q d a. refl);
    newer = λ test.
        along (λ p. is_of o (S p) && test (S p)) (later S) None (newest S (λ k. is_of o k && test k)) (where_none S _) (where_suc S _)
        (λ p e. rw e) later_swap;
    ends = λ P x.
        along (λ p. data_of o (S p) && ltb x (age_of S p)) (λ p. max (end_of P (S p))) 0 (data_end S P o x) (end_none S P o x) (end_suc S P o x)
        (λ p e. rw e) (λ p q d a. omega arith);
    cuts = λ h x.
        along (λ p. header_of o (S p) && ltb x (age_of S p)) (λ p. lower (cut_of (eqb p h) (S p))) None (lowest_cut S o h x) (cut_none S o h x) (cut_suc S o h x)
        (λ p e. rw e) (λ p q d a. lower_swap (cut_of (eqb q h) (S q)) (cut_of (eqb p h) (S p)) a);
  }

module _ (says S : ℕ → Record) (o n b : ℕ) where
  -- a test of a record of the list
  tested : (L : List ℕ) → Listed says S o n b L → (test : Record → Bool) (q : ℕ) → In q L → is_of o (S q) && test (S q) ≡ test (says q)
  tested L l test q i = rw (l.own q i, l.same q i)

  pub newest_none :
      (L : List ℕ) → Listed says S o n b L → (test : Record → Bool) → Fails (λ q. test (says q)) L → newest S (λ k. is_of o k && test k) n ≡ None
  newest_none L l test f =
      l.newer test ∙ through_idle (newer_by S o test) L None (λ q i. rw (tested L l test q i ∙ f q i))

  pub all_counted : (L : List ℕ) → Listed says S o n b L → since S o 0 n ≡ length L
  all_counted L l =
      l.counts 0
      ∙ through_count (since_by S o 0) L 0 (λ q i x. rw (l.own q i, le-leb 0 (age_of S q) zero-le))
      ∙ omega arith

  -- the list parted at a record q
  module _ (A : List ℕ) (q : ℕ) (B : List ℕ) (l : Listed says S o n b (A ++ (q ∷ B))) where
    pub above : (x : ℕ) → In x A → age_of S q < age_of S x
    above x i = falls_above (age_of S) A q B b l.falls x i

    pub below : (x : ℕ) → In x B → age_of S x < age_of S q
    below x i = falls_in (age_of S) x B (age_of S q) (falls_below (age_of S) A q B b l.falls) i

    pub newest_at :
        (test : Record → Bool) → Fails (λ x. test (says x)) A → test (says q) ≡ true → newest S (λ k. is_of o k && test k) n ≡ Some q
    newest_at test f e =
        l.newer test
        ∙ through_at (newer_by S o test) A None q B
        ∙ rw (
          through_idle (newer_by S o test) A None (λ x i. rw (tested (A ++ (q ∷ B)) l test x (in_above A q B x i) ∙ f x i)),
          tested (A ++ (q ∷ B)) l test q (in_at A q B) ∙ e,
        )
        (through_idle (newer_by S o test) B (Some q)
        (λ x i.
        by_test (is_of o (S x) && test (S x)) _ (λ t. rw (t, lt-leb (age_of S q) (age_of S x) (below x i))) (λ t. rw t)))

    -- the records from the newest down to q
    pub since_at : since S o (age_of S q) n ≡ length A + 1
    since_at =
        l.counts (age_of S q)
        ∙ through_at (since_by S o (age_of S q)) A 0 q B
        ∙ rw (
          through_count (since_by S o (age_of S q)) A 0
              (λ x i y. rw (l.own x (in_above A q B x i), le-leb (age_of S q) (age_of S x) (omega (arith, above x i)))),
          l.own q (in_at A q B),
          le-leb (age_of S q) (age_of S q) (le_refl _),
        )
        (through_idle (since_by S o (age_of S q)) B (suc (0 + length A))
        (λ x i. pick_off (is_of o (S x)) (leb (age_of S q) (age_of S x)) _ _ (lt-leb (age_of S q) (age_of S x) (below x i)))
        ∙ omega arith)

    -- what only records newer than q take part in
    newer-part :
        {X : Type 0} (test : ℕ → Bool) (step step' : ℕ → X → X) (a : X) →
        ((x : ℕ) → In x A → (y : X) → pick (test x) (step x y) y ≡ step' x y) →
        through (λ p x. pick (test p && ltb (age_of S q) (age_of S p)) (step p x) x) a (A ++ (q ∷ B)) ≡ through step' a A
    newer-part {X} test step step' a h =
        through_at _ A a q B
        ∙ ap (λ (x : X). through (λ p x. pick (test p && ltb (age_of S q) (age_of S p)) (step p x) x) x B)
        (pick_off (test q) (ltb (age_of S q) (age_of S q)) _ _ (le-ltb (age_of S q) (age_of S q) (le_refl _)))
        ∙ through_idle _ B _
        (λ x i. pick_off (test x) (ltb (age_of S q) (age_of S x)) _ _ (le-ltb (age_of S q) (age_of S x) (omega (arith, below x i))))
        ∙ through_same _ step' A a (λ x i y. rw (lt-ltb (age_of S q) (age_of S x) (above x i), and_true (test x)) (h x i y))

    pub end_at : (P : ℕ) → 0 < o → Fails (headed says) A → data_end S P o (age_of S q) n ≡ through (end_by says P) 0 A
    end_at P pos f =
        l.ends P (age_of S q)
        ∙ newer-part (λ p. data_of o (S p)) (λ p. max (end_of P (S p))) (end_by says P) 0
        (λ x i y.
        let j = in_above A q B x i in
        let d : is_data (says x) ≡ true = other_data o pos (says x) (of_object o (says x) (rw (l.same x j) at (l.own x j))) (f x i) in
        rw (l.own x j, l.same x j, d))

    pub cut_at : (h : ℕ) → lowest_cut S o h (age_of S q) n ≡ through (λ x. cut_by says (eqb x h) x) None A
    cut_at h =
        l.cuts h (age_of S q)
        ∙ newer-part (λ p. header_of o (S p)) (λ p. lower (cut_of (eqb p h) (S p))) (λ x. cut_by says (eqb x h) x) None
        (λ x i y. let j = in_above A q B x i in rw (l.own x j, l.same x j))
