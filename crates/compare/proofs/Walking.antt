-- The report by the words of two prepared dumps goes over the ids of both. The words of an object stand side by side and have its id as their keys, and
-- keys ascend: so the lesser of both first keys is the next id, and as many words at the front have it as the object has there. What is left then
-- are the words of the other ids.
use Prim.Native.Nat.{ℕ, zero, suc, ◌+◌, ◌≤◌, ◌<◌, zero-le}
use mathlib.Core.List.{List, [], ◌∷◌, ◌++◌}
use mathlib.Core.Logic.{◌⊎◌, inl, inr, ⊎_elim}
use mathlib.Core.Path.{◌≡◌, refl, sym, ap, ◌∙◌}
use native.Mathlib.Nat.{le_refl}
use native.Mathlib.Omega.{arith}
use lib.ListN.{length, length-append}
use lib.Seq.{take_at, drop_at}
use Rattle.page.specs.declared.geometry.Geometry.{Geometry}
use Rattle.sort.specs.Arranged.{Every}
use Rattle.sort.specs.Ascending.{In, Ascends}
use Rattle.sort.specs.Packed.{key_of}
use Rattle.sort.proofs.Ascending.{ascends_in, ascends_lower}
use Rattle.sort.specs.Lists.{joined}
use Rattle.text.proofs.Order.{le_or_lt}
use Rattle.compare.specs.Report.{in_either}
use Rattle.compare.specs.Lists.{run_of, next_of, sides_report, reports_to}
use Rattle.compare.proofs.Ids.{either_left, either_less, either_both, either_more}
use Rattle.compare.proofs.Listing.{reports_turn}
use Rattle.compare.proofs.Running.{run_other, run_none, run_keyed}

-- ---- words of one object, and words behind it

-- all words have the key o
abbrev Keyed : (object : ℕ) (words : List ℕ) → Type 0
Keyed o M = Every (λ w. key_of w ≡ o) M

-- the first word, if there is one, is of a later object
abbrev Later : (object : ℕ) (words : List ℕ) → Type 0
Later o [] = Unit {0}
Later o (w ∷ L) = o < key_of w

-- later words are not of object o
run_later : (o : ℕ) (L : List ℕ) → Later o L → run_of o L ≡ 0
run_later o [] h = run_none o
run_later o (w ∷ L) h = run_other o w L (λ e. omega arith)

-- words of the object, and then later ones: as many as those of the object
run_own : (o : ℕ) (M L : List ℕ) → Keyed o M → Later o L → run_of o (M ++ L) ≡ length M
run_own o M L k h = run_keyed o M L k ∙ omega (arith, run_later o L h)

-- the next object: that of the first list
next_first : (o : ℕ) (M L L' : List ℕ) → Keyed o M → (length M ≡ 0 → ⊥) → Later o L' → next_of (M ++ L) L' ≡ o
next_first o [] L L' k s h = absurd (s refl)
next_first o (w ∷ M) L [] k s h = k.0
next_first o (w ∷ M) L (v ∷ L') k s h = omega (arith, k.0)

-- of the second
next_second : (o : ℕ) (L M' L' : List ℕ) → Keyed o M' → (length M' ≡ 0 → ⊥) → Later o L → next_of L (M' ++ L') ≡ o
next_second o L [] L' k s h = absurd (s refl)
next_second o [] (w ∷ M') L' k s h = k.0
next_second o (v ∷ L) (w ∷ M') L' k s h = omega (arith, k.0)

-- of both
next_both :
    (o : ℕ) (M L M' L' : List ℕ) → Keyed o M → (length M ≡ 0 → ⊥) → Keyed o M' → (length M' ≡ 0 → ⊥) → next_of (M ++ L) (M' ++ L') ≡ o
next_both o [] L M' L' k s j t = absurd (s refl)
next_both o (w ∷ M) L [] L' k s j t = absurd (t refl)
next_both o (w ∷ M) L (v ∷ M') L' k s j t = omega (arith, k.0, j.0)

-- ---- one turn

module _ (g : Geometry) (dump : List ℕ) (g' : Geometry) (dump' : List ℕ) where
  -- by its words, and what is behind them
  turn :
      (k o : ℕ) (M N L C M' N' L' C' : List ℕ) →
      0 < length (M ++ L) + length (M' ++ L') →
      next_of (M ++ L) (M' ++ L') ≡ o → run_of o (M ++ L) ≡ length M → run_of o (M' ++ L') ≡ length M' →
      length N ≡ length M → length N' ≡ length M' →
      reports_to g dump g' dump' (suc k) (M ++ L) (N ++ C) (M' ++ L') (N' ++ C')
      ≡ sides_report g dump g' dump' o M N M' N' ++ reports_to g dump g' dump' k L C L' C'
  turn k o M N L C M' N' L' C' t e f h n n' =
      reports_turn g dump g' dump' k (M ++ L) (N ++ C) (M' ++ L') (N' ++ C') t
      ∙ rw (
        e,
        f,
        h,
        take_at M L (length M) refl,
        take_at N C (length M) n,
        take_at M' L' (length M') refl,
        take_at N' C' (length M') n',
        drop_at M L (length M) refl,
        drop_at N C (length M) n,
        drop_at M' L' (length M') refl,
        drop_at N' C' (length M') n',
      )

-- ---- all words of a list of ids

-- the words of each object, which are two lists, of a dump that has these objects: their keys are the object, both are equally long, and exactly
-- the objects that the dump has have words
pub record Words (ids : List ℕ) (f c : ℕ → List ℕ) (o : ℕ) : Type 0 where
  pub keys : Every (λ w. key_of w ≡ o) (f o)
  pub long : length (c o) ≡ length (f o)
  pub some : In o ids → length (f o) ≡ 0 → ⊥
  pub none : (In o ids → ⊥) → f o ≡ []

-- words of later objects
joined_later : (f : ℕ → List ℕ) (o : ℕ) (A : List ℕ) → ((x : ℕ) → In x A → Keyed x (f x)) → Ascends (suc o) A → Later o (joined f A)
unfolding joined
joined_later f o [] k a = tt
joined_later f o (x ∷ A) k a =
    go (f x) (k x (inl refl)) (joined_later f o A (λ y i. k y (inr i)) (ascends_lower (suc o) (suc x) A (omega (arith, a.0)) a.1))
  where
    go : (M : List ℕ) → Keyed x M → Later o (joined f A) → Later o (M ++ joined f A)
    go [] k h = h
    go (w ∷ M) k h = omega (arith, k.0, a.0)

-- no words
none_long : (c : List ℕ) (M : List ℕ) → length c ≡ length M → M ≡ [] → c ≡ []
none_long [] M e z = refl
none_long (x ∷ c) M e z = absurd (let k : length M ≡ 0 = ap length z in omega arith)

-- some words
some_words : (M L : List ℕ) → (length M ≡ 0 → ⊥) → 0 < length (M ++ L)
some_words M L s = omega (arith, length-append M L)

module _
    (g : Geometry) (dump : List ℕ) (g' : Geometry) (dump' : List ℕ) (ids ids' : List ℕ) (f c f' c' : ℕ → List ℕ)
    (words : (o : ℕ) → In o ids ⊎ In o ids' → Words ids f c o)
    (words' : (o : ℕ) → In o ids ⊎ In o ids' → Words ids' f' c' o)
  where
    -- the report of an object by its words
    abbrev report : (object : ℕ) → List ℕ
    report o = sides_report g dump g' dump' o (f o) (c o) (f' o) (c' o)

    abbrev reports : (k : ℕ) (A B : List ℕ) → List ℕ
    reports k A B = reports_to g dump g' dump' k (joined f A) (joined c A) (joined f' B) (joined c' B)

    -- what is left of both lists of ids: it ascends, and an id of both dumps is left on both sides or on none
    record Left (A B : List ℕ) : Type 0 where
      one : Ascends 0 A
      other : Ascends 0 B
      in_one : (x : ℕ) → In x A → In x ids
      in-other : (x : ℕ) → In x B → In x ids'
      one-other : (x : ℕ) → In x A → In x ids' → In x B
      other-one : (x : ℕ) → In x B → In x ids → In x A

    lower : (x : ℕ) (A : List ℕ) → Ascends (suc x) A → Ascends 0 A
    lower x A a = ascends_lower 0 (suc x) A zero-le a

    -- what is left when the first id of the first list is done, which the second has not
    left-first : (x : ℕ) (A B : List ℕ) → Left (x ∷ A) B → Ascends (suc x) B → Left A B
    left-first x A B l b = record {
      one = lower x A l.one.1;
      other = l.other;
      in_one = λ z i. l.in_one z (inr i);
      in-other = l.in-other;
      one-other = λ z i. l.one-other z (inr i);
      other-one = λ z i j. ⊎_elim (λ (e : z ≡ x). absurd (omega (arith, ascends_in (suc x) z B b i))) (λ k. k) (l.other-one z i j);
    }

    left-second : (A : List ℕ) (y : ℕ) (B : List ℕ) → Left A (y ∷ B) → Ascends (suc y) A → Left A B
    left-second A y B l a = record {
      one = l.one;
      other = lower y B l.other.1;
      in_one = l.in_one;
      in-other = λ z i. l.in-other z (inr i);
      one-other = λ z i j. ⊎_elim (λ (e : z ≡ y). absurd (omega (arith, ascends_in (suc y) z A a i))) (λ k. k) (l.one-other z i j);
      other-one = λ z i. l.other-one z (inr i);
    }

    left_both : (x : ℕ) (A B : List ℕ) → Left (x ∷ A) (x ∷ B) → Left A B
    left_both x A B l = record {
      one = lower x A l.one.1;
      other = lower x B l.other.1;
      in_one = λ z i. l.in_one z (inr i);
      in-other = λ z i. l.in-other z (inr i);
      one-other = λ z i j.
          ⊎_elim (λ (e : z ≡ x). absurd (omega (arith, ascends_in (suc x) z A l.one.1 i))) (λ k. k) (l.one-other z (inr i) j);
      other-one = λ z i j.
          ⊎_elim (λ (e : z ≡ x). absurd (omega (arith, ascends_in (suc x) z B l.other.1 i))) (λ k. k) (l.other-one z (inr i) j);
    }

    -- the words of later ids
    behind : (o : ℕ) (A : List ℕ) → ((x : ℕ) → In x A → In x ids) → Ascends (suc o) A → Later o (joined f A)
    behind o A i a = joined_later f o A (λ x j. (words x (inl (i x j))).keys) a

    behind' : (o : ℕ) (B : List ℕ) → ((x : ℕ) → In x B → In x ids') → Ascends (suc o) B → Later o (joined f' B)
    behind' o B i b = joined_later f' o B (λ x j. (words' x (inr (i x j))).keys) b

    -- a turn for the first id of the first list, of the second, and of both
    first-turn : (k x : ℕ) (A B : List ℕ) → Left (x ∷ A) B → Ascends (suc x) B → reports (suc k) (x ∷ A) B ≡ report x ++ reports k A B
    unfolding joined
    first-turn k x A B l b =
        let i = l.in_one x (inl refl) in
        let w = words x (inl i) in
        let w' = words' x (inl i) in
        let later = behind x A (λ z j. l.in_one z (inr j)) l.one.1 in
        let later' = behind' x B l.in-other b in
        let no : f' x ≡ [] = w'.none (λ j. let m = ascends_in (suc x) x B b (l.one-other x (inl refl) j) in omega arith) in
        let no' : c' x ≡ [] = none_long (c' x) (f' x) w'.long no in
        turn g dump g' dump' k x (f x) (c x) (joined f A) (joined c A) [] [] (joined f' B) (joined c' B)
        (omega (arith, some_words (f x) (joined f A) (w.some i)))
        (next_first x (f x) (joined f A) (joined f' B) w.keys (w.some i) later')
        (run_own x (f x) (joined f A) w.keys later)
        (run_later x (joined f' B) later') w.long refl
        ∙ rw (no, no')

    second-turn : (k y : ℕ) (A B : List ℕ) → Left A (y ∷ B) → Ascends (suc y) A → reports (suc k) A (y ∷ B) ≡ report y ++ reports k A B
    unfolding joined
    second-turn k y A B l a =
        let i = l.in-other y (inl refl) in
        let w = words y (inr i) in
        let w' = words' y (inr i) in
        let later = behind y A l.in_one a in
        let later' = behind' y B (λ z j. l.in-other z (inr j)) l.other.1 in
        let no : f y ≡ [] = w.none (λ j. let m = ascends_in (suc y) y A a (l.other-one y (inl refl) j) in omega arith) in
        let no' : c y ≡ [] = none_long (c y) (f y) w.long no in
        turn g dump g' dump' k y [] [] (joined f A) (joined c A) (f' y) (c' y) (joined f' B) (joined c' B)
        (omega (arith, some_words (f' y) (joined f' B) (w'.some i)))
        (next_second y (joined f A) (f' y) (joined f' B) w'.keys (w'.some i) later)
        (run_later y (joined f A) later)
        (run_own y (f' y) (joined f' B) w'.keys later') refl w'.long
        ∙ rw (no, no')

    both-turn : (k x : ℕ) (A B : List ℕ) → Left (x ∷ A) (x ∷ B) → reports (suc k) (x ∷ A) (x ∷ B) ≡ report x ++ reports k A B
    unfolding joined
    both-turn k x A B l =
        let i = l.in_one x (inl refl) in
        let i' = l.in-other x (inl refl) in
        let w = words x (inl i) in
        let w' = words' x (inr i') in
        turn g dump g' dump' k x (f x) (c x) (joined f A) (joined c A) (f' x) (c' x) (joined f' B) (joined c' B)
        (omega (arith, some_words (f x) (joined f A) (w.some i)))
        (next_both x (f x) (joined f A) (f' x) (joined f' B) w.keys (w.some i) w'.keys (w'.some i'))
        (run_own x (f x) (joined f A) w.keys (behind x A (λ z j. l.in_one z (inr j)) l.one.1))
        (run_own x (f' x) (joined f' B) w'.keys (behind' x B (λ z j. l.in-other z (inr j)) l.other.1)) w.long w'.long

    -- how many words are left
    abbrev words_left : (A B : List ℕ) → ℕ
    words_left A B = length (joined f A) + length (joined f' B)

    first_more : (x : ℕ) (A : List ℕ) → In x ids → suc (length (joined f A)) ≤ length (joined f (x ∷ A))
    unfolding joined
    first_more x A i = let s = (words x (inl i)).some i in omega (arith, length-append (f x) (joined f A))

    second_more : (y : ℕ) (B : List ℕ) → In y ids' → suc (length (joined f' B)) ≤ length (joined f' (y ∷ B))
    unfolding joined
    second_more y B i = let s = (words' y (inr i)).some i in omega (arith, length-append (f' y) (joined f' B))

    -- the ids that are left when the first of one list, or of both, is done
    first_then : (k x : ℕ) (A B : List ℕ) → Left (x ∷ A) B → Ascends (suc x) B → reports k A B ≡ joined report (in_either A B) → reports (suc k) (x ∷ A) B ≡ joined report (in_either (x ∷ A) B)
    unfolding joined
    first_then k x A B l b rest =
        first-turn k x A B l b ∙ ap (λ (r : List ℕ). report x ++ r) rest ∙ sym (ap (joined report) (either_less x A l.one B b))

    second-then : (k y : ℕ) (A B : List ℕ) → Left A (y ∷ B) → Ascends (suc y) A → reports k A B ≡ joined report (in_either A B) → reports (suc k) A (y ∷ B) ≡ joined report (in_either A (y ∷ B))
    unfolding joined
    second-then k y A B l a rest =
        second-turn k y A B l a ∙ ap (λ (r : List ℕ). report y ++ r) rest ∙ sym (ap (joined report) (either_more A y B a l.other))

    both-then : (k x : ℕ) (A B : List ℕ) → Left (x ∷ A) (x ∷ B) → reports k A B ≡ joined report (in_either A B) → reports (suc k) (x ∷ A) (x ∷ B) ≡ joined report (in_either (x ∷ A) (x ∷ B))
    unfolding joined
    both-then k x A B l rest =
        both-turn k x A B l ∙ ap (λ (r : List ℕ). report x ++ r) rest ∙ sym (ap (joined report) (either_both x A l.one B l.other))

    -- nothing is left
    no_more : (k : ℕ) → reports k [] [] ≡ joined report (in_either [] [])
    unfolding reports_to joined
    no_more zero = sym (ap (joined report) (either_left [] tt))
    no_more (suc k) = sym (ap (joined report) (either_left [] tt))

    -- turn after turn
    over : (k : ℕ) (A B : List ℕ) → Left A B → words_left A B ≤ k → reports k A B ≡ joined report (in_either A B)
    over k [] [] l h = no_more k
    over zero (x ∷ A) B l h = absurd (omega (arith, first_more x A (l.in_one x (inl refl))))
    over zero [] (y ∷ B) l h = absurd (omega (arith, second_more y B (l.in-other y (inl refl))))
    over (suc k) (x ∷ A) [] l h =
        first_then k x A [] l tt (over k A [] (left-first x A [] l tt) (omega (arith, first_more x A (l.in_one x (inl refl)))))
    over (suc k) [] (y ∷ B) l h =
        second-then k y [] B l tt (over k [] B (left-second [] y B l tt) (omega (arith, second_more y B (l.in-other y (inl refl)))))
    over (suc k) (x ∷ A) (y ∷ B) l h =
        let more = first_more x A (l.in_one x (inl refl)) in
        let more' = second_more y B (l.in-other y (inl refl)) in
        ⊎_elim
        (λ (less : suc x ≤ y).
        let b : Ascends (suc x) (y ∷ B) = (less, l.other.1) in
        first_then k x A (y ∷ B) l b (over k A (y ∷ B) (left-first x A (y ∷ B) l b) (omega arith)))
        (λ (not-less : y < suc x).
        ⊎_elim
        (λ (less : suc y ≤ x).
        let a : Ascends (suc y) (x ∷ A) = (less, l.one.1) in
        second-then k y (x ∷ A) B l a (over k (x ∷ A) B (left-second (x ∷ A) y B l a) (omega arith)))
        (λ (not_more : x < suc y).
        let e : y ≡ x = omega arith in
        let l₀ : Left (x ∷ A) (x ∷ B) = rw e at l in
        rw e (both-then k x A B l₀ (over k A B (left_both x A B l₀) (omega arith))))
        (le_or_lt (suc y) x))
        (le_or_lt (suc x) y)

    -- so the reports of all ids are those of the ids of both dumps, ascending
    pub walked : Ascends 0 ids → Ascends 0 ids' → reports (words_left ids ids') ids ids' ≡ joined report (in_either ids ids')
    walked a b =
        over (words_left ids ids') ids ids'
        (record { one = a; other = b; in_one = λ x i. i; in-other = λ x i. i; one-other = λ x i j. j; other-one = λ x i j. j })
        (le_refl (words_left ids ids'))
