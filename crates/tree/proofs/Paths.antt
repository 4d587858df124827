-- The first list has exactly the live objects other than the root whose way up comes to the root over directories that stand, in at most 32 steps.
-- An entry below a directory is one of its children, or below a child that stands as a directory: so its way up, which passes that child,
-- is one step longer; and the step at the top can be taken off again. The names of its path are those that its way passes, from the top.
--
-- No object is there twice. The root does not go on, so a way meets it at one step only, the object's depth; the children of a directory all have one
-- depth, so that an object's way passes one of them at most, and a child is not below itself.
use Prim.Native.Nat.{ℕ, zero, suc, ◌+◌, ◌≤◌, ◌<◌, zero-le}
use mathlib.Core.Bool.{true, false, not}
use mathlib.Core.List.{List, [], ◌∷◌, ◌++◌, map, append_assoc, append-nil, map-append}
use mathlib.Core.Logic.{◌⊎◌, inl, inr, ⊎_elim}
use mathlib.Core.Path.{◌≡◌, refl, sym, ap, ◌∙◌}
use native.Mathlib.Nat.{le_refl, not-suc-le-zero, eq-or-lt_of_le, le_of_suc-le-suc}
use native.Mathlib.Omega.{arith}
use borrow.Author.Tests.{not-true, ltb-true, ltb-false, eqb-true, eqb-false, eq-eqb, ne_eqb}
use lib.Dec.{eqb, ltb}
use Rattle.page.specs.declared.record.Record.{Record}
use Rattle.page.proofs.Layouts.{and_left, and_right}
use Rattle.page.proofs.Searching.{clash, by_test}
use Rattle.sort.specs.Arranged.{times_in}
use Rattle.sort.specs.Ascending.{In, Ascends}
use Rattle.sort.specs.Lists.{joined}
use Rattle.sort.proofs.Ascending.{ascends_in}
use Rattle.sort.proofs.Lists.{Given, keep_in, keep_of, keep_ascends, each_in, each_of}
use Rattle.chunk.specs.Live.{live_ids}
use Rattle.chunk.proofs.Living.{live_ids_ascend}
use Rattle.tree.specs.Objects.{root, parent_of, stand_of, is_standing}
use Rattle.tree.specs.Paths.{Entry, most_depth, children_of, step_to, entry_of, under, listed}
use Rattle.tree.specs.Ways.{goes_on, up}
use Rattle.tree.specs.Tree.{is_in}
use Rattle.tree.proofs.Standing.{standing_live, goes_on_lem, on_goes}
use Rattle.sort.proofs.Times.{times_joined, times_out}
use Rattle.tree.proofs.Ways.{up_first}

-- ---- an object in a list of entries

-- an object is in a list where an entry is its
pub has_in : (o : ℕ) (e : Entry) (L : List Entry) → In e L → e.object ≡ o → is_in o L ≡ true
unfolding is_in
has_in o e [] i q = absurd i
has_in o e (x ∷ L) (inl p) q = rw (← p, eq-eqb e.object o q)
has_in o e (x ∷ L) (inr i) q = by_test (eqb x.object o) _ (λ t. rw t) (λ t. rw t (has_in o e L i q))

-- and nowhere else
pub in_has : (o : ℕ) (L : List Entry) → is_in o L ≡ true → (e : Entry) × In e L × (e.object ≡ o)
unfolding is_in
in_has o [] i = clash (cc)
in_has o (x ∷ L) i =
    by_test (eqb x.object o) _
    (λ t. (x, inl refl, eqb-true _ _ t))
    (λ t. let r = in_has o L (rw t at i) in (r.0, inr r.1, r.2))

-- ---- the way up

module _ (says : ℕ → Record) (n : ℕ) where
  -- object o is live and below object d: at most k steps lead up to d, and the objects between go on
  pub record Below (k d o : ℕ) : Type 0 where
    pub live : In o (live_ids says n)
    pub not_root : o ≡ root → ⊥
    pub steps : ℕ
    pub some_step : 1 ≤ steps
    pub few : steps ≤ k
    pub arrives : up says n steps o ≡ d
    pub between : (i : ℕ) → 1 ≤ i → i < steps → goes_on says n (up says n i o) ≡ true

module _ (says : ℕ → Record) (names : ℕ → List ℕ) (n : ℕ) where
  -- the children of a directory are the live objects other than the root with that parent
  pub child_of : (d c : ℕ) → In c (children_of says names n d) → In c (live_ids says n) × (c ≡ root → ⊥) × (parent_of says n c ≡ d)
  unfolding children_of
  child_of d c i =
      let r = keep_of _ c (live_ids says n) i in
      let a = not (eqb c root) in
      (r.0, eqb-false c root (not-true _ (and_left a _ r.1)), eqb-true _ _ (and_right a _ r.1))

  -- and whatever is so is a child
  pub child_in : (d c : ℕ) → In c (live_ids says n) → (c ≡ root → ⊥) → parent_of says n c ≡ d → In c (children_of says names n d)
  unfolding children_of
  child_in d c i r p = keep_in _ c (live_ids says n) i (rw (ne_eqb c root r) (eq-eqb _ _ p))

  -- the entry of an object in a directory of a path
  abbrev pub entry_at : (path : List ℕ) (object : ℕ) → Entry
  entry_at path o = record { object = o; path = path ++ step_to says names n o }

  module _ (below : (path : List ℕ) (object : ℕ) → List Entry) (path : List ℕ) (c : ℕ) (e : Entry) where
    -- the entries of a child are its own, and those below it if it stands as a directory
    entry-of :
        In e (entry_of says names n below path c) →
        (e ≡ entry_at path c) ⊎ ((is_standing (stand_of says n c) ≡ true) × In e (below (path ++ step_to says names n c) c))
    unfolding entry_of
    entry-of (inl q) = inl q
    entry-of (inr h) = by_test (is_standing (stand_of says n c)) _ (λ t. inr (t, rw t at h)) (λ t. absurd (rw t at h))

    -- those below a child that stands as a directory are among them
    entry_in : is_standing (stand_of says n c) ≡ true → In e (below (path ++ step_to says names n c) c) → In e (entry_of says names n below path c)
    unfolding entry_of
    entry_in t h = inr (rw t h)

  -- and so is its own
  entry_own : (below : (path : List ℕ) (object : ℕ) → List Entry) (path : List ℕ) (c : ℕ) → In (entry_at path c) (entry_of says names n below path c)
  unfolding entry_of
  entry_own below path c = inl refl

  -- the steps down to an object from so many steps above it: the names on its way, from the top
  unfoldable pub way_down : (steps object : ℕ) → List ℕ
  way_down zero o = []
  way_down (suc j) o = way_down j (parent_of says n o) ++ step_to says names n o

  -- the first of them is that to the object below the top
  pub way_top : (j o : ℕ) → way_down (suc j) o ≡ step_to says names n (up says n j o) ++ way_down j o
  unfolding way_down up
  way_top zero o = sym (append-nil (step_to says names n o))
  way_top (suc j) o =
      ap (λ (l : List ℕ). l ++ step_to says names n o) (way_top j (parent_of says n o))
      ∙ append_assoc (step_to says names n (up says n j (parent_of says n o))) (way_down j (parent_of says n o)) (step_to says names n o)
      ∙ ap (λ (c : ℕ). step_to says names n c ++ (way_down j (parent_of says n o) ++ step_to says names n o)) (up_first says n j o)

  -- an entry of a directory of a path: where its object is, and that its path has the names on the way
  pub record Placed (k : ℕ) (path : List ℕ) (d : ℕ) (e : Entry) : Type 0 where
    pub below : Below says n k d e.object
    pub named : e.path ≡ path ++ way_down below.steps e.object

  module _ (k : ℕ) (path : List ℕ) (d c : ℕ) (child : In c (children_of says names n d)) where
    -- a child is one step below
    child-placed : Placed (suc k) path d (entry_at path c)
    unfolding up way_down
    child-placed =
        let r = child_of d c child in
        record {
          below =
              record {
                live = r.0;
                not_root = r.1;
                steps = 1;
                some_step = le_refl 1;
                few = omega arith;
                arrives = r.2;
                between = λ i l m. absurd (omega arith);
              };
          named = refl;
        }

    -- what is below a child that stands as a directory is one step more below
    deeper-placed :
        (e : Entry) → is_standing (stand_of says n c) ≡ true → Placed k (path ++ step_to says names n c) c e → Placed (suc k) path d e
    unfolding up
    deeper-placed e t w =
        let r = child_of d c child in
        let b = w.below in
        let j = b.steps in
        record {
          below =
              record {
                live = b.live;
                not_root = b.not_root;
                steps = suc j;
                some_step = omega arith;
                few = omega (arith, b.few);
                arrives = ap (parent_of says n) b.arrives ∙ r.2;
                between = λ i l m.
                    ⊎_elim
                    (λ (q : i ≡ j). rw (q, b.arrives) (on_goes says n c r.1 t))
                    (λ (q : i < j). b.between i l q)
                    (eq-or-lt_of_le (le_of_suc-le-suc m));
              };
          named =
              w.named
              ∙ append_assoc path (step_to says names n c) (way_down j e.object)
              ∙ ap (λ (l : List ℕ). path ++ l)
              (ap (λ (x : ℕ). step_to says names n x ++ way_down j e.object) (sym b.arrives) ∙ sym (way_top j e.object));
        }

  -- the entries of a directory are those of its children
  under_of :
      (k : ℕ) (path : List ℕ) (d : ℕ) (e : Entry) → In e (under says names n (suc k) path d) →
      Given (entry_of says names n (under says names n k) path) (children_of says names n d) e
  unfolding under
  under_of k path d e h = each_of _ e (children_of says names n d) h

  -- and whatever is an entry of a child is one of the directory
  under_child :
      (k : ℕ) (path : List ℕ) (d c : ℕ) (e : Entry) → In c (children_of says names n d) →
      In e (entry_of says names n (under says names n k) path c) → In e (under says names n (suc k) path d)
  unfolding under
  under_child k path d c e i h = each_in _ e c (children_of says names n d) i h

  -- the path of an entry has the names of the objects on its way, in order
  pub path_names : (k : ℕ) (path : List ℕ) (d : ℕ) (e : Entry) → In e (under says names n k path d) → Placed k path d e
  unfolding under
  path_names zero path d e h = absurd h
  path_names (suc k) path d e h =
      let r = under_of k path d e h in
      let c = r.by in
      ⊎_elim
      (λ (q : e ≡ entry_at path c). rw q (child-placed k path d c r.there))
      (λ (w : (is_standing (stand_of says n c) ≡ true) × In e (under says names n k (path ++ step_to says names n c) c)).
      deeper-placed k path d c r.there e w.0 (path_names k (path ++ step_to says names n c) c e w.1))
      (entry-of (under says names n k) path c e r.gives)

  -- what is in the entries of a directory is below it
  pub in_under : (k : ℕ) (path : List ℕ) (d o : ℕ) → is_in o (under says names n k path d) ≡ true → Below says n k d o
  in_under k path d o i =
      let r = in_has o (under says names n k path d) i in
      rw r.2 at (path_names k path d r.0 r.1).below

  -- an object with its way up to a directory has an entry there
  below_has :
      (k : ℕ) (path : List ℕ) (d o j : ℕ) → In o (live_ids says n) → (o ≡ root → ⊥) → j < k → up says n (suc j) o ≡ d →
      ((i : ℕ) → 1 ≤ i → i ≤ j → goes_on says n (up says n i o) ≡ true) →
      (e : Entry) × In e (under says names n k path d) × (e.object ≡ o)
  unfolding up
  below_has zero path d o j l r m a g = absurd (not-suc-le-zero m)
  below_has (suc k) path d o zero l r m a g =
      (entry_at path o, under_child k path d o (entry_at path o) (child_in d o l r a) (entry_own (under says names n k) path o), refl)
  below_has (suc k) path d o (suc j) l r m a g =
      let c = up says n (suc j) o in
      let s = goes_on_lem says n c (g (suc j) (omega arith) (le_refl _)) in
      let w = below_has k (path ++ step_to says names n c) c o j l r (le_of_suc-le-suc m) refl (λ i p q. g i p (omega arith)) in
      let i : In c (children_of says names n d) = child_in d c (standing_live says n c s.1) s.0 a in
      (w.0, under_child k path d c w.0 i (entry_in (under says names n k) path c w.0 s.1 w.1), w.2)

  -- what is below a directory is in its entries
  pub under_in : (k : ℕ) (path : List ℕ) (d o : ℕ) → Below says n k d o → is_in o (under says names n k path d) ≡ true
  under_in k path d o b = go b.steps b.some_step b.few b.arrives b.between
    where
      go :
          (j : ℕ) → 1 ≤ j → j ≤ k → up says n j o ≡ d → ((i : ℕ) → 1 ≤ i → i < j → goes_on says n (up says n i o) ≡ true) →
          is_in o (under says names n k path d) ≡ true
      go zero s f a g = absurd (not-suc-le-zero s)
      go (suc j) s f a g =
          let w = below_has k path d o j b.live b.not_root f a (λ i p q. g i p (omega arith)) in
          has_in o w.0 (under says names n k path d) w.1 w.2

  -- what is in the first list is at most 32 steps below the root
  pub listed_below : (o : ℕ) → is_in o (listed says names n) ≡ true → Below says n most_depth root o
  unfolding listed
  listed_below o i = in_under most_depth [] root o i

  -- and what is so is in the first list
  pub below_listed : (o : ℕ) → Below says n most_depth root o → is_in o (listed says names n) ≡ true
  unfolding listed
  below_listed o b = under_in most_depth [] root o b

-- ---- how often an object is in the first list

-- the objects of a list of entries, and how often one is among them
abbrev pub objects_of : List Entry → List ℕ
objects_of L = map (λ e. e.object) L

abbrev pub times_listed : (object : ℕ) (entries : List Entry) → ℕ
times_listed o L = times_in o (objects_of L)

module _ (o : ℕ) where
  -- an object is among them where it is in the entries
  pub listed_object : (L : List Entry) → is_in o L ≡ true → In o (objects_of L)
  unfolding is_in
  listed_object [] t = clash (cc)
  listed_object (e ∷ L) t = by_test (eqb e.object o) _ (λ u. inl (sym (eqb-true _ _ u))) (λ u. inr (listed_object L (rw u at t)))

  -- and nowhere else
  pub object_listed : (L : List Entry) → In o (objects_of L) → is_in o L ≡ true
  unfolding is_in
  object_listed [] i = absurd i
  object_listed (e ∷ L) (inl q) = rw (eq-eqb e.object o (sym q))
  object_listed (e ∷ L) (inr i) = by_test (eqb e.object o) _ (λ u. rw u) (λ u. rw u (object_listed L i))

  -- in a list joined of two as often as in both
  times_join : (L M : List Entry) → times_listed o (L ++ M) ≡ times_listed o L + times_listed o M
  times_join L M = ap (times_in o) (map-append (λ e. e.object) L M) ∙ times_joined o (objects_of L) (objects_of M)

  -- not once where it is not in the list
  times_none : (L : List Entry) → is_in o L ≡ false → times_listed o L ≡ 0
  times_none L e = times_out o (objects_of L) (λ i. let t = object_listed L i in clash (cc))

  module _ (f : ℕ → List Entry) where
    -- not once in what each of a list gives, where none gives it
    each_none : (L : List ℕ) → ((c : ℕ) → In c L → is_in o (f c) ≡ false) → times_listed o (joined f L) ≡ 0
    unfolding joined times_in
    each_none [] h = refl
    each_none (x ∷ L) h =
        let a = times_none (f x) (h x (inl refl)) in
        let b = each_none L (λ c i. h c (inr i)) in
        rw (times_join (f x) (joined f L)) (omega arith)

    -- at most once, where no more than one of them gives it, and each at most once
    each-once :
        (b : ℕ) (L : List ℕ) → Ascends b L → ((c : ℕ) → In c L → times_listed o (f c) ≤ 1) →
        ((c d : ℕ) → In c L → In d L → is_in o (f c) ≡ true → is_in o (f d) ≡ true → c ≡ d) → times_listed o (joined f L) ≤ 1
    unfolding joined times_in
    each-once b [] a one same = zero-le
    each-once b (x ∷ L) a one same =
        rw (times_join (f x) (joined f L))
        (by_test (is_in o (f x)) _
        (λ t.
        let first = one x (inl refl) in
        let rest =
        each_none L
        (λ c i.
        by_test (is_in o (f c)) _
        (λ u. let q = same c x (inr i) (inl refl) u t in absurd (omega (arith, ascends_in (suc x) c L a.1 i)))
        (λ u. u)) in
        omega arith)
        (λ t.
        let first = times_none (f x) t in
        let rest = each-once (suc x) L a.1 (λ c i. one c (inr i)) (λ c d i k. same c d (inr i) (inr k)) in
        omega arith))

module _ (says : ℕ → Record) (n : ℕ) where
  -- the way up from object o is at the root after m steps, and goes on at each step before
  record Depth (m o : ℕ) : Type 0 where
    at-root : up says n m o ≡ root
    before : (i : ℕ) → 1 ≤ i → i < m → goes_on says n (up says n i o) ≡ true

  -- c is reached from object o, by steps to objects that go on; none where they are the same
  record Climbs (c o : ℕ) : Type 0 where
    steps : ℕ
    arrives : up says n steps o ≡ c
    on : (i : ℕ) → 1 ≤ i → i ≤ steps → goes_on says n (up says n i o) ≡ true

  -- the root does not go on, so that it is not met again at a later step
  root_later : (m k o : ℕ) → 1 ≤ m → m < k → Depth m o → Depth k o → ⊥
  root_later m k o s l a b =
      let z : false ≡ true = rw a.at-root at (b.before m s l) in clash (cc)

  -- an object has one depth
  depth_one : (m k o : ℕ) → Depth (suc m) o → Depth (suc k) o → m ≡ k
  depth_one m k o a b =
      by_test (ltb m k) _
      (λ t. absurd (root_later (suc m) (suc k) o (omega arith) (omega (arith, ltb-true m k t)) a b))
      (λ t.
      by_test (ltb k m) _
      (λ u. absurd (root_later (suc k) (suc m) o (omega arith) (omega (arith, ltb-true k m u)) b a))
      (λ u. omega (arith, ltb-false m k t, ltb-false k m u)))

  -- a child of the root is one step below it
  root_child : (c : ℕ) → parent_of says n c ≡ root → Depth 1 c
  unfolding up
  root_child c p = record { at-root = p; before = λ i s l. absurd (omega arith) }

  -- a child of an object that goes on is one step deeper than that
  depth_child : (m c : ℕ) → Depth m (parent_of says n c) → goes_on says n (parent_of says n c) ≡ true → Depth (suc m) c
  unfolding up
  depth_child m c a g =
      record {
        at-root = sym (up_first says n m c) ∙ a.at-root;
        before = λ i s l. go i s l;
      }
    where
      go : (i : ℕ) → 1 ≤ i → i < suc m → goes_on says n (up says n i c) ≡ true
      go zero s l = absurd (not-suc-le-zero s)
      go (suc zero) s l = g
      go (suc (suc i)) s l = rw (← up_first says n (suc i) c) (a.before (suc i) (omega arith) (le_of_suc-le-suc l))

  -- an object is so many steps deeper than one above it, where its way goes on up to that
  depth_climbs :
      (j m o : ℕ) → Depth m (up says n j o) → ((i : ℕ) → 1 ≤ i → i ≤ j → goes_on says n (up says n i o) ≡ true) → Depth (j + m) o
  unfolding up
  depth_climbs zero m o a g = let e : 0 + m ≡ m = omega arith in rw e a
  depth_climbs (suc j) m o a g =
      let e : suc j + m ≡ j + suc m = omega arith in
      rw e
      (depth_climbs j (suc m) o (depth_child m (up says n j o) a (g (suc j) (omega arith) (le_refl _))) (λ i s l. g i s (omega arith)))

  -- what is below an object that goes on climbs to it
  below_climbs : (k c o : ℕ) → Below says n k c o → goes_on says n c ≡ true → Climbs c o
  below_climbs k c o b g =
      record {
        steps = b.steps;
        arrives = b.arrives;
        on = λ i s l.
            ⊎_elim (λ (q : i ≡ b.steps). rw (q, b.arrives) g) (λ (q : i < b.steps). b.between i s q) (eq-or-lt_of_le l);
      }

  -- an object is as much deeper than one that it climbs to as it takes steps
  climbs_depth : (m c o : ℕ) → Depth (suc m) c → (w : Climbs c o) → Depth (suc (w.steps + m)) o
  climbs_depth m c o a w =
      let e : suc (w.steps + m) ≡ w.steps + suc m = omega arith in
      rw e (depth_climbs w.steps (suc m) o (rw w.arrives a) w.on)

  -- of two objects of the same depth an object climbs to one only
  climbs_one : (m c d o : ℕ) → Depth (suc m) c → Depth (suc m) d → Climbs c o → Climbs d o → c ≡ d
  climbs_one m c d o a b v w =
      let e = depth_one (v.steps + m) (w.steps + m) o (climbs_depth m c o a v) (climbs_depth m d o b w) in
      let f : v.steps ≡ w.steps = omega arith in
      sym v.arrives ∙ ap (λ (j : ℕ). up says n j o) f ∙ w.arrives

  -- and one of some depth is not below itself
  not_below_itself : (m k c : ℕ) → Depth (suc m) c → goes_on says n c ≡ true → Below says n k c c → ⊥
  unfolding below_climbs
  not_below_itself m k c a g b =
      let s : 1 ≤ b.steps = b.some_step in
      let e : m ≡ b.steps + m = depth_one m (b.steps + m) c a (climbs_depth m c c a (below_climbs k c c b g)) in
      omega arith

module _ (says : ℕ → Record) (names : ℕ → List ℕ) (n : ℕ) where
  -- an object in the entries of a child climbs to it
  entry_climbs :
      (k : ℕ) (path : List ℕ) (c o : ℕ) → (c ≡ root → ⊥) → is_in o (entry_of says names n (under says names n k) path c) ≡ true → Climbs says n c o
  unfolding up
  entry_climbs k path c o r i =
      let w = in_has o _ i in
      ⊎_elim
      (λ (q : w.0 ≡ entry_at says names n path c).
      record { steps = 0; arrives = sym w.2 ∙ ap (λ (e : Entry). e.object) q; on = λ j s l. absurd (omega arith) })
      (λ (v : (is_standing (stand_of says n c) ≡ true) × In w.0 (under says names n k (path ++ step_to says names n c) c)).
      below_climbs says n k c o
      (in_under says names n k (path ++ step_to says names n c) c o (has_in o w.0 _ v.1 w.2))
      (on_goes says n c r v.0))
      (entry-of says names n (under says names n k) path c w.0 w.1)

  -- an object is at most once in the entries of a child, if it is so in those below it
  entry_once :
      (m k : ℕ) (path : List ℕ) (c o : ℕ) → (c ≡ root → ⊥) → Depth says n (suc m) c →
      (goes_on says n c ≡ true → times_listed o (under says names n k (path ++ step_to says names n c) c) ≤ 1) →
      times_listed o (entry_of says names n (under says names n k) path c) ≤ 1
  unfolding entry_of times_in
  entry_once m k path c o r a once =
      let here = path ++ step_to says names n c in
      by_test (is_standing (stand_of says n c)) _
      (λ t.
      let g = on_goes says n c r t in
      rw t
      (by_test (eqb c o) _
      (λ u.
      let none : is_in o (under says names n k here c) ≡ false =
      by_test (is_in o (under says names n k here c)) _
      (λ v. absurd (not_below_itself says n m k c a g (rw (← eqb-true c o u) at (in_under says names n k here c o v))))
      (λ v. v) in
      rw (u, times_none o (under says names n k here c) none) (le_refl 1))
      (λ u. rw u (once g))))
      (λ t. rw t (by_test (eqb c o) _ (λ u. rw u (le_refl 1)) (λ u. rw u zero-le)))

  -- an object is at most once in the entries of a directory whose children have one depth
  under_once :
      (k : ℕ) (path : List ℕ) (d m o : ℕ) → ((c : ℕ) → parent_of says n c ≡ d → Depth says n (suc m) c) →
      times_listed o (under says names n k path d) ≤ 1
  unfolding under children_of times_in
  under_once zero path d m o deep = zero-le
  under_once (suc k) path d m o deep =
      each-once o (entry_of says names n (under says names n k) path) 0 (children_of says names n d)
      (keep_ascends _ 0 (live_ids says n) (live_ids_ascend says n))
      (λ c i.
      let r = child_of says names n d c i in
      entry_once m k path c o r.1 (deep c r.2)
      (λ g.
      under_once k (path ++ step_to says names n c) c (suc m) o
      (λ x p. depth_child says n (suc m) x (rw p (deep c r.2)) (rw p g))))
      (λ c x i h t u.
      let r = child_of says names n d c i in
      let s = child_of says names n d x h in
      climbs_one says n m c x o (deep c r.2) (deep x s.2) (entry_climbs k path c o r.1 t) (entry_climbs k path x o s.1 u))

  -- no object is twice in the first list
  pub listed_once : (o : ℕ) → times_listed o (listed says names n) ≤ 1
  unfolding listed
  listed_once o = under_once most_depth [] root 0 o (root_child says n)
