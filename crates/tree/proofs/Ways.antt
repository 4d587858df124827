-- The way up from an object. Each object at which a way goes on has a newest header page below n, and different objects have different ones. So n
-- steps that all go on come to one met before, by the pigeonhole: every way stops within n steps.
--
-- A way that comes to one met before goes round for ever, since two steps that lead to the same object lead on alike. So where a step does not go on,
-- none before it has come to one met before, and it comes to one itself only if that is the start.
--
-- The reason is what the first step that stops comes to. There is one such step only, so that each reason is true and no other would be.
use Rattle.std.specs.Prelude.{Some, None}
use Prim.Native.Nat.{ℕ, zero, suc, ◌+◌, ◌-◌, ◌≤◌, ◌<◌}
use mathlib.Core.Bool.{Bool, true, false, not, ◌&&◌, ◌||◌}
use mathlib.Core.Logic.{◌⊎◌, inl, inr, ⊎_elim}
use mathlib.Core.Path.{◌≡◌, refl, sym, ap, ◌∙◌}
use native.Mathlib.Omega.{arith}
use lib.Dec.{eqb}
use borrow.Author.Tests.{eqb-true, eqb-false, eq-eqb, ne_eqb, not-true, not-false}
use Rattle.page.specs.Choice.{pick}
use Rattle.page.specs.Search.{first_from}
use Rattle.page.specs.declared.record.Record.{Record}
use Rattle.page.proofs.Layouts.{and_left}
use Rattle.page.proofs.Searching.{clash, by_test}
use Rattle.chunk.specs.Records.{is_gone}
use Rattle.tree.specs.Objects.{Stand, missing, deleted, non_directory, is_standing}
use Rattle.tree.specs.Objects.{root, is_directory, head_of, page_of, parent_of, stand_of}
use Rattle.tree.specs.Ways.{any_below, reason_by, goes_on, up, met_at, stops_at, stop_of, reason_of}
use Rattle.tree.specs.declared.reason.Reason.{Reason}
use Rattle.tree.specs.declared.reason.Reason.TheVariants as reason
use Rattle.tree.proofs.Passing.{IsFirst, any_passes, passes_any, none_passes, first_least, first_only, first_found}
use Rattle.tree.proofs.Pigeons.{pigeons}
use Rattle.tree.proofs.Standing.{head_below, same_head, head_page, on_headed, by_stand, stand_missing, stand_deleted, stand_plain}

-- a stop at the root, or at one met before, or at no directory, is one at one met before or where the way does not go on
stop_test : (r m s : Bool) → r || (m || not s) ≡ m || not (not r && s)
stop_test true true s = refl
stop_test true false s = refl
stop_test false m s = refl

-- of two tests one holds, if the second does
or_true : (b : Bool) → b || true ≡ true
or_true true = refl
or_true false = refl

-- a dump of n pages
module _ (says : ℕ → Record) (n : ℕ) where
  -- ---- steps

  -- no step leads nowhere else
  pub up_none : (o : ℕ) → up says n 0 o ≡ o
  unfolding up
  up_none o = refl

  -- a step leads to the parent
  pub up_one : (o : ℕ) → up says n 1 o ≡ parent_of says n o
  unfolding up
  up_one o = refl

  -- a step and then some are one more
  pub up_first : (j o : ℕ) → up says n j (parent_of says n o) ≡ up says n (suc j) o
  unfolding up
  up_first zero o = refl
  up_first (suc j) o = ap (parent_of says n) (up_first j o)

  -- so many steps and then some
  pub up_join : (a k o : ℕ) → up says n k (up says n a o) ≡ up says n (a + k) o
  unfolding up
  up_join a zero o = let e : a + 0 ≡ a = omega arith in rw e
  up_join a (suc k) o = let e : a + suc k ≡ suc (a + k) = omega arith in rw e (ap (parent_of says n) (up_join a k o))

  -- two steps that lead to the same object lead on alike
  pub up_alike : (i j t o : ℕ) → up says n i o ≡ up says n j o → up says n (i + t) o ≡ up says n (j + t) o
  up_alike i j t o e = sym (up_join i t o) ∙ ap (up says n t) e ∙ up_join j t o

  -- the steps from o
  module _ (o : ℕ) where
    -- where step k leads
    abbrev at : ℕ → ℕ
    at k = up says n k o

    -- step k comes to the start or to one met before: that of an earlier step
    pub record Met (k : ℕ) : Type 0 where
      pub earlier : ℕ
      pub before : earlier < k
      pub same : up says n earlier o ≡ up says n k o

    -- where the test of that holds, it does
    pub met_means : (k : ℕ) → met_at says n o k ≡ true → Met k
    unfolding met_at
    met_means k t =
        let w = any_passes (λ j. eqb (at j) (at k)) k t in
        record { earlier = w.number; before = w.below; same = eqb-true _ _ w.passes }

    -- where it does, the test holds
    pub means_met : (k : ℕ) → Met k → met_at says n o k ≡ true
    unfolding met_at
    means_met k w = passes_any (λ j. eqb (at j) (at k)) k w.earlier w.before (eq-eqb _ _ w.same)

    -- where the test fails, it does not
    pub unmet_means : (k : ℕ) → met_at says n o k ≡ false → Met k → ⊥
    unmet_means k t w = let z = means_met k w in clash (cc)

    -- and where it does not, the test fails
    pub means_unmet : (k : ℕ) → (Met k → ⊥) → met_at says n o k ≡ false
    means_unmet k f = by_test (met_at says n o k) _ (λ t. absurd (f (met_means k t))) (λ t. t)

    -- the way stops where it comes to one met before, or does not go on, and nowhere else
    stops_as : (k : ℕ) → stops_at says n o k ≡ met_at says n o k || not (goes_on says n (at k))
    unfolding stops_at
    stops_as k = stop_test (eqb (at k) root) (met_at says n o k) (is_standing (stand_of says n (at k)))

    -- it stops at one met before
    pub met_stops : (k : ℕ) → met_at says n o k ≡ true → stops_at says n o k ≡ true
    met_stops k t = stops_as k ∙ rw t

    -- it stops where it does not go on
    pub off_stops : (k : ℕ) → goes_on says n (up says n k o) ≡ false → stops_at says n o k ≡ true
    off_stops k t = stops_as k ∙ rw t (or_true (met_at says n o k))

    -- it does not stop at a new one where it goes on
    pub on_passes : (k : ℕ) → met_at says n o k ≡ false → goes_on says n (up says n k o) ≡ true → stops_at says n o k ≡ false
    on_passes k t u = stops_as k ∙ rw (t, u)

    -- where it does not stop, it comes to a new one
    pub passed_unmet : (k : ℕ) → stops_at says n o k ≡ false → met_at says n o k ≡ false
    passed_unmet k e = by_test (met_at says n o k) _ (λ t. let z = met_stops k t in clash (cc)) (λ t. t)

    -- and goes on
    pub passed_on : (k : ℕ) → stops_at says n o k ≡ false → goes_on says n (up says n k o) ≡ true
    passed_on k e = by_test (goes_on says n (at k)) _ (λ t. t) (λ t. let z = off_stops k t in clash (cc))

    -- step a is the first that does not go on
    pub record EndsAt (a : ℕ) : Type 0 where
      pub step : 1 ≤ a
      pub off : goes_on says n (up says n a o) ≡ false
      pub on : (j : ℕ) → 1 ≤ j → j < a → goes_on says n (up says n j o) ≡ true

    -- a way ends within n steps, or all of them go on
    pub first_stop : ((a : ℕ) × (a ≤ n) × EndsAt a) ⊎ ((j : ℕ) → 1 ≤ j → j ≤ n → goes_on says n (up says n j o) ≡ true)
    first_stop =
        by_test (any_below (λ j. off (suc j)) n) _
        (λ t.
        let w = any_passes (λ j. off (suc j)) n t in
        let f = first_found off 1 n (suc w.number) (omega arith) (omega (arith, w.below)) w.passes in
        let a = first_from off 1 n in
        inl (
          a,
          omega (arith, w.below, first_least off 1 a (suc w.number) f (omega arith) w.passes),
          record { step = f.from; off = not-true _ f.passes; on = λ j b c. not-false _ (f.before j b c) },
        ))
        (λ t.
        inr
        (λ j b c.
        let e : suc (j - 1) ≡ j = omega arith in
        let z : off (suc (j - 1)) ≡ false = none_passes (λ i. off (suc i)) n t (j - 1) (omega arith) in
        not-false _ (ap off (sym e) ∙ z)))
      where
        off : ℕ → Bool
        off j = not (goes_on says n (at j))

    -- an end at step a
    module _ (a : ℕ) (end : EndsAt a) where
      -- no step before it comes to one met before: the way would go on from there as it did before
      end_fresh : (k : ℕ) → k < a → Met k → ⊥
      end_fresh k l w =
          let j = w.earlier in
          let r : at (j + (a - k)) ≡ at (k + (a - k)) = up_alike j k (a - k) o w.same in
          let s : k + (a - k) ≡ a = omega arith in
          let g : goes_on says n (at (j + (a - k))) ≡ true = end.on (j + (a - k)) (omega arith) (omega (arith, w.before)) in
          let z : goes_on says n (at a) ≡ true = rw (← s, ← r) g in
          clash (cc end.off)

      -- and it comes to one itself only if that is the start
      end-start : (w : Met a) → w.earlier ≡ 0
      end-start w =
          by_test (eqb w.earlier 0) _
          (eqb-true w.earlier 0)
          (λ t.
          let z : w.earlier ≡ 0 → ⊥ = eqb-false w.earlier 0 t in
          let g : goes_on says n (at a) ≡ true = rw (← w.same) (end.on w.earlier (omega arith) w.before) in
          clash (cc end.off))

      -- which is how the test of that comes out there
      end-met : met_at says n o a ≡ eqb (at a) o
      end-met =
          by_test (eqb (at a) o) _
          (λ t. rw t (means_met a record { earlier = 0; before = end.step; same = up_none o ∙ sym (eqb-true _ _ t) }))
          (λ t. rw t (means_unmet a (λ w. eqb-false _ _ t (sym w.same ∙ rw (end-start w) (up_none o)))))

      -- so that it is the first step that stops
      end-first : IsFirst (stops_at says n o) 1 a
      end-first =
          record {
            from = end.step;
            passes = off_stops a end.off;
            before = λ k b c. on_passes k (means_unmet k (end_fresh k c)) (end.on k b c);
          }

    -- an object with a header
    module _ (p : ℕ) (head : head_of says n o ≡ Some p) where
      -- of whose way n steps go on
      module _ (on : (j : ℕ) → 1 ≤ j → j ≤ n → goes_on says n (at j) ≡ true) where
        -- up to there its objects have newest headers
        headed : (i : ℕ) → i ≤ n → head_of says n (at i) ≡ Some (page_of says n (at i))
        headed i h =
            by_test (eqb i 0) _
            (λ t. let e : i ≡ 0 = eqb-true i 0 t in rw (e, up_none o) (head_page says n o p head))
            (λ t. let z : i ≡ 0 → ⊥ = eqb-false i 0 t in on_headed says n (at i) (on i (omega arith) h))

        -- and one of the steps comes to one met before
        all-met : (k : ℕ) × (1 ≤ k) × (k ≤ n) × Met k
        all-met =
            let w = pigeons n (λ i. page_of says n (at i)) (λ i h. head_below says n (at i) _ (headed i h)) in
            let one = headed w.one (omega (arith, w.before, w.inside)) ∙ ap Some w.same in
            let same = same_head says n (at w.one) (at w.other) (page_of says n (at w.other)) one (headed w.other w.inside) in
            (w.other, omega (arith, w.before), w.inside, record { earlier = w.one; before = w.before; same = same })

      -- a way stops within n steps
      some-stop : (k : ℕ) × (1 ≤ k) × (k ≤ n) × (stops_at says n o k ≡ true)
      some-stop =
          ⊎_elim
          (λ (w : (a : ℕ) × (a ≤ n) × EndsAt a). (w.0, w.2.step, w.1, off_stops w.0 w.2.off))
          (λ on. let w = all-met on in (w.0, w.1, w.2, met_stops w.0 (means_met w.0 w.3)))
          first_stop

      -- so that the first step that stops is found
      pub stop_first : IsFirst (stops_at says n o) 1 (stop_of says n o)
      unfolding stop_of
      stop_first = let w = some-stop in first_found (stops_at says n o) 1 n w.0 w.1 (omega (arith, w.2)) w.3

      -- within n steps
      pub stop_within : stop_of says n o ≤ n
      stop_within =
          let w = some-stop in
          omega (arith, w.2, first_least (stops_at says n o) 1 (stop_of says n o) w.0 stop_first w.1 w.3)

      -- and no other is the first
      pub stop_is : (k : ℕ) → IsFirst (stops_at says n o) 1 k → stop_of says n o ≡ k
      stop_is k w = first_only (stops_at says n o) 1 (stop_of says n o) k stop_first w

      -- a way that ends at step a: the reason is what is there
      pub absorbed :
          (a : ℕ) → 1 ≤ a → goes_on says n (up says n a o) ≡ false → ((j : ℕ) → 1 ≤ j → j < a → goes_on says n (up says n j o) ≡ true) →
          (a ≤ n)
          × (reason_of says n o
          ≡ pick (eqb (up says n a o) root) reason.TooDeep (pick (eqb (up says n a o) o) reason.Loop (reason_by (stand_of says n (up says n a o)))))
      unfolding reason_of
      absorbed a h off on =
          let end : EndsAt a = record { step = h; off = off; on = on } in
          let e = stop_is a (end-first a end) in
          (omega (arith, stop_within), rw (e, end-met a end))

      -- a way of which n steps go on: a loop
      pub looped : ((j : ℕ) → 1 ≤ j → j ≤ n → goes_on says n (up says n j o) ≡ true) → reason_of says n o ≡ reason.Loop
      unfolding reason_of
      looped on =
          let k = stop_of says n o in
          let g = on k stop_first.from stop_within in
          let below : eqb (at k) root ≡ false = not-true _ (and_left (not (eqb (at k) root)) _ g) in
          let met : met_at says n o k ≡ true =
          by_test (met_at says n o k) _ (λ t. t) (λ t. let z = on_passes k t g in clash (cc stop_first.passes))
          in
          rw (below, met)

  -- ---- what each reason says of an object

  module _ (o : ℕ) where
    -- the way comes to step k: each step before it goes on, and comes to none met before
    pub record ComesTo (k : ℕ) : Type 0 where
      pub first : 1 ≤ k
      pub on : (j : ℕ) → 1 ≤ j → j < k → goes_on says n (up says n j o) ≡ true
      pub unmet : (j : ℕ) → 1 ≤ j → j < k → Met o j → ⊥

    -- and there to an object that is not the root and was not met before
    pub record ComesToNew (k : ℕ) : Type 0 where
      pub comes : ComesTo k
      pub below : up says n k o ≡ root → ⊥
      pub unmet : Met o k → ⊥

    -- too deep: it comes to the root
    pub record BecauseTooDeep : Type 0 where
      pub step : ℕ
      pub comes : ComesTo step
      pub top : up says n step o ≡ root

    -- loop: it comes, before the root, to the start or to one met before
    pub record BecauseLoop : Type 0 where
      pub step : ℕ
      pub comes : ComesTo step
      pub below : up says n step o ≡ root → ⊥
      pub met : Met o step

    -- missing: it comes to an object with no header
    pub record BecauseMissing : Type 0 where
      pub step : ℕ
      pub comes : ComesToNew step
      pub headless : head_of says n (up says n step o) ≡ None

    -- deleted: it comes to an object whose newest header is under parent 3 or 4
    pub record BecauseDeleted : Type 0 where
      pub step : ℕ
      pub comes : ComesToNew step
      pub page : ℕ
      pub head : head_of says n (up says n step o) ≡ Some page
      pub gone : is_gone (says page) ≡ true

    -- non-directory: it comes to an object whose newest header is neither that nor of type 3
    pub record BecauseNonDirectory : Type 0 where
      pub step : ℕ
      pub comes : ComesToNew step
      pub page : ℕ
      pub head : head_of says n (up says n step o) ≡ Some page
      pub kept : is_gone (says page) ≡ false
      pub plain : is_directory (says page) ≡ false

  -- what a reason says
  abbrev pub Reasoned : Reason → (object : ℕ) → Type 0
  Reasoned reason.TooDeep o = BecauseTooDeep o
  Reasoned reason.Loop o = BecauseLoop o
  Reasoned reason.Missing o = BecauseMissing o
  Reasoned reason.Deleted o = BecauseDeleted o
  Reasoned reason.NonDirectory o = BecauseNonDirectory o

  -- an object with a header
  module _ (o p : ℕ) (head : head_of says n o ≡ Some p) where
    -- the step at which its way stops
    abbrev stop : ℕ
    stop = stop_of says n o

    -- the way comes to where it stops
    stop-comes : ComesTo o stop
    stop-comes =
        let w = stop_first o p head in
        record {
          first = w.from;
          on = λ j b c. passed_on o j (w.before j b c);
          unmet = λ j b c. unmet_means o j (passed_unmet o j (w.before j b c));
        }

    -- each reason is true
    pub reason_means : Reasoned (reason_of says n o) o
    unfolding reason_of
    reason_means =
        by_test (eqb (up says n stop o) root) _
        (λ t. rw t record { step = stop; comes = stop-comes; top = eqb-true _ _ t })
        (λ t.
        by_test (met_at says n o stop) _
        (λ u. rw (t, u) record { step = stop; comes = stop-comes; below = eqb-false _ _ t; met = met_means o stop u })
        (λ u. rw (t, u) (beside t u)))
      where
        beside : eqb (up says n stop o) root ≡ false → met_at says n o stop ≡ false → Reasoned (reason_by (stand_of says n (up says n stop o))) o
        beside t u =
            let new : ComesToNew o stop = record { comes = stop-comes; below = eqb-false _ _ t; unmet = unmet_means o stop u } in
            by_stand says n (up says n stop o) (λ s. stand_of says n (up says n stop o) ≡ s → Reasoned (reason_by s) o)
            (λ e _. record { step = stop; comes = new; headless = e })
            (λ h e g _. record { step = stop; comes = new; page = h; head = e; gone = g })
            (λ h e g d s. let z = on_passes o stop u (rw (t, s)) in clash (cc (stop_first o p head).passes))
            (λ h e g d _. record { step = stop; comes = new; page = h; head = e; kept = g; plain = d })
            refl

    -- the reason is what is at a step that stops, if the way comes to it
    reason-at :
        (k : ℕ) → ComesTo o k → stops_at says n o k ≡ true →
        reason_of says n o
        ≡ pick (eqb (up says n k o) root) reason.TooDeep (pick (met_at says n o k) reason.Loop (reason_by (stand_of says n (up says n k o))))
    unfolding reason_of
    reason-at k w t =
        rw
        (stop_is o p head k record {
          from = w.first;
          passes = t;
          before = λ j b c. on_passes o j (means_unmet o j (w.unmet j b c)) (w.on j b c);
        })

    -- which is how an object stands that is not the root and was not met before
    reason-new : (k : ℕ) (s : Stand) → ComesToNew o k → stand_of says n (up says n k o) ≡ s → is_standing s ≡ false → reason_of says n o ≡ reason_by s
    reason-new k s w e f =
        let t : eqb (up says n k o) root ≡ false = ne_eqb _ _ w.below in
        reason-at k w.comes (off_stops o k (rw (t, e) f)) ∙ rw (t, means_unmet o k w.unmet, e)

    -- and no other would be
    pub means_reason : (r : Reason) → Reasoned r o → reason_of says n o ≡ r
    means_reason reason.TooDeep w =
        let t : eqb (up says n w.step o) root ≡ true = eq-eqb _ _ w.top in
        reason-at w.step w.comes (off_stops o w.step (rw t)) ∙ rw t
    means_reason reason.Loop w =
        let t : eqb (up says n w.step o) root ≡ false = ne_eqb _ _ w.below in
        let u = means_met o w.step w.met in
        reason-at w.step w.comes (met_stops o w.step u) ∙ rw (t, u)
    means_reason reason.Missing w = reason-new w.step missing w.comes (stand_missing says n _ w.headless) refl
    means_reason reason.Deleted w = reason-new w.step deleted w.comes (stand_deleted says n _ w.page w.head w.gone) refl
    means_reason reason.NonDirectory w =
        reason-new w.step non_directory w.comes (stand_plain says n _ w.page w.head w.kept w.plain) refl
