-- What words that have gone up tell of their objects. A word that did not end has gone more steps than there are pages, so that its way is a loop;
-- one that ended shows where, and the reason is what is there. An object is in the first list if its way comes to the root in at most 32 steps.
use Prim.Native.Nat.{ℕ, ◌+◌, ◌≤◌, ◌<◌}
use mathlib.Core.Bool.{Bool, true, false}
use mathlib.Core.List.{List}
use mathlib.Core.Logic.{⊎_elim}
use mathlib.Core.Path.{◌≡◌, refl, sym, ap, subst, ◌∙◌}
use native.Mathlib.Nat.{eq-or-lt_of_le}
use native.Mathlib.Omega.{arith}
use borrow.Author.Tests.{eqb-true, eqb-false, eq-eqb, ne_eqb}
use lib.Dec.{eqb}
use lib.ListN.{length, get_or}
use Rattle.page.specs.Choice.{pick}
use Rattle.page.specs.declared.record.Record.{Record}
use Rattle.page.proofs.Searching.{clash, by_test}
use Rattle.sort.specs.Ascending.{In}
use Rattle.sort.specs.Packed.{key_of, value_of}
use Rattle.chunk.specs.Live.{live_ids}
use Rattle.text.proofs.Order.{le_or_lt}
use Rattle.tree.specs.Climbs.{kind_by, place_in, kind_in, to_root, Leads, Walked, Ways, SomeWays, TellsListed, reason_in}
use Rattle.tree.specs.Heads.{Heads, object_at}
use Rattle.tree.specs.Objects.{Stand, missing, deleted, non_directory, directory, root, stand_by, stand_of}
use Rattle.tree.specs.Paths.{most_depth, listed}
use Rattle.tree.specs.Tree.{is_in}
use Rattle.tree.specs.Ways.{reason_by, up, reason_of, goes_on}
use Rattle.tree.specs.declared.reason.Reason.TheVariants as reason
use Rattle.tree.proofs.Climbing.{header_kind, leads_on, leads_off, first_walked, walked_join}
use Rattle.tree.proofs.HeadRows.{one_row, head_at, stand_at}
use Rattle.tree.proofs.Paths.{listed_below, below_listed}
use Rattle.tree.proofs.Ways.{absorbed, looped}

-- ---- the first list

module _ (says : ℕ → Record) (n : ℕ) (heads : List ℕ) (o a code : ℕ) (w : Walked says n heads o a code) where
  -- a way that comes to the root in few steps
  near_listed :
      (names : ℕ → List ℕ) → In o (live_ids says n) → (o ≡ root → ⊥) → a ≤ most_depth → up says n a o ≡ root → is_in o (listed says names n) ≡ true
  near_listed names live d few top =
      below_listed says names n o
      record { live = live; not_root = d; steps = a; some_step = w.step; few = few; arrives = top; between = w.on }

  -- one that does not
  far_unlisted :
      (names : ℕ → List ℕ) → (up says n a o ≡ root → ⊥) → (goes_on says n (up says n a o) ≡ true → most_depth ≤ a) →
      is_in o (listed says names n) ≡ false
  far_unlisted names d far =
      by_test (is_in o (listed says names n)) _
      (λ t.
      let b = listed_below says names n o t in
      let m = b.steps in
      ⊎_elim
      (λ (l : a ≤ m).
      ⊎_elim
      (λ (e : a ≡ m). absurd (d (ap (λ (k : ℕ). up says n k o) e ∙ b.arrives)))
      (λ (k : a < m). absurd (omega (arith, b.few, far (b.between a w.step k))))
      (eq-or-lt_of_le l))
      (λ (l : m < a). let z : false ≡ true = rw b.arrives at (w.on m b.some_step l) in clash (cc))
      (le_or_lt a m))
      (λ t. t)

-- a way that is followed from row i, by the words
pub record Tracked (words : List ℕ) (i code steps : ℕ) : Type 0 where
  pub few : steps ≤ most_depth
  pub tracked :
      (says : ℕ → Record) (n : ℕ) (heads : List ℕ) (bound : ℕ → ℕ) → Ways says n heads bound words →
      Walked says n heads (object_at heads i) steps code

-- its first step
pub tracked_first : (words : List ℕ) (i : ℕ) → i < length words → Tracked words i (key_of (get_or words i 0)) 1
tracked_first words i h =
    record {
      few = omega arith;
      tracked = λ says n heads bound w. first_walked says n heads _ _ (w.each i (omega (arith, w.long))).parent;
    }

module _ (words : List ℕ) (i code steps : ℕ) (q : Tracked words i code steps) where
  -- where it goes on there is a word
  pub tracked_inside : SomeWays words → kind_in code ≡ 0 → place_in code < length words
  tracked_inside s e =
      let w = q.tracked s.says s.pages s.heads _ s.ways in
      omega (arith, s.ways.long, w.leads.inside (omega arith))

  -- which knows the next step
  pub tracked_more : kind_in code ≡ 0 → (steps ≡ most_depth → ⊥) → Tracked words i (key_of (get_or words (place_in code) 0)) (steps + 1)
  tracked_more e d =
      record {
        few = omega (arith, q.few);
        tracked = λ says n heads bound w.
            let v = q.tracked says n heads bound w in
            let o = object_at heads i in
            let p = place_in code in
            let here : object_at heads p ≡ up says n steps o = v.leads.placed (omega arith) in
            let next = first_walked says n heads _ _ (w.each p (v.leads.inside (omega arith))).parent in
            walked_join says n heads o steps code 1 _ v (leads_on says n heads _ code v.leads e) (rw here at next);
      }

  -- it goes on after the last step
  pub tracked_deep : kind_in code ≡ 0 → steps ≡ most_depth → TellsListed words i false
  tracked_deep e d says names n heads bound w live r =
      let v = q.tracked says n heads bound w in
      let g = leads_on says n heads _ code v.leads e in
      sym
      (far_unlisted says n heads _ steps code v names
      (λ t. let z : false ≡ true = rw t at g in clash (cc))
      (λ t. omega arith))

  -- it ends
  pub tracked_end : (kind_in code ≡ 0 → ⊥) → TellsListed words i (eqb code to_root)
  tracked_end d says names n heads bound w live r =
      let v = q.tracked says n heads bound w in
      let o = object_at heads i in
      let off = leads_off says n heads _ code v.leads d in
      v.leads.top
      ∙ by_test (eqb (up says n steps o) root) _
      (λ t. t ∙ sym (near_listed says n heads o steps code v names live r q.few (eqb-true _ _ t)))
      (λ t. t ∙ sym (far_unlisted says n heads o steps code v names (eqb-false _ _ t) (λ g. clash (cc))))

  -- it has gone all steps
  pub tracked_done : most_depth ≤ steps → TellsListed words i (eqb code to_root)
  tracked_done h =
      by_test (eqb (kind_in code) 0) _
      (λ t.
      let e : kind_in code ≡ 0 = eqb-true _ _ t in
      let u : eqb code to_root ≡ false = ne_eqb code to_root (λ z. omega arith) in
      subst (λ (r : Bool). TellsListed words i r) (sym u) (tracked_deep e (omega (arith, q.few))))
      (λ t. tracked_end (eqb-false _ _ t))

-- ---- reasons

-- a way that goes on is a loop
going_reason : (i code : ℕ) → kind_in code ≡ 0 → reason_in i code ≡ reason.Loop
unfolding reason_in
going_reason i code e = rw (ne_eqb code to_root (λ q. omega arith), e)

-- one that comes to the root is too deep
root_reason : (i code : ℕ) → eqb code to_root ≡ true → reason_in i code ≡ reason.TooDeep
unfolding reason_in
root_reason i code t = rw t

module _ (says : ℕ → Record) (n : ℕ) (heads : List ℕ) (rows : Heads says n heads) where
  -- an object with a row is not missing
  row_stands : (i : ℕ) → i < length heads → stand_of says n (object_at heads i) ≡ missing → ⊥
  row_stands i h e =
      let r = says (value_of (get_or heads i 0)) in
      let s : stand_by r ≡ missing = sym (stand_at says n heads rows i h) ∙ e in
      let k : kind_by (stand_by r) ≡ 3 = ap kind_by s in
      omega (arith, header_kind r)

  -- a code with a place has that of row i where it is of the same object
  own_place :
      (i x code : ℕ) → i < length heads → Leads says n heads x code → kind_in code < 3 → eqb (place_in code) i ≡ eqb x (object_at heads i)
  own_place i x code h w l =
      let e : object_at heads (place_in code) ≡ x = w.placed l in
      by_test (eqb (place_in code) i) _
      (λ t. t ∙ sym (eq-eqb x (object_at heads i) (sym e ∙ ap (object_at heads) (eqb-true _ _ t))))
      (λ t. t ∙ sym (ne_eqb x (object_at heads i) (λ q. eqb-false _ _ t (one_row says n heads rows _ i (w.inside l) h (e ∙ q)))))

  -- an object that is not the root and from which the way does not go on, at the end of the way of row i
  ended_reason :
      (i x code : ℕ) → i < length heads → Leads says n heads x code → eqb x root ≡ false → (s : Stand) → stand_of says n x ≡ s →
      (kind_by s ≡ 0 → ⊥) → reason_in i code ≡ pick (eqb x (object_at heads i)) reason.Loop (reason_by s)
  unfolding reason_in
  ended_reason i x code h w t missing e d =
      let k : kind_in code ≡ 3 = w.kind t ∙ ap kind_by e in
      let z : eqb x (object_at heads i) ≡ false = ne_eqb _ _ (λ q. row_stands i h (ap (stand_of says n) (sym q) ∙ e)) in
      rw (w.top, t, k, z)
  ended_reason i x code h w t deleted e d =
      let k : kind_in code ≡ 1 = w.kind t ∙ ap kind_by e in
      rw (w.top, t, k, own_place i x code h w (omega arith))
  ended_reason i x code h w t non_directory e d =
      let k : kind_in code ≡ 2 = w.kind t ∙ ap kind_by e in
      rw (w.top, t, k, own_place i x code h w (omega arith))
  ended_reason i x code h w t directory e d = absurd (d refl)

  -- the code that a way has come to tells the reason, where it has ended or has gone more steps than there are pages
  pub settled_reason :
      (words : List ℕ) (i : ℕ) → Ways says n heads (λ j. n) words → i < length heads →
      reason_in i (value_of (get_or words i 0)) ≡ reason_of says n (object_at heads i)
  settled_reason words i w h =
      let o = object_at heads i in
      let code = value_of (get_or words i 0) in
      let j = (w.each i h).jump in
      let v = j.walked in
      let a = j.steps in
      let x = up says n a o in
      let head = head_at says n heads rows i h in
      by_test (eqb (kind_in code) 0) _
      (λ t.
      let e : kind_in code ≡ 0 = eqb-true _ _ t in
      let far = j.far (leads_on says n heads x code v.leads e) in
      going_reason i code e ∙ sym (looped says n o _ head (λ k b c. v.on k b (omega arith))))
      (λ t.
      let d : kind_in code ≡ 0 → ⊥ = eqb-false _ _ t in
      let off = leads_off says n heads x code v.leads d in
      let r = (absorbed says n o _ head a v.step off v.on).1 in
      by_test (eqb x root) _
      (λ u. root_reason i code (v.leads.top ∙ u) ∙ sym (r ∙ rw u))
      (λ u. ended_reason i x code h v.leads u _ refl (λ e. d (v.leads.kind u ∙ e)) ∙ sym (r ∙ rw u)))
