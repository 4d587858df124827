-- Words that know where ways lead. A step comes to an object with a row, to the root, or to one with no header, and its code says which. Where the
-- word of an object comes to one from which the way goes on, the word of that one knows the way on: so the steps of both are steps of the first, and
-- if the one and the other are more than b, those are more than 2 b + 1. A word whose way ended stands for any number of steps.
use Prim.Native.Nat.{ℕ, ◌+◌, ◌*◌, ◌-◌, ◌≤◌, ◌<◌}
use mathlib.Core.Bool.{true, false}
use mathlib.Core.List.{List}
use mathlib.Core.Logic.{⊎_elim}
use mathlib.Core.Path.{◌≡◌, refl, sym, ap, ◌∙◌}
use native.Mathlib.Nat.{le_refl, not-suc-le-zero, eq-or-lt_of_le}
use native.Mathlib.Omega.{arith}
use borrow.Author.Tests.{ltb-true, ltb-false, lt-ltb, le-ltb, eqb-true, eqb-false, eq-eqb, ne_eqb}
use lib.Dec.{eqb, ltb}
use lib.ListN.{length, get_or, set, length-set}
use lib.Seq.{get_or-set_same, get_or-set_other}
use Rattle.page.specs.Choice.{pick}
use Rattle.page.specs.declared.record.Record.{Record}
use Rattle.page.proofs.Searching.{clash, by_test}
use Rattle.sort.specs.Packed.{word_values, packed, key_of, value_of}
use Rattle.sort.proofs.Packing.{packed_key, packed_value}
use Rattle.chunk.specs.Records.{is_gone}
use Rattle.text.proofs.Order.{le_or_lt}
use Rattle.tree.specs.declared.climb.Kind.{Kind}
use Rattle.tree.specs.declared.climb.Kind.TheVariants.{GoesOn, Deleted, NonDirectory, Missing}
use Rattle.tree.specs.Climbs.{kind_number, kind_by, place_in, kind_in, to_root, to_none}
use Rattle.tree.specs.Climbs.{Headed, Leads, Walked, Climbed, Word, Ways, IsCode, FirstWays, SomeWays, Raised, Doubled}
use Rattle.tree.specs.Heads.{Heads, object_at}
use Rattle.tree.specs.Objects.{Stand, missing, deleted, non_directory, directory}
use Rattle.tree.specs.Objects.{root, is_directory, parent_in, stand_by, parent_of, stand_of, is_standing}
use Rattle.tree.specs.Ways.{up, goes_on}
use Rattle.tree.proofs.HeadRows.{no_row, stand_at, parent_at}
use Rattle.tree.proofs.Standing.{stand_missing}
use Rattle.tree.proofs.Ways.{up_one, up_join}

-- ---- kinds

-- the kind of a header is one that has a place
pub header_kind : (r : Record) → kind_by (stand_by r) < 3
header_kind r =
    by_test (is_gone r) _ (λ t. rw t (omega arith)) (λ t. by_test (is_directory r) _ (λ u. rw (t, u) (omega arith)) (λ u. rw (t, u) (omega arith)))

-- a code whose kind is known goes on, or it does not
pub kind_goes : (k : Kind) (code : ℕ) → kind_number k ≡ kind_in code → k ≡ GoesOn → kind_in code ≡ 0
kind_goes k code e g = sym e ∙ ap kind_number g

pub kind_ends : (k : Kind) (code : ℕ) → kind_number k ≡ kind_in code → (k ≡ GoesOn → ⊥) → kind_in code ≡ 0 → ⊥
kind_ends GoesOn code e d z = d refl
kind_ends Deleted code e d z = omega arith
kind_ends NonDirectory code e d z = omega arith
kind_ends Missing code e d z = omega arith

-- kind 0 is that of a directory
standing_kind : (s : Stand) → kind_by s ≡ 0 → is_standing s ≡ true
standing_kind missing e = clash (omega arith)
standing_kind deleted e = clash (omega arith)
standing_kind non_directory e = clash (omega arith)
standing_kind directory e = refl

-- and no other is
pub kind_standing : (s : Stand) → is_standing s ≡ true → kind_by s ≡ 0
kind_standing missing e = clash (cc)
kind_standing deleted e = clash (cc)
kind_standing non_directory e = clash (cc)
kind_standing directory e = refl

module _ (says : ℕ → Record) (n : ℕ) (heads : List ℕ) where
  -- ---- codes

  -- the code of the root
  pub leads_root : (x : ℕ) → x ≡ root → Leads says n heads x to_root
  leads_root x e =
      record {
        top = sym (eq-eqb x root e);
        kind = λ t. absurd (eqb-false x root t e);
        inside = λ l. absurd (omega arith);
        placed = λ l. absurd (omega arith);
      }

  -- of an object that has no row
  pub leads_none :
      Headed says n heads → (x : ℕ) → (x ≡ root → ⊥) → ((i : ℕ) → i < length heads → object_at heads i ≡ x → ⊥) → Leads says n heads x to_none
  leads_none w x d f =
      record {
        top = sym (ne_eqb x root d);
        kind = λ t. ap kind_by (sym (stand_missing says n x (no_row says n heads w.right w.small x f)));
        inside = λ l. absurd (omega arith);
        placed = λ l. absurd (omega arith);
      }

  -- and of one that has a row
  pub leads_row :
      Heads says n heads → (x i : ℕ) → (x ≡ root → ⊥) → i < length heads → object_at heads i ≡ x →
      Leads says n heads x (i * 4 + kind_by (stand_by (says (value_of (get_or heads i 0)))))
  leads_row w x i d h e =
      let r = says (value_of (get_or heads i 0)) in
      let k = kind_by (stand_by r) in
      let b : k < 3 = header_kind r in
      let p : place_in (i * 4 + k) ≡ i = omega arith in
      let q : kind_in (i * 4 + k) ≡ k = omega arith in
      let s : stand_of says n x ≡ stand_by r = rw e at (stand_at says n heads w i h) in
      record {
        top = ne_eqb (i * 4 + k) to_root (λ z. omega arith) ∙ sym (ne_eqb x root d);
        kind = λ t. q ∙ ap kind_by (sym s);
        inside = λ l. rw p h;
        placed = λ l. ap (object_at heads) p ∙ e;
      }

  -- ---- words

  -- a way that has gone a step has come to the parent
  pub first_walked : (o code : ℕ) → Leads says n heads (parent_of says n o) code → Walked says n heads o 1 code
  first_walked o code w = record { step = le_refl 1; leads = rw (up_one says n o) w; on = λ j b c. absurd (omega arith) }

  -- the word of an object whose way has gone a step
  first_word : (o code : ℕ) → Leads says n heads (parent_of says n o) code → code < word_values → Word says n heads 0 o (packed code code)
  first_word o code w h =
      let k : key_of (packed code code) ≡ code = packed_key code code h in
      let v : value_of (packed code code) ≡ code = packed_value code code h in
      record {
        parent = rw k w;
        jump = record { steps = 1; walked = rw v (first_walked o code w); far = λ t. le_refl 1 };
      }

  -- ---- steps

  -- an object whose code has kind 0 goes on
  pub leads_on : (x code : ℕ) → Leads says n heads x code → kind_in code ≡ 0 → goes_on says n x ≡ true
  leads_on x code w e =
      by_test (eqb x root) _
      (λ t. let q : code ≡ to_root = eqb-true code to_root (w.top ∙ t) in absurd (omega arith))
      (λ t. rw (t, standing_kind (stand_of says n x) (sym (w.kind t) ∙ e)))

  -- and no other does
  pub leads_off : (x code : ℕ) → Leads says n heads x code → (kind_in code ≡ 0 → ⊥) → goes_on says n x ≡ false
  leads_off x code w d =
      by_test (eqb x root) _
      (λ t. rw t)
      (λ t.
      by_test (is_standing (stand_of says n x)) _ (λ u. absurd (d (w.kind t ∙ kind_standing (stand_of says n x) u))) (λ u. rw (t, u)))

  -- a way to an object that goes on, and the way on from there
  pub walked_join :
      (o a code k next : ℕ) → Walked says n heads o a code → goes_on says n (up says n a o) ≡ true → Walked says n heads (up says n a o) k next →
      Walked says n heads o (a + k) next
  walked_join o a code k next w g v =
      record {
        step = omega (arith, w.step);
        leads = rw (← up_join says n a k o) v.leads;
        on = λ j b c.
            ⊎_elim
            (λ (l : a ≤ j).
            ⊎_elim
            (λ (e : a ≡ j). rw (← e) g)
            (λ (m : a < j).
            let e : a + (j - a) ≡ j = omega arith in
            rw (← e, ← up_join says n a (j - a) o) (v.on (j - a) (omega arith) (omega arith)))
            (eq-or-lt_of_le l))
            (λ (l : j < a). w.on j b l)
            (le_or_lt a j);
      }

  -- a way that goes further than a bound goes further than a lower one
  pub climbed_lower : (b c o code : ℕ) → b ≤ c → Climbed says n heads c o code → Climbed says n heads b o code
  climbed_lower b c o code h w = record { steps = w.steps; walked = w.walked; far = λ t. omega (arith, w.far t) }

  -- one that ended goes as far as any
  pub climbed_ended : (b c o code : ℕ) → Climbed says n heads c o code → (kind_in code ≡ 0 → ⊥) → Climbed says n heads b o code
  climbed_ended b c o code w d =
      let off = leads_off _ code w.walked.leads d in
      record { steps = w.steps; walked = w.walked; far = λ t. clash (cc) }

  -- one that goes on, and the way on from there
  pub climbed_join :
      (b o code next : ℕ) → Climbed says n heads b o code → kind_in code ≡ 0 → Climbed says n heads b (object_at heads (place_in code)) next →
      Climbed says n heads (b * 2 + 1) o next
  climbed_join b o code next w e v =
      let a = w.steps in
      let g = leads_on _ code w.walked.leads e in
      let here : object_at heads (place_in code) ≡ up says n a o = w.walked.leads.placed (omega arith) in
      let on : Climbed says n heads b (up says n a o) next = rw here at v in
      record {
        steps = a + on.steps;
        walked = walked_join o a code on.steps next w.walked g on.walked;
        far = λ t. omega (arith, w.far g, on.far (rw (up_join says n a on.steps o) t));
      }

  -- where a word's way goes on, there is a row
  pub jump_inside :
      (bound : ℕ → ℕ) (words : List ℕ) (i : ℕ) → Ways says n heads bound words → i < length words → kind_in (value_of (get_or words i 0)) ≡ 0 →
      place_in (value_of (get_or words i 0)) < length words
  jump_inside bound words i w h e =
      omega (arith, w.long, (w.each i (omega (arith, w.long))).jump.walked.leads.inside (omega arith))

-- ---- words one after the other

-- a word is stored among words of which something holds
pub set_each :
    (P : (row word : ℕ) → Type 0) (words : List ℕ) (i v : ℕ) → i < length words → P i v → (j : ℕ) → ((j ≡ i → ⊥) → P j (get_or words j 0)) →
    P j (get_or (set words i v) j 0)
set_each P words i v h p j f =
    by_test (eqb j i) _
    (λ t. let e : j ≡ i = eqb-true j i t in rw (e, get_or-set_same words i v 0 h) p)
    (λ t. let d : j ≡ i → ⊥ = eqb-false j i t in rw (get_or-set_other words i j v 0 d) (f d))

module _ (says : ℕ → Record) (heads : List ℕ) where
  -- the words of the first i rows have gone a step
  pub record Filled (words : List ℕ) (i : ℕ) : Type 0 where
    pub inside : i ≤ length heads
    pub long : length words ≡ length heads
    pub filled : (n : ℕ) → Headed says n heads → (j : ℕ) → j < i → Word says n heads 0 (object_at heads j) (get_or words j 0)

  -- none has
  pub filled_none : (words : List ℕ) → length words ≡ length heads → Filled words 0
  filled_none words e = record { inside = omega arith; long = e; filled = λ n w j h. absurd (not-suc-le-zero h) }

  -- one more has
  pub filled_more :
      (words : List ℕ) (i code : ℕ) → Filled words i → i < length heads → code < word_values →
      IsCode says heads (parent_in (says (value_of (get_or heads i 0)))) code →
      Filled (set words i (packed code code)) (i + 1)
  filled_more words i code q h b w =
      record {
        inside = omega arith;
        long = length-set words i (packed code code) ∙ q.long;
        filled = λ n r j l.
            set_each (λ j v. j < i + 1 → Word says n heads 0 (object_at heads j) v) words i (packed code code) (omega (arith, q.long))
            (λ k.
            first_word says n heads (object_at heads i) code
            (rw (parent_at says n heads r.right i h) (w n r)) b)
            j
            (λ d k. q.filled n r j (omega arith))
            l;
      }

  -- all have
  pub filled_all : (words : List ℕ) (i : ℕ) → Filled words i → length heads ≤ i → FirstWays says heads words
  filled_all words i q h n r = record { long = q.long; each = λ j k. q.filled n r j (omega arith) }

-- ---- a pass

-- the bounds when the words of the first i rows are passed
abbrev pub halfway : (bound i row : ℕ) → ℕ
halfway b i j = pick (ltb j i) (b * 2 + 1) b

-- none is below the one before
halfway_least : (b i j : ℕ) → b ≤ halfway b i j
halfway_least b i j = by_test (ltb j i) _ (λ t. rw t (omega arith)) (λ t. rw t (le_refl _))

-- a row that is passed has the new one
halfway_passed : (b i j : ℕ) → j < i → halfway b i j ≡ b * 2 + 1
halfway_passed b i j h = rw (lt-ltb j i h)

-- and another as before
halfway_other : (b i j : ℕ) → (j ≡ i → ⊥) → halfway b (i + 1) j ≡ halfway b i j
halfway_other b i j d =
    by_test (ltb j i) _
    (λ t. rw (t, lt-ltb j (i + 1) (omega (arith, ltb-true j i t))))
    (λ t. rw (t, le-ltb j (i + 1) (omega (arith, ltb-false j i t))))

-- words of which the first i rows are passed
pub record Doubling (before words : List ℕ) (i : ℕ) : Type 0 where
  pub inside : i ≤ length words
  pub long : length words ≡ length before
  pub passed :
      (b : ℕ) (says : ℕ → Record) (n : ℕ) (heads : List ℕ) → Ways says n heads (λ j. b) before → Ways says n heads (halfway b i) words

-- where a word's way goes on, there is a word
pub doubling_inside :
    (before words : List ℕ) (i j : ℕ) → SomeWays before → Doubling before words i → j < length words → kind_in (value_of (get_or words j 0)) ≡ 0 →
    place_in (value_of (get_or words j 0)) < length words
doubling_inside before words i j s q h e =
    jump_inside s.says s.pages s.heads _ words j (q.passed s.bound s.says s.pages s.heads s.ways) h e

-- none is
pub doubling_none : (words : List ℕ) → Doubling words words 0
doubling_none words =
    record {
      inside = omega arith;
      long = refl;
      passed = λ b says n heads w. record { long = w.long; each = λ j h. rw (le-ltb j 0 (omega arith)) (w.each j h) };
    }

-- one whose way ended is
pub doubling_ended :
    (before words : List ℕ) (i : ℕ) → Doubling before words i → i < length words → (kind_in (value_of (get_or words i 0)) ≡ 0 → ⊥) →
    Doubling before words (i + 1)
doubling_ended before words i q h d =
    record {
      inside = omega arith;
      long = q.long;
      passed = λ b says n heads w.
          let v = q.passed b says n heads w in
          record {
            long = v.long;
            each = λ j l.
                by_test (eqb j i) _
                (λ t.
                let e : j ≡ i = eqb-true j i t in
                let u = v.each i (rw e at l) in
                rw (e, halfway_passed b (i + 1) i (omega arith))
                record { parent = u.parent; jump = climbed_ended says n heads (b * 2 + 1) _ _ _ u.jump d })
                (λ t. rw (halfway_other b i j (eqb-false j i t)) (v.each j l));
          };
    }

-- one whose way goes on is
pub doubling_more :
    (before words : List ℕ) (i : ℕ) → Doubling before words i → i < length words → kind_in (value_of (get_or words i 0)) ≡ 0 →
    Doubling before (set words i (packed (key_of (get_or words i 0)) (value_of (get_or words (place_in (value_of (get_or words i 0))) 0)))) (i + 1)
doubling_more before words i q h e =
    let word = get_or words i 0 in
    let p = place_in (value_of word) in
    let next = value_of (get_or words p 0) in
    let small : next < word_values = omega arith in
    let key : key_of (packed (key_of word) next) ≡ key_of word = packed_key (key_of word) next small in
    let value : value_of (packed (key_of word) next) ≡ next = packed_value (key_of word) next small in
    let same = length-set words i (packed (key_of word) next) in
    record {
      inside = omega arith;
      long = same ∙ q.long;
      passed = λ b says n heads w.
          let v = q.passed b says n heads w in
          let u = v.each i (omega (arith, v.long)) in
          let k : p < length heads = omega (arith, v.long, jump_inside says n heads _ words i v h e) in
          let here = climbed_lower says n heads b _ _ _ (halfway_least b i i) u.jump in
          let there = climbed_lower says n heads b _ _ _ (halfway_least b i p) (v.each p k).jump in
          let new : Word says n heads (halfway b (i + 1) i) (object_at heads i) (packed (key_of word) next) =
          rw (halfway_passed b (i + 1) i (omega arith))
          record { parent = rw key u.parent; jump = rw value (climbed_join says n heads b _ _ next here e there) }
          in
          record {
            long = same ∙ v.long;
            each = λ j l.
                set_each (λ j x. Word says n heads (halfway b (i + 1) j) (object_at heads j) x) words i _ h new j
                (λ d. rw (halfway_other b i j d) (v.each j l));
          };
    }

-- all are
pub doubling_all : (before words : List ℕ) (i : ℕ) → Doubling before words i → length words ≤ i → Doubled before words
doubling_all before words i q h b says n heads w =
    let v = q.passed b says n heads w in
    record { long = v.long; each = λ j l. rw (← halfway_passed b i j (omega (arith, v.long))) (v.each j l) }

-- ---- rounds

-- words of rows are such words
pub ways_some : (says : ℕ → Record) (n : ℕ) (heads : List ℕ) (b : ℕ) (words : List ℕ) → Ways says n heads (λ i. b) words → SomeWays words
ways_some says n heads b words w = record { says = says; pages = n; heads = heads; bound = b; ways = w }

-- so are those that were raised from such
pub raised_some : (c : ℕ) (before words : List ℕ) → SomeWays before → Raised 0 c before words → SomeWays words
raised_some c before words s r =
    let w = s.ways in
    let low : Ways s.says s.pages s.heads (λ i. 0) before =
    record {
      long = w.long;
      each = λ i h.
          let u = w.each i h in
          record { parent = u.parent; jump = climbed_lower s.says s.pages s.heads 0 _ _ _ (omega arith) u.jump };
    }
    in
    ways_some s.says s.pages s.heads c words (r s.says s.pages s.heads low)

-- a round more
pub raised_doubled : (c : ℕ) (before words after : List ℕ) → Raised 0 c before words → Doubled words after → Raised 0 (c * 2 + 1) before after
raised_doubled c before words after r d says n heads w = d c says n heads (r says n heads w)

-- enough rounds
pub raised_enough : (b c : ℕ) (before words : List ℕ) → Raised 0 c before words → b ≤ c → Raised 0 b before words
raised_enough b c before words r h says n heads w =
    let v = r says n heads w in
    record {
      long = v.long;
      each = λ i l. let u = v.each i l in record { parent = u.parent; jump = climbed_lower says n heads b c _ _ h u.jump };
    }
