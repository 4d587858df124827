-- Laws of chains, on any cells. `trace_eq` is the one equation of a chain: a step is taken only to a page whose age is below the bound, so
-- that as many steps as the bound says are always enough, and nothing but this equation looks at their number. A chain reads only the links
-- of its own object's pages below its bound (`frame`), and ages fall along it.
use Prim.Native.Nat.{ℕ, zero, suc, ◌-◌, ◌≤◌, ◌<◌}
use mathlib.Core.Bool.{Bool, true, false, not}
use mathlib.Core.List.{List}
use mathlib.Core.Path.{◌≡◌, refl, ap, ◌∙◌}
use native.Mathlib.Nat.{le_refl, le_of_suc-le-suc, not-suc-le-zero, le_trans}
use native.Mathlib.Omega.{arith}
use lib.Dec.{ltb, eqb}
use borrow.Author.Tests.{ltb-true, ltb-false, lt-ltb, le-ltb, eqb-true, eqb-false, eq-eqb, ne_eqb, not-true}
use Rattle.page.specs.Choice.{pick}
use Rattle.page.specs.Records.{is_header}
use Rattle.page.specs.declared.number.PageNumber.{PageNumber}
use Rattle.page.specs.declared.record.Data.{Data}
use Rattle.page.specs.declared.record.Record.{Record}
use Rattle.page.specs.declared.record.Record.TheVariants as said
use Rattle.page.proofs.Layouts.{and_left, and_right}
use Rattle.page.proofs.Searching.{clash, by_test}
use Rattle.chunk.specs.Records.{object_of, sequence_of, age_of}
use Rattle.index.specs.Cells.{word, link_at, link_to}
use Rattle.index.specs.Chains.{objects, is_record_of, Lead, End, Damaged, To, role_of, step_of, step_at, Trace, clean, broken, rec, by, lead_of, trace_by, trace}
use Rattle.index.specs.declared.chains.Role.{Role}
use Rattle.index.specs.declared.chains.Role.TheVariants as role
use Rattle.index.specs.declared.chains.Step.{Step}
use Rattle.index.specs.declared.chains.Step.TheVariants as step

-- the link w leads to the record q of object o below the age b
pub record Leads (n : ℕ) (obj age : ℕ → ℕ) (o b w q : ℕ) : Type 0 where
  pub to : w ≡ link_to q
  pub inside : q < n
  pub some : 0 < obj q
  pub own : obj q ≡ o
  pub older : age q < b

module _ (n : ℕ) (obj age : ℕ → ℕ) (o b w : ℕ) where
  -- what is known where a link leads
  abbrev pub Known : Lead → Type 0
  Known End = w < 2
  Known Damaged = Unit {0}
  Known (To q a) = Leads n obj age o b w q.0 × (a ≡ age q.0)

  pub known : Known (lead_of n obj age o b w)
  unfolding lead_of
  known = go (ltb w 2) (ltb (w - 2) n) (is_record_of o (obj (w - 2))) (ltb (age (w - 2)) b) refl refl refl refl
    where
      go :
          (t₁ t₂ t₃ t₄ : Bool) →
          ltb w 2 ≡ t₁ →
          ltb (w - 2) n ≡ t₂ →
          is_record_of o (obj (w - 2)) ≡ t₃ →
          ltb (age (w - 2)) b ≡ t₄ →
          Known (pick t₁ End (pick t₂ (pick t₃ (pick t₄ (To (record { 0 = w - 2 }) (age (w - 2))) Damaged) Damaged) Damaged))
      go true t₂ t₃ t₄ e₁ e₂ e₃ e₄ = ltb-true _ _ e₁
      go false false t₃ t₄ e₁ e₂ e₃ e₄ = tt
      go false true false t₄ e₁ e₂ e₃ e₄ = tt
      go false true true false e₁ e₂ e₃ e₄ = tt
      go false true true true e₁ e₂ e₃ e₄ =
          let big : 2 ≤ w = ltb-false w 2 e₁ in
          let z : obj (w - 2) ≡ 0 → ⊥ = eqb-false _ _ (not-true _ (and_left (not (eqb (obj (w - 2)) 0)) _ e₃)) in
          let same : obj (w - 2) ≡ o = eqb-true _ _ (and_right (not (eqb (obj (w - 2)) 0)) _ e₃) in
          (record { to = omega arith; inside = ltb-true _ _ e₂; some = omega arith; own = same; older = ltb-true _ _ e₄ }, refl)

  pub lead_end : w < 2 → lead_of n obj age o b w ≡ End
  unfolding lead_of
  lead_end h = simp (lt-ltb w 2 h)

  module _ (big : 2 ≤ w) (inside : w - 2 < n) (some : 0 < obj (w - 2)) (own : obj (w - 2) ≡ o) where
    record_of : is_record_of o (obj (w - 2)) ≡ true
    record_of = rw (ne_eqb (obj (w - 2)) 0 (λ e. absurd (omega arith))) (eq-eqb (obj (w - 2)) o own)

    pub lead_older : age (w - 2) < b → lead_of n obj age o b w ≡ To (record { 0 = w - 2 }) (age (w - 2))
    unfolding lead_of
    lead_older h = rw (le-ltb w 2 big, lt-ltb (w - 2) n inside, record_of, lt-ltb (age (w - 2)) b h)

  pub lead_record : (q : ℕ) → Leads n obj age o b w q → lead_of n obj age o b w ≡ To (record { 0 = q }) (age q)
  lead_record q l =
      let e : w - 2 ≡ q = omega arith in
      rw e at (lead_older (omega arith) (rw e l.inside) (rw e l.some) (rw e l.own) (rw e l.older))

-- two chains whose rests are the same wherever a link may lead are the same
by_same :
    (n : ℕ) (obj age : ℕ → ℕ) (o b w : ℕ) (r r' : ℕ → ℕ → Trace) →
    ((q : ℕ) → Leads n obj age o b w q → r q (age q) ≡ r' q (age q)) →
    by (lead_of n obj age o b w) r ≡ by (lead_of n obj age o b w) r'
by_same n obj age o b w r r' h = go (lead_of n obj age o b w) (known n obj age o b w)
  where
    go : (l : Lead) → Known n obj age o b w l → by l r ≡ by l r'
    go End k = refl
    go Damaged k = refl
    go (To q a) k = rw k.1 (ap (rec q.0) (h q.0 k.0))

module _ (n : ℕ) (obj age : ℕ → ℕ) (o : ℕ) (c : List ℕ) where
  enough : (f g b w : ℕ) → b ≤ f → b ≤ g → trace_by n obj age c o f b w ≡ trace_by n obj age c o g b w
  unfolding trace_by
  enough zero zero b w hf hg = refl
  enough zero (suc g) b w hf hg = by_same n obj age o b w _ _ (λ q l. absurd (not-suc-le-zero (le_trans l.older hf)))
  enough (suc f) zero b w hf hg = by_same n obj age o b w _ _ (λ q l. absurd (not-suc-le-zero (le_trans l.older hg)))
  enough (suc f) (suc g) b w hf hg =
      by_same n obj age o b w _ _
      (λ q l. enough f g _ _ (le_of_suc-le-suc (le_trans l.older hf)) (le_of_suc-le-suc (le_trans l.older hg)))

  -- the one equation of a chain
  pub trace_eq : (b w : ℕ) → trace n obj age c o b w ≡ by (lead_of n obj age o b w) (λ q a. trace n obj age c o a (word c (link_at q)))
  unfolding trace trace_by
  trace_eq zero w = by_same n obj age o zero w _ _ (λ q l. absurd (not-suc-le-zero l.older))
  trace_eq (suc b) w = by_same n obj age o (suc b) w _ _ (λ q l. enough b _ _ _ (le_of_suc-le-suc l.older) (le_refl _))

  pub trace_end : (b w : ℕ) → w < 2 → trace n obj age c o b w ≡ clean
  trace_end b w h = trace_eq b w ∙ rw (lead_end n obj age o b w h) refl

  pub trace_record :
      (b w q : ℕ) → Leads n obj age o b w q → trace n obj age c o b w ≡ rec q (trace n obj age c o (age q) (word c (link_at q)))
  trace_record b w q l = trace_eq b w ∙ rw (lead_record n obj age o b w q l) refl

  module _ (b w : ℕ) where
    -- what a walk along the chain learns from the next link
    abbrev pub Told : Lead → Type 0
    Told End = (trace n obj age c o b w ≡ clean) × (w < 2)
    Told Damaged = trace n obj age c o b w ≡ broken
    Told (To q a) =
        (a ≡ age q.0)
        × Leads n obj age o b w q.0
        × (trace n obj age c o b w ≡ rec q.0 (trace n obj age c o (age q.0) (word c (link_at q.0))))

    pub told : (l : Lead) → l ≡ lead_of n obj age o b w → Told l
    told l e = rw e (go (lead_of n obj age o b w) (known n obj age o b w) (trace_eq b w))
      where
        go :
            (m : Lead) →
            Known n obj age o b w m →
            trace n obj age c o b w ≡ by m (λ q a. trace n obj age c o a (word c (link_at q))) →
            Told m
        go End k f = (f, k)
        go Damaged k f = f
        go (To q a) k f = (k.1, k.0, rw k.1 at f)

    -- a chain that ends has a link that leads nowhere
    pub trace_clean : trace n obj age c o b w ≡ clean → w < 2
    trace_clean e = go (lead_of n obj age o b w) (told (lead_of n obj age o b w) refl)
      where
        go : (m : Lead) → Told m → w < 2
        go End k = k.1
        go Damaged k = clash (cc)
        go (To q a) k = let f = k.2 in clash (cc)

    -- a chain that goes on has a link to a record, and goes on from there
    pub trace_inverse :
        (q : ℕ) (t : Trace) →
        trace n obj age c o b w ≡ rec q t →
        Leads n obj age o b w q × (trace n obj age c o (age q) (word c (link_at q)) ≡ t)
    trace_inverse q t e = go (lead_of n obj age o b w) (told (lead_of n obj age o b w) refl)
      where
        go : (m : Lead) → Told m → Leads n obj age o b w q × (trace n obj age c o (age q) (word c (link_at q)) ≡ t)
        go End k = let f = k.0 in clash (cc)
        go Damaged k = clash (cc)
        go (To p a) k =
            let f = k.2 in
            let same : p.0 ≡ q = cc in
            (rw same at k.1, cc)

-- One turn of a walk, for every walk along a chain. By the step from the link w below the age b, the chain from there on has ended, is damaged, or
-- begins with a record: an older one, from whose age and link on it is the chain that the next turn goes along.
module _ (says : ℕ → Record) (n o : ℕ) (c : List ℕ) (b w : ℕ) where
  abbrev there : Lead
  there = lead_of n (objects says) (age_of says) o b w

  pub record Meets (q : PageNumber) (a : ℕ) (r : Role) : Type 0 where
    pub aged : a ≡ age_of says q.0
    pub leads : Leads n (objects says) (age_of says) o b w q.0
    pub is : r ≡ role_of (says q.0)
    pub older : a < b
    pub onward : (link : ℕ) → link ≡ word c (link_at q.0) → trace n (objects says) (age_of says) c o b w ≡ rec q.0 (trace n (objects says) (age_of says) c o a link)

  abbrev pub Stepped : Step → Type 0
  Stepped step.End = trace n (objects says) (age_of says) c o b w ≡ clean
  Stepped step.Damaged = trace n (objects says) (age_of says) c o b w ≡ broken
  Stepped (step.Record q a r) = Meets q a r

  pub stepped : (s : Step) → s ≡ step_of says there → Stepped s
  unfolding step_of
  stepped s e = rw e (go there (told n (objects says) (age_of says) o c b w there refl))
    where
      go : (l : Lead) → Told n (objects says) (age_of says) o c b w l → Stepped (step_of says l)
      go End k = k.0
      go Damaged k = k
      go (To q a) k = record {
        aged = k.0;
        leads = k.1;
        is = refl;
        older = omega (arith, k.0, k.1.older);
        onward = λ link e. rw (k.0, e) k.2;
      }

-- what a record is by its role: data, or else a header
pub role_data : (r : Record) (d : Data) → role.Data d ≡ role_of r → r ≡ said.Data d
role_data said.Other d e = clash (cc)
role_data (said.Header h) d e = clash (cc)
role_data (said.Data k) d e = cc

pub role_header : (r : Record) → 0 < object_of r → role.Header ≡ role_of r → is_header r ≡ true
role_header said.Other s e = absurd (omega arith)
role_header (said.Header h) s e = refl
role_header (said.Data d) s e = clash (cc)

-- a step to a page of the dump that is a record goes by its object and its sequence
pub step_to_lem :
    (says : ℕ → Record) (n o b w : ℕ) →
    2 ≤ w →
    w - 2 < n →
    0 < object_of (says (w - 2)) →
    step_of says (lead_of n (objects says) (age_of says) o b w)
    ≡ step_at (w - 2) (object_of (says (w - 2))) (sequence_of (says (w - 2))) (role_of (says (w - 2))) o b
unfolding step_of lead_of
step_to_lem says n o b w big inside some =
    rw (le-ltb w 2 big, lt-ltb (w - 2) n inside, ne_eqb (object_of (says (w - 2))) 0 (λ e. absurd (omega arith)))
    (by_test (eqb (object_of (says (w - 2))) o) _
    (λ t. rw t (by_test (ltb (age_of says (w - 2)) b) _ (λ u. rw u) (λ u. rw u)))
    (λ t. rw t))

-- a chain reads only the links of its object's pages below its bound
module _ (n : ℕ) (obj age : ℕ → ℕ) (o : ℕ) (c c' : List ℕ) where
  abbrev pub Agree : ℕ → Type 0
  Agree b = (x : ℕ) → x < n → obj x ≡ o → age x < b → word c (link_at x) ≡ word c' (link_at x)

  frame_by : (f b w : ℕ) → Agree b → trace_by n obj age c o f b w ≡ trace_by n obj age c' o f b w
  unfolding trace_by
  frame_by zero b w h = refl
  frame_by (suc f) b w h =
      by_same n obj age o b w _ _
      (λ q l.
      frame_by f (age q) (word c (link_at q)) (λ x xn xo xb. h x xn xo (omega (arith, l.older)))
      ∙ ap (trace_by n obj age c' o f (age q)) (h q l.inside l.own l.older))

  pub frame : (b w : ℕ) → Agree b → trace n obj age c o b w ≡ trace n obj age c' o b w
  unfolding trace
  frame b w h = frame_by b b w h
