-- Putting a page into a chain is putting it into the list of the chain's records. By induction on that list, for any bound and any place of
-- the first link: down to the page's place the links stay, for they are links of newer records; there the new link leads to the page; and
-- from the page on the chain is the old one, since it reads only links of older records (`frame`).
use Prim.Native.Nat.{ℕ, ◌≤◌, ◌<◌}
use Rattle.std.specs.Prelude.{Ok, Err}
use mathlib.Core.Bool.{Bool, true, false}
use mathlib.Core.List.{List, [], ◌∷◌}
use mathlib.Core.Logic.{◌≢◌, ◌⊎◌, inl, inr, ⊎_elim}
use mathlib.Core.Path.{◌≡◌, refl, sym, ap, ◌∙◌}
use native.Mathlib.Nat.{le_refl}
use native.Mathlib.Omega.{arith}
use lib.ListN.{length, set, length-set}
use lib.Seq.{get_or-set_same, get_or-set_other}
use lib.Dec.{leb, eqb}
use borrow.Author.Tests.{leb-true, leb-false, lt-ltb, le-ltb, le-leb, lt-leb, eq-eqb, ne_eqb}
use Rattle.page.specs.Choice.{pick}
use Rattle.page.specs.declared.refusal.Refusal.TheVariants.{AlreadyAdded}
use Rattle.sort.specs.Ascending.{In}
use Rattle.index.specs.Cells.{cells_for, word, link_at, link_to, marked, linked}
use Rattle.index.specs.Chains.{rec, trace}
use Rattle.index.specs.Places.{place_of}
use Rattle.index.specs.Held.{insert, from_list}
use Rattle.index.proofs.Chain.Links.{Leads, trace_record, trace_end, trace_inverse, trace_clean, frame}

-- ages fall along a list, from below a bound
abbrev pub Falls : (ℕ → ℕ) → ℕ → List ℕ → Type 0
Falls age b [] = Unit {0}
Falls age b (q ∷ L) = (age q < b) × Falls age (age q) L

-- a record of object o below the age b
pub record Member (n : ℕ) (obj age : ℕ → ℕ) (o b x : ℕ) : Type 0 where
  pub inside : x < n
  pub own : obj x ≡ o
  pub older : age x < b

module _ (n : ℕ) (obj age : ℕ → ℕ) (c : List ℕ) (o : ℕ) where
  -- a chain falls strictly
  pub trace_falls : (L : List ℕ) (b w : ℕ) → trace n obj age c o b w ≡ from_list L → Falls age b L
  unfolding from_list
  trace_falls [] b w e = tt
  trace_falls (q ∷ L) b w e =
      let i = trace_inverse n obj age o c b w q (from_list L) e in
      (i.0.older, trace_falls L (age q) (word c (link_at q)) i.1)

  -- and has records of its object alone: chains of two objects share none
  pub trace_member : (L : List ℕ) (b w : ℕ) → trace n obj age c o b w ≡ from_list L → (x : ℕ) → In x L → Member n obj age o b x
  unfolding from_list
  trace_member [] b w e x h = absurd h
  trace_member (q ∷ L) b w e x h =
      let i = trace_inverse n obj age o c b w q (from_list L) e in
      ⊎_elim
      (λ (s : x ≡ q). rw s (record { inside = i.0.inside; own = i.0.own; older = i.0.older }))
      (λ k.
      let m = trace_member L (age q) (word c (link_at q)) i.1 x k in
      record { inside = m.inside; own = m.own; older = omega (arith, i.0.older, m.older) })
      h

-- a record in a list that falls is older than the bound
pub falls_in : (age : ℕ → ℕ) (p : ℕ) (L : List ℕ) (b : ℕ) → Falls age b L → In p L → age p < b
falls_in age p [] b f i = absurd i
falls_in age p (q ∷ L) b f (inl e) = rw e f.0
falls_in age p (q ∷ L) b f (inr i) = let k = falls_in age p L (age q) f.1 i in omega (arith, f.0)

module _ (age : ℕ → ℕ) (p : ℕ) where
  -- the place in a list's chain where the link to p goes, if p is not in the list
  unfoldable pub spot : List ℕ → ℕ → ℕ
  spot [] at = at
  spot (q ∷ L) at = let below = spot L (link_at q) in pick (leb (age q) (age p)) at below

  pub place_spot : (L : List ℕ) (at : ℕ) → (In p L → ⊥) → place_of age p (from_list L) at ≡ Ok (spot L at)
  unfolding place_of from_list spot
  place_spot [] at w = refl
  place_spot (q ∷ L) at w = go (leb (age q) (age p)) (place_spot L (link_at q) (λ k. w (inr k)))
    where
      go :
          (t : Bool) →
          place_of age p (from_list L) (link_at q) ≡ Ok (spot L (link_at q)) →
          pick t (pick (eqb q p) (Err AlreadyAdded) (Ok at)) (place_of age p (from_list L) (link_at q)) ≡ Ok (pick t at (spot L (link_at q)))
      go true h = simp (ne_eqb q p (λ e. w (inl (sym e))))
      go false h = h

  -- a page that is in the list is met
  pub place_met : (L : List ℕ) (b at : ℕ) → Falls age b L → In p L → place_of age p (from_list L) at ≡ Err AlreadyAdded
  unfolding place_of from_list
  place_met [] b at f i = absurd i
  place_met (q ∷ L) b at f (inl e) = simp (le-leb (age q) (age p) (rw e (le_refl _)), eq-eqb q p (sym e))
  place_met (q ∷ L) b at f (inr i) =
      simp (lt-leb (age q) (age p) (falls_in age p L (age q) f.1 i)) (place_met L (age q) (link_at q) f.1 i)

  -- the place is that of the first link, or the link of a record of the list
  pub spot_form : (L : List ℕ) (at : ℕ) → (spot L at ≡ at) ⊎ ((x : ℕ) × In x L × (spot L at ≡ link_at x))
  unfolding spot
  spot_form [] at = inl refl
  spot_form (q ∷ L) at = go (leb (age q) (age p)) (spot_form L (link_at q))
    where
      go :
          (t : Bool) →
          (spot L (link_at q) ≡ link_at q) ⊎ ((x : ℕ) × In x L × (spot L (link_at q) ≡ link_at x)) →
          (pick t at (spot L (link_at q)) ≡ at) ⊎ ((x : ℕ) × In x (q ∷ L) × (pick t at (spot L (link_at q)) ≡ link_at x))
      go true h = inl refl
      go false (inl e) = inr (q, inl refl, e)
      go false (inr e) = inr (e.0, inr e.1, e.2)

-- the words of the cells after p was put in at a place
module _ (c : List ℕ) (p at : ℕ) (ac : at < length c) (pc : link_at p < length c) (apart : at ≢ link_at p) where
  abbrev mid : List ℕ
  mid = set c (link_at p) (marked (word c at))

  pub word_at : word (linked c p at) at ≡ link_to p
  unfolding linked
  word_at = get_or-set_same mid at (link_to p) 0 (rw length-set ac)

  pub word_own : word (linked c p at) (link_at p) ≡ marked (word c at)
  unfolding linked
  word_own = get_or-set_other mid at (link_at p) (link_to p) 0 (λ e. apart (sym e)) ∙ get_or-set_same c (link_at p) (marked (word c at)) 0 pc

  pub word_other : (i : ℕ) → i ≢ at → i ≢ link_at p → word (linked c p at) i ≡ word c i
  unfolding linked
  word_other i a b = get_or-set_other mid at i (link_to p) 0 a ∙ get_or-set_other c (link_at p) i (marked (word c at)) 0 b

-- p is put into the chain of its object, at the place `at`
module _
    (n : ℕ) (obj age : ℕ → ℕ)
    (inj : (x y : ℕ) → x < n → y < n → age x ≡ age y → x ≡ y)
    (c : List ℕ)
    (room : cells_for n ≤ length c)
    (p : ℕ)
    (pn : p < n)
    (po : 0 < obj p)
    (at : ℕ)
    (ac : at < length c)
    (apart : at ≢ link_at p)
  where
    abbrev o : ℕ
    o = obj p

    abbrev C : List ℕ
    C = linked c p at

    abbrev pc : link_at p < length c
    pc = omega arith

    -- the word at a place is no link of a record of o below b
    abbrev Away : ℕ → ℕ → Type 0
    Away b i = (x : ℕ) → Member n obj age o b x → i ≢ link_at x

    -- from its place on the new chain is p and what its link leads to
    chain-new : (b : ℕ) → age p < b → trace n obj age C o b (word C at) ≡ rec p (trace n obj age C o (age p) (marked (word c at)))
    chain-new b pb =
        trace_record n obj age o C b _ p (record { to = word_at c p at ac pc apart; inside = pn; some = po; own = refl; older = pb })
        ∙ ap (λ (w : ℕ). rec p (trace n obj age C o (age p) w)) (word_own c p at ac pc apart)

    -- and below p it is the old one
    chain-below : (b : ℕ) → age p < b → Away b at → (w : ℕ) → trace n obj age C o (age p) w ≡ trace n obj age c o (age p) w
    chain-below b pb away w =
        frame n obj age o C c (age p) w
        (λ x xn xo xp.
        word_other c p at ac pc apart (link_at x)
        (λ e. away x (record { inside = xn; own = xo; older = omega arith }) (sym e))
        (λ e. let q : x ≡ p = omega arith in let h : age p < age p = rw q at xp in absurd (omega arith)))

    pub insert_trace :
        (L : List ℕ) (b i : ℕ) →
        trace n obj age c o b (word c i) ≡ from_list L →
        (In p L → ⊥) →
        age p < b →
        Away b i →
        spot age p L i ≡ at →
        trace n obj age C o b (word C i) ≡ from_list (insert age p L)
    unfolding spot from_list insert
    insert_trace [] b i e out pb away s =
        let small : word c i < 2 = trace_clean n obj age o c b (word c i) e in
        let small' : word c at < 2 = rw s at small in
        rw s (chain-new b pb ∙ ap (rec p) (simp (lt-ltb (word c at) 2 small') (trace_end n obj age o C (age p) 1 (omega arith))))
    insert_trace (q ∷ L) b i e out pb away s =
        let v = trace_inverse n obj age o c b (word c i) q (from_list L) e in
        go v.0 v.1
        (λ h s'. insert_trace L (age q) (link_at q) v.1 (λ k. out (inr k)) h
        (λ x m f. let k : q ≡ x = omega arith in let y : age x < age x = rw k at m.older in absurd (omega arith)) s')
        (leb (age q) (age p)) refl s
      where
        go :
            Leads n obj age o b (word c i) q →
            trace n obj age c o (age q) (word c (link_at q)) ≡ from_list L →
            (age p < age q → spot age p L (link_at q) ≡ at → trace n obj age C o (age q) (word C (link_at q)) ≡ from_list (insert age p L)) →
            (t : Bool) →
            leb (age q) (age p) ≡ t →
            pick t i (spot age p L (link_at q)) ≡ at →
            trace n obj age C o b (word C i) ≡ from_list (pick t (p ∷ q ∷ L) (q ∷ insert age p L))
        go l rest ih true f s =
            let ne : age q ≢ age p = λ k. out (inl (sym (inj q p l.inside pn k))) in
            let le : age q ≤ age p = leb-true _ _ f in
            let big : 2 ≤ word c at = omega (arith, l.to, ap (λ (k : ℕ). word c k) s) in
            rw s
            (chain-new b pb
            ∙ ap (rec p)
            (simp (le-ltb (word c at) 2 big)
            (chain-below b pb (rw s at away) (word c at)
            ∙ trace_record n obj age o c (age p) (word c at) q (record { to = rw s at l.to; inside = l.inside; some = l.some; own = l.own; older = omega arith })
            ∙ ap (rec q) rest)))
        go l rest ih false f s =
            let newer : age p < age q = leb-false _ _ f in
            let kept : word C i ≡ word c i =
            word_other c p at ac pc apart i (λ k. off k (spot_form age p L (link_at q)))
            (away p (record { inside = pn; own = refl; older = pb })) in
            ap (trace n obj age C o b) kept ∙ trace_record n obj age o C b (word c i) q l ∙ ap (rec q) (ih newer s)
          where
            off : i ≡ at → (spot age p L (link_at q) ≡ link_at q) ⊎ ((x : ℕ) × In x L × (spot age p L (link_at q) ≡ link_at x)) → ⊥
            off k (inl g) = away q (record { inside = l.inside; own = l.own; older = l.older }) (k ∙ sym s ∙ g)
            off k (inr (x, h, g)) =
                let m = trace_member n obj age c o L (age q) (word c (link_at q)) rest x h in
                away x (record { inside = m.inside; own = m.own; older = omega (arith, m.older, l.older) }) (k ∙ sym s ∙ g)
