-- The rows of the newest headers are what `Heads` says. The rows of all headers stand in order of their objects, so that those of one object stand
-- side by side: of these the newest is kept, and no other object's. So the ids ascend, each kept page is its object's newest header, and none is left
-- out.
use Rattle.std.specs.Prelude.{Some}
use Prim.Native.Nat.{ℕ, suc, ◌≤◌, ◌<◌, zero-le}
use mathlib.Core.Bool.{true}
use mathlib.Core.List.{List, [], ◌∷◌, map}
use mathlib.Core.Logic.{◌⊎◌, inl, inr, ⊎_elim}
use mathlib.Core.Path.{◌≡◌, refl, sym, ap, ◌∙◌}
use native.Mathlib.Nat.{le_refl, le_trans}
use native.Mathlib.Omega.{arith}
use borrow.Author.Tests.{leb-true, leb-false, eqb-true, eqb-false, eq-eqb}
use lib.Dec.{eqb, leb}
use lib.ListN.{length}
use Rattle.page.specs.Records.{is_header}
use Rattle.page.specs.declared.record.Record.{Record}
use Rattle.page.specs.declared.record.Record.TheVariants.{Other, Header, Data}
use Rattle.page.proofs.Layouts.{and_left, and_right}
use Rattle.page.proofs.Searching.{by_test, clash, count_le}
use Rattle.sort.specs.Arranged.{rises}
use Rattle.sort.specs.Ascending.{In, Ascends}
use Rattle.sort.specs.Packed.{word_values, packed, key_of, value_of}
use Rattle.sort.proofs.Arranging.{arranged_rises, rises_cons}
use Rattle.sort.proofs.Packing.{packed_key, packed_value, keys_arranged}
use Rattle.chunk.specs.Live.{passed, ids_of}
use Rattle.chunk.specs.Records.{age_of, object_of, is_of, header_of}
use Rattle.chunk.proofs.Living.{ids_in_lem, ids_of_lem, ids_length}
use Rattle.chunk.proofs.Meaning.{newest_found, where_is}
use Rattle.chunk.proofs.Records.{of_object}
use Rattle.tree.specs.Heads.{is_head, head_row, head_count, newer_row, newest_from, newest_each, head_rows, Heads}
use Rattle.tree.specs.Objects.{head_of}
use Rattle.tree.proofs.NewestEach.{newest_same, newest_other, newest_last}

-- a row is its key and its value
row_whole : (r : ℕ) → packed (key_of r) (value_of r) ≡ r
row_whole r = omega arith

-- a header is one of its own object
own_header : (k : Record) → is_header k ≡ true → header_of (object_of k) k ≡ true
own_header Other e = clash (cc)
own_header (Header h) e = rw (eq-eqb h.object.0 h.object.0 refl)
own_header (Data d) e = clash (cc)

-- where keys rise from a number on, none is below it
rise_in : (b z : ℕ) (L : List ℕ) → rises b (map key_of L) ≡ true → In z L → b ≤ key_of z
rise_in b z [] s i = absurd i
rise_in b z (x ∷ L) s i =
    let k = rises_cons b (key_of x) (map key_of L) s in
    ⊎_elim (λ (u : z ≡ x). rw u k.0) (λ (u : In z L). omega (arith, k.0, rise_in (key_of x) z L k.1 u)) i

module _ (says : ℕ → Record) where
  -- the newer of two rows is one of them
  newer_either : (a b : ℕ) → (newer_row says a b ≡ a) ⊎ (newer_row says a b ≡ b)
  unfolding newer_row
  newer_either a b = by_test (leb (age_of says (value_of a)) (age_of says (value_of b))) _ (λ t. inr (rw t)) (λ t. inl (rw t))

  -- of two of the same object it is of that one
  newer_key : (a b : ℕ) → key_of a ≡ key_of b → key_of (newer_row says a b) ≡ key_of a
  newer_key a b e = ⊎_elim (λ q. ap key_of q) (λ q. ap key_of q ∙ sym e) (newer_either a b)

  -- how new the page of a row is
  abbrev age : ℕ → ℕ
  age r = age_of says (value_of r)

  -- and it is not older than either
  newer_most : (a b : ℕ) → (age a ≤ age (newer_row says a b)) × (age b ≤ age (newer_row says a b))
  unfolding newer_row
  newer_most a b =
      by_test (leb (age a) (age b)) _
      (λ t. rw t (leb-true (age a) (age b) t, le_refl (age b)))
      (λ t. rw t (le_refl (age a), let h = leb-false (age a) (age b) t in omega arith))

  -- ---- what is kept of rows whose keys rise

  -- it has keys that ascend
  newest_ascends : (c b : ℕ) (L : List ℕ) → c ≤ key_of b → rises (key_of b) (map key_of L) ≡ true → Ascends c (map key_of (newest_from says b L))
  newest_ascends c b [] h r = rw (newest_last says b) (h, tt)
  newest_ascends c b (x ∷ L) h r =
      let k = rises_cons (key_of b) (key_of x) (map key_of L) r in
      by_test (eqb (key_of b) (key_of x)) _
      (λ t.
      let e = eqb-true (key_of b) (key_of x) t in
      let f : key_of (newer_row says b x) ≡ key_of b = newer_key b x e in
      rw (newest_same says b x L e) (newest_ascends c (newer_row says b x) L (rw f h) (rw (f, e) k.1)))
      (λ t.
      let f = eqb-false (key_of b) (key_of x) t in
      rw (newest_other says b x L f) (h, newest_ascends (suc (key_of b)) x L (omega (arith, k.0)) k.1))

  -- it is of them
  newest_of_lem : (r b : ℕ) (L : List ℕ) → In r (newest_from says b L) → In r (b ∷ L)
  newest_of_lem r b [] i = rw (newest_last says b) at i
  newest_of_lem r b (x ∷ L) i =
      by_test (eqb (key_of b) (key_of x)) _
      (λ t.
      let e = eqb-true (key_of b) (key_of x) t in
      let j : In r (newest_from says (newer_row says b x) L) = rw (newest_same says b x L e) at i in
      ⊎_elim
      (λ (q : r ≡ newer_row says b x). ⊎_elim (λ p. inl (q ∙ p)) (λ p. inr (inl (q ∙ p))) (newer_either b x))
      (λ m. inr (inr m))
      (newest_of_lem r (newer_row says b x) L j))
      (λ t.
      let f = eqb-false (key_of b) (key_of x) t in
      let j : In r (b ∷ newest_from says x L) = rw (newest_other says b x L f) at i in
      ⊎_elim (λ q. inl q) (λ m. inr (newest_of_lem r x L m)) j)

  -- it has none of an object that is older than another
  newest_most :
      (r y b : ℕ) (L : List ℕ) → rises (key_of b) (map key_of L) ≡ true → In r (newest_from says b L) → In y (b ∷ L) → key_of y ≡ key_of r →
      age y ≤ age r
  newest_most r y b [] s i (inl q) e =
      let j : In r (b ∷ []) = rw (newest_last says b) at i in
      ⊎_elim (λ (p : r ≡ b). rw (p, q) (le_refl (age b))) (λ m. absurd m) j
  newest_most r y b [] s i (inr m) e = absurd m
  newest_most r y b (x ∷ L) s i m e =
      let k = rises_cons (key_of b) (key_of x) (map key_of L) s in
      by_test (eqb (key_of b) (key_of x)) _
      (λ t.
      let q = eqb-true (key_of b) (key_of x) t in
      let f : key_of (newer_row says b x) ≡ key_of b = newer_key b x q in
      let j : In r (newest_from says (newer_row says b x) L) = rw (newest_same says b x L q) at i in
      let n = newer_most b x in
      let best : key_of b ≡ key_of r → age (newer_row says b x) ≤ age r = λ z.
      newest_most r (newer_row says b x) (newer_row says b x) L (rw (f, q) k.1) j (inl refl) (f ∙ z) in
      ⊎_elim
      (λ (p : y ≡ b). rw p (le_trans n.0 (best (sym (ap key_of p) ∙ e))))
      (λ (p : In y (x ∷ L)).
      ⊎_elim
      (λ (u : y ≡ x). rw u (le_trans n.1 (best (q ∙ sym (ap key_of u) ∙ e))))
      (λ (u : In y L). newest_most r y (newer_row says b x) L (rw (f, q) k.1) j (inr u) e)
      p)
      m)
      (λ t.
      let f = eqb-false (key_of b) (key_of x) t in
      let j : In r (b ∷ newest_from says x L) = rw (newest_other says b x L f) at i in
      let above : (z : ℕ) → In z (x ∷ L) → key_of b < key_of z = λ z w.
      ⊎_elim (λ (u : z ≡ x). rw u (omega (arith, k.0))) (λ (u : In z L). omega (arith, k.0, rise_in (key_of x) z L k.1 u)) w in
      ⊎_elim
      (λ (p : r ≡ b).
      ⊎_elim
      (λ (u : y ≡ b). rw (p, u) (le_refl (age b)))
      (λ (u : In y (x ∷ L)). absurd (omega (arith, above y u, ap key_of p)))
      m)
      (λ (p : In r (newest_from says x L)).
      ⊎_elim
      (λ (u : y ≡ b). absurd (omega (arith, above r (newest_of_lem r x L p), ap key_of u)))
      (λ (u : In y (x ∷ L)). newest_most r y x L k.1 p u e)
      m)
      j)

  -- it has one of each object
  newest_has : (y b : ℕ) (L : List ℕ) → In y (b ∷ L) → (r : ℕ) × In r (newest_from says b L) × (key_of r ≡ key_of y)
  newest_has y b [] (inl q) = (b, rw (newest_last says b) (inl refl), sym (ap key_of q))
  newest_has y b [] (inr m) = absurd m
  newest_has y b (x ∷ L) m =
      by_test (eqb (key_of b) (key_of x)) _
      (λ t.
      let q = eqb-true (key_of b) (key_of x) t in
      let f : key_of (newer_row says b x) ≡ key_of b = newer_key b x q in
      let one :
      (z : ℕ) → In z (newer_row says b x ∷ L) → key_of z ≡ key_of y → (r : ℕ) × In r (newest_from says b (x ∷ L)) × (key_of r ≡ key_of y) = λ z w e.
      let h = newest_has z (newer_row says b x) L w in
      (h.0, rw (newest_same says b x L q) h.1, h.2 ∙ e) in
      ⊎_elim
      (λ (p : y ≡ b). one (newer_row says b x) (inl refl) (f ∙ sym (ap key_of p)))
      (λ (p : In y (x ∷ L)).
      ⊎_elim
      (λ (u : y ≡ x). one (newer_row says b x) (inl refl) (f ∙ q ∙ sym (ap key_of u)))
      (λ (u : In y L). one y (inr u) refl)
      p)
      m)
      (λ t.
      let f = eqb-false (key_of b) (key_of x) t in
      ⊎_elim
      (λ (p : y ≡ b). (b, rw (newest_other says b x L f) (inl refl), sym (ap key_of p)))
      (λ (p : In y (x ∷ L)). let h = newest_has y x L p in (h.0, rw (newest_other says b x L f) (inr h.1), h.2))
      m)

  -- it is not longer
  newest_few : (b : ℕ) (L : List ℕ) → length (newest_from says b L) ≤ suc (length L)
  newest_few b [] = rw (newest_last says b) (omega arith)
  newest_few b (x ∷ L) =
      by_test (eqb (key_of b) (key_of x)) _
      (λ t. rw (newest_same says b x L (eqb-true (key_of b) (key_of x) t)) (omega (arith, newest_few (newer_row says b x) L)))
      (λ t. rw (newest_other says b x L (eqb-false (key_of b) (key_of x) t)) (omega (arith, newest_few x L)))

  -- ---- the rows of all headers

  -- the rows of all headers of n pages, in order
  module _ (n : ℕ) (short : n < word_values) where
    -- all of them
    abbrev rows : List ℕ
    rows = ids_of (is_head says) (head_row says) n

    -- their keys rise
    rows-rise : rises 0 (map key_of rows) ≡ true
    unfolding ids_of
    rows-rise = rw (keys_arranged (passed (is_head says) (head_row says) n)) (arranged_rises (map key_of (passed (is_head says) (head_row says) n)))

    -- so what is kept of them has keys that ascend
    each-ascends : (S : List ℕ) → rises 0 (map key_of S) ≡ true → Ascends 0 (map key_of (newest_each says S))
    each-ascends [] r = tt
    each-ascends (x ∷ S) r = newest_ascends 0 x S zero-le (rises_cons 0 (key_of x) (map key_of S) r).1

    -- what is kept is of them
    each_of : (r : ℕ) (S : List ℕ) → In r (newest_each says S) → In r S
    each_of r [] i = i
    each_of r (x ∷ S) i = newest_of_lem r x S i

    -- has none of an object that is older than another
    each-most : (r y : ℕ) (S : List ℕ) → rises 0 (map key_of S) ≡ true → In r (newest_each says S) → In y S → key_of y ≡ key_of r → age y ≤ age r
    each-most r y [] s i m e = absurd i
    each-most r y (x ∷ S) s i m e = newest_most r y x S (rises_cons 0 (key_of x) (map key_of S) s).1 i m e

    -- has one of each object
    each-has : (y : ℕ) (S : List ℕ) → In y S → (r : ℕ) × In r (newest_each says S) × (key_of r ≡ key_of y)
    each-has y [] m = absurd m
    each-has y (x ∷ S) m = newest_has y x S m

    -- and is not longer
    each-few : (S : List ℕ) → length (newest_each says S) ≤ length S
    each-few [] = le_refl 0
    each-few (x ∷ S) = newest_few x S

    -- a header's row is there
    row_in : (p : ℕ) → p < n → is_header (says p) ≡ true → In (head_row says p) rows
    row_in p h t = ids_in_lem (is_head says) (head_row says) (head_row says p) n (record { page = p; inside = h; passes = t; bears = refl })

    -- has its object as its key
    row-key : (p : ℕ) → p < n → key_of (head_row says p) ≡ object_of (says p)
    row-key p h = packed_key (object_of (says p)) p (omega arith)

    -- and the page as its value
    row-value : (p : ℕ) → p < n → value_of (head_row says p) ≡ p
    row-value p h = packed_value (object_of (says p)) p (omega arith)

    -- each kept page is its object's newest header
    heads-right : (r : ℕ) → In r (head_rows says n) → head_of says n (key_of r) ≡ Some (value_of r)
    unfolding head_rows
    heads-right r i =
        let w = ids_of_lem (is_head says) (head_row says) r n (each_of r rows i) in
        let p = w.page in
        let k : key_of r ≡ object_of (says p) = ap key_of (sym w.bears) ∙ row-key p w.inside in
        let v : value_of r ≡ p = ap value_of (sym w.bears) ∙ row-value p w.inside in
        let most : (q : ℕ) → q < n → header_of (key_of r) (says q) ≡ true → age_of says q ≤ age_of says (value_of r) = λ q h t.
        let b = row_in q h (and_right (is_of (key_of r) (says q)) (is_header (says q)) t) in
        let e : key_of (head_row says q) ≡ key_of r = row-key q h ∙ of_object (key_of r) (says q) (and_left (is_of (key_of r) (says q)) _ t) in
        rw (row-value q h) at (each-most r (head_row says q) rows rows-rise i b e) in
        let own : header_of (key_of r) (says (value_of r)) ≡ true = rw (k, v) (own_header (says p) w.passes) in
        where_is says (λ q. header_of (key_of r) (says q)) n (value_of r)
        (record { below = rw v w.inside; passes = own; newest = most }) (omega arith)

    -- and the newest header of each object is kept
    heads-all : (o p : ℕ) → head_of says n o ≡ Some p → In (packed o p) (head_rows says n)
    unfolding head_rows
    heads-all o p e =
        let f = newest_found says (header_of o) n p e in
        let t = and_right (is_of o (says p)) (is_header (says p)) f.passes in
        let b : object_of (says p) ≡ o = of_object o (says p) (and_left (is_of o (says p)) _ f.passes) in
        let h = each-has (head_row says p) rows (row_in p f.below t) in
        let k : key_of h.0 ≡ o = h.2 ∙ row-key p f.below ∙ b in
        let s : Some (value_of h.0) ≡ Some p = sym (heads-right h.0 h.1) ∙ rw k e in
        let v : value_of h.0 ≡ p = cc in
        let r : h.0 ≡ packed o p = sym (row_whole h.0) ∙ rw (k, v) in
        rw (← r) h.1

    -- there are no more than headers
    heads-few : length (head_rows says n) ≤ head_count says n
    unfolding head_rows
    heads-few = let e = ids_length (is_head says) (head_row says) n in omega (arith, each-few rows)

    -- together
    pub heads_are : Heads says n (head_rows says n)
    unfolding head_rows
    heads_are = record {
      ascend = each-ascends rows rows-rise;
      right = heads-right;
      all = heads-all;
      few = omega (arith, heads-few, count_le (is_head says) n);
    }
