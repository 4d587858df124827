-- Demand 3, proved: a start makes the cells hold no page, every request keeps what they hold and is answered by it, and held cells have the chains
-- that the demand asks for. The answers are the paper's, and so none is IndexDamaged.
use Prim.Native.Nat.{ℕ, ◌<◌, ◌≤◌}
use Rattle.std.specs.Prelude.{Result, Ok, Err}
use mathlib.Core.Bool.{Bool}
use mathlib.Core.List.{List, [], ◌∷◌, ◌++◌}
use mathlib.Core.Logic.{inl, inr, ⊎_elim}
use mathlib.Core.Path.{◌≡◌, refl, sym, ap, ◌∙◌, subst}
use native.Mathlib.Omega.{arith}
use lib.Dec.{ltb}
use lib.ListN.{length, take, drop, length-append, get_or-append}
use borrow.Author.Tests.{ltb-false}
use Rattle.page.specs.Records.{record_at}
use Rattle.page.specs.Lengths.{opened_of, page_count}
use Rattle.page.specs.declared.geometry.Geometry.{Geometry}
use Rattle.page.specs.declared.refusal.Refusal.{Refusal}
use Rattle.page.specs.declared.refusal.Refusal.TheVariants.{ShortIndex}
use Rattle.page.proofs.Searching.{clash, by_test}
use Rattle.page.proofs.Lengths.{opened_facts, opened_some}
use Rattle.chunk.specs.Records.{age_of}
use Rattle.chunk.specs.Newest.{records}
use Rattle.sort.specs.Ascending.{In}
use Rattle.index.specs.Additions.{start_in, start_of}
use Rattle.index.specs.Cells.{cells_for, word}
use Rattle.index.specs.Chains.{objects, Trace, chain, top}
use Rattle.index.specs.Held.{none_added, seen, recs, from_list, Held}
use Rattle.index.specs.Walks.{seen_says, size_visits, chunk_visits}
use Rattle.index.specs.Requests.{Request, size_seen, chunk_seen, answers_on, answers_by, added_of, words_of}
use Rattle.index.specs.Demand.{OnChain, Falling, is_added, added_records, Demand3, Demand}
use Rattle.index.proofs.Chain.Insertion.{Falls}
use Rattle.index.proofs.Held.Calls.{held_falls, held_in_lem, held_of, held_apart, start_kept}
use Rattle.index.proofs.Held.Slices.{held_lent}
use Rattle.index.proofs.Sorted.Order.{pages_most, ages_below}
use Rattle.index.proofs.Answer.Lookups.{size_visited, chunk_visited}
use Rattle.index.proofs.Demand.Requests.{steps, steps_past}
use Rattle.index.proofs.Demand.Undamaged.{answers_undamaged}

-- a chain made of a list has its records, in its order
on_list : (p : ℕ) (L : List ℕ) → In p L → OnChain p (from_list L)
unfolding from_list
on_list p [] i = i
on_list p (q ∷ L) i = ⊎_elim (λ e. inl e) (λ j. inr (on_list p L j)) i

list_on_lem : (p : ℕ) (L : List ℕ) → OnChain p (from_list L) → In p L
unfolding from_list
list_on_lem p [] i = i
list_on_lem p (q ∷ L) i = ⊎_elim (λ e. inl e) (λ j. inr (list_on_lem p L j)) i

falling_list : (age : ℕ → ℕ) (L : List ℕ) (b : ℕ) → Falls age b L → Falling age b (from_list L)
unfolding from_list
falling_list age [] b f = tt
falling_list age (q ∷ L) b f = (f.0, falling_list age L (age q) f.1)

module _ (g : Geometry) (dump c : List ℕ) (rs : List Request) where
  abbrev n : ℕ
  n = page_count g (length dump)

  abbrev obj : ℕ → ℕ
  obj = objects (record_at g dump)

  abbrev age : ℕ → ℕ
  age = age_of (record_at g dump)

  module _ (held : Held n obj age (added_of g dump (length c) none_added rs) (words_of g dump c rs)) where
    abbrev chain_of : ℕ → Trace
    chain_of o = chain n obj age (words_of g dump c rs) o

    on : (o p : ℕ) → 0 < o → OnChain p (chain_of o) → In p (recs (seen obj (added_of g dump (length c) none_added rs)) age o n)
    on o p h i = list_on_lem p _ (subst (OnChain p) (held.chains o h) i)

    held-demand :
        answers_on g dump c rs ≡ answers_by g dump (length c) none_added rs →
        ((i : ℕ) → cells_for n ≤ i → word (words_of g dump c rs) i ≡ word c i) →
        ((o : ℕ) → size_visits (size_seen g dump (length c) (is_added g dump c rs) o n) ≤ added_records g dump c rs o) →
        ((o q : ℕ) → chunk_visits (chunk_seen g dump (length c) (is_added g dump c rs) o q n) ≤ added_records g dump c rs o) →
        Demand3 g dump c rs
    held-demand e u v w = record {
      answers = e;
      undamaged = λ i. answers_undamaged g dump (length c) rs none_added (rw e at i);
      past = u;
      size_visits_lem = v;
      chunk_visits_lem = w;
      only = λ o p h i. held_of n obj age _ _ held o h p (on o p h i);
      all = λ o p h a b d. subst (OnChain p) (sym (held.chains o h)) (on_list p _ (held_in_lem n obj age _ _ held o h p a b d));
      order = λ o h. subst (Falling age top) (sym (held.chains o h)) (falling_list age _ top (held_falls n obj age _ _ held o h));
      apart = λ o o' p h h' i j. held_apart n obj age _ _ held o h o' p (on o p h i) (on o' p h' j);
    }

module _ (g : Geometry) (dump : List ℕ) (w seed : ℕ) (c : List ℕ) where
  -- an accepted start was of an accepted dump, and lent enough words
  accepted_start :
      (A : Type 0) → (start_of g dump (take w c) seed).answer ≡ (Ok tt) →
      (opened_of g (length dump) ≡ Ok (page_count g (length dump)) → cells_for (page_count g (length dump)) ≤ length (take w c) → A) → A
  unfolding start_of start_in
  accepted_start A = go (opened_of g (length dump)) refl
    where
      never : (r : Refusal) → ◌≡◌ {A = Result Unit Refusal} (Err r) (Ok tt) → A
      never r e = clash (cc)

      enough : (m : ℕ) → opened_of g (length dump) ≡ Ok m → m ≡ page_count g (length dump) → cells_for m ≤ length (take w c)
          → (opened_of g (length dump) ≡ Ok (page_count g (length dump)) → cells_for (page_count g (length dump)) ≤ length (take w c) → A) → A
      enough m e s h f = f (e ∙ ap Ok s) (rw s at h)

      go : (v : (Result ℕ Refusal)) → opened_of g (length dump) ≡ v → (start_in v seed (take w c)).answer ≡ (Ok tt)
          → (opened_of g (length dump) ≡ Ok (page_count g (length dump)) → cells_for (page_count g (length dump)) ≤ length (take w c) → A) → A
      go (Err r) e d f = never r d
      go (Ok m) e d f =
          by_test (ltb (length (take w c)) (cells_for m)) A
          (λ t. never ShortIndex (rw t at d))
          (λ t. enough m e (sym (opened_facts g (length dump) m e).pages) (ltb-false _ _ t) f)

-- no lookup of the paper's visits more records than the object has, for a dump that is accepted
module _ (g : Geometry) (dump : List ℕ) (n : ℕ) (e : opened_of g (length dump) ≡ Ok n) (m : ℕ) (done : ℕ → Bool) (o : ℕ) where
  few : n ≤ 4294967296
  few = omega (arith, pages_most g dump n e)

  size_visits_lem : size_visits (size_seen g dump m done o n) ≤ records (seen_says (record_at g dump) done) o n
  size_visits_lem = size_visited (record_at g dump) n few (ages_below g dump n e) done o g.layout.«data»

  chunk_visits_lem : (c : ℕ) → chunk_visits (chunk_seen g dump m done o c n) ≤ records (seen_says (record_at g dump) done) o n
  chunk_visits_lem = chunk_visited (record_at g dump) n few (ages_below g dump n e) done o g.layout.«data»

-- demand 3
pub demand_3 : Demand
demand_3 g dump w seed c d rs =
    accepted_start g dump w seed c _ d
    (λ e h.
    let n = page_count g (length dump) in
    let s = (start_kept g dump n e (take w c) seed h).1 in
    let q = (start_of g dump (take w c) seed).cells in
    let some : 0 < n = opened_some g (length dump) n e in
    let base : Held n (objects (record_at g dump)) (age_of (record_at g dump)) none_added (q ++ drop w c) =
    held_lent n _ _ some q (q ++ drop w c) (λ i j. get_or-append q (drop w c) 0 i (omega (arith, s.room))) none_added
    (simp length-append (omega (arith, s.room))) s
    in
    let m = length (q ++ drop w c) in
    let r = steps g dump n e m some rs (q ++ drop w c) none_added base refl in
    held-demand g dump (q ++ drop w c) rs r.1 r.0 (steps_past g dump n e m some rs (q ++ drop w c) none_added base refl) (size_visits_lem g dump n e m (is_added g dump (q ++ drop w c) rs)) (chunk_visits_lem g dump n e m (is_added g dump (q ++ drop w c) rs)))
