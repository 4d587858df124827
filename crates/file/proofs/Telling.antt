-- Every row tells its copy: the chunk is one of the file's, no link leads outside the dump, and no more bytes are valid than a page has data. So what
-- was packed comes out again.
use Prim.Native.Nat.{ℕ, zero, suc, ◌≤◌, ◌<◌}
use Rattle.std.specs.Prelude.{Ok, Option, None, Err}
use mathlib.Core.Bool.{Bool, true, false}
use mathlib.Core.List.{List, [], ◌∷◌, map}
use mathlib.Core.Path.{◌≡◌, refl, sym, ap, ap₂, ◌∙◌}
use native.Mathlib.Omega.{arith}
use lib.Dec.{eqb, ltb}
use lib.ListN.{length}
use borrow.Author.Tests.{eqb-true, eqb-false, ltb-true, ltb-false}
use Rattle.page.specs.Records.{record_at}
use Rattle.page.specs.Lengths.{opened_of}
use Rattle.page.specs.Numbers.{page_values}
use Rattle.page.specs.declared.geometry.Geometry.{Geometry}
use Rattle.page.specs.declared.record.Record.{Record}
use Rattle.page.specs.declared.refusal.Refusal.TheVariants.{IndexDamaged}
use Rattle.page.proofs.Lengths.{opened_pages}
use Rattle.page.proofs.Searching.{by_test, clash}
use Rattle.chunk.specs.Records.{age_of, chunk_of}
use Rattle.chunk.specs.Lookups.{looked_of}
use Rattle.chunk.specs.Looked.{Looked}
use Rattle.chunk.specs.Looked as looked
use Rattle.chunk.specs.Sized as sized
use Rattle.chunk.proofs.Alike.{unread_by}
use Rattle.chunk.proofs.Undamaged.{chunk_undamaged}
use Rattle.index.specs.Cells.{word, link_at}
use Rattle.index.specs.Slots.{first_link}
use Rattle.index.specs.Chains.{objects, Lead, End, Damaged, To, Trace, clean, broken, rec, by, lead_of, trace_by, trace, top}
use Rattle.index.specs.Held.{Held}
use Rattle.index.specs.Walks.{seen_says, cut_by, under, size_from, chunk_from}
use Rattle.index.specs.Ahead.{unvisited, still_newest}
use Rattle.index.proofs.Answer.Lookups.{chunk_from_held}
use Rattle.index.proofs.Chain.Links.{Known, known}
use Rattle.file.specs.Table.{chunks_in}
use Rattle.file.specs.Shows.{is_met}
use Rattle.file.specs.Copies.{chunk_values, valid_values, Fits, packed_copy, copy_of, is_refused, copies_to, any_refused, met}
use Rattle.file.specs.declared.copy.Copy.{Copy}
use Rattle.file.proofs.Chunks.{chunks_most}
use Rattle.file.proofs.Meeting.{valid_most}
use Rattle.file.proofs.IsMet.{met_in_lem}
use Rattle.file.proofs.Newest.{EveryCopy, over, over_none, over_behind, over_same, over_before, newest_of}
use Rattle.file.proofs.Shown.{copies_same, refused_none, met_shown}
use Rattle.file.proofs.Copying.{opened_data, copies_looked, refused_damaged}

-- no chain leads outside the dump
abbrev Inside : ℕ → Trace → Type 0
Inside n clean = Unit {0}
Inside n broken = Unit {0}
Inside n (rec q t) = (q < n) × Inside n t

module _ (n : ℕ) (obj age : ℕ → ℕ) (c : List ℕ) (o : ℕ) where
  inside_by : (b w : ℕ) (rest : ℕ → ℕ → Trace) → ((q a : ℕ) → Inside n (rest q a)) → Inside n (by (lead_of n obj age o b w) rest)
  inside_by b w rest h = go (lead_of n obj age o b w) (known n obj age o b w)
    where
      go : (l : Lead) → Known n obj age o b w l → Inside n (by l rest)
      go End k = tt
      go Damaged k = tt
      go (To q a) k = (k.0.inside, h q.0 a)

  inside_steps : (f b w : ℕ) → Inside n (trace_by n obj age c o f b w)
  unfolding trace_by
  inside_steps zero b w = inside_by b w (λ q a. broken) (λ q a. tt)
  inside_steps (suc f) b w = inside_by b w (λ q a. trace_by n obj age c o f a (word c (link_at q))) (λ q a. inside_steps f a (word c (link_at q)))

  inside : (b w : ℕ) → Inside n (trace n obj age c o b w)
  unfolding trace
  inside b w = inside_steps b b w

-- what holds of all copies holds of the newest
module _ (Q : Copy → Type 0) where
  over_every : (x : Copy) (L : List Copy) → Q x → EveryCopy Q L → EveryCopy Q (over x L)
  over_every x [] h e = rw (over_none x) (h, tt)
  over_every x (y ∷ L) h e =
      by_test (ltb y.chunk x.chunk) _
      (λ t. rw (over_behind x y L (ltb-true _ _ t)) (e.0, over_every x L h e.1))
      (λ t.
      by_test (eqb y.chunk x.chunk) _
      (λ u. rw (over_same x y L (eqb-true _ _ u)) (h, e.1))
      (λ u.
      let z : y.chunk ≡ x.chunk → ⊥ = eqb-false _ _ u in
      let k : x.chunk ≤ y.chunk = ltb-false _ _ t in
      rw (over_before x y L (omega arith)) (h, e)))

  newest_every : (L : List Copy) → EveryCopy Q L → EveryCopy Q (newest_of L)
  unfolding newest_of
  newest_every [] e = tt
  newest_every (x ∷ L) e = over_every x (newest_of L) e.0 (newest_every L e.1)

-- all that is met fits
module _ (says : ℕ → Record) (P m size n : ℕ) (h : m < chunk_values) (i : n < page_values) (j : P < valid_values) where
  met_fits : (t : Trace) (newest : Bool) (cut : (Option ℕ)) → Inside n t → EveryCopy Fits (met says P m size newest cut t)
  unfolding met
  met_fits clean newest cut k = tt
  met_fits broken newest cut k = tt
  met_fits (rec q t) newest cut k =
      let on = met_fits t (still_newest says newest q) (cut_by says newest q cut) k.1 in
      let c = chunk_of (says q) in
      by_test (is_met P m cut c) _
      (λ b.
      rw b (
        record {
          chunk = omega (arith, (met_in_lem P m cut c b).1);
          page = omega (arith, k.0);
          valid = omega (arith, valid_most P c (says q) size cut);
        },
        on,
      ))
      (λ b. rw b on)

-- what was packed comes out again
copy_equal : (a b c d e f : ℕ) → a ≡ d → b ≡ e → c ≡ f → ◌≡◌ {A = Copy} (record { chunk = a; page = b; valid = c }) (record { chunk = d; page = e; valid = f })
copy_equal a b c d e f p q r = cc

pub copy_told : (x : Copy) → Fits x → copy_of (packed_copy x) ≡ x
copy_told x f = copy_equal _ _ _ _ _ _ (omega (arith, f.page, f.valid)) (omega (arith, f.page, f.valid)) (omega (arith, f.valid))

copies_unpacked : (L : List Copy) → EveryCopy Fits L → map copy_of (map packed_copy L) ≡ L
copies_unpacked [] e = refl
copies_unpacked (x ∷ L) e = ap₂ {C = List Copy} (λ y M. y ∷ M) (copy_told x e.0) (copies_unpacked L e.1)

-- the rows of a file tell the copies that the lookups of its chunks answer
pub copies_told :
    (g : Geometry) (dump cells : List ℕ) (o z v n : ℕ) → opened_of g (length dump) ≡ Ok n → size_from g dump cells o ≡ sized.Size z v →
    map copy_of (map packed_copy (copies_to (chunk_from g dump cells o) (chunks_in g.layout.«data» z)))
    ≡ copies_to (chunk_from g dump cells o) (chunks_in g.layout.«data» z)
copies_told g dump cells o z v n e s =
    let says = record_at g dump in
    let P = g.layout.«data» in
    let links = under says n cells o top (first_link n cells o) in
    let same = met_shown says P (chunks_in P z) z links true None ∙ copies_looked g dump cells o z v n e s in
    let fits =
    met_fits says P (chunks_in P z) z n (omega (arith, chunks_most P z)) (opened_pages g (length dump) n e) (opened_data g (length dump) n e) links true None
    (inside n (objects says) (age_of says) cells o top (first_link n cells o)) in
    copies_unpacked (copies_to (chunk_from g dump cells o) (chunks_in P z)) (rw same at (newest_every Fits (met says P (chunks_in P z) z true None links) fits))

-- on cells that hold exactly the added pages, they are those that the rules answer where pages not added read as blank
module _
    (g : Geometry) (dump : List ℕ) (n : ℕ) (e : opened_of g (length dump) ≡ Ok n)
    (added : ℕ → Bool) (cells : List ℕ) (held : Held n (objects (record_at g dump)) (age_of (record_at g dump)) added cells) (o m : ℕ)
  where
    pub copies_held : copies_to (chunk_from g dump cells o) m ≡ copies_to (looked_of (seen_says (record_at g dump) added) o n g.layout.«data») m
    copies_held = copies_same _ _ m (λ c h i. rw (chunk_from_held g dump n e added cells held o c).0 refl)

    -- and no link of theirs is damaged
    bare-damaged : (l : Looked) → unvisited l ≡ looked.Refused IndexDamaged 0 0 → ((v k : ℕ) → l ≡ looked.Refused IndexDamaged v k → ⊥) → ⊥
    bare-damaged (looked.Copy p a s v) q never = clash (cc)
    bare-damaged (looked.Hole s v) q never = clash (cc)
    bare-damaged (Err e) q never = let same : e.answer.refusal ≡ IndexDamaged = let h = ap unread_by q in cc in never e.visits e.answer.need (rw same)

    pub held_undamaged : (z v : ℕ) → size_from g dump cells o ≡ sized.Size z v → any_refused (chunk_from g dump cells o) (chunks_in g.layout.«data» z) ≡ false
    held_undamaged z v s =
        refused_none (chunk_from g dump cells o) _
        (λ c h i.
        by_test (is_refused (chunk_from g dump cells o c)) _
        (λ r.
        absurd
        (bare-damaged (chunk_from g dump cells o c) (refused_damaged g dump cells o z v n e s c h i r)
        (λ w k q. chunk_undamaged (seen_says (record_at g dump) added) o n g.layout.«data» c w k (sym (chunk_from_held g dump n e added cells held o c).0 ∙ q))))
        (λ r. r))
