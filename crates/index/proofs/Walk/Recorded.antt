-- The records of an object: one turn of each walk down its chain, and what the pages of a chain of a list are.
use Prim.Native.Nat.{ℕ, suc, ◌+◌, ◌≤◌, ◌<◌}
use Rattle.std.specs.Prelude.{Result, Ok, Err}
use mathlib.Core.Bool.{false}
use mathlib.Core.List.{List, [], ◌∷◌, ◌++◌}
use mathlib.Core.Path.{◌≡◌, refl, sym, ap, ◌∙◌}
use native.Mathlib.Omega.{arith}
use native.Mathlib.Numerals.{add-one}
use lib.ListN.{length, get_or, take, drop, length-drop}
use lib.Seq.{take-suc, take_all, drop-cons, length-take-le}
use borrow.Author.Tests.{le-ltb}
use Rattle.page.specs.Choice.{pick}
use Rattle.page.specs.Numbers.{bad_object}
use Rattle.page.specs.declared.record.Record.{Record}
use Rattle.page.specs.declared.refusal.Refusal.{Refusal}
use Rattle.page.specs.declared.refusal.Refusal.TheVariants.{IndexDamaged}
use Rattle.page.proofs.Searching.{clash, by_test}
use Rattle.index.specs.Cells.{cells_for}
use Rattle.index.specs.Chains.{Trace, clean, broken, rec}
use Rattle.index.specs.Held.{from_list}
use Rattle.index.specs.Walks.{records_in, chain_of}
use Rattle.index.specs.Recorded.{pages_of, is_broken, tally_of, records_by, records_at}

-- as many pages as records
pub pages_length : (t : Trace) → length (pages_of t) ≡ records_in t
unfolding pages_of records_in
pages_length clean = refl
pages_length broken = refl
pages_length (rec q t) = ap suc (pages_length t)

-- those that are left, by what the next link leads to
module _ (t : Trace) where
  pub pages_end : t ≡ clean → pages_of t ≡ []
  unfolding pages_of
  pages_end e = rw e

  pub pages_broken : t ≡ broken → pages_of t ≡ []
  unfolding pages_of
  pages_broken e = rw e

  pub pages_on : (q : ℕ) (rest : Trace) → t ≡ rec q rest → pages_of t ≡ q ∷ pages_of rest
  unfolding pages_of
  pages_on q rest e = rw e

-- a tally that goes on from a count
unfoldable pub tally_from : ℕ → Trace → Result ℕ Refusal
tally_from v t = pick (is_broken t) (Err IndexDamaged) (Ok (v + records_in t))

module _ (v : ℕ) (t : Trace) where
  pub tally_end : t ≡ clean → tally_from v t ≡ Ok v
  unfolding tally_from is_broken records_in
  tally_end e = rw e (ap Ok (omega arith))

  pub tally_broken : t ≡ broken → tally_from v t ≡ Err IndexDamaged
  unfolding tally_from is_broken
  tally_broken e = rw e

  pub tally_on : (q : ℕ) (rest : Trace) → t ≡ rec q rest → tally_from v t ≡ tally_from (v + 1) rest
  unfolding tally_from is_broken records_in
  tally_on q rest e =
      let k : v + suc (records_in rest) ≡ v + 1 + records_in rest = omega arith in
      rw e (rw k refl)

pub tally_all : (t : Trace) → tally_from 0 t ≡ tally_of t
unfolding tally_from tally_of
tally_all t = let k : 0 + records_in t ≡ records_in t = omega arith in rw k refl

-- the tally counted: then the chain has as many pages
pub tally_counted : (t : Trace) (m : ℕ) → tally_of t ≡ Ok m → length (pages_of t) ≡ m
unfolding tally_of
tally_counted t m e = by_test (is_broken t) _ (λ b. let q = rw b at e in clash (cc)) (λ b. let q = rw b at e in pages_length t ∙ (cc))

-- the pages of a chain, one after the other
module _ (L : List ℕ) (i : ℕ) where
  abbrev pub Next : (q : ℕ) (rest : List ℕ) → Type 0
  Next q rest = (take (i + 1) L ≡ take i L ++ (q ∷ [])) × (drop (i + 1) L ≡ rest) × (length (take i L) ≡ i) × (i < length L)

pub next_of : (L : List ℕ) (i q : ℕ) (rest : List ℕ) → drop i L ≡ q ∷ rest → Next L i q rest
next_of L i q rest e =
    let inside : i < length L = omega (arith, length-drop i L, ap length e) in
    let cut : get_or L i 0 ∷ drop (suc i) L ≡ q ∷ rest = sym (drop-cons L i 0 inside) ∙ e in
    let head : get_or L i 0 ≡ q = cc in
    let tail : drop (suc i) L ≡ rest = cc in (
      ap (λ (k : ℕ). take k L) (add-one i) ∙ take-suc L i 0 inside ∙ ap (λ (x : ℕ). take i L ++ (x ∷ [])) head,
      ap (λ (k : ℕ). drop k L) (add-one i) ∙ tail,
      length-take-le i L (omega arith),
      inside,
    )

pub all_taken : (L : List ℕ) (i : ℕ) → drop i L ≡ [] → take i L ≡ L
all_taken L i e = take_all i L (omega (arith, length-drop i L, ap length e))

-- a chain of a list has its pages and no damaged link
pub list_pages : (L : List ℕ) → pages_of (from_list L) ≡ L
unfolding pages_of from_list
list_pages [] = refl
list_pages (q ∷ L) = ap (λ (M : List ℕ). q ∷ M) (list_pages L)

unbroken : (L : List ℕ) → is_broken (from_list L) ≡ false
unfolding is_broken from_list
unbroken [] = refl
unbroken (q ∷ L) = unbroken L

pub list_tally : (L : List ℕ) → tally_of (from_list L) ≡ Ok (length L)
unfolding tally_of
list_tally L = rw (unbroken L, sym (pages_length (from_list L)) ∙ ap length (list_pages L))

-- behind the refusals the tally answers
pub records_tally :
    (says : ℕ → Record) (P : ℕ) (c : List ℕ) (o n room : ℕ) →
    cells_for n ≤ length c →
    bad_object o ≡ false →
    records_at says P c o n room ≡ records_by room (pages_of (chain_of says P c o n)) (tally_of (chain_of says P c o n))
unfolding records_at
records_tally says P c o n room h b = rw (le-ltb (length c) (cells_for n) h, b)
