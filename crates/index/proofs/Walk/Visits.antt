-- No lookup visits more records than the chain has, on any chain. Down to the newest header, the records visited and those behind it are the
-- whole chain; below it, each record visited is one of those.
use Prim.Native.Nat.{ℕ, suc, ◌+◌, ◌≤◌, zero-le}
use Rattle.std.specs.Prelude.{Option, Some, None, Ok, Err}
use Rattle.page.specs.declared.number.PageNumber.{PageNumber}
use mathlib.Core.Bool.{true, false}
use mathlib.Core.List.{List, [], ◌∷◌}
use mathlib.Core.Path.{◌≡◌, refl, ap}
use native.Mathlib.Omega.{arith}
use lib.ListN.{length}
use lib.Dec.{eqb, leb}
use Rattle.page.specs.Records.{is_header}
use Rattle.page.proofs.Searching.{by_test}
use Rattle.page.specs.declared.record.Record.{Record}
use Rattle.chunk.specs.Records.{base_of}
use Rattle.chunk.specs.Lookups.{shown_of}
use Rattle.chunk.proofs.Cases.{file_cases}
use Rattle.index.specs.Chains.{Trace, clean, broken, rec}
use Rattle.index.specs.Held.{from_list}
use Rattle.index.specs.Walks.{records_in, size_visits, chunk_visits, behind, size_file, size_at, size_reached, cut_by, met_with, reach, is_shown, seek, copy_from, chunk_file, chunk_reached, chunk_walk, size_walk}
use Rattle.index.specs.Reached.{Reached}
use Rattle.index.proofs.Walk.Walks.{end_by}

pub length_list : (L : List ℕ) → records_in (from_list L) ≡ length L
unfolding records_in from_list
length_list [] = refl
length_list (q ∷ L) = ap suc (length_list L)

-- of so many records, with the rest behind the header
abbrev pub Visited : ℕ → ℕ → Reached → Type 0
Visited all rest (Err e) = e.visits ≤ all
Visited all rest (Ok x) = x.visits + rest ≡ all

module _ (says : ℕ → Record) (P : ℕ) where
  pub reach_visits :
      (c : ℕ) (t : Trace) (end : ℕ) (m : (Option PageNumber)) (v : ℕ) → Visited (v + records_in t) (records_in (behind says t)) (reach says P c end m v t)
  unfolding reach behind records_in
  reach_visits c clean end m v = by_test (eqb v 0) _ (λ t. rw t zero-le) (λ t. rw t (omega arith))
  reach_visits c broken end m v = zero-le
  reach_visits c (rec q t) end m v =
      by_test (is_header (says q)) _
      (λ s. rw s (omega arith))
      (λ s.
      let e : v + 1 + records_in t ≡ v + suc (records_in t) = omega arith in
      rw (s, ← e) (reach_visits c t (end_by says P q end) (met_with says P c q m) (v + 1)))

  pub size_visits_lem : (t : Trace) → size_visits (size_walk says P t) ≤ records_in t
  unfolding size_walk size_reached
  size_visits_lem t = go (reach says P 0 0 None 0 t) (reach_visits 0 t 0 None 0)
    where
      go : (r : Reached) → Visited (0 + records_in t) (records_in (behind says t)) r → size_visits (size_reached says r) ≤ records_in t
      go (Err e) h = omega arith
      go (Ok x) i =
          let le : x.visits ≤ records_in t = omega arith in
          file_cases (says x.page.0) x.page.0 x.visits (λ f. size_visits (size_file (size_at says x.page.0 x.end) f) ≤ records_in t) (λ r. le) le

  module _ (c : ℕ) where
    seek-visits : (t : Trace) (z : ℕ) (cut : (Option ℕ)) (v : ℕ) → chunk_visits (seek says P c z cut v t) ≤ v + records_in t
    unfolding seek records_in
    seek-visits clean z cut v = omega arith
    seek-visits broken z cut v = zero-le
    seek-visits (rec q t) z cut v =
        by_test (is_shown says P c cut q) _
        (λ s. rw s (omega arith))
        (λ s. let i = seek-visits t z (cut_by says false q cut) (v + 1) in rw s (omega arith))

    pub chunk_visits_lem : (t : Trace) → chunk_visits (chunk_walk says P c t) ≤ records_in t
    unfolding chunk_walk chunk_reached chunk_file copy_from
    chunk_visits_lem t = go (reach says P c 0 None 0 t) (reach_visits c t 0 None 0)
      where
        copy : (z h v : ℕ) (m : (Option PageNumber)) → v + records_in (behind says t) ≡ 0 + records_in t → chunk_visits (copy_from says P c h z v (behind says t) m) ≤ records_in t
        copy z h v (Some q) i = omega arith
        copy z h v None i = let s = seek-visits (behind says t) z (cut_by says true h None) v in omega arith

        go : (r : Reached) → Visited (0 + records_in t) (records_in (behind says t)) r → chunk_visits (chunk_reached says P c (behind says t) r) ≤ records_in t
        go (Err e) h = omega arith
        go (Ok x) i =
            let z = size_at says x.page.0 x.end in
            let le : x.visits ≤ records_in t = omega arith in
            file_cases (says x.page.0) x.page.0 x.visits (λ f. chunk_visits (chunk_file says P c z x.met (behind says t) f) ≤ records_in t)
            (λ r. le)
            (by_test (leb z (base_of P c)) _ (λ w. rw w le) (λ w. rw w (copy (shown_of P c z) x.page.0 x.visits x.met i)))
