-- Walks down a chain. Down to the newest header, a walk goes through the list of the records above it; below that, through the list of the
-- records above the copy, which is hidden or not by the lowest cut of the headers there.
use Prim.Native.Nat.{ℕ, suc, ◌+◌, ◌<◌, max}
use Rattle.std.specs.Prelude.{Option, Some, None}
use Rattle.page.specs.declared.number.PageNumber.{PageNumber}
use mathlib.Core.Bool.{Bool, true, false}
use mathlib.Core.List.{List, [], ◌∷◌, ◌++◌}
use mathlib.Core.Logic.{inl, inr}
use mathlib.Core.Path.{◌≡◌, refl, sym, ap, ◌∙◌}
use native.Mathlib.Omega.{arith}
use lib.ListN.{length}
use Rattle.page.specs.Choice.{pick}
use Rattle.page.specs.Records.{is_header, is_data}
use Rattle.page.proofs.Searching.{clash, by_test}
use Rattle.page.specs.declared.record.Record.{Record}
use Rattle.page.specs.declared.record.Record.TheVariants.{Other, Header, Data}
use Rattle.chunk.specs.Records.{object_of, is_copy, base_of}
use Rattle.chunk.specs.Cuts.{cut_of, hides}
use Rattle.chunk.specs.Sizes.{end_of}
use Rattle.chunk.specs.Looked.{Looked}
use Rattle.chunk.specs.Looked as looked
use Rattle.chunk.proofs.Cuts.{lower_still}
use Rattle.index.specs.Held.{from_list}
use Rattle.index.specs.Walks.{headless, behind, cut_by, met_with, reach, found, seek}
use Rattle.index.specs.Reached as reached
use Rattle.index.proofs.Sorted.Steps.{through, through_at, through_idle}
use Rattle.index.proofs.Sorted.Parting.{Fails}

-- a record that is no header is data
module _ (o : ℕ) (pos : 0 < o) where
  no_record : {A : Type 0} → 0 ≡ o → A
  no_record e = absurd (omega arith)

  pub other_data : (k : Record) → object_of k ≡ o → is_header k ≡ false → is_data k ≡ true
  other_data Other e f = no_record e
  other_data (Header h) e f = sym f
  other_data (Data d) e f = refl

-- a header is no copy
pub no_copy_lem : (c : ℕ) (k : Record) → is_header k ≡ true → is_copy c k ≡ false
no_copy_lem c Other e = refl
no_copy_lem c (Header h) e = refl
no_copy_lem c (Data d) e = clash (cc)

module _ (says : ℕ → Record) where
  abbrev pub headed : ℕ → Bool
  headed q = is_header (says q)

  pub behind_at : (A : List ℕ) (h : ℕ) (B : List ℕ) → Fails headed A → headed h ≡ true → behind says (from_list (A ++ (h ∷ B))) ≡ from_list B
  unfolding behind from_list
  behind_at [] h B f e = rw e
  behind_at (q ∷ A) h B f e = rw (f q (inl refl)) (behind_at A h B (λ x i. f x (inr i)) e)

  -- a header only lowers the cut: what is hidden stays so
  cut_still : (b : Bool) (q : ℕ) (cut : (Option ℕ)) (place : ℕ) → hides cut place ≡ true → hides (cut_by says b q cut) place ≡ true
  cut_still b q cut place h = by_test (is_header (says q)) _ (λ t. rw t (lower_still place (cut_of b (says q)) cut h)) (λ t. rw t h)

  -- the largest end, with page q too
  abbrev pub end_by : ℕ → ℕ → ℕ → ℕ
  end_by P q end = max (end_of P (says q)) end

  module _ (P c : ℕ) where
    pub reach_none :
        (L : List ℕ) (end : ℕ) (m : (Option PageNumber)) (v : ℕ) → Fails headed L → reach says P c end m v (from_list L) ≡ headless (v + length L)
    unfolding reach from_list
    reach_none [] end m v f = let e : v + 0 ≡ v = omega arith in rw e
    reach_none (q ∷ L) end m v f =
        let e : v + 1 + length L ≡ v + suc (length L) = omega arith in
        rw (f q (inl refl), ← e) (reach_none L (end_by P q end) (met_with says P c q m) (v + 1) (λ x i. f x (inr i)))

    pub reach_at :
        (A : List ℕ) (h : ℕ) (B : List ℕ) (end : ℕ) (m : (Option PageNumber)) (v : ℕ) →
        Fails headed A →
        headed h ≡ true →
        reach says P c end m v (from_list (A ++ (h ∷ B)))
        ≡ reached.Header (record { 0 = h }) (through (end_by P) end A) (through (met_with says P c) m A) (v + (length A + 1))
    unfolding reach from_list through
    reach_at [] h B end m v f e = rw e
    reach_at (q ∷ A) h B end m v f e =
        rw (f q (inl refl))
        (reach_at A h B (end_by P q end) (met_with says P c q m) (v + 1) (λ x i. f x (inr i)) e
        ∙ ap (reached.Header (record { 0 = h }) (through (end_by P) (end_by P q end) A) (through (met_with says P c) (met_with says P c q m) A)) (omega arith))

    -- whether page q is data of chunk number c
    abbrev pub copied : ℕ → Bool
    copied q = is_copy c (says q)

    -- the first copy of a list
    pub met_none : (L : List ℕ) → Fails copied L → through (met_with says P c) None L ≡ None
    met_none L f = through_idle (met_with says P c) L None (λ q i. rw (f q i))

    pub met_at_lem :
        (A : List ℕ) (q : ℕ) (B : List ℕ) → Fails copied A → copied q ≡ true → through (met_with says P c) None (A ++ (q ∷ B)) ≡ Some (record { 0 = q })
    met_at_lem A q B f e =
        through_at (met_with says P c) A None q B
        ∙ rw (met_none A f, e) (through_idle (met_with says P c) B (Some (record { 0 = q })) (λ x i. refl))

    module _ (shown : ℕ) where
      abbrev hole : ℕ → Looked
      hole v = looked.Hole shown v

      pub seek_none : (L : List ℕ) (cut : (Option ℕ)) (v : ℕ) → Fails copied L → seek says P c shown cut v (from_list L) ≡ hole (v + length L)
      unfolding seek from_list
      seek_none [] cut v f = ap hole (omega arith)
      seek_none (q ∷ L) cut v f =
          rw (f q (inl refl)) (seek_none L (cut_by says false q cut) (v + 1) (λ x i. f x (inr i)) ∙ ap hole (omega arith))

      -- behind a cut that hides the chunk no copy is shown
      seek-hidden : (L : List ℕ) (cut : (Option ℕ)) (v : ℕ) → hides cut (base_of P c) ≡ true → seek says P c shown cut v (from_list L) ≡ hole (v + length L)
      unfolding seek from_list
      seek-hidden [] cut v h = ap hole (omega arith)
      seek-hidden (q ∷ L) cut v h =
          let k = cut_still false q cut (base_of P c) h in
          let e : v + 1 + length L ≡ v + suc (length L) = omega arith in
          let on = seek-hidden L (cut_by says false q cut) (v + 1) k ∙ ap hole e in
          rw h (by_test (copied q) _ (λ t. rw t on) (λ t. rw t on))

      -- the first copy, which is hidden or not
      pub seek_at :
          (A : List ℕ) (q : ℕ) (B : List ℕ) (cut : (Option ℕ)) (v : ℕ) →
          Fails copied A →
          copied q ≡ true →
          seek says P c shown cut v (from_list (A ++ (q ∷ B)))
          ≡ pick (hides (through (cut_by says false) cut A) (base_of P c)) (hole (v + (length A + 1 + length B)))
          (found says P c shown (through (cut_by says false) cut A) q (v + (length A + 1)))
      unfolding seek from_list through
      seek_at [] q B cut v f e =
          by_test (hides cut (base_of P c)) _
          (λ t.
          rw (e, t)
          (seek-hidden B (cut_by says false q cut) (v + 1) (cut_still false q cut (base_of P c) t) ∙ ap hole (omega arith)))
          (λ t. rw (e, t))
      seek_at (p ∷ A) q B cut v f e =
          let w : v + 1 + (length A + 1) ≡ v + (suc (length A) + 1) = omega arith in
          let u : v + 1 + (length A + 1 + length B) ≡ v + (suc (length A) + 1 + length B) = omega arith in
          rw (f p (inl refl)) (rw (← w, ← u) (seek_at A q B (cut_by says false p cut) (v + 1) (λ x i. f x (inr i)) e))
