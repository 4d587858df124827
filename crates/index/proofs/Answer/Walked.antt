-- A walk down an object's added records answers what the rules of document 01 answer, where pages not added read as blank. The list of these
-- records is parted at its newest header, and then at the first copy of the chunk, above that header or below it. In each case the walk comes
-- out as stated in Walks, the rules as stated in Rules, and both are the same.
use Prim.Native.Nat.{ℕ, ◌+◌, ◌≤◌, ◌<◌, min}
use Rattle.std.specs.Prelude.{Option, None}
use Rattle.page.specs.declared.number.PageNumber.{PageNumber}
use mathlib.Core.Bool.{Bool, true, false}
use mathlib.Core.List.{List, ◌∷◌, ◌++◌, append_assoc}
use mathlib.Core.Path.{◌≡◌, refl, sym, ap, ◌∙◌}
use native.Mathlib.Nat.{le_refl}
use native.Mathlib.Omega.{arith}
use lib.ListN.{length, length-append}
use lib.Dec.{eqb, leb}
use borrow.Author.Tests.{leb-true, leb-false, ne_eqb, eq-eqb}
use Rattle.page.specs.Choice.{pick}
use Rattle.page.specs.Records.{is_header}
use Rattle.page.proofs.Searching.{by_test}
use Rattle.page.specs.declared.record.Record.{Record}
use Rattle.page.specs.declared.refusal.Refusal.TheVariants.{NoObject, NoHeader}
use Rattle.chunk.specs.Records.{age_of, is_copy, base_of}
use Rattle.chunk.specs.Newest.{newest_copy, since, records}
use Rattle.chunk.specs.Cuts.{lowest_cut, hides}
use Rattle.chunk.specs.Sizes.{size_of}
use Rattle.chunk.specs.Lookups.{file_at, file_of, sized_by, copy_by, looked_by, shown_of}
use Rattle.chunk.specs.File as file
use Rattle.chunk.proofs.Cases.{file_cases, file_headless, file_headed, size_larger, sized_refused, sized_file, copy_missing, copy_hidden, copy_shown, looked_refused, looked_past, looked_inside}
use Rattle.sort.specs.Ascending.{In}
use Rattle.index.specs.Chains.{objects, top}
use Rattle.index.specs.Held.{seen, recs, from_list}
use Rattle.index.specs.Walks.{seen_says, records_in, size_visits, chunk_visits, size_file, size_at, size_reached, cut_by, met_with, reach, copy_from, chunk_file, chunk_reached, chunk_walk, size_walk}
use Rattle.index.specs.Reached as reached
use Rattle.index.proofs.Sorted.Records.{recs_of, recs_same}
use Rattle.index.proofs.Sorted.Steps.{through, through_at, through_idle, through_same}
use Rattle.index.proofs.Sorted.Parting.{Fails, Parted, all, at, parted, fails_at, in_at, in_above, falls_same, recs_falls}
use Rattle.index.proofs.Walk.Walks.{no_copy_lem, headed, copied, end_by, behind_at, reach_none, reach_at, met_none, met_at_lem, seek_none, seek_at}
use Rattle.index.proofs.Walk.Visits.{length_list, size_visits_lem, chunk_visits_lem}
use Rattle.index.proofs.Sorted.Rules.{Listed, listed, newest_none, newest_at, all_counted, since_at, end_at, cut_at, above, below}

module _ (says S : ℕ → Record) (o n b P : ℕ) (pos : 0 < o) where
  -- no header in the list
  file_none : (L : List ℕ) → Listed says S o n b L → Fails (headed says) L → file_of S o n ≡ pick (eqb (length L) 0) (file.Refused NoObject 0) (file.Refused NoHeader (length L))
  file_none L l f = rw (file_headless S o n (newest_none says S o n b L l is_header f), all_counted says S o n b L l)

  -- the newest header is h
  module _ (A : List ℕ) (h : ℕ) (B : List ℕ) (l : Listed says S o n b (A ++ (h ∷ B))) (f : Fails (headed says) A) (e : headed says h ≡ true) where
    some-records : records S o n ≡ length A + 1 + length B
    some-records = all_counted says S o n b (A ++ (h ∷ B)) l ∙ length-append A (h ∷ B) ∙ omega arith

    file-at : file_of S o n ≡ file_at (says h) h (length A + 1)
    file-at =
        rw (
          file_headed S o n h (λ z. absurd (omega (arith, some-records))) (newest_at says S o n b A h B l is_header f e),
          since_at says S o n b A h B l,
          l.same h (in_at A h B),
        )

    size-at : size_of S P o h n ≡ size_at says h (through (end_by says P) 0 A)
    size-at = rw (size_larger S o n P h, end_at says S o n b A h B l P pos f, l.same h (in_at A h B))

    sized-at : (k : Record) (v : ℕ) → size_file (size_of S P o h n) (file_at k h v) ≡ sized_by S o n P (file_at k h v)
    sized-at k v =
        file_cases k h v (λ f. size_file (size_of S P o h n) f ≡ sized_by S o n P f)
        (λ r. sym (sized_refused S o n P r v))
        (sym (sized_file S o n P (record { 0 = h }) v))

    reached-at :
        (c : ℕ) →
        reach says P c 0 None 0 (from_list (A ++ (h ∷ B)))
        ≡ reached.Header (record { 0 = h }) (through (end_by says P) 0 A) (through (met_with says P c) None A) (length A + 1)
    reached-at c = let z : 0 + (length A + 1) ≡ length A + 1 = omega arith in rw (← z) (reach_at says P c A h B 0 None 0 f e)

    size-walk-at : size_walk says P (from_list (A ++ (h ∷ B))) ≡ sized_by S o n P (file_of S o n)
    unfolding size_walk size_reached
    size-walk-at = rw (reached-at 0, file-at, ← size-at) (sized-at (says h) (length A + 1))

    -- refusals that leave a live file or none
    chunk-at :
        (c : ℕ) (m : (Option PageNumber)) (k : Record) (v : ℕ) →
        copy_from says P c h (shown_of P c (size_of S P o h n)) v (from_list B) m ≡ copy_by S o n P c h (shown_of P c (size_of S P o h n)) (newest_copy S o c n) →
        chunk_file says P c (size_of S P o h n) m (from_list B) (file_at k h v) ≡ looked_by S o n P c (file_at k h v)
    unfolding chunk_file
    chunk-at c m k v g =
        file_cases k h v (λ f. chunk_file says P c (size_of S P o h n) m (from_list B) f ≡ looked_by S o n P c f)
        (λ r. sym (looked_refused S o n P c r v))
        (by_test (leb (size_of S P o h n) (base_of P c)) _
        (λ t. rw t (sym (looked_past S o n P c (record { 0 = h }) v (leb-true _ _ t))))
        (λ t. rw t (g ∙ sym (looked_inside S o n P c (record { 0 = h }) v (leb-false _ _ t)))))

    chunk-walk-at :
        (c : ℕ) →
        copy_from says P c h (shown_of P c (size_of S P o h n)) (length A + 1) (from_list B) (through (met_with says P c) None A)
        ≡ copy_by S o n P c h (shown_of P c (size_of S P o h n)) (newest_copy S o c n) →
        chunk_walk says P c (from_list (A ++ (h ∷ B))) ≡ looked_by S o n P c (file_of S o n)
    unfolding chunk_walk chunk_reached
    chunk-walk-at c g =
        rw (reached-at c, behind_at says A h B f e, file-at, ← size-at) (chunk-at c (through (met_with says P c) None A) (says h) (length A + 1) g)

  pub size_parted : (L : List ℕ) → Parted (headed says) L → Listed says S o n b L → size_walk says P (from_list L) ≡ sized_by S o n P (file_of S o n)
  unfolding size_walk size_reached
  size_parted L (all f) l =
      let z : 0 + length L ≡ length L = omega arith in
      rw (reach_none says P 0 L 0 None 0 f, file_none L l f, z)
      (by_test (eqb (length L) 0) _ (λ t. rw (t, sized_refused)) (λ t. rw (t, sized_refused)))
  size_parted L (at A h B f e) l = size-walk-at A h B l f e

  module _ (c : ℕ) (shown : ℕ) where
    -- headers cut as they are the newest or not
    abbrev cutAs : (h x : ℕ) → Option ℕ → Option ℕ
    cutAs h x cut = cut_by says (eqb x h) x cut

    no_cut : (h : ℕ) (A : List ℕ) → Fails (headed says) A → through (cutAs h) None A ≡ None
    no_cut h A f = through_idle (cutAs h) A None (λ x i. rw (f x i))

    abbrev Same : List ℕ → ℕ → List ℕ → Type 0
    Same A h B =
        copy_from says P c h shown (length A + 1) (from_list B) (through (met_with says P c) None A) ≡ copy_by S o n P c h shown (newest_copy S o c n)

    -- no copy in the list
    copy_none :
        (A : List ℕ) (h : ℕ) (B : List ℕ) →
        Listed says S o n b (A ++ (h ∷ B)) →
        Fails (headed says) A →
        headed says h ≡ true →
        Fails (copied says P c) A →
        Fails (copied says P c) B →
        Same A h B
    unfolding copy_from
    copy_none A h B l f e fa fb =
        rw (
          met_none says P c A fa,
          newest_none says S o n b (A ++ (h ∷ B)) l (is_copy c) (fails_at (copied says P c) A h B fa (no_copy_lem c (says h) e) fb),
          copy_missing S o n P c h shown,
          some-records A h B l f e,
        )
        (seek_none says P c shown B (cut_by says true h None) (length A + 1) fb)

    -- the copy is above the header
    copy-above :
        (A : List ℕ) (q : ℕ) (A' : List ℕ) (h : ℕ) (B : List ℕ) →
        Listed says S o n b ((A ++ (q ∷ A')) ++ (h ∷ B)) →
        Fails (headed says) (A ++ (q ∷ A')) →
        Fails (copied says P c) A →
        copied says P c q ≡ true →
        Same (A ++ (q ∷ A')) h B
    unfolding copy_from
    copy-above A q A' h B l f fa e =
        let l' : Listed says S o n b (A ++ (q ∷ (A' ++ (h ∷ B)))) = rw append_assoc at l in
        let d : age_of S h < age_of S q = above says S o n b (A ++ (q ∷ A')) h B l q (in_at A q A') in
        let m : min (age_of S q) (age_of S h) ≡ age_of S h = omega arith in
        let cut : lowest_cut S o h (age_of S q) n ≡ None =
        cut_at says S o n b A q (A' ++ (h ∷ B)) l' h ∙ no_cut h A (λ x i. f x (in_above A q A' x i)) in
        rw (
          met_at_lem says P c A q A' fa e,
          newest_at says S o n b A q (A' ++ (h ∷ B)) l' (is_copy c) fa e,
          copy_shown S o n P c h shown q (rw cut refl),
          cut,
          m,
          since_at says S o n b (A ++ (q ∷ A')) h B l,
          l'.same q (in_at A q (A' ++ (h ∷ B))),
        )

    -- the copy is below the header
    copy_below :
        (A : List ℕ) (h : ℕ) (B : List ℕ) (q : ℕ) (B' : List ℕ) →
        Listed says S o n b (A ++ (h ∷ (B ++ (q ∷ B')))) →
        Fails (headed says) A →
        headed says h ≡ true →
        Fails (copied says P c) A →
        Fails (copied says P c) B →
        copied says P c q ≡ true →
        Same A h (B ++ (q ∷ B'))
    unfolding copy_from
    copy_below A h B q B' l f e fa fb eq =
        let l' : Listed says S o n b ((A ++ (h ∷ B)) ++ (q ∷ B')) = rw append_assoc l in
        let d : age_of S q < age_of S h = above says S o n b (A ++ (h ∷ B)) q B' l' h (in_at A h B) in
        let m : min (age_of S q) (age_of S h) ≡ age_of S q = omega arith in
        let cut : lowest_cut S o h (age_of S q) n ≡ through (cut_by says false) (cut_by says true h None) B =
        cut_at says S o n b (A ++ (h ∷ B)) q B' l' h
        ∙ through_at (cutAs h) A None h B
        ∙ rw (no_cut h A f, eq-eqb h h refl)
        (through_same (cutAs h) (cut_by says false) B (cut_by says true h None)
        (λ x i y.
        let z = below says S o n b A h (B ++ (q ∷ B')) l x (in_above B q B' x i) in
        rw (ne_eqb x h (λ g. absurd (omega (arith, ap (age_of S) g)))))) in
        let s : since S o (age_of S q) n ≡ length A + 1 + (length B + 1) =
        since_at says S o n b (A ++ (h ∷ B)) q B' l' ∙ omega (arith, length-append A (h ∷ B)) in
        let r : records S o n ≡ length A + 1 + (length B + 1 + length B') =
        some-records A h (B ++ (q ∷ B')) l f e ∙ omega (arith, length-append B (q ∷ B')) in
        rw (
          met_none says P c A fa,
          newest_at says S o n b (A ++ (h ∷ B)) q B' l' (is_copy c) (fails_at (copied says P c) A h B fa (no_copy_lem c (says h) e) fb) eq,
          seek_at says P c shown B q B' (cut_by says true h None) (length A + 1) fb eq,
          ← cut,
        )
        (by_test (hides (lowest_cut S o h (age_of S q) n) (base_of P c)) _
        (λ t. rw (t, copy_hidden S o n P c h shown q t, r))
        (λ t. rw (t, copy_shown S o n P c h shown q t, m, s, l'.same q (in_at (A ++ (h ∷ B)) q B'))))

    copy-parted :
        (A : List ℕ) (h : ℕ) (B : List ℕ) →
        Listed says S o n b (A ++ (h ∷ B)) →
        Fails (headed says) A →
        headed says h ≡ true →
        Parted (copied says P c) A →
        Parted (copied says P c) B →
        Same A h B
    copy-parted A h B l f e (at A₁ q A₂ fa ea) d = copy-above A₁ q A₂ h B l f fa ea
    copy-parted A h B l f e (all fa) (all fb) = copy_none A h B l f e fa fb
    copy-parted A h B l f e (all fa) (at B₁ q B₂ fb eb) = copy_below A h B₁ q B₂ l f e fa fb eb

  module _ (c : ℕ) where
    chunk-parted :
        (L : List ℕ) → Parted (headed says) L → Listed says S o n b L → chunk_walk says P c (from_list L) ≡ looked_by S o n P c (file_of S o n)
    unfolding chunk_walk chunk_reached
    chunk-parted L (all f) l =
        let z : 0 + length L ≡ length L = omega arith in
        rw (reach_none says P c L 0 None 0 f, file_none L l f, z)
        (by_test (eqb (length L) 0) _ (λ t. rw (t, looked_refused)) (λ t. rw (t, looked_refused)))
    chunk-parted L (at A h B f e) l =
        chunk-walk-at A h B l f e c
        (copy-parted c (shown_of P c (size_of S P o h n)) A h B l f e (parted (copied says P c) A) (parted (copied says P c) B))

-- the added records of object o of a dump with few enough pages
module _
    (says : ℕ → Record) (n : ℕ) (few : n ≤ 4294967296)
    (old : (x : ℕ) → x < n → age_of says x < top)
    (added : ℕ → Bool) (o : ℕ) (pos : 0 < o)
  where
    abbrev S : ℕ → Record
    S = seen_says says added

    abbrev R : List ℕ
    R = recs (seen (objects says) added) (age_of says) o n

    seen-object : (x : ℕ) → objects S x ≡ seen (objects says) added x
    seen-object x = by_test (added x) _ (λ t. rw t) (λ t. rw t)

    -- a record of the list has been added
    added-same : (q : ℕ) → In q R → S q ≡ says q
    added-same q i =
        let own = (recs_of (seen (objects says) added) (age_of says) o n q i).1 in
        by_test (added q) _ (λ t. rw t) (λ t. let z : 0 ≡ o = rw t at own in absurd (omega arith))

    pub added_listed : Listed says S o n top R
    added_listed =
        let e : recs (objects S) (age_of says) o n ≡ R = recs_same (objects S) (age_of says) o (seen (objects says) added) n (λ x k. rw (seen-object x)) in
        rw e at
        (listed says S (age_of says) o n top pos few (rw e added-same)
        (rw e
        (falls_same (age_of says) (age_of S) R top (λ x i. rw (added-same x i))
        (recs_falls (seen (objects says) added) (age_of says) o n top (λ x y hx hy d. omega arith) old n (le_refl n)))))

    pub size_seen_lem : (P : ℕ) → size_walk says P (from_list R) ≡ sized_by S o n P (file_of S o n)
    size_seen_lem P = size_parted says S o n top P pos R (parted (headed says) R) added_listed

    pub chunk_seen_lem : (P c : ℕ) → chunk_walk says P c (from_list R) ≡ looked_by S o n P c (file_of S o n)
    chunk_seen_lem P c = chunk-parted says S o n top P pos c R (parted (headed says) R) added_listed

    -- and no lookup visits more records than the object's added ones
    added-count : records_in (from_list R) ≡ records S o n
    added-count = length_list R ∙ sym (all_counted says S o n top R added_listed)

    pub size_visits_seen : (P : ℕ) → size_visits (size_walk says P (from_list R)) ≤ records S o n
    size_visits_seen P = rw (← added-count) (size_visits_lem says P (from_list R))

    pub chunk_visits_seen : (P c : ℕ) → chunk_visits (chunk_walk says P c (from_list R)) ≤ records S o n
    chunk_visits_seen P c = rw (← added-count) (chunk_visits_lem says P c (from_list R))
