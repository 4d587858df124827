-- The newest of the copies that a walk meets are those that the lookups of the chunks answer. Both go by the chain from its end: a copy that is met
-- is found for its own chunk, before any older one, and for no other.
use Prim.Native.Nat.{ℕ, zero, suc, ◌≤◌, ◌<◌}
use Rattle.std.specs.Prelude.{Option, Err}
use mathlib.Core.Bool.{Bool, true, false, ◌&&◌}
use mathlib.Core.List.{List, [], ◌∷◌, ◌++◌}
use mathlib.Core.Path.{◌≡◌, refl, sym, ap, ap₂, ◌∙◌}
use native.Mathlib.Omega.{arith}
use lib.Dec.{eqb, ltb}
use lib.ListN.{length, length-append}
use borrow.Author.Tests.{eqb-true, eqb-false, eq-eqb, ltb-true, ltb-false, lt-ltb, le-ltb, not-true}
use Rattle.page.specs.declared.record.Record.{Record}
use Rattle.page.specs.declared.record.Record.TheVariants as said
use Rattle.page.specs.declared.refusal.Refusal.TheVariants.{IndexDamaged}
use Rattle.page.proofs.Layouts.{and_left, and_right}
use Rattle.page.proofs.Searching.{by_test}
use Rattle.chunk.specs.Records.{chunk_of, is_copy, base_of}
use Rattle.chunk.specs.Cuts.{hides}
use Rattle.chunk.specs.Lookups.{shown_of, valid_of}
use Rattle.chunk.specs.Looked.{Looked}
use Rattle.chunk.specs.Looked as looked
use Rattle.chunk.proofs.Records.{copy_chunk}
use Rattle.index.specs.Chains.{Trace, clean, broken, rec}
use Rattle.index.specs.Walks.{is_shown, cut_by}
use Rattle.index.specs.Ahead.{unvisited, still_newest, ahead}
use Rattle.index.proofs.Walk.Ahead.{ahead_end, ahead_broken, ahead_here, ahead_on}
use Rattle.index.proofs.Sorted.Order.{never}
use Rattle.file.specs.Shows.{is_met}
use Rattle.index.specs.Recorded.{is_broken}
use Rattle.file.specs.Copies.{copy_in, is_refused, copies_to, any_refused, met}
use Rattle.file.specs.declared.copy.Copy.{Copy}
use Rattle.file.proofs.IsMet.{met_in_lem, is_met_lem}
use Rattle.file.proofs.Newest.{EveryCopy, over, over_none, over_behind, over_same, over_before, newest_of}

-- x over two lists, of which it belongs to the first, or to the second
over_least : (x : Copy) (L : List Copy) → EveryCopy (λ y. x.chunk < y.chunk) L → over x L ≡ x ∷ L
over_least x [] e = over_none x
over_least x (y ∷ L) e = over_before x y L e.0

over_front : (x : Copy) (L M : List Copy) → EveryCopy (λ y. x.chunk < y.chunk) M → over x (L ++ M) ≡ over x L ++ M
over_front x [] M e = over_least x M e ∙ ap (λ (r : List Copy). r ++ M) (sym (over_none x))
over_front x (y ∷ L) M e =
    by_test (ltb y.chunk x.chunk) _
    (λ t.
    let h : y.chunk < x.chunk = ltb-true _ _ t in
    over_behind x y (L ++ M) h ∙ ap (λ (r : List Copy). y ∷ r) (over_front x L M e) ∙ ap (λ (r : List Copy). r ++ M) (sym (over_behind x y L h)))
    (λ t.
    by_test (eqb y.chunk x.chunk) _
    (λ u.
    let h : y.chunk ≡ x.chunk = eqb-true _ _ u in
    over_same x y (L ++ M) h ∙ ap (λ (r : List Copy). r ++ M) (sym (over_same x y L h)))
    (λ u.
    let le : x.chunk ≤ y.chunk = ltb-false _ _ t in
    let z : y.chunk ≡ x.chunk → ⊥ = eqb-false _ _ u in
    let h : x.chunk < y.chunk = omega arith in
    over_before x y (L ++ M) h ∙ ap (λ (r : List Copy). r ++ M) (sym (over_before x y L h))))

over_back : (x : Copy) (L M : List Copy) → EveryCopy (λ y. y.chunk < x.chunk) L → over x (L ++ M) ≡ L ++ over x M
over_back x [] M e = refl
over_back x (y ∷ L) M e = over_behind x y (L ++ M) e.0 ∙ ap (λ (r : List Copy). y ∷ r) (over_back x L M e.1)

-- the copy of a chunk, if there is one
in_chunk : (P : ℕ → Type 0) (c : ℕ) (l : Looked) → P c → EveryCopy (λ y. P y.chunk) (copy_in c l)
in_chunk P c (looked.Copy p a s v) h = (h, tt)
in_chunk P c (looked.Hole s v) h = tt
in_chunk P c (Err e) h = tt

over_own : (x : Copy) (c : ℕ) (l : Looked) → c ≡ x.chunk → over x (copy_in c l) ≡ x ∷ []
over_own x c (looked.Copy p a s v) e = over_same x _ [] e
over_own x c (looked.Hole s v) e = over_none x
over_own x c (Err f) e = over_none x

in_few : (c : ℕ) (l : Looked) → length (copy_in c l) ≤ 1
in_few c (looked.Copy p a s v) = omega arith
in_few c (looked.Hole s v) = omega arith
in_few c (Err e) = omega arith

every_append : (P : Copy → Type 0) (L M : List Copy) → EveryCopy P L → EveryCopy P M → EveryCopy P (L ++ M)
every_append P [] M e f = f
every_append P (x ∷ L) M e f = (e.0, every_append P L M e.1 f)

every_weaker : (P Q : Copy → Type 0) → ((x : Copy) → P x → Q x) → (L : List Copy) → EveryCopy P L → EveryCopy Q L
every_weaker P Q f [] e = tt
every_weaker P Q f (x ∷ L) e = (f x e.0, every_weaker P Q f L e.1)

-- the copies of chunks 1 to m
copies_below : (look : ℕ → Looked) (m : ℕ) → EveryCopy (λ y. y.chunk < suc m) (copies_to look m)
unfolding copies_to
copies_below look zero = tt
copies_below look (suc m) =
    every_append _ (copies_to look m) (copy_in (suc m) (look (suc m)))
    (every_weaker (λ y. y.chunk < suc m) (λ y. y.chunk < suc (suc m)) (λ y h. omega arith) (copies_to look m) (copies_below look m))
    (in_chunk (λ c. c < suc (suc m)) (suc m) (look (suc m)) (omega arith))

pub copies_most : (look : ℕ → Looked) (m : ℕ) → length (copies_to look m) ≤ m
unfolding copies_to
copies_most look zero = omega arith
copies_most look (suc m) =
    omega (arith, length-append (copies_to look m) (copy_in (suc m) (look (suc m))), copies_most look m, in_few (suc m) (look (suc m)))

pub copies_none : (look : ℕ → Looked) (m : ℕ) → ((c : ℕ) → copy_in c (look c) ≡ []) → copies_to look m ≡ []
unfolding copies_to
copies_none look zero h = refl
copies_none look (suc m) h = rw (copies_none look m h, h (suc m))

module _ (a b : ℕ → Looked) where
  pub copies_same : (m : ℕ) → ((c : ℕ) → 0 < c → c ≤ m → copy_in c (a c) ≡ copy_in c (b c)) → copies_to a m ≡ copies_to b m
  unfolding copies_to
  copies_same zero h = refl
  copies_same (suc m) h = rw (copies_same m (λ c i j. h c i (omega arith)), h (suc m) (omega arith) (omega arith))

  -- where the lookups differ at one chunk alone, and that has a copy
  copies_over :
      (x : Copy) (m : ℕ) → 0 < x.chunk → x.chunk ≤ m → copy_in x.chunk (a x.chunk) ≡ x ∷ [] →
      ((c : ℕ) → 0 < c → c ≤ m → (c ≡ x.chunk → ⊥) → copy_in c (a c) ≡ copy_in c (b c)) →
      copies_to a m ≡ over x (copies_to b m)
  unfolding copies_to
  copies_over x zero h i e f = absurd (omega arith)
  copies_over x (suc m) h i e f =
      by_test (eqb x.chunk (suc m)) _
      (λ t.
      let q : x.chunk ≡ suc m = eqb-true _ _ t in
      let one : copy_in (suc m) (a (suc m)) ≡ x ∷ [] = sym (ap (λ (c : ℕ). copy_in c (a c)) q) ∙ e in
      let before : copies_to a m ≡ copies_to b m = copies_same m (λ c j k. f c j (omega arith) (λ z. absurd (omega arith))) in
      ap₂ {C = List Copy} (λ r s. r ++ s) before one
      ∙ ap (λ (r : List Copy). copies_to b m ++ r) (sym (over_own x (suc m) (b (suc m)) (sym q)))
      ∙ sym (over_back x (copies_to b m) (copy_in (suc m) (b (suc m))) (rw q (copies_below b m))))
      (λ t.
      let z : x.chunk ≡ suc m → ⊥ = eqb-false _ _ t in
      ap₂ {C = List Copy} (λ r s. r ++ s) (copies_over x m h (omega arith) e (λ c j k. f c j (omega arith))) (f (suc m) (omega arith) (omega arith) (λ k. z (sym k)))
      ∙ sym (over_front x (copies_to b m) (copy_in (suc m) (b (suc m))) (in_chunk (λ c. x.chunk < c) (suc m) (b (suc m)) (omega arith))))

-- whether a lookup is refused, where none is, and where all are that find no copy
pub refused_none : (look : ℕ → Looked) (m : ℕ) → ((c : ℕ) → 0 < c → c ≤ m → is_refused (look c) ≡ false) → any_refused look m ≡ false
unfolding any_refused
refused_none look zero h = refl
refused_none look (suc m) h = rw (h (suc m) (omega arith) (omega arith)) (refused_none look m (λ c i j. h c i (omega arith)))

refused_missing : (look : ℕ → Looked) (m : ℕ) → ((c : ℕ) → is_refused (look c) ≡ eqb (length (copy_in c (look c))) 0) → any_refused look m ≡ ltb (length (copies_to look m)) m
unfolding any_refused copies_to
refused_missing look zero h = refl
refused_missing look (suc m) h =
    let L = copies_to look m ++ copy_in (suc m) (look (suc m)) in
    let l = length-append (copies_to look m) (copy_in (suc m) (look (suc m))) in
    by_test (is_refused (look (suc m))) _
    (λ t.
    let z : length (copy_in (suc m) (look (suc m))) ≡ 0 = eqb-true _ _ (sym (h (suc m)) ∙ t) in
    rw t (sym (lt-ltb (length L) (suc m) (omega (arith, copies_most look m)))))
    (λ t.
    let z : length (copy_in (suc m) (look (suc m))) ≡ 0 → ⊥ = eqb-false _ _ (sym (h (suc m)) ∙ t) in
    let few = in_few (suc m) (look (suc m)) in
    rw t
    (refused_missing look m h
    ∙ by_test (ltb (length (copies_to look m)) m) _
    (λ u. let k : length (copies_to look m) < m = ltb-true _ _ u in rw u (sym (lt-ltb (length L) (suc m) (omega arith))))
    (λ u. let k : m ≤ length (copies_to look m) = ltb-false _ _ u in rw u (sym (le-ltb (length L) (suc m) (omega arith))))))

pub refused_same : (a b : ℕ → Looked) (m : ℕ) → ((c : ℕ) → 0 < c → c ≤ m → is_refused (a c) ≡ is_refused (b c)) → any_refused a m ≡ any_refused b m
unfolding any_refused
refused_same a b zero h = refl
refused_same a b (suc m) h = rw (h (suc m) (omega arith) (omega arith), refused_same a b m (λ c i j. h c i (omega arith)))

-- the records visited make no difference
pub copy_unvisited : (c : ℕ) (l : Looked) → copy_in c (unvisited l) ≡ copy_in c l
copy_unvisited c (looked.Copy p a s v) = refl
copy_unvisited c (looked.Hole s v) = refl
copy_unvisited c (Err e) = refl

pub refused_unvisited : (l : Looked) → is_refused (unvisited l) ≡ is_refused l
refused_unvisited (looked.Copy p a s v) = refl
refused_unvisited (looked.Hole s v) = refl
refused_unvisited (Err e) = refl

-- a copy is one of its own chunk alone
own_copy : (k : Record) → 0 < chunk_of k → is_copy (chunk_of k) k ≡ true
own_copy said.Other h = absurd (omega arith)
own_copy (said.Header x) h = absurd (omega arith)
own_copy (said.Data d) h = eq-eqb d.chunk.0 d.chunk.0 refl

module _ (says : ℕ → Record) (P m size : ℕ) where
  -- what lies ahead for each chunk
  abbrev pub ahead_of : (newest : Bool) → Option ℕ → Trace → ℕ → Looked
  ahead_of newest cut t c = ahead says P c (shown_of P c size) newest cut t

  module _ (newest : Bool) (cut : (Option ℕ)) (q : ℕ) (t : Trace) where
    abbrev chunk : ℕ
    chunk = chunk_of (says q)

    abbrev rest : ℕ → Looked
    rest = ahead_of (still_newest says newest q) (cut_by says newest q cut) t

    -- a chunk that the page is not shown for
    past : (c : ℕ) → is_shown says P c cut q ≡ false → copy_in c (ahead_of newest cut (rec q t) c) ≡ copy_in c (rest c)
    past c h = ap (copy_in c) (ahead_on says P c (shown_of P c size) newest cut (rec q t) q t refl h)

    other : (c : ℕ) → (c ≡ chunk → ⊥) → is_shown says P c cut q ≡ false
    other c h =
        by_test (is_shown says P c cut q) _
        (λ s. absurd (h (sym (copy_chunk c (says q) (and_left (is_copy c (says q)) _ s)))))
        (λ s. s)

    abbrev one : Copy
    one = record { chunk = chunk; page = q; valid = valid_of P chunk (says q) (shown_of P chunk size) cut }

    -- a page that is met is found for its chunk, before the rest
    met-over : is_met P m cut chunk ≡ true → copies_to (ahead_of newest cut (rec q t)) m ≡ over one (copies_to rest m)
    met-over h =
        let i = met_in_lem P m cut chunk h in
        let shown : is_shown says P chunk cut q ≡ true = rw (own_copy (says q) i.0, i.2) refl in
        copies_over (ahead_of newest cut (rec q t)) rest one m i.0 i.1
        (ap (copy_in chunk) (ahead_here says P chunk (shown_of P chunk size) newest cut (rec q t) q t refl shown))
        (λ c j k z. past c (other c z))

    -- and another is found for none
    met-past : is_met P m cut chunk ≡ false → copies_to (ahead_of newest cut (rec q t)) m ≡ copies_to rest m
    met-past h =
        copies_same (ahead_of newest cut (rec q t)) rest m
        (λ c i j.
        past c
        (by_test (is_shown says P c cut q) _
        (λ s.
        let e : chunk ≡ c = copy_chunk c (says q) (and_left (is_copy c (says q)) _ s) in
        let b : hides cut (base_of P c) ≡ false = not-true _ (and_right (is_copy c (says q)) _ s) in
        never (sym (rw e at h) ∙ is_met_lem P m cut c i j b))
        (λ s. s)))

  pub met_shown : (t : Trace) (newest : Bool) (cut : (Option ℕ)) → newest_of (met says P m size newest cut t) ≡ copies_to (ahead_of newest cut t) m
  unfolding met newest_of
  met_shown clean newest cut = sym (copies_none _ m (λ c. ap (copy_in c) (ahead_end says P c (shown_of P c size) newest cut clean refl)))
  met_shown broken newest cut = sym (copies_none _ m (λ c. ap (copy_in c) (ahead_broken says P c (shown_of P c size) newest cut broken refl)))
  met_shown (rec q t) newest cut =
      let on = met_shown t (still_newest says newest q) (cut_by says newest q cut) in
      by_test (is_met P m cut (chunk_of (says q))) _
      (λ h. rw h (ap (over (one newest cut q t)) on ∙ sym (met-over newest cut q t h)))
      (λ h. rw h (on ∙ sym (met-past newest cut q t h)))

  -- every copy that is met has a chunk number
  pub met_some : (t : Trace) (newest : Bool) (cut : (Option ℕ)) → EveryCopy (λ y. 0 < y.chunk) (met says P m size newest cut t)
  unfolding met
  met_some clean newest cut = tt
  met_some broken newest cut = tt
  met_some (rec q t) newest cut =
      let on = met_some t (still_newest says newest q) (cut_by says newest q cut) in
      by_test (is_met P m cut (chunk_of (says q))) _
      (λ h. rw h ((met_in_lem P m cut (chunk_of (says q)) h).0, on))
      (λ h. rw h on)

  -- a lookup is refused where a damaged link comes before a copy
  none_refused : (c : ℕ) (t : Trace) (newest : Bool) (cut : (Option ℕ)) → is_broken t ≡ false → is_refused (ahead_of newest cut t c) ≡ false
  unfolding is_broken ahead
  none_refused c clean newest cut e = refl
  none_refused c broken newest cut e = e
  none_refused c (rec q t) newest cut e =
      by_test (is_shown says P c cut q) _ (λ h. rw h refl) (λ h. rw h (none_refused c t (still_newest says newest q) (cut_by says newest q cut) e))

  all_refused :
      (c : ℕ) (t : Trace) (newest : Bool) (cut : (Option ℕ)) → is_broken t ≡ true →
      is_refused (ahead_of newest cut t c) ≡ eqb (length (copy_in c (ahead_of newest cut t c))) 0
  unfolding is_broken ahead
  all_refused c clean newest cut e = never e
  all_refused c broken newest cut e = refl
  all_refused c (rec q t) newest cut e =
      by_test (is_shown says P c cut q) _ (λ h. rw h refl) (λ h. rw h (all_refused c t (still_newest says newest q) (cut_by says newest q cut) e))

  -- and for no other reason
  pub ahead_damaged : (c : ℕ) (t : Trace) (newest : Bool) (cut : (Option ℕ)) → is_refused (ahead_of newest cut t c) ≡ true → ahead_of newest cut t c ≡ looked.Refused IndexDamaged 0 0
  unfolding ahead
  ahead_damaged c clean newest cut e = never e
  ahead_damaged c broken newest cut e = refl
  ahead_damaged c (rec q t) newest cut e =
      by_test (is_shown says P c cut q) _
      (λ h. never (rw h at e))
      (λ h. rw h (ahead_damaged c t (still_newest says newest q) (cut_by says newest q cut) (rw h at e)))

  pub ahead_refused :
      (t : Trace) (newest : Bool) (cut : (Option ℕ)) →
      any_refused (ahead_of newest cut t) m ≡ is_broken t && ltb (length (copies_to (ahead_of newest cut t) m)) m
  ahead_refused t newest cut =
      by_test (is_broken t) _
      (λ b. rw b (refused_missing (ahead_of newest cut t) m (λ c. all_refused c t newest cut b)))
      (λ b. rw b (refused_none (ahead_of newest cut t) m (λ c i j. none_refused c t newest cut b)))
