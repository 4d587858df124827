-- The turns of the report by words. Each takes the words of the next object from the front of one list or of both, at least one of them: so it comes to
-- an end, and what was put and what is left are the whole report all the way.
use Prim.Native.Nat.{ℕ, zero, suc, ◌+◌, ◌-◌, ◌≤◌, ◌<◌, min, zero-le}
use mathlib.Core.Bool.{false, ◌&&◌}
use mathlib.Core.List.{List, [], ◌∷◌, ◌++◌, append-nil, append_assoc}
use mathlib.Core.Logic.{⊎_elim}
use mathlib.Core.Path.{◌≡◌, refl, sym, ap, ◌∙◌}
use native.Mathlib.Nat.{add-sub_cancel_left}
use native.Mathlib.Omega.{arith}
use borrow.Author.Tests.{eq-eqb, ne_eqb, eqb-true}
use lib.Dec.{eqb}
use lib.ListN.{length, take, drop, length-drop}
use lib.Seq.{drop-drop}
use Rattle.page.specs.declared.geometry.Geometry.{Geometry}
use Rattle.page.proofs.Searching.{by_test}
use Rattle.sort.specs.Packed.{key_of}
use Rattle.text.specs.Put.{most, Put}
use Rattle.text.proofs.Order.{le_or_lt}
use Rattle.text.proofs.Putting.{nothing, also}
use Rattle.compare.specs.Lists.{run_of, next_of, next_in, sides_report, reports_to, lists_report}
use Rattle.compare.specs.declared.whole.Turn.{Turn}

-- no more words are of an object than there are
pub run_most : (o : ℕ) (L : List ℕ) → run_of o L ≤ length L
unfolding run_of
run_most o [] = zero-le
run_most o (x ∷ L) = by_test (eqb (key_of x) o) _ (λ t. rw t (omega (arith, run_most o L))) (λ t. rw t zero-le)

-- the first word is of its own object
run_first : (o x : ℕ) (L : List ℕ) → key_of x ≡ o → 0 < run_of o (x ∷ L)
unfolding run_of
run_first o x L e = rw (eq-eqb (key_of x) o e) (omega arith)

-- some word is of the object that comes next
pub next_some : (L L' : List ℕ) → 0 < length L + length L' → 0 < run_of (next_of L L') L + run_of (next_of L L') L'
next_some [] [] h = absurd (omega arith)
next_some [] (y ∷ L') h = omega (arith, run_first (key_of y) y L' refl)
next_some (x ∷ L) [] h = omega (arith, run_first (key_of x) x L refl)
next_some (x ∷ L) (y ∷ L') h =
    ⊎_elim
    (λ (l : key_of x ≤ key_of y). omega (arith, run_first (min (key_of x) (key_of y)) x L (omega arith)))
    (λ (l : key_of y < key_of x). omega (arith, run_first (min (key_of x) (key_of y)) y L' (omega arith)))
    (le_or_lt (key_of x) (key_of y))

-- two dumps
module _ (g : Geometry) (dump : List ℕ) (g' : Geometry) (dump' : List ℕ) where
  -- at the end nothing is left to report
  pub reports_none : (k : ℕ) (L C L' C' : List ℕ) → length L + length L' ≡ 0 → reports_to g dump g' dump' k L C L' C' ≡ []
  unfolding reports_to
  reports_none zero L C L' C' e = refl
  reports_none (suc k) L C L' C' e = rw (eq-eqb (length L) 0 (omega arith), eq-eqb (length L') 0 (omega arith))

  -- where a word is left, the turns go on
  some : (L L' : List ℕ) → 0 < length L + length L' → eqb (length L) 0 && eqb (length L') 0 ≡ false
  some L L' h =
      by_test (eqb (length L) 0) _
      (λ t. rw (t, ne_eqb (length L') 0 (λ e. absurd (omega (arith, eqb-true (length L) 0 t)))))
      (λ t. rw t)

  -- one turn
  pub reports_turn :
      (k : ℕ) (L C L' C' : List ℕ) → 0 < length L + length L' →
      let i = run_of (next_of L L') L in
      let j = run_of (next_of L L') L' in
      reports_to g dump g' dump' (suc k) L C L' C'
      ≡ sides_report g dump g' dump' (next_of L L') (take i L) (take i C) (take j L') (take j C')
      ++ reports_to g dump g' dump' k (drop i L) (drop i C) (drop j L') (drop j C')
  unfolding reports_to
  reports_turn k L C L' C' h = rw (some L L' h)

  -- on the way, with so much put
  module _ (L C L' C' : List ℕ) where
    pub record Underway (before : List ℕ) (at : ℕ) (after : List ℕ) (next i j : ℕ) : Type 0 where
      pub first : i ≤ length L
      pub second : j ≤ length L'
      pub done : List ℕ
      pub puts : Put done before at after next
      pub steps : ℕ
      pub enough : (length L - i) + (length L' - j) ≤ steps
      pub rest : lists_report g dump g' dump' L C L' C' ≡ done ++ reports_to g dump g' dump' steps (drop i L) (drop i C) (drop j L') (drop j C')

    -- at the begin
    pub under_start : (before : List ℕ) (at : ℕ) → length before < most → at ≤ most → Underway before at before at 0 0
    unfolding lists_report
    under_start before at h k = record {
      first = zero-le;
      second = zero-le;
      done = [];
      puts = nothing before at h k;
      steps = length L + length L';
      enough = omega arith;
      rest = refl;
    }

    module _ {before after : List ℕ} {at next i j : ℕ} (u : Underway before at after next i j) where
      abbrev o : ℕ
      o = next_of (drop i L) (drop j L')

      abbrev a : ℕ
      a = run_of o (drop i L)

      abbrev b : ℕ
      b = run_of o (drop j L')

      -- the words of this turn are there, in the first list
      pub few : i + a ≤ length L
      few = omega (arith, run_most o (drop i L), length-drop i L, u.first)

      -- and in the second
      pub few' : j + b ≤ length L'
      few' = omega (arith, run_most o (drop j L'), length-drop j L', u.second)

      -- some word is left
      left : i + j < length L + length L' → 0 < length (drop i L) + length (drop j L')
      left h = omega (arith, length-drop i L, length-drop j L', u.first, u.second)

      -- each turn takes some words
      pub onward : i + j < length L + length L' → i + j < (i + a) + (j + b)
      onward h = omega (arith, next_some (drop i L) (drop j L') (left h))

      -- one object more
      pub under_turn :
          i + j < length L + length L' → {after' : List ℕ} {next' : ℕ} →
          Put (sides_report g dump g' dump' o (take a (drop i L)) (take a (drop i C)) (take b (drop j L')) (take b (drop j C'))) after next after' next' →
          Underway before at after' next' (i + a) (j + b)
      under_turn h {after'} {next'} p = go u.steps u.enough u.rest
        where
          report : List ℕ
          report = sides_report g dump g' dump' o (take a (drop i L)) (take a (drop i C)) (take b (drop j L')) (take b (drop j C'))

          go :
              (k : ℕ) → (length L - i) + (length L' - j) ≤ k →
              lists_report g dump g' dump' L C L' C' ≡ u.done ++ reports_to g dump g' dump' k (drop i L) (drop i C) (drop j L') (drop j C') →
              Underway before at after' next' (i + a) (j + b)
          go zero e r = absurd (omega (arith, u.first, u.second))
          go (suc k) e r = record {
            first = few;
            second = few';
            done = u.done ++ report;
            puts = also u.puts p;
            steps = k;
            enough = omega (arith, onward h, few, few');
            rest =
                r
                ∙ ap (λ (x : List ℕ). u.done ++ x) (reports_turn k (drop i L) (drop i C) (drop j L') (drop j C') (left h))
                ∙ rw (drop-drop, drop-drop, drop-drop, drop-drop) (sym (append_assoc u.done report _));
          }

      -- at the end all is put
      pub under_end : length L + length L' ≤ i + j → Put (lists_report g dump g' dump' L C L' C') before at after next
      under_end h =
          let e = reports_none u.steps (drop i L) (drop i C) (drop j L') (drop j C') (omega (arith, length-drop i L, length-drop j L')) in
          rw (u.rest, e, append-nil) u.puts

      -- by what the call that looked for it answered, and the parts that were lent
      pub turn_by :
          (t : Turn) → t ≡ next_in (drop i L) (drop j L') → i + j < length L + length L' → {after' : List ℕ} {next' : ℕ} (N N' : List ℕ) →
          N ≡ take t.first (drop i C) →
          N' ≡ take t.second (drop j C') →
          Put (sides_report g dump g' dump' t.object (take ((i + t.first) - i) (drop i L)) N (take ((j + t.second) - j) (drop j L')) N') after next after' next' →
          Underway before at after' next' (i + t.first) (j + t.second)
      turn_by t e h N N' x y p =
          let p₁ = rw (x, y, add-sub_cancel_left i t.first, add-sub_cancel_left j t.second) at p in
          let p₂ = rw e at p₁ in
          rw e (under_turn h p₂)

      -- so the words of that answer are there
      pub turn_few : (t : Turn) → t ≡ next_in (drop i L) (drop j L') → (i + t.first ≤ length L) × (j + t.second ≤ length L')
      turn_few t e = rw e (few, few')

      -- and it goes on
      pub turn_onward : (t : Turn) → t ≡ next_in (drop i L) (drop j L') → i + j < length L + length L' → i + j < (i + t.first) + (j + t.second)
      turn_onward t e h = rw e (onward h)
