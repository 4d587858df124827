-- The reason of one position, found in the spans of the file: the span that it lies in has its code, and where that span ends, the next one's begin or
-- the file's end, is `until`.
use Prim.Native.Nat.{ℕ, ◌+◌, ◌*◌, ◌/◌, ◌%◌, ◌≤◌, ◌<◌}
use mathlib.Core.List.{List, [], ◌∷◌}
use mathlib.Core.Path.{◌≡◌, refl, ◌∙◌}
use native.Mathlib.Omega.{arith}
use lib.Dec.{ltb}
use borrow.Author.Tests.{ne_eqb, ltb-true, ltb-false}
use Rattle.page.specs.Numbers.{page_values}
use Rattle.page.specs.declared.record.Record.{Record}
use Rattle.page.proofs.Searching.{by_test}
use Rattle.chunk.specs.Sizes.{size_of}
use Rattle.why.specs.Answers.{span_of, found_in}
use Rattle.why.specs.Codes.{kind_values, code_of, reason_of, from_of, code_in}
use Rattle.why.specs.Reasons.{byte_at, reason_at, code_at, until_of, spans_of}
use Rattle.why.specs.declared.reason.Reason.TheVariants.{Held, NoCopy, Cut, Count}
use Rattle.why.proofs.Finding.{found_end, found_here, found_on}
use Rattle.why.proofs.Meaning.{reason_by_lem}
use Rattle.why.proofs.Until.{SpansFrom, spans_from, until_same, until_shared}

-- ---- codes and rows

-- the page and the kind in a code
page_of_lem : (q k : ℕ) → k < kind_values → (q * kind_values + k) / kind_values ≡ q
page_of_lem q k i = omega arith

kind_of_lem : (q k : ℕ) → k < kind_values → (q * kind_values + k) % kind_values ≡ k
kind_of_lem q k i = omega arith

-- the reason of a reason's code, where the data byte is its own
code_held : (q at : ℕ) → reason_of (code_of (Held (record { 0 = q }) at)) at ≡ Held (record { 0 = q }) at
unfolding reason_of
code_held q at = rw (page_of_lem q 1 (omega arith), kind_of_lem q 1 (omega arith))

code_none : (at : ℕ) → reason_of (code_of NoCopy) at ≡ NoCopy
unfolding reason_of
code_none at = refl

code_cut : (p at : ℕ) → reason_of (code_of (Cut (record { 0 = p }))) at ≡ Cut (record { 0 = p })
unfolding reason_of
code_cut p at = rw (page_of_lem p 3 (omega arith), kind_of_lem p 3 (omega arith))

code_count : (q at : ℕ) → reason_of (code_of (Count (record { 0 = q }))) at ≡ Count (record { 0 = q })
unfolding reason_of
code_count q at = rw (page_of_lem q 4 (omega arith), kind_of_lem q 4 (omega arith))

-- so the reason of a position inside the file comes back from its code
pub code_reason : (says : ℕ → Record) (P o n h x : ℕ) → x < size_of says P o h n → reason_of (code_at says P o n h x) (byte_at P x) ≡ reason_at says P o n h x
code_reason says P o n h x i =
    reason_by_lem says P o n h x (λ r. reason_of (code_of r) (byte_at P x) ≡ r)
    (λ j. absurd (omega arith))
    (λ _ _. code_none (byte_at P x))
    (λ q p _ _ _. code_cut p (byte_at P x))
    (λ q _ _ _ _. code_count q (byte_at P x))
    (λ q _ _ _ _. code_held q (byte_at P x))

-- the span of a row that begins at x with the code there
pub row_span :
    (says : ℕ → Record) (P o n h x row : ℕ) → 0 < P → x < size_of says P o h n → from_of row ≡ x → code_in row ≡ code_at says P o n h x →
    span_of P row ≡ record { from = x; reason = reason_at says P o n h x }
row_span says P o n h x row k i e c = rw (e, c, ne_eqb P 0 (λ (z : P ≡ 0). omega arith), code_reason says P o n h x i)

-- ---- rows gone through

module _ (says : ℕ → Record) (P o n h x : ℕ) (inside : x < size_of says P o h n) where
  abbrev size : ℕ
  size = size_of says P o h n

  abbrev code : ℕ → ℕ
  code y = code_at says P o n h y

  abbrev until : ℕ → ℕ
  until y = until_of says P o n h y

  -- x lies before the rest of the spans
  found_before : (y c : ℕ) (rows : List ℕ) → SpansFrom says P o n h (until y) rows → x < until y → found_in x size c rows ≡ record { code = c; until = until y }
  found_before y c [] w i = found_end x size c ∙ rw w
  found_before y c (row ∷ rows) w i = found_here x size c row rows (rw w.0 i) ∙ rw w.0

  -- x lies in the spans from y on
  found_from : (y c : ℕ) (rows : List ℕ) → SpansFrom says P o n h y rows → y ≤ x → found_in x size c rows ≡ record { code = code x; until = until x }
  found_from y c [] w i = absurd (omega arith)
  found_from y c (row ∷ rows) w i =
      let k : y < size = omega arith in
      found_on x size c row rows (rw w.0 i)
      ∙ by_test (ltb x (until y)) _
      (λ t.
      let j : x < until y = ltb-true _ _ t in
      found_before y (code_in row) rows w.3 j ∙ rw (w.1, until_same says P o n h y x k i j, until_shared says P o n h y x k i j))
      (λ t. found_from (until y) (code_in row) rows w.3 (ltb-false _ _ t))

-- the spans of a file have the code of each of its positions, and up to where it holds
pub found_spans :
    (says : ℕ → Record) (P o n h x : ℕ) → n < page_values → x < size_of says P o h n →
    found_in x (size_of says P o h n) 0 (spans_of says P o n h) ≡ record { code = code_at says P o n h x; until = until_of says P o n h x }
found_spans says P o n h x few i = found_from says P o n h x i 0 0 (spans_of says P o n h) (spans_from says P o n h few) (omega arith)
