-- Words filled with the spans of a file: its marks are put in front of them, sorted, and swept; and what is found in them then.
use Prim.Native.Nat.{ℕ, ◌-◌, ◌≤◌, ◌<◌}
use Rattle.std.specs.Prelude.{Ok}
use mathlib.Core.List.{List, ◌++◌, append-nil}
use mathlib.Core.Path.{◌≡◌, sym, ap, ◌∙◌}
use native.Mathlib.Omega.{arith}
use borrow.Author.Tests.{ne_eqb, le-leb}
use lib.Dec.{eqb}
use lib.ListN.{length, take, drop, replicate, length-append, length-replicate, drop_of_length-le}
use lib.Seq.{take_all, take-append_seam}
use Rattle.page.specs.Choice.{pick}
use Rattle.page.specs.Lengths.{opened_of}
use Rattle.page.specs.Numbers.{page_values}
use Rattle.page.specs.declared.geometry.Geometry.{Geometry}
use Rattle.page.specs.declared.record.Record.{Record}
use Rattle.page.proofs.Layouts.{listed_data, roomy_facts}
use Rattle.page.proofs.Lengths.{opened_facts, opened_pages}
use Rattle.sort.specs.Arranged.{arranged, Every}
use Rattle.sort.proofs.Arranging.{arranged_length}
use Rattle.chunk.specs.Lists.{in_front}
use Rattle.chunk.specs.Sizes.{size_of}
use Rattle.why.specs.Answers.{found_in}
use Rattle.why.specs.Codes.{reason_of}
use Rattle.why.specs.Marks.{most_data, places, place_of, marks_to}
use Rattle.why.specs.Reasons.{last_position, byte_at, setter, reason_at, until_of, spans_of}
use Rattle.why.specs.Sweeps.{nothing_seen, swept, filled}
use Rattle.why.specs.declared.reason.Reason.TheVariants.{PastEnd}
use Rattle.why.specs.declared.byte.Found.{Found}
use Rattle.why.proofs.Found.{found_spans, code_reason}
use Rattle.why.proofs.Sweeping.{sweep_spans, marks_inside}

-- the pages of an accepted dump, and their data bytes
pub record Sized (P n : ℕ) : Type 0 where
  pub some : 0 < P
  pub most : P ≤ most_data
  pub pages : n < page_values

-- an accepted dump has such sizes
pub opened_sized : (g : Geometry) (l n : ℕ) → opened_of g l ≡ Ok n → Sized g.layout.«data» n
opened_sized g l n e =
    let f = opened_facts g l n e in
    let r = roomy_facts g.layout f.room in
    record { some = omega (arith, r.header); most = listed_data g.layout f.listed; pages = opened_pages g l n e }

-- the marks of object o of a dump of n pages, whose newest header is h, put into words w, one for each, and sorted: v
module _ (says : ℕ → Record) (P o n h : ℕ) (s : Sized P n) (w : List ℕ) (e : length w ≡ length (marks_to says P o h n)) where
  module _ (f v : List ℕ) (front : f ≡ in_front (marks_to says P o h n) w) (sorted : v ≡ arranged (take (length w) f) ++ drop (length w) f) where
    all : f ≡ marks_to says P o h n
    all = front ∙ rw (drop_of_length-le w {i = length (marks_to says P o h n)} (omega (arith, e))) (append-nil (marks_to says P o h n))

    -- so they are the marks in order
    pub sorted_marks : v ≡ arranged (marks_to says P o h n)
    sorted_marks =
        sorted
        ∙ rw (all, take_all (length w) (marks_to says P o h n) (omega (arith, e)), drop_of_length-le (marks_to says P o h n) {i = length w} (omega (arith, e)))
        (append-nil (arranged (marks_to says P o h n)))

    -- they may be swept
    pub marks_swept : Every (λ m. place_of m < places) v
    marks_swept = rw sorted_marks (marks_inside says P o n h s.some s.most s.pages)

    -- and then they are the spans
    pub sweep_fills :
        (size : ℕ) → size ≡ size_of says P o h n → (u : List ℕ) (r : ℕ) →
        r ≡ length (swept says P size nothing_seen 0 v) →
        u ≡ filled (swept says P size nothing_seen 0 v) (length v) →
        (r ≡ length (spans_of says P o n h)) × (u ≡ filled (spans_of says P o n h) (length w))
    sweep_fills size z u r a b =
        let k : swept says P size nothing_seen 0 v ≡ spans_of says P o n h = rw (z, sorted_marks) (sweep_spans says P o n h s.some s.most s.pages) in
        let long : length v ≡ length w = ap length sorted_marks ∙ arranged_length (marks_to says P o h n) ∙ sym e in
        (a ∙ ap length k, b ∙ rw (k, long))

-- rows in words that are all of them: v
module _ (S v : List ℕ) (words : ℕ) (e : v ≡ filled S words) (long : length v ≡ words) where
  pub rows_fit : length S ≤ words
  rows_fit = omega (arith, long, ap length e, length-append S (replicate (words - length S) 0), length-replicate {A = ℕ} (words - length S) 0)

  -- the words begin with them
  pub rows_front : take (length S) v ≡ S
  rows_front = rw e (take-append_seam S _)

-- the span that a position of the file lies in tells its reason, and up to where it holds
pub found_tells :
    (says : ℕ → Record) (P o n h x : ℕ) → Sized P n → x < size_of says P o h n →
    (f : Found) → f ≡ found_in x (size_of says P o h n) 0 (spans_of says P o n h) →
    (reason_of f.code (pick (eqb P 0) 0 (byte_at P x)) ≡ reason_at says P o n h x) × (f.until ≡ until_of says P o n h x)
found_tells says P o n h x s b f e =
    let k = e ∙ found_spans says P o n h x s.pages b in
    let z = ne_eqb P 0 (λ q. absurd (omega (arith, s.some))) in
    (rw (z, ap (λ (r : Found). r.code) k) (code_reason says P o n h x b), ap (λ (r : Found). r.until) k)

-- and so does the page that sets the size of a position behind the end
pub past_tells :
    (says : ℕ → Record) (P o n h x : ℕ) → size_of says P o h n ≤ x →
    (PastEnd (record { 0 = setter says P o n h }) ≡ reason_at says P o n h x) × (last_position ≡ until_of says P o n h x)
unfolding reason_at until_of
past_tells says P o n h x b = let t = le-leb (size_of says P o h n) x b in (rw t, rw t)
