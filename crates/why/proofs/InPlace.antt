-- A sweep in place: of the first n words, which are marks in order, the rows are made in front of them. No more rows are made than marks are passed, so
-- that no mark is written over before it is read.
use Rattle.std.specs.Prelude.{Some}
use Prim.Native.Nat.{ℕ, ◌+◌, ◌-◌, ◌≤◌, ◌<◌, zero-le}
use mathlib.Core.Bool.{Bool, true, false, ◌||◌}
use mathlib.Core.List.{List, [], ◌∷◌, ◌++◌, append_assoc, append-nil}
use mathlib.Core.Path.{◌≡◌, refl, sym, ap, ◌∙◌}
use native.Mathlib.Nat.{le_refl}
use native.Mathlib.Numerals.{add-one}
use native.Mathlib.Omega.{arith}
use lib.Dec.{eqb, leb, ltb}
use borrow.Author.Tests.{le-leb, lt-leb, eq-eqb, ne_eqb}
use borrow.Rule.Slice.PartMut.{put_mid}
use lib.ListN.{length, take, drop, set, get_or, replicate, length-set, length-drop, drop_of_length-le}
use lib.Seq.{drop-set-lt, take-suc-set, length-take-le, drop-cons, drop-drop}
use Rattle.page.specs.Numbers.{page_values}
use Rattle.page.specs.declared.number.PageNumber.{PageNumber}
use Rattle.page.specs.declared.record.Record.{Record}
use Rattle.page.specs.declared.record.Record.TheVariants.{Other, Header, Data}
use Rattle.page.proofs.Searching.{by_test}
use Rattle.sort.specs.Arranged.{Every}
use Rattle.sort.proofs.Arranging.{every_get}
use Rattle.sort.proofs.Behind.{behind_same}
use Rattle.chunk.specs.Records.{order_of, count_of}
use Rattle.chunk.specs.Scans.{later_in}
use Rattle.chunk.specs.Aged.{Newest}
use Rattle.chunk.specs.Aged.{Nothing}
use Rattle.why.specs.Codes.{code_of, code_values, row_of}
use Rattle.why.specs.Marks.{places, no_page, place_of, page_on}
use Rattle.why.specs.Reasons.{byte_at, chunk_at, held_by}
use Rattle.why.specs.Sweeps.{nothing_seen, seen_with, goes_on, taken, behind_seen, copy_seen, reason_seen, swept, filled}
use Rattle.why.specs.declared.sweep.Seen.{Seen}

-- the pages that have been taken in are below the page numbers
abbrev PageBelow : Newest → Type 0
PageBelow Nothing = Unit {0}
PageBelow (Some q) = q.page.0 < page_values

pub record SeenBelow (s : Seen) : Type 0 where
  pub cut : PageBelow s.cut
  pub copy : PageBelow s.copy

-- the newer of two is, and so is what is seen with one page more
later_below : (s : Newest) (p age : ℕ) → PageBelow s → p < page_values → PageBelow (later_in s p age)
later_below Nothing p age b h = h
later_below (Some x) p age b h = by_test (leb x.age age) _ (λ t. rw t h) (λ t. rw t b)

with_below : (s : Seen) (p : ℕ) (r : Record) → SeenBelow s → p < page_values → SeenBelow (seen_with s p r)
with_below s p Other b h = b
with_below s p (Header k) b h = record { cut = later_below s.cut p (order_of k.sequence p) b.cut h; copy = b.copy }
with_below s p (Data d) b h =
    by_test (eqb d.chunk.0 s.chunk.0) _
    (λ t. rw t record { cut = b.cut; copy = later_below s.copy p (order_of d.sequence p) b.copy h })
    (λ t. rw t record { cut = b.cut; copy = h })

module _ (says : ℕ → Record) where
  pub taken_below : (s : Seen) (m : ℕ) → SeenBelow s → SeenBelow (taken says s m)
  taken_below s m b = by_test (eqb (page_on m) no_page) _ (λ t. rw t b) (λ t. rw t (with_below s (page_on m) (says (page_on m)) b (omega arith)))

-- so that the code of the reason is one
module _ (says : ℕ → Record) (P : ℕ) where
  held_below : (q x : ℕ) → q < page_values → code_of (held_by says P q x) < code_values
  held_below q x h = by_test (leb (count_of (says q)) (byte_at P x)) _ (λ t. rw t (omega arith)) (λ t. rw t (omega arith))

  -- whatever the copy gives, cut or not
  behind_below : (q : PageNumber) (age x : ℕ) (s : Newest) → q.0 < page_values → PageBelow s → code_of (behind_seen says P q age x s) < code_values
  behind_below q age x Nothing h b = held_below q.0 x h
  behind_below q age x (Some y) h b = by_test (ltb age y.age) _ (λ t. rw t (omega arith)) (λ t. rw t (held_below q.0 x h))

  copy_below : (s : Seen) (x : ℕ) (k : Newest) → SeenBelow s → PageBelow k → code_of (copy_seen says P s x k) < code_values
  copy_below s x Nothing b h = omega arith
  copy_below s x (Some y) b h =
      by_test (eqb s.chunk.0 (chunk_at P x)) _ (λ t. rw t (behind_below y.page y.age x s.cut h b.cut)) (λ t. rw t (omega arith))

  -- and so the code of what was taken in
  pub code_below : (s : Seen) (x : ℕ) → SeenBelow s → code_of (reason_seen says P s x) < code_values
  unfolding reason_seen
  code_below s x b = copy_below s x s.copy b b.copy

  -- what one mark makes of the rows
  module _ (size : ℕ) where
    abbrev codeOn : Seen → ℕ → ℕ
    codeOn s m = code_of (reason_seen says P (taken says s m) (place_of m))

    -- no mark makes no row; one makes none where another of its place follows, the file has ended or the reason is the last one; and else one
    swept_none : (s : Seen) (last : ℕ) → swept says P size s last [] ≡ []
    unfolding swept
    swept_none s last = refl

    swept-skip :
        (s : Seen) (last m : ℕ) (M : List ℕ) →
        goes_on (place_of m) M || leb size (place_of m) || eqb (codeOn s m) last ≡ true →
        swept says P size s last (m ∷ M) ≡ swept says P size (taken says s m) last M
    unfolding swept
    swept-skip s last m M t = rw t

    swept-row :
        (s : Seen) (last m : ℕ) (M : List ℕ) →
        goes_on (place_of m) M || leb size (place_of m) || eqb (codeOn s m) last ≡ false →
        swept says P size s last (m ∷ M) ≡ row_of (place_of m) (codeOn s m) ∷ swept says P size (taken says s m) (codeOn s m) M
    unfolding swept
    swept-row s last m M t = rw t

    module _ (w₀ : List ℕ) where
      -- what holds when j marks are passed and the rows made end at a place: the marks behind are as they were, and the rest is to be made from them
      pub record Swept (w : List ℕ) (s : Seen) (last at j : ℕ) : Type 0 where
        pub order : at ≤ j
        pub long : length w ≡ length w₀
        pub unread : drop j w ≡ drop j w₀
        pub made : swept says P size nothing_seen 0 w₀ ≡ take at w ++ swept says P size s last (drop j w₀)
        pub below : SeenBelow s

      -- before any mark is passed
      pub sweep_none : Swept w₀ nothing_seen 0 0 0
      sweep_none = record { order = zero-le; long = refl; unread = refl; made = refl; below = record { cut = tt; copy = tt } }

-- marks of which j are passed
module _ {says : ℕ → Record} {P size : ℕ} {w₀ w : List ℕ} {s : Seen} {last at j : ℕ}
    (g : Swept says P size w₀ w s last at j)
  where
    mark-at : j < length w₀ → get_or w₀ j 0 ≡ get_or w j 0
    mark-at h = sym (behind_same w w₀ j g.unread j (le_refl j))

    -- a mark lies before the last place
    pub mark_inside : Every (λ m. place_of m < places) w₀ → j < length w₀ → place_of (get_or w j 0) < places
    mark_inside e h =
        let k : place_of (get_or w₀ j 0) < places = every_get (λ m. place_of m < places) w₀ j e h in
        rw (mark-at h) at k

    next : j < length w₀ → drop j w₀ ≡ get_or w j 0 ∷ drop (j + 1) w₀
    next h = rw add-one (drop-cons w₀ j 0 h ∙ rw (mark-at h))

    rest : drop (j + 1) w ≡ drop (j + 1) w₀
    rest = sym (drop-drop 1 j w) ∙ ap (drop 1) g.unread ∙ drop-drop 1 j w₀

    -- one mark more makes no row
    skip :
        (h : j < length w₀) →
        goes_on (place_of (get_or w j 0)) (drop (j + 1) w₀) || leb size (place_of (get_or w j 0)) || eqb (codeOn says P size s (get_or w j 0)) last ≡ true →
        Swept says P size w₀ w (taken says s (get_or w j 0)) last at (j + 1)
    skip h t =
        record {
          order = omega (arith, g.order);
          long = g.long;
          unread = rest;
          made = g.made ∙ ap (λ (r : List ℕ). take at w ++ r) (ap (swept says P size s last) (next h) ∙ swept-skip says P size s last (get_or w j 0) (drop (j + 1) w₀) t);
          below = taken_below says s (get_or w j 0) g.below;
        }

    module _ (h : j < length w₀) {now : Seen} (e : now ≡ taken says s (get_or w j 0)) {x : ℕ} (at_x : x ≡ place_of (get_or w j 0)) where
      goes : (b : Bool) → goes_on x (drop (j + 1) w) ≡ b → goes_on (place_of (get_or w j 0)) (drop (j + 1) w₀) ≡ b
      goes b t = rw (at_x, rest) at t

      -- another mark of the place follows
      pub sweep_goes : goes_on x (drop (j + 1) w) ≡ true → Swept says P size w₀ w now last at (j + 1)
      sweep_goes t = rw e (skip h (rw (goes true t)))

      module _ (t : goes_on x (drop (j + 1) w) ≡ false) where
        -- the place is not one of the file
        pub sweep_past : size ≤ x → Swept says P size w₀ w now last at (j + 1)
        sweep_past k = rw e (skip h (rw (goes false t, le-leb size (place_of (get_or w j 0)) (rw at_x at k))))

        module _ (k : x < size) {code : ℕ} (f : code ≡ code_of (reason_seen says P now x)) where
          inside-file : leb size (place_of (get_or w j 0)) ≡ false
          inside-file = lt-leb size (place_of (get_or w j 0)) (rw at_x at k)

          -- the code is that of the mark
          code-on : code ≡ codeOn says P size s (get_or w j 0)
          code-on = rw (e, at_x) at f

          -- the reason is that of the last row
          pub sweep_same : code ≡ last → Swept says P size w₀ w now last at (j + 1)
          sweep_same u = rw e (skip h (rw (goes false t, inside-file, eq-eqb (codeOn says P size s (get_or w j 0)) last (sym code-on ∙ u))))

          -- the reason is another, and makes a row
          pub sweep_row : (code ≡ last → ⊥) → {row : ℕ} → row ≡ row_of x code → Swept says P size w₀ (set w at row) now code (at + 1) (j + 1)
          sweep_row u {row} r =
              let m = get_or w j 0 in
              let M = drop (j + 1) w₀ in
              let room_for : at < length w = omega (arith, g.order, g.long) in
              let put : take (at + 1) (set w at row) ≡ take at w ++ (row ∷ []) = rw add-one (take-suc-set w at row room_for) in
              let here : row ≡ row_of (place_of m) (codeOn says P size s m) = rw (at_x, code-on) at r in
              record {
                order = omega (arith, g.order);
                long = length-set w at row ∙ g.long;
                unread = drop-set-lt (j + 1) w at row (omega (arith, g.order)) ∙ rest;
                made =
                    g.made
                    ∙ ap (λ (q : List ℕ). take at w ++ q)
                    (ap (swept says P size s last) (next h)
                    ∙ swept-row says P size s last m M (rw (goes false t, inside-file, ne_eqb (codeOn says P size s m) last (λ q. u (code-on ∙ q)))))
                    ∙ rw (← here, ← code-on, ← e)
                    (sym (append_assoc (take at w) (row ∷ []) (swept says P size now code M))
                    ∙ ap (λ (q : List ℕ). q ++ swept says P size now code M) (sym put));
                below = rw e (taken_below says s m g.below);
              }

    -- all marks are passed
    pub sweep_end :
        at ≤ length w → {v : List ℕ} → v ≡ filled (take at w) (length w) → length w₀ ≤ j →
        (at ≡ length (swept says P size nothing_seen 0 w₀)) × (v ≡ filled (swept says P size nothing_seen 0 w₀) (length w₀))
    sweep_end fits e h =
        let none = drop_of_length-le w₀ {i = j} h in
        let all : swept says P size nothing_seen 0 w₀ ≡ take at w = g.made ∙ rw (none, swept_none says P size s last) (append-nil (take at w)) in
        let count : length (take at w) ≡ at = length-take-le at w fits in
        (sym (ap length all ∙ count), rw (all, ← g.long) e)

-- zeros behind the first words
pub zeros_behind :
    (at : ℕ) (w z : List ℕ) → at ≤ length w → z ≡ replicate (length (take (length w - at) (drop at w))) 0 →
    put_mid at (length w - at) w z ≡ filled (take at w) (length w)
zeros_behind at w z h e =
    let some : length (take (length w - at) (drop at w)) ≡ length w - at = length-take-le (length w - at) (drop at w) (omega (arith, length-drop at w)) in
    let none : drop (length w - at) (drop at w) ≡ [] = drop_of_length-le (drop at w) {i = length w - at} (omega (arith, length-drop at w)) in
    rw (e, some, none, length-take-le at w h) (ap (λ (r : List ℕ). take at w ++ r) (append-nil (replicate (length w - at) 0)))
