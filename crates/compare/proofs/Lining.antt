-- The lines of what differs, piece by piece: what each piece comes to, and that the pieces are the lines of all differences. The line of the object
-- goes before them exactly if there is a byte of them, since no line is empty: so whether something differs is known from a measure.
use Prim.Native.Nat.{ℕ, ◌+◌, ◌≤◌, ◌<◌, zero-le}
use Rattle.std.specs.Prelude.{Option, Some, None}
use mathlib.Core.Bool.{Bool, true, false, not, ◌&&◌}
use mathlib.Core.List.{List, [], ◌∷◌, ◌++◌, map, append-nil, append_assoc}
use mathlib.Core.Logic.{◌≢◌}
use mathlib.Core.Path.{◌≡◌, refl, sym, ap, ◌∙◌}
use lib.Dec.{eqb}
use native.Mathlib.Omega.{arith}
use lib.ListN.{length, take, drop, length-append}
use lib.Seq.{sets-eq, drop_at, length-take-le}
use borrow.Author.Tests.{eq-eqb, ne_eqb, le-ltb}
use Rattle.page.specs.Records.{record_at}
use Rattle.page.specs.declared.geometry.Geometry.{Geometry}
use Rattle.sort.specs.Lists.{joined}
use Rattle.sort.specs.Packed.{value_of}
use Rattle.text.specs.Lines.{line_of}
use Rattle.text.specs.Put.{most, counted, over, Put}
use Rattle.text.specs.Quoted.{bytes_of}
use Rattle.text.specs.Whole.{written_by, bytes_by}
use Rattle.text.specs.Written.{Written}
use Rattle.text.specs.Written.{Bytes, Short}
use Rattle.text.proofs.Writing.{refused, accepted}
use Rattle.text.proofs.Lines.{line_length}
use Rattle.text.proofs.Putting.{exact, nothing, also, kept, measured, whole}
use Rattle.index.specs.Held.{from_list}
use Rattle.index.specs.Walks.{size_walk}
use Rattle.compare.specs.Differences.{Difference, Side, first, second, only, deleted, headless, field, sizes, stretch, on_one, lacks, fields_of, sizes_of, stretches_of, differences_of}
use Rattle.compare.specs.Heads.{Head, head_from, page_of, size_by}
use Rattle.compare.proofs.Heads.{head_page, head_size}
use Rattle.compare.specs.Lines.{side_lines, header_lines, content_lines}
use Rattle.compare.specs.Report.{lines_of, side_number, object_lines}
use Rattle.compare.specs.Sides.{first_header, pages_in, rows_show, side_of}
use Rattle.compare.specs.Views.{bytes_on, is_deleted, size_in}
use Rattle.compare.proofs.Joining.{length_none}
use Rattle.compare.proofs.PassedLines.{joined_append}
use Rattle.compare.proofs.Same.{line_some}

-- the lines of one difference alone
one_line : (d : Difference) → joined lines_of (d ∷ []) ≡ lines_of d
unfolding joined
one_line d = append-nil (lines_of d)

-- where nothing differs there are no lines
no_line : joined lines_of [] ≡ []
unfolding joined
no_line = refl

-- two sizes that are the same have no lines
pub sizes_same : (y z : ℕ) → y ≡ z → joined lines_of (sizes_of (Some y) (Some z)) ≡ []
unfolding joined
sizes_same y z e = rw (eq-eqb y z e)

-- two sizes that differ have a line each
pub sizes_other : (y z : ℕ) → y ≢ z → joined lines_of (sizes_of (Some y) (Some z)) ≡ line_of (bytes_of "size=") y ++ line_of (bytes_of "size=") z
unfolding lines_of
sizes_other y z e = rw (ne_eqb y z e) (one_line (sizes y z))

-- what is so on one side only
module _ (d : Side → Difference) (key : List ℕ) (lines : (s : Side) → lines_of (d s) ≡ line_of key (side_number s)) where
  -- a line with the number of that side
  side_lines_lem : (one other : Bool) → joined lines_of (on_one d one other) ≡ side_lines key one other
  side_lines_lem true true = no_line
  side_lines_lem true false = one_line (d first) ∙ lines first
  side_lines_lem false true = one_line (d second) ∙ lines second
  side_lines_lem false false = no_line

-- of an object that one dump has
only_lines : (one other : Bool) → joined lines_of (on_one only one other) ≡ side_lines (bytes_of "only=") one other
unfolding lines_of
only_lines = side_lines_lem only (bytes_of "only=") (λ s. refl)

-- of one that is deleted on one side
deleted_lines : (one other : Bool) → joined lines_of (on_one deleted one other) ≡ side_lines (bytes_of "deleted=") one other
unfolding lines_of
deleted_lines = side_lines_lem deleted (bytes_of "deleted=") (λ s. refl)

-- of one without a header on one side
headless_lines : (one other : Bool) → joined lines_of (on_one headless one other) ≡ side_lines (bytes_of "noheader=") one other
unfolding lines_of
headless_lines = side_lines_lem headless (bytes_of "noheader=") (λ s. refl)

-- a header is missing where its bytes are
lacks_bytes : (g : Geometry) (dump : List ℕ) (p : Option ℕ) → lacks (bytes_on g dump p) ≡ lacks p
lacks_bytes g dump None = refl
lacks_bytes g dump (Some p) = refl

-- five lists of differences, one behind the other
pub five : (a b c d e : List Difference) → joined lines_of (a ++ b ++ c ++ d ++ e) ≡ (joined lines_of a ++ (joined lines_of b ++ joined lines_of c)) ++ (joined lines_of d ++ joined lines_of e)
five a b c d e =
    let J = joined lines_of in
    joined_append lines_of (a ++ b ++ c ++ d) e
    ∙ ap (λ (x : List ℕ). x ++ J e)
    (joined_append lines_of (a ++ b ++ c) d
    ∙ ap (λ (x : List ℕ). x ++ J d) (joined_append lines_of (a ++ b) c ∙ ap (λ (x : List ℕ). x ++ J c) (joined_append lines_of a b) ∙ append_assoc (J a) (J b) (J c)))
    ∙ append_assoc (J a ++ (J b ++ J c)) (J d) (J e)

-- one object of two dumps, by its words on each side
module _ (g : Geometry) (dump L C : List ℕ) (g' : Geometry) (dump' L' C' : List ℕ) where
  abbrev pub between_sides : List ℕ
  between_sides = joined lines_of (differences_of (side_of g dump L C) (side_of g' dump' L' C'))

  abbrev pub head_on : Option ℕ
  head_on = first_header (record_at g dump) (pages_in g dump L)

  abbrev pub head_on' : Option ℕ
  head_on' = first_header (record_at g' dump') (pages_in g' dump' L')

  abbrev pub size_on : Option ℕ
  size_on = size_in (size_walk (record_at g dump) g.layout.«data» (from_list (pages_in g dump L)))

  abbrev pub size_on' : Option ℕ
  size_on' = size_in (size_walk (record_at g' dump') g'.layout.«data» (from_list (pages_in g' dump' L')))

  -- both sides have it
  pub lines_both :
      length L ≢ 0 → length L' ≢ 0 →
      between_sides ≡ header_lines g dump g' dump' head_on head_on' ++ content_lines (rows_show g dump C) (rows_show g' dump' C') size_on size_on'
  unfolding differences_of side_of header_lines content_lines
  lines_both h h' =
      rw (ne_eqb (length L) 0 h, ne_eqb (length L') 0 h')
      (five
      (on_one deleted (is_deleted (record_at g dump) head_on) (is_deleted (record_at g' dump') head_on'))
      (on_one headless (lacks (bytes_on g dump head_on)) (lacks (bytes_on g' dump' head_on')))
      (map field (fields_of (bytes_on g dump head_on) (bytes_on g' dump' head_on')))
      (sizes_of size_on size_on')
      (map stretch (stretches_of (rows_show g dump C) (rows_show g' dump' C') size_on size_on'))
      ∙ rw (
        deleted_lines (is_deleted (record_at g dump) head_on) (is_deleted (record_at g' dump') head_on'),
        headless_lines (lacks (bytes_on g dump head_on)) (lacks (bytes_on g' dump' head_on')),
        lacks_bytes g dump head_on,
        lacks_bytes g' dump' head_on',
      ))

  -- one side alone has it, or none
  pub lines_single :
      not (eqb (length L) 0) && not (eqb (length L') 0) ≡ false → between_sides ≡ side_lines (bytes_of "only=") (not (eqb (length L) 0)) (not (eqb (length L') 0))
  unfolding differences_of side_of
  lines_single e = rw e (only_lines (not (eqb (length L) 0)) (not (eqb (length L') 0)))

  -- by the headers and the sizes that were found on both sides
  pub found_both :
      (one other : Head) (y z : Option ℕ) →
      one ≡ head_from (record_at g dump) g.layout.«data» 0 (map value_of L) →
      other ≡ head_from (record_at g' dump') g'.layout.«data» 0 (map value_of L') →
      y ≡ size_by (record_at g dump) one →
      z ≡ size_by (record_at g' dump') other →
      length L ≢ 0 →
      length L' ≢ 0 →
      between_sides ≡ header_lines g dump g' dump' (page_of one) (page_of other) ++ content_lines (rows_show g dump C) (rows_show g' dump' C') y z
  found_both one other y z e f a b h h' =
      let P = g.layout.«data» in
      let P' = g'.layout.«data» in
      let says = record_at g dump in
      let says' = record_at g' dump' in
      let p : page_of one ≡ head_on = ap page_of e ∙ head_page says P (map value_of L) 0 in
      let q : page_of other ≡ head_on' = ap page_of f ∙ head_page says' P' (map value_of L') 0 in
      let s : y ≡ size_on = a ∙ ap (size_by says) e ∙ sym (head_size says P (map value_of L)) in
      let t : z ≡ size_on' = b ∙ ap (size_by says') f ∙ sym (head_size says' P' (map value_of L')) in
      rw (p, q, s, t) (lines_both h h')

-- lines without a byte are of no difference, since a line is not empty
lines_some : (d : Difference) → 0 < length (lines_of d)
unfolding lines_of
lines_some (only s) = line_some (bytes_of "only=") (side_number s)
lines_some (deleted s) = line_some (bytes_of "deleted=") (side_number s)
lines_some (headless s) = line_some (bytes_of "noheader=") (side_number s)
lines_some (field at) = line_some (bytes_of "field=") at
lines_some (sizes a b) =
    rw (length-append (line_of (bytes_of "size=") a) (line_of (bytes_of "size=") b)) (omega (arith, line_some (bytes_of "size=") a))
lines_some (stretch k) = line_some (bytes_of "stretch=") k

-- so an object whose lines of differences have no byte has no lines
pub object_none : (o : ℕ) (ds : List Difference) → length (joined lines_of ds) ≡ 0 → object_lines o ds ≡ []
unfolding object_lines joined
object_none o [] e = refl
object_none o (d ∷ ds) e = absurd (omega (arith, lines_some d, length-append (lines_of d) (joined lines_of ds)))

-- and another has its own line before them
pub object_some : (o : ℕ) (ds : List Difference) → length (joined lines_of ds) ≢ 0 → object_lines o ds ≡ line_of (bytes_of "object=") o ++ joined lines_of ds
unfolding object_lines joined
object_some o [] h = absurd (h refl)
object_some o (d ∷ ds) h = refl

-- a length that is counted as 0 is 0
counted_none : (n : ℕ) → counted n ≡ 0 → n ≡ 0
unfolding counted
counted_none n e = omega arith

-- nor is a length 0 that is counted as more
counted_some : (n : ℕ) → counted n ≢ 0 → n ≢ 0
unfolding counted
counted_some n h e = h (omega arith)

module _ (o : ℕ) (ds : List Difference) {after : List ℕ} {next : ℕ} (p : Put (joined lines_of ds) [] 0 after next) (bytes : List ℕ) (at : ℕ) where
  -- nothing differs, and nothing is put
  pub nothing_put : next ≡ 0 → length bytes < most → at ≤ most → Put (object_lines o ds) bytes at (after ++ bytes) at
  nothing_put e h k =
      rw ((measured p).0, object_none o ds (counted_none (length (joined lines_of ds)) (sym (measured p).1 ∙ e))) (nothing bytes at h k)

  -- something does: the object's line is put, and then theirs
  pub object_put :
      {b₁ b₂ : List ℕ} {m r : ℕ} →
      next ≢ 0 → Put (line_of (bytes_of "object=") o) (after ++ bytes) at b₁ m → Put (joined lines_of ds) b₁ m b₂ r → Put (object_lines o ds) bytes at b₂ r
  object_put h q s =
      let q₁ = rw (measured p).0 at q in
      rw (object_some o ds (counted_some (length (joined lines_of ds)) (λ e. h ((measured p).1 ∙ e)))) (also q₁ s)

-- what is answered of a text that is to be written whole, and what the bytes are then
abbrev Told : (answer : Written) (text before after : List ℕ) → Type 0
Told r text before after = record { value : r ≡ written_by (length before) text; buf_after : after ≡ bytes_by text before }

-- a text that was measured and has no byte is written, whatever the bytes
pub written_none : {text after : List ℕ} {next : ℕ} (bytes : List ℕ) → Put text [] 0 after next → next ≡ 0 → Told (Bytes 0) text bytes (after ++ bytes)
unfolding written_by bytes_by
written_none {text} {after} bytes p e =
    let z : text ≡ [] = length_none text (counted_none (length text) (sym (measured p).1 ∙ e)) in
    record { value = rw (z, le-ltb (length bytes) 0 zero-le); buf_after = rw ((measured p).0, z, le-ltb (length bytes) 0 zero-le) }

-- an object's line and what differs, measured one behind the other; the line of an object is short, so that its length is counted as it is
pub name_short : (o : ℕ) → o < 4294967296 → length (line_of (bytes_of "object=") o) ≤ 18
name_short o h = omega (arith, line_length (bytes_of "object=") 9 o (omega arith))

module _ (o : ℕ) (small : o < 4294967296) (ds : List Difference) {a b : List ℕ} {line need : ℕ}
    (p : Put (line_of (bytes_of "object=") o) [] 0 a line) (q : Put (joined lines_of ds) [] line b need) where
  -- the position behind the line is its length
  line_is : line ≡ length (line_of (bytes_of "object=") o)
  line_is = (measured p).1 ∙ exact (length (line_of (bytes_of "object=") o)) (omega (arith, name_short o small))

  -- measured on no bytes, neither leaves any
  both_empty : (a ≡ []) × (b ≡ [])
  unfolding over
  both_empty = ((measured p).0, length_none b (kept q))

  -- nothing differs
  pub written_nothing : (bytes : List ℕ) → need ≡ line → Told (Bytes 0) (object_lines o ds) bytes (b ++ (a ++ bytes))
  unfolding written_by bytes_by counted
  written_nothing bytes e =
      let empty : length (joined lines_of ds) ≡ 0 = omega (arith, q.behind, line_is, name_short o small) in
      let z = object_none o ds empty in
      record { value = rw (z, le-ltb (length bytes) 0 zero-le); buf_after = rw (both_empty.0, both_empty.1, z, le-ltb (length bytes) 0 zero-le) }

  -- something does: the whole text is measured
  pub measured_both : need ≢ line → Put (object_lines o ds) [] 0 b need
  unfolding counted over
  measured_both h =
      let filled : length (joined lines_of ds) ≢ 0 = λ e. h (omega (arith, q.behind, line_is, name_short o small)) in
      rw (object_some o ds filled) (also p (rw (← both_empty.0) at q))

  -- it does not fit
  pub written_short :
      (bytes : List ℕ) → need ≢ line → length (b ++ (a ++ bytes)) < need → Told (Short need) (object_lines o ds) bytes (b ++ (a ++ bytes))
  written_short bytes h k =
      let k₁ : length bytes < need = rw (both_empty.0, both_empty.1) at k in
      let told = refused bytes (measured_both h) k₁ in
      record { value = told.0; buf_after = rw both_empty.0 told.1 }

  -- it fits, and is written behind the line
  pub written_both :
      (bytes : List ℕ) → need ≢ line → need ≤ length (b ++ (a ++ bytes)) → {c₁ c₂ : List ℕ} {m r : ℕ} →
      Put (line_of (bytes_of "object=") o) (b ++ (a ++ bytes)) 0 c₁ m → Put (joined lines_of ds) c₁ line c₂ r →
      Told (Bytes need) (object_lines o ds) bytes c₂
  unfolding counted
  written_both bytes h k {c₁} {c₂} {m} {r} x y =
      let k₁ : need ≤ length bytes = rw (both_empty.0, both_empty.1) at k in
      let filled : length (joined lines_of ds) ≢ 0 = λ e. h (omega (arith, q.behind, line_is, name_short o small)) in
      let same : m ≡ line = x.behind ∙ omega (arith, line_is, name_short o small) in
      let x₁ = rw (both_empty.0, same) at x in
      let z : Put (object_lines o ds) (b ++ bytes) 0 c₂ r = rw (object_some o ds filled) (also x₁ y) in
      let told = accepted bytes (measured_both h) k₁ z in
      record { value = told.0; buf_after = told.1 }

-- what differs put behind the place of the object's line, where both have room, and then the line before it
module _ (o : ℕ) (small : o < 4294967296) (ds : List Difference) {a b : List ℕ} {line next : ℕ} (bytes : List ℕ)
    (fits : length (line_of (bytes_of "object=") o) + length (joined lines_of ds) ≤ length bytes)
    (p : Put (line_of (bytes_of "object=") o) [] 0 a line) (q : Put (joined lines_of ds) (a ++ bytes) line b next) where
  abbrev s : List ℕ
  s = line_of (bytes_of "object=") o

  abbrev t : List ℕ
  t = joined lines_of ds

  -- the position behind the line is its length
  behind_line : line ≡ length s
  behind_line = (measured p).1 ∙ exact (length s) (omega (arith, name_short o small))

  -- measuring the line left the bytes as they were
  lent : a ++ bytes ≡ bytes
  lent = rw (measured p).0

  -- the position behind all is the length of both
  behind_all : next ≡ length s + length t
  unfolding counted
  behind_all = q.behind ∙ omega (arith, behind_line, q.short, ap length lent)

  -- nothing differs: nothing was put, and nothing is written
  pub straight_nothing : next ≡ line → Told (Bytes 0) (object_lines o ds) bytes b
  unfolding written_by bytes_by over
  straight_nothing e =
      let empty : length t ≡ 0 = omega (arith, behind_all, behind_line) in
      let z = object_none o ds empty in
      let same : b ≡ bytes = q.holds ∙ rw (length_none t empty, lent) in
      record { value = rw (z, le-ltb (length bytes) 0 zero-le); buf_after = rw (same, z, le-ltb (length bytes) 0 zero-le) }

  -- something does: with the line in front of it the whole text is written
  pub straight_both : next ≢ line → {c : List ℕ} {m : ℕ} → Put s b 0 c m → Told (Bytes next) (object_lines o ds) bytes c
  unfolding written_by bytes_by over
  straight_both h {c} x =
      let filled : length t ≢ 0 = λ e. h (omega (arith, behind_all, behind_line)) in
      let all : length (s ++ t) ≡ length s + length t = length-append s t in
      let long : length b ≡ length bytes = kept q ∙ ap length lent in
      let put : b ≡ take (length s) bytes ++ (t ++ drop (length s + length t) bytes) =
      q.holds ∙ rw (lent, behind_line) (sets-eq t bytes (length s) fits ∙ append_assoc (take (length s) bytes) t (drop (length s + length t) bytes)) in
      let front : length (take (length s) bytes) ≡ length s = length-take-le (length s) bytes (omega arith) in
      let rest : drop (length s) b ≡ t ++ drop (length s + length t) bytes =
      ap (drop (length s)) put ∙ drop_at (take (length s) bytes) (t ++ drop (length s + length t) bytes) (length s) front in
      let after : c ≡ (s ++ t) ++ drop (length (s ++ t)) bytes =
      whole x (omega arith) ∙ rw (rest, all) (sym (append_assoc s t (drop (length s + length t) bytes))) in
      let fit = le-ltb (length bytes) (length (s ++ t)) (omega arith) in
      rw (object_some o ds filled) (record { value = rw (fit, behind_all, all); buf_after = rw fit after })
