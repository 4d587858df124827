-- How long a report is. Nothing that it counts is more than a dump has bytes, which is a number of ten digits.
use Prim.Native.Nat.{ℕ, ◌+◌, ◌≤◌}
use Rattle.std.specs.Prelude.{Result, Ok, Err}
use mathlib.Core.Bool.{cond}
use mathlib.Core.List.{List}
use mathlib.Core.Path.{◌≡◌, refl}
use native.Mathlib.Nat.{le_trans}
use native.Mathlib.Omega.{arith}
use lib.Dec.{ltb}
use lib.ListN.{length, length-append}
use Rattle.page.specs.Counts.{AtMost}
use Rattle.page.specs.Find.{find_of}
use Rattle.page.specs.Layouts.{most_bytes}
use Rattle.page.specs.Lengths.{geometry_of, opened_of}
use Rattle.page.specs.Records.{record_at}
use Rattle.page.specs.Refusals.{refusal_number}
use Rattle.page.specs.declared.count.Counts.{Counts}
use Rattle.page.specs.declared.geometry.Geometry.{Geometry}
use Rattle.page.specs.declared.layout.Layout.{Layout}
use Rattle.page.specs.declared.refusal.Refusal.{Refusal}
use Rattle.page.specs.declared.refusal.Refusal.TheVariants.{BadLayout, BadLength, NoLayout, BadObject, BadChunk, NoObject, NoHeader, Deleted, NotAFile, PastEnd, ShortBuffer, ShortIndex, IndexDamaged, BadPage, AlreadyAdded, NotHeader}
use Rattle.page.proofs.Counting.{counts_at_most}
use Rattle.page.proofs.Finding.{found_opens}
use Rattle.page.proofs.Layouts.{Roomy, roomy_facts}
use Rattle.page.proofs.Lengths.{opened_facts, opened_most, block_most}
use Rattle.page.proofs.Searching.{count_le}
use Rattle.chunk.specs.Live.{object_count, live_count}
use Rattle.text.specs.Lines.{field_of, line_of}
use Rattle.text.specs.Quoted.{bytes_of}
use Rattle.text.specs.Whole.{written_by}
use Rattle.text.specs.Written.{Bytes, Short}
use Rattle.text.proofs.Lines.{field_length, line_length}
use Rattle.text.proofs.Writing.{exactly}
use Rattle.summary.specs.Figures.{figures_at, figured_by, figured_of}
use Rattle.summary.specs.Report.{longest, layout_line, kind_lines, ten_lines, refusal_line, text_of, report_of}

line : (key : List ℕ) (n : ℕ) → n ≤ most_bytes → length (line_of key n) ≤ length key + 11
line key n h = omega (arith, line_length key 9 n (omega arith))

field : (key : List ℕ) (n : ℕ) → n ≤ most_bytes → length (field_of key n) ≤ length key + 10
field key n h = omega (arith, field_length key 9 n (omega arith))

layout_length : (l : Layout) → Roomy l → length (layout_line l) ≤ 40
unfolding layout_line
layout_length l r =
    simp length-append
    (omega (
      arith,
      field (bytes_of "layout=") l.«data» (omega arith),
      field (bytes_of "/") l.spare (omega arith),
      line (bytes_of "/") l.tag (omega arith),
    ))

kinds_length : (c : Counts) → AtMost most_bytes c → length (kind_lines c) ≤ 90
unfolding kind_lines
kinds_length c m =
    simp length-append
    (omega (
      arith,
      line (bytes_of "blank=") c.blank m.blanks,
      line (bytes_of "foreign=") c.foreign m.foreigns,
      line (bytes_of "damaged=") c.damaged m.damageds,
      line (bytes_of "headers=") c.headers m.header,
      line (bytes_of "data=") c.«data» m.datas,
    ))

refusal_small : (r : Refusal) → refusal_number r ≤ most_bytes
refusal_small BadLayout = omega arith
refusal_small BadLength = omega arith
refusal_small NoLayout = omega arith
refusal_small BadObject = omega arith
refusal_small BadChunk = omega arith
refusal_small NoObject = omega arith
refusal_small NoHeader = omega arith
refusal_small Deleted = omega arith
refusal_small NotAFile = omega arith
refusal_small PastEnd = omega arith
refusal_small ShortBuffer = omega arith
refusal_small ShortIndex = omega arith
refusal_small IndexDamaged = omega arith
refusal_small BadPage = omega arith
refusal_small AlreadyAdded = omega arith
refusal_small NotHeader = omega arith

pub refusal_length : (r : Refusal) → length (refusal_line r) ≤ longest
unfolding refusal_line
refusal_length r = omega (arith, line (bytes_of "refusal=") (refusal_number r) (refusal_small r))

figures_length : (g : Geometry) (dump : List ℕ) (n : ℕ) → opened_of g (length dump) ≡ Ok n → length (ten_lines (figures_at g dump n)) ≤ longest
unfolding ten_lines figures_at object_count live_count
figures_length g dump n e =
    let f = opened_facts g (length dump) n e in
    let most = opened_most g (length dump) n e in
    let block = block_most g.block f.block in
    simp length-append
    (omega (
      arith,
      layout_length g.layout (roomy_facts g.layout f.room),
      line (bytes_of "block=") g.block (omega arith),
      line (bytes_of "pages=") n most,
      kinds_length _ (counts_at_most g dump n most_bytes _ refl most),
      line (bytes_of "objects=") (object_count (record_at g dump) n) (le_trans (count_le _ n) most),
      line (bytes_of "live=") (live_count (record_at g dump) n) (le_trans (count_le _ n) most),
    ))

found_length : (dump : List ℕ) (k : ℕ) (f : (Result Layout Refusal)) → find_of dump k ≡ f → length (text_of (figured_by f dump k)) ≤ longest
unfolding figured_by text_of
found_length dump k (Err r) e = refusal_length r
found_length dump k (Ok l) e = figures_length (geometry_of l k) dump _ (found_opens dump k l e)

-- no report is longer than this, so that bytes fixed beforehand are enough
pub report_length : (dump : List ℕ) (k : ℕ) → length (report_of dump k) ≤ longest
unfolding report_of figured_of
report_length dump k = found_length dump k (find_of dump k) refl

-- so the length that is told is the report's own, whether it is written or not
pub report_told :
    (room : ℕ) (dump : List ℕ) (k : ℕ) → let n = length (report_of dump k) in written_by room (report_of dump k) ≡ cond (ltb room n) (Short n) (Bytes n)
report_told room dump k = exactly room (report_of dump k) (le_trans (report_length dump k) (omega arith))
