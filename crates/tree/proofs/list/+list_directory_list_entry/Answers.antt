use native.Mathlib.Omega.{arith}
use Rattle.std.proofs.Common.{ℕ}
use Rattle.text.proofs.Putting.{nothing}
use Rattle.tree.specs.Heads.{object_at}
use Rattle.tree.specs.Objects.{says_by, names_of}
use Rattle.tree.specs.Paths.{children_of}
use Rattle.tree.proofs.FirstList.{no_level, done_none, done_more, done_all, Learnt, plain_put, standing_put}
use Rattle.tree.proofs.Segments.{Segment, rows_sorted, row_inside, row_segment}
use Rattle.tree.proofs.list.+list_directory_list_entry.Goals as goal
use Rattle.tree.proofs.list.+list_directory_list_entry.Goals.{list_entry-After-is_standing}

-- ---- a directory

-- no step is left
pub list_directory-returns-then-depth-eq0 : goal.list_directory-returns-then-depth-eq0
list_directory-returns-then-depth-eq0 t c = rw (no_level _ _ _ _ _ _ _ c.if-depth-eq0.true) (nothing _ _ (omega arith) (omega arith))

-- between the two places stand the rows of the directory's entries, of which none was put yet
pub list_directory-loop-i-init : goal.list_directory-loop-i-init
list_directory-loop-i-init t c =
    let a = c.args in
    let says = says_by a.g a.dump.now a.t in
    let names = names_of a.g a.dump.now in
    let e = c.requires.children_value in
    let sorted = rows_sorted says names _ (omega (arith, c.ranges.pages)) _ c.requires.heads _ e in
    let between : Segment a.children.now (children_of says names a.pages a.directory) (object_at a.heads.now) _ _ =
    row_segment says names a.pages (omega (arith, c.ranges.pages)) a.heads.now c.requires.heads a.children.now a.directory
    c.first_from-first.result c.first_from-end.result c.pack.result c.pack-2.result e c.pack.ensures c.pack-2.ensures
    (c.first_from-first.ensures.parted sorted) (c.first_from-end.ensures.parted sorted) in
    done_none says names a.pages a.heads.now a.children.now a.depth a.key a.directory a.at a.rows.now _ _ between
    (omega arith) (omega (arith, c.ranges.at))

pub list_directory-loop-i-preserved : goal.list_directory-loop-i-preserved
list_directory-loop-i-preserved t c =
    done_more _ _ _ _ _ _ _ _ _ _ _ _ _ _ _ c.loop-i.invariant _ _ c.loop-i-test.true c.list_entry-next.ensures

pub list_directory-returns : goal.list_directory-returns
list_directory-returns t c = done_all _ _ _ _ _ _ _ _ _ _ _ _ _ _ _ c.loop-i.invariant c.if-depth-eq0.false c.loop-i-test.false

-- ---- an entry

-- its place is among the heads
pub list_entry-bounds-heads-place : goal.list_entry-bounds-heads-place
list_entry-bounds-heads-place t c =
    let a = c.args in
    let inside =
    row_inside (says_by a.g a.dump.now a.t) (names_of a.g a.dump.now) a.pages (omega (arith, c.ranges.pages)) a.heads.now c.requires.heads
    a.children.now a.i c.requires.children_value c.requires.i_in_bounds in
    omega (arith, c.value_of-place.ensures, inside)

-- what is known of it once it is asked whether it stands
learnt : (t : ℕ) (c : list_entry-After-is_standing t) →
    let a = c.args in
    Learnt (says_by a.g a.dump.now a.t) (names_of a.g a.dump.now) a.pages a.heads.now a.children.now a.i a.key
    c.value_of-place.result c.value_of-page.result c.seen_at.result c.pack.result c.is_standing.result
learnt t c = record {
  inside =
      let a = c.args in
      let inside =
      row_inside (says_by a.g a.dump.now a.t) (names_of a.g a.dump.now) a.pages (omega (arith, c.ranges.pages)) a.heads.now c.requires.heads
      a.children.now a.i c.requires.children_value c.requires.i_in_bounds in
      omega (arith, c.value_of-place.ensures, inside);
  its_place = c.value_of-place.ensures;
  its_page = c.value_of-page.ensures;
  its_words = c.seen_at.ensures;
  its_row = c.pack.ensures;
  tested = c.is_standing.ensures;
}

-- one that is no directory
pub list_entry-returns-then-not-is_standing : goal.list_entry-returns-then-not-is_standing
list_entry-returns-then-not-is_standing t c =
    plain_put _ _ _ _ _ c.requires.heads _ _ _ _ _ _ _ (learnt t (goal.at.list_entry-returns-then-not-is_standing t c).After-is_standing)
    _ _ _ _ _ c.put_row-next.ensures c.if-not-is_standing.true

pub list_entry-returns : goal.list_entry-returns
list_entry-returns t c =
    standing_put _ _ _ _ _ c.requires.heads _ _ _ _ _ _ _ (learnt t (goal.at.list_entry-returns t c).After-is_standing)
    _ _ _ _ _ c.put_row-next.ensures _ _ _ _
    c.if-not-is_standing.false c.key_of.ensures c.key_behind.ensures c.list_directory.ensures
