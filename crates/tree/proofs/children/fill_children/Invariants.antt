-- The loop's invariant: the rows of the children among the heads passed were put in front. A head is passed over if it is the root's, if its page is no
-- header, or if its object is deleted: then it is no child. In the end the rows are no more than the heads, so that all stand in front and are sorted.
use Rattle.chunk.specs.Live.{passed}
use Rattle.text.specs.Put.{Put}
use Rattle.tree.specs.Children.{is_child, child_row}
use Rattle.tree.specs.Objects.{says_by}
use Rattle.tree.proofs.children.fill_children.Given as goal

abbrev pub invariant-loop-i : goal.invariant-loop-i
invariant-loop-i l =
    let says = says_by l.g l.dump l.t in
    Put (passed (is_child says l.heads) (child_row says l.heads) l.i) l.initial.rows 0 l.rows l.at
