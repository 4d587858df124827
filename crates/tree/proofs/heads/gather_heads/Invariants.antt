-- The loop's invariant: the rows of the headers passed were put in front. There are as many words as headers, so that in the end the rows are all of
-- them.
use Rattle.chunk.specs.Live.{passed}
use Rattle.text.specs.Put.{Put}
use Rattle.tree.specs.Heads.{is_head, head_row}
use Rattle.tree.specs.Objects.{says_by}
use Rattle.tree.proofs.heads.gather_heads.Given as goal

abbrev pub invariant-loop-i : goal.invariant-loop-i
invariant-loop-i l =
    let says = says_by l.g l.dump l.t in
    Put (passed (is_head says) (head_row says) l.i) l.initial.rows 0 l.rows l.at
