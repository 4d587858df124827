-- The newest headers and the sizes are found on both sides. What differs between the headers is put, and then what differs between the files: that is
-- all.
use Rattle.text.proofs.Putting.{also}
use Rattle.compare.proofs.Lining.{found_both}
use Rattle.compare.proofs.object.put_both.Goals as goal

pub returns : goal.returns
returns c =
    let a = c.args in
    rw
    (found_both a.g a.dump.now a.order.now a.rows.now a.g2 a.dump2.now a.order2.now a.rows2.now
    c.head_of-one.result c.head_of-other.result c.size_of.result c.size_of-2.result
    c.head_of-one.ensures c.head_of-other.ensures c.size_of.ensures c.size_of-2.ensures
    c.requires.order_nonzero c.requires.order2_nonzero)
    (also c.put_headers-next.ensures c.put_contents.ensures)
