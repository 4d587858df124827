-- The name stands in front of the bytes of its field, and they are put.
use Rattle.tree.proofs.Texting.{name_put}
use Rattle.tree.proofs.texts.put_name.Goals as goal

pub returns : goal.returns
returns c =
    let a = c.args in
    let e = name_put a.g a.dump.now a.p.0 c.text_in-bytes.ensures c.name_length-end.ensures.value in
    rw e at c.put_text.ensures
