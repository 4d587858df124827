-- The lines one after the other: that the object is deleted on one side, that it has no header on one side, and the fields.
use Rattle.text.proofs.Putting.{also}
use Rattle.compare.specs.Lines.{header_lines}
use Rattle.compare.proofs.Heads.{head_lacks}
use Rattle.compare.proofs.object.put_headers.Goals as goal

pub returns : goal.returns
unfolding header_lines
returns c =
    rw (
      ← c.is_deleted.ensures,
      ← c.is_deleted-2.ensures,
      head_lacks _ _ c.is_none.ensures,
      head_lacks _ _ c.is_none-2.ensures,
    )
    (also c.put_side-deleted.ensures (also c.put_side-missing.ensures c.put_header_fields.ensures))
