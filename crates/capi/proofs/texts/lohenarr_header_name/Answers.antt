-- The text is at the place that the answer names.
use Rattle.capi.specs.Layouts.{geometry_at}
use Rattle.page.specs.declared.fields.Text.TheVariants.{Name}
use Rattle.capi.proofs.Places.{text_here}
use Rattle.capi.proofs.texts.lohenarr_header_name.Goals as goal

pub returns : goal.returns
returns c =
    let a = c.args in
    record { value = c.text_answer.ensures; dump_value = rw c.text_answer.ensures (text_here Name (geometry_at a.geometry) a.dump.now a.page) }
