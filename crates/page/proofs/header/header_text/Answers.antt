-- A page that is a header lies in the dump.
use Rattle.page.proofs.Sound.{asked_in}
use Rattle.page.proofs.header.header_text.Goals as goal

pub text_on-requires : goal.text_on-requires
text_on-requires c =
    let a = c.args in
    asked_in a.g a.dump.now a.n.0 (rw (← c.ask_header.ensures) c.in-Ok.is)
