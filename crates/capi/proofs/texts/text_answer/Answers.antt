-- Each arm of the match is a case of the definition; a page whose fields were given lies in the dump, so that its place fits.
use Prim.Native.Nat.{◌+◌, ◌*◌, ◌≤◌}
use mathlib.Core.Path.{sym, ◌∙◌}
use lib.ListN.{length}
use native.Mathlib.Omega.{arith}
use Rattle.page.proofs.Lengths.{page_within}
use Rattle.page.proofs.Sound.{text_fits}
use Rattle.page.proofs.Texts.{headed_in}
use Rattle.capi.specs.Headers.{text_answer}
use Rattle.capi.proofs.texts.text_answer.Goals as goal
use Rattle.capi.proofs.texts.text_answer.Goals.{After-page_len}

-- the page ends within the dump
page-place : (c : After-page_len) → let a = c.args in
    a.page * c.page_len.result + c.page_len.result ≤ length a.dump.now
page-place c =
    let a = c.args in
    rw c.page_len.ensures.value
    (page_within c.geometry_at-g.result (length a.dump.now) a.page
    (headed_in c.geometry_at-g.result a.dump.now a.page _ (sym c.header.ensures ∙ c.in-Ok.is))).ends

pub overflow_mul-result : goal.overflow_mul-result
overflow_mul-result c = omega (arith, page-place c)

pub overflow_add-result : goal.overflow_add-result
overflow_add-result c =
    let a = c.args in
    omega (arith, page-place (goal.at.overflow_add-result c).After-page_len, c.place.ensures, text_fits a.f)

pub returns-in-Ok : goal.returns-in-Ok
unfolding text_answer
returns-in-Ok c =
    rw (
      ← c.geometry_at-g.ensures,
      ← c.header.ensures,
      c.in-Ok.is,
      c.page_len.ensures.value,
      c.place.ensures,
      c.length.ensures,
    )
