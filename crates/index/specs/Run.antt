-- How a run of additions ended: all were done, or the addition of a page was refused, and those before it stand.
use Rattle.std.specs.Prelude.{Result, Ok, Err}
use Rattle.page.specs.declared.refusal.Refusal.{Refusal}
use Rattle.page.specs.declared.number.PageNumber.{PageNumber}
use Rattle.index.specs.declared.runs.Stop.{Stop}

abbrev pub Run : Type 0
Run = Result Unit Stop

pattern abbrev pub Done : Run
Done = Ok tt

abbrev pub Stopped : PageNumber → Refusal → Run
Stopped p r = Err (record { page = p; refusal = r })
