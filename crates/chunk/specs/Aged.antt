-- The newest page of a scan with its age, if there is one.
use Rattle.std.specs.Prelude.{ℕ, Option, Some, None}
use Rattle.page.specs.declared.number.PageNumber.{PageNumber}
use Rattle.chunk.specs.declared.scan.Aged as aged

abbrev pub Newest : Type 0
Newest = Option aged.Aged

abbrev pub At : PageNumber → (age : ℕ) → Newest
At p a = Some (record { page = p; age = a })

pattern abbrev pub Nothing : Newest
Nothing = None
