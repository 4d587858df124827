-- The numbers of document 01's table of refusals.
use Rattle.std.specs.Prelude.{ℕ}
use Rattle.page.specs.declared.refusal.Refusal.{Refusal}
use Rattle.page.specs.declared.refusal.Refusal.TheVariants.{BadLayout, BadLength, NoLayout, BadObject, BadChunk, NoObject, NoHeader, Deleted, NotAFile, PastEnd, ShortBuffer, ShortIndex, IndexDamaged, BadPage, AlreadyAdded, NotHeader}

abbrev pub refusal_number : Refusal → ℕ
refusal_number BadLayout = 1
refusal_number BadLength = 2
refusal_number NoLayout = 3
refusal_number BadObject = 4
refusal_number BadChunk = 5
refusal_number NoObject = 6
refusal_number NoHeader = 7
refusal_number Deleted = 8
refusal_number NotAFile = 9
refusal_number PastEnd = 10
refusal_number ShortBuffer = 11
refusal_number ShortIndex = 12
refusal_number IndexDamaged = 13
refusal_number BadPage = 14
refusal_number AlreadyAdded = 15
refusal_number NotHeader = 16
