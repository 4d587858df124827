-- A length that no report of an object exceeds: where so many bytes are lent, the report is written without being measured first.
use Rattle.std.specs.Prelude.{ℕ, ◌+◌, ◌*◌, ◌<◌, min, Option, Some, None}
use Rattle.compare.specs.Differences.{stretches_in}

-- the bytes of all lines but those of stretches, and of the line of a stretch, at most
abbrev pub plain_bytes : ℕ
plain_bytes = 1024

abbrev pub line_bytes : ℕ
line_bytes = 29

-- of files of these sizes
abbrev pub most_of : Option ℕ → Option ℕ → ℕ
most_of (Some y) (Some z) = plain_bytes + stretches_in (min y z) * line_bytes
most_of (Some y) None = plain_bytes
most_of None other = plain_bytes

-- sizes that words hold, where both are there
abbrev pub Small : Option ℕ → Option ℕ → Type 0
Small (Some y) (Some z) = (y < 18446744073709551616) × (z < 18446744073709551616)
Small (Some y) None = Unit {0}
Small None other = Unit {0}
