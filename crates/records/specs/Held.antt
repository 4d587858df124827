-- For the code alone: how the newest copy of a chunk stands that no later header hides. What it comes to is in Standings.
use Rattle.std.specs.Prelude.{ℕ, ◌-◌, min, leb, Result, Ok, Err, Some}
use Rattle.page.specs.declared.refusal.Refusal.{Refusal}
use Rattle.page.specs.Choice.{pick}
use Rattle.page.specs.declared.record.Data.{Data}
use Rattle.chunk.specs.Cuts.{leaves}
use Rattle.chunk.specs.Records.{base_of}
use Rattle.records.specs.declared.standing.Standing.{Standing}
use Rattle.records.specs.declared.standing.Standing.TheVariants.{Holds, NoFile}

-- how many bytes are valid of a copy in a file of a size: of its byte count, of what is shown, and of what is before the lowest later cut
abbrev pub held_bytes : (P size low chunk count : ℕ) → ℕ
held_bytes P z low c count = min count (leaves (Some low) (base_of P c) (min P (z - base_of P c)))

-- by what the file is, and the word of the lowest later cut
unfoldable pub held_in : (P : ℕ) → Result ℕ Refusal → (low : ℕ) → Data → Standing
held_in P (Err r) low d = NoFile
held_in P (Ok z) low d = pick (leb z (base_of P d.chunk.0)) NoFile (Holds d.chunk (held_bytes P z low d.chunk.0 d.count))
