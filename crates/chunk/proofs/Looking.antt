-- Laws of the answers of lookups, for their code.
use Prim.Native.Nat.{ℕ}
use mathlib.Core.Bool.{false}
use mathlib.Core.Path.{◌≡◌, refl}
use Rattle.page.specs.Records.{is_header}
use Rattle.page.specs.declared.record.Record.{Record}
use Rattle.page.specs.declared.record.Record.TheVariants.{Other, Header, Data}
use Rattle.page.specs.declared.refusal.Refusal.TheVariants.{NotAFile}
use Rattle.page.proofs.Searching.{clash}
use Rattle.chunk.specs.Lookups.{file_at}
use Rattle.chunk.specs.File as file

-- a page that is no header is no file
pub other_file : (k : Record) (h v : ℕ) → is_header k ≡ false → file_at k h v ≡ file.Refused NotAFile v
unfolding file_at
other_file Other h v e = refl
other_file (Header r) h v e = clash (cc)
other_file (Data d) h v e = refl
