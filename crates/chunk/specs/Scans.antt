-- What the scans over a dump answer, by the definitions.
use Rattle.std.specs.Prelude.{ℕ, max, Bool, true, ◌&&◌, eqb, ltb, leb, Option, Some, None}
use Rattle.page.specs.Choice.{pick}
use Rattle.page.specs.Records.{is_header}
use Rattle.page.specs.declared.record.Record.{Record}
use Rattle.chunk.specs.Records.{age_of, order_of, sequence_of, is_of, header_of, data_of, is_copy}
use Rattle.chunk.specs.Cuts.{cut_of, lower}
use Rattle.chunk.specs.Sizes.{end_of}
use Rattle.chunk.specs.declared.record.Want.{Want}
use Rattle.chunk.specs.declared.record.Want.TheVariants as want
use Rattle.chunk.specs.Aged.{Newest}
use Rattle.chunk.specs.Aged.{At, Nothing}

-- what a scan wants of an object's records
abbrev pub wanted_by : Want → Record → Bool
wanted_by want.Record r = true
wanted_by want.Header r = is_header r
wanted_by (want.Copy c) r = is_copy c.0 r

-- which pages a scan for object o wants
abbrev pub wanted : (object : ℕ) → Want → Record → Bool
wanted o w r = is_of o r && wanted_by w r

-- the newest page of a scan, with its age
abbrev pub newest_in : (ℕ → Record) → Option ℕ → Newest
newest_in says None = Nothing
newest_in says (Some p) = At (record { 0 = p }) (age_of says p)

-- the newer of a page and another, by their ages
abbrev pub later_in : Newest → (page age : ℕ) → Newest
later_in Nothing p a = At (record { 0 = p }) a
later_in (Some x) p a = pick (leb x.age a) (At (record { 0 = p }) a) (At x.page x.age)

-- the largest end so far, with page p too
unfoldable pub end_with : (end P object age page : ℕ) → Record → ℕ
end_with end P o x p r = pick (data_of o r && ltb x (order_of (sequence_of r) p)) (max (end_of P r) end) end

-- the lowest cut so far, with page p too
unfoldable pub cut_with : (Option ℕ) → (object header age page : ℕ) → Record → Option ℕ
cut_with cut o h x p r = pick (header_of o r && ltb x (order_of (sequence_of r) p)) (lower (cut_of (eqb p h) r) cut) cut
