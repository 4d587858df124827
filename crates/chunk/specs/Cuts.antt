-- Cuts (document 01, "Newest, size and cuts").
use Rattle.std.specs.Prelude.{ℕ, ◌-◌, min, Bool, false, ◌&&◌, ◌||◌, eqb, ltb, leb, Option, Some, None}
use Rattle.page.specs.Choice.{pick}
use Rattle.page.specs.declared.record.Record.{Record}
use Rattle.page.specs.declared.record.Record.TheVariants.{Other, Header, Data}
use Rattle.chunk.specs.Gather.{gather}
use Rattle.chunk.specs.Records.{age_of, header_of, is_gone, is_file, file_size}

-- whether a header is shrink-marked
abbrev pub is_shrink : Record → Bool
is_shrink Other = false
is_shrink (Header h) = h.shrink
is_shrink (Data d) = false

-- where a header cuts, if it does: under parent 3 or 4 at 0, whatever its type; any other of type 1 at its file size, if it is shrink-marked or the newest
unfoldable pub cut_of : (isNewest : Bool) → Record → Option ℕ
cut_of isNewest k =
    pick (is_gone k) (Some 0)
    (pick (is_file k && (is_shrink k || isNewest)) (Some (file_size k))
    None)

-- the lower of two cuts
abbrev pub lower : (Option ℕ) → Option ℕ → Option ℕ
lower None other = other
lower (Some a) None = Some a
lower (Some a) (Some b) = Some (min a b)

-- the lowest cut of the headers of object o that are newer than the age x, where h is its newest header
unfoldable pub lowest_cut : (says : ℕ → Record) (object header age pages : ℕ) → Option ℕ
lowest_cut says o h x n = gather (λ p a. pick (header_of o (says p) && ltb x (age_of says p)) (lower (cut_of (eqb p h) (says p)) a) a) None n

-- whether a cut hides what begins at a place: it is at or below that
abbrev pub hides : (Option ℕ) → (place : ℕ) → Bool
hides None place = false
hides (Some a) place = leb a place

-- how many of so many bytes from a place on a cut leaves
abbrev pub leaves : (Option ℕ) → (place bytes : ℕ) → ℕ
leaves None place bytes = bytes
leaves (Some a) place bytes = min bytes (a - place)
