-- For the code alone: what a file is with one record more. What it comes to is in Histories.
use Rattle.std.specs.Prelude.{ℕ, zero, suc, max, List, get_or, Result, Ok, Err}
use Rattle.page.specs.declared.refusal.Refusal.{Refusal}
use Rattle.page.specs.declared.record.Record.{Record}
use Rattle.page.specs.declared.record.Record.TheVariants.{Other, Header, Data}
use Rattle.page.specs.declared.refusal.Refusal.TheVariants.{NoHeader}
use Rattle.chunk.specs.Lookups.{file_at}
use Rattle.chunk.specs.Records.{file_size}
use Rattle.chunk.specs.Sizes.{end_of}
use Rattle.chunk.specs.File.{File}
use Rattle.records.specs.Written.{page_of}

-- what a header makes of it, whatever it was
abbrev pub begun_by : Record → File → Result ℕ Refusal
begun_by k (Err e) = Err e.answer
begun_by k (Ok x) = Ok (file_size k)

-- what data that ends at a place makes of it
abbrev pub grown_to : (end : ℕ) → Result ℕ Refusal → Result ℕ Refusal
grown_to end (Ok z) = Ok (max end z)
grown_to end (Err r) = Err r

-- with the record on page p
unfoldable pub after_with : (P : ℕ) → Result ℕ Refusal → (page : ℕ) → Record → Result ℕ Refusal
after_with P a p Other = a
after_with P a p (Header k) = begun_by (Header k) (file_at (Header k) p 0)
after_with P a p (Data d) = grown_to (end_of P (Data d)) a

-- after the first i of the records of these ages
unfoldable pub followed : (says : ℕ → Record) (P : ℕ) (ages : List ℕ) (i : ℕ) → Result ℕ Refusal
followed says P ages zero = Err NoHeader
followed says P ages (suc i) = let p = page_of (get_or ages i 0) in after_with P (followed says P ages i) p (says p)
