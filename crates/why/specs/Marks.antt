-- The places of a file at which the reason of its bytes can change: its begin; where a header cuts; where a copy begins, where its bytes end and where
-- its page does, which are one place if they fill it. A mark is such a place and the page that begins to matter there, if one does, in one number:
-- first by its place.
use Rattle.std.specs.Prelude.{ℕ, ◌+◌, ◌-◌, ◌*◌, ◌/◌, ◌%◌, List, [], ◌∷◌, ◌++◌, eqb, ltb, leb, Option, Some, None}
use Rattle.page.specs.Choice.{pick}
use Rattle.page.specs.Numbers.{bad_chunk, page_values}
use Rattle.page.specs.declared.number.PageNumber.{PageNumber}
use Rattle.page.specs.declared.record.Record.{Record}
use Rattle.page.specs.declared.record.Record.TheVariants.{Other, Header, Data}
use Rattle.chunk.specs.Gather.{gather}
use Rattle.chunk.specs.Records.{base_of}
use Rattle.chunk.specs.Cuts.{cut_of}
use Rattle.why.specs.declared.marks.Marks.{Marks}
use Rattle.why.specs.declared.marks.Marks.TheVariants.{Nothing, One, Two, Three}

-- the most data bytes that a page has
abbrev pub most_data : ℕ
most_data = 16384

-- how many places marks tell apart; no chunk has a byte behind them
abbrev pub places : ℕ
places = 0x10000000000

-- the page of a mark at which none begins to matter: one that no dump has
abbrev pub no_page : ℕ
no_page = page_values - 1

abbrev pub mark_of : (place page : ℕ) → ℕ
mark_of place page = place * page_values + page

abbrev pub place_of : (mark : ℕ) → ℕ
place_of m = m / page_values

abbrev pub page_on : (mark : ℕ) → ℕ
page_on m = m % page_values

-- the page that begins to matter at a mark, if one does
abbrev pub marked : (mark : ℕ) → Option PageNumber
marked m = pick (eqb (page_on m) no_page) None (Some (record { 0 = page_on m }))

-- as a list
abbrev pub marks_in : Marks → List ℕ
marks_in Nothing = []
marks_in (One a) = a ∷ []
marks_in (Two a b) = a ∷ b ∷ []
marks_in (Three a b c) = a ∷ b ∷ c ∷ []

-- those of a header on page p, by its cut
abbrev pub cut_marks : (page : ℕ) → Option ℕ → List ℕ
cut_marks p None = []
cut_marks p (Some a) = pick (ltb a places) (mark_of a p ∷ []) []

-- those of a copy of chunk c on page p, by its byte count
abbrev pub copy_marks : (P page chunk count : ℕ) → List ℕ
copy_marks P p c count =
    pick (leb P count)
    (mark_of (base_of P c) p ∷ mark_of (base_of P c + P) no_page ∷ [])
    (mark_of (base_of P c) p ∷ mark_of (base_of P c + count) no_page ∷ mark_of (base_of P c + P) no_page ∷ [])

-- those of data on page p, by its chunk number and byte count
abbrev pub data_marks : (P page chunk count : ℕ) → List ℕ
data_marks P p c count = pick (bad_chunk c) [] (copy_marks P p c count)

-- those that page p makes for object o, whose newest header is h
abbrev pub marks_of : (P object header page : ℕ) → Record → List ℕ
marks_of P o h p Other = []
marks_of P o h p (Header k) = pick (eqb k.object.0 o) (cut_marks p (cut_of (eqb p h) (Header k))) []
marks_of P o h p (Data d) = pick (eqb d.object.0 o) (data_marks P p d.chunk.0 d.count) []

-- those of the first n pages, behind that of the file's begin
unfoldable pub marks_to : (says : ℕ → Record) (P object header pages : ℕ) → List ℕ
marks_to says P o h n = gather (λ p marks. marks ++ marks_of P o h p (says p)) (mark_of 0 no_page ∷ []) n
