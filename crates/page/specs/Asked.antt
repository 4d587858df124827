-- Header fields of a page (document 01, "Header page", and refusal 16).
use Rattle.std.specs.Prelude.{ℕ, List, [], Result, Ok, Err}
use Rattle.page.specs.declared.kind.Kind.{Kind}
use Rattle.page.specs.declared.refusal.Refusal.{Refusal}
use Rattle.page.specs.Choice.{pick}
use Rattle.page.specs.Pages.{page_at}
use Rattle.page.specs.Headers.{fields_of, text_of}
use Rattle.page.specs.Kinds.{kind_at, told_of}
use Rattle.page.specs.Counts.{is_header}
use Rattle.page.specs.declared.geometry.Geometry.{Geometry}
use Rattle.page.specs.declared.fields.Fields.{Fields}
use Rattle.page.specs.declared.fields.Text.{Text}
use Rattle.page.specs.declared.refusal.Refusal.TheVariants.{NotHeader}

-- header fields asked of another kind of page are refused
unfoldable pub asked_by : Result Kind Refusal → Result Unit Refusal
asked_by (Err r) = Err r
asked_by (Ok k) = pick (is_header k) (Ok tt) (Err NotHeader)

-- whether page i of a dump is a header
unfoldable pub asked_of : Geometry → (dump : List ℕ) (page : ℕ) → Result Unit Refusal
asked_of g dump i = asked_by (told_of g dump i)

unfoldable pub headed_by : Result Unit Refusal → Fields → Result Fields Refusal
headed_by (Err r) f = Err r
headed_by (Ok tt) f = Ok f

-- its fields that are numbers
unfoldable pub headed_of : Geometry → (dump : List ℕ) (page : ℕ) → Result Fields Refusal
headed_of g dump i = headed_by (asked_of g dump i) (fields_of (page_at g dump i))

unfoldable pub text_by : Result Unit Refusal → List ℕ → List ℕ
text_by (Err r) s = []
text_by (Ok tt) s = s

-- a field of it that is bytes; no bytes where the page is refused
unfoldable pub text_at : Text → Geometry → (dump : List ℕ) (page : ℕ) → List ℕ
text_at f g dump i = text_by (asked_of g dump i) (text_of f (page_at g dump i))

-- the same where nothing is refused: no bytes of a page that is no header
unfoldable pub text_in : Text → Geometry → (dump : List ℕ) (page : ℕ) → List ℕ
text_in f g dump i = pick (is_header (kind_at g dump i)) (text_of f (page_at g dump i)) []
