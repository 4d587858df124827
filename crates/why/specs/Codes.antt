-- A reason's kind and page as one number, and a span of a file as one.
use Rattle.std.specs.Prelude.{ℕ, ◌+◌, ◌*◌, ◌/◌, ◌%◌, eqb}
use Rattle.page.specs.Choice.{pick}
use Rattle.page.specs.Numbers.{page_values}
use Rattle.page.specs.declared.number.PageNumber.{PageNumber}
use Rattle.why.specs.declared.reason.Reason.{Reason}
use Rattle.why.specs.declared.reason.Reason.TheVariants.{Held, NoCopy, Cut, Count, PastEnd}

-- the number of a reason's kind
abbrev pub kind_of : Reason → ℕ
kind_of (Held p at) = 1
kind_of NoCopy = 2
kind_of (Cut p) = 3
kind_of (Count p) = 4
kind_of (PastEnd p) = 5

-- the page that it goes by; 0 where there is none
abbrev pub page_in : Reason → ℕ
page_in (Held p at) = p.0
page_in NoCopy = 0
page_in (Cut p) = p.0
page_in (Count p) = p.0
page_in (PastEnd p) = p.0

-- the data byte of a held one; 0 of another
abbrev pub byte_in : Reason → ℕ
byte_in (Held p at) = at
byte_in NoCopy = 0
byte_in (Cut p) = 0
byte_in (Count p) = 0
byte_in (PastEnd p) = 0

-- how many kinds a code tells apart, and how many codes there are
abbrev pub kind_values : ℕ
kind_values = 8

abbrev pub code_values : ℕ
code_values = page_values * kind_values

-- the kind and the page as one number
abbrev pub code_of : Reason → ℕ
code_of r = page_in r * kind_values + kind_of r

-- the reason of a code, at a data byte
unfoldable pub reason_of : (code at : ℕ) → Reason
reason_of code at =
    let page : PageNumber = record { 0 = code / kind_values } in
    let kind = code % kind_values in
    pick (eqb kind 1) (Held page at)
    (pick (eqb kind 3) (Cut page)
    (pick (eqb kind 4) (Count page)
    (pick (eqb kind 5) (PastEnd page)
    NoCopy)))

-- a row: where a span begins, and its reason's code
abbrev pub row_of : (from code : ℕ) → ℕ
row_of from code = from * code_values + code

abbrev pub from_of : (row : ℕ) → ℕ
from_of row = row / code_values

abbrev pub code_in : (row : ℕ) → ℕ
code_in row = row % code_values
