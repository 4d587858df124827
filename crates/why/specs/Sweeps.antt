-- How the spans of a file come about: its marks are gone through in order, and what begins to matter at each is taken in.
use Rattle.std.specs.Prelude.{ℕ, Bool, false, ◌||◌, ◌-◌, List, [], ◌∷◌, ◌++◌, length, replicate, eqb, ltb, leb, Some}
use Rattle.page.specs.Choice.{pick}
use Rattle.page.specs.declared.number.PageNumber.{PageNumber}
use Rattle.page.specs.declared.record.Record.{Record}
use Rattle.page.specs.declared.record.Record.TheVariants.{Other, Header, Data}
use Rattle.chunk.specs.Records.{order_of}
use Rattle.chunk.specs.Scans.{later_in}
use Rattle.chunk.specs.Aged.{Newest}
use Rattle.chunk.specs.Aged.{Nothing}
use Rattle.why.specs.Codes.{code_of, row_of}
use Rattle.why.specs.Marks.{no_page, place_of, page_on}
use Rattle.why.specs.Reasons.{chunk_at, held_by}
use Rattle.why.specs.declared.reason.Reason.{Reason}
use Rattle.why.specs.declared.reason.Reason.TheVariants.{NoCopy, Cut}
use Rattle.why.specs.declared.sweep.Seen.{Seen}

-- nothing taken in yet
abbrev pub nothing_seen : Seen
nothing_seen = record { cut = Nothing; chunk = record { 0 = 0 }; copy = Nothing }

-- page p, which says this, taken in
abbrev pub seen_with : Seen → (page : ℕ) → Record → Seen
seen_with s p Other = s
seen_with s p (Header k) = record { cut = later_in s.cut p (order_of k.sequence p); chunk = s.chunk; copy = s.copy }
seen_with s p (Data d) =
    record { cut = s.cut; chunk = d.chunk; copy = later_in (pick (eqb d.chunk.0 s.chunk.0) s.copy Nothing) p (order_of d.sequence p) }

-- whether the first of the marks is at place x too
abbrev pub goes_on : (place : ℕ) (marks : List ℕ) → Bool
goes_on x [] = false
goes_on x (m ∷ marks) = eqb (place_of m) x

-- the page of a mark taken in, if it has one
abbrev pub taken : (says : ℕ → Record) → Seen → (mark : ℕ) → Seen
taken says s m = pick (eqb (page_on m) no_page) s (seen_with s (page_on m) (says (page_on m)))

module _ (says : ℕ → Record) (P : ℕ) where
  -- the copy q at place x, behind the newest header that cuts there
  abbrev pub behind_seen : (page : PageNumber) (age place : ℕ) → Newest → Reason
  behind_seen q age x Nothing = held_by says P q.0 x
  behind_seen q age x (Some y) = pick (ltb age y.age) (Cut y.page) (held_by says P q.0 x)

  abbrev pub copy_seen : Seen → (place : ℕ) → Newest → Reason
  copy_seen s x Nothing = NoCopy
  copy_seen s x (Some y) = pick (eqb s.chunk.0 (chunk_at P x)) (behind_seen y.page y.age x s.cut) NoCopy

  -- the reason at place x
  unfoldable pub reason_seen : Seen → (place : ℕ) → Reason
  reason_seen s x = copy_seen s x s.copy

  -- the rows of a file of a size: one behind the last mark of a place, if the reason there is not that of the last row
  module _ (size : ℕ) where
    unfoldable pub swept : Seen → (last : ℕ) (marks : List ℕ) → List ℕ
    swept s last [] = []
    swept s last (m ∷ marks) =
        let now = taken says s m in
        let code = code_of (reason_seen now (place_of m)) in
        pick (goes_on (place_of m) marks || leb size (place_of m) || eqb code last) (swept now last marks) (row_of (place_of m) code ∷ swept now code marks)

-- rows with zeros behind them, in so many words
abbrev pub filled : (rows : List ℕ) (words : ℕ) → List ℕ
filled rows words = rows ++ replicate (words - length rows) 0
