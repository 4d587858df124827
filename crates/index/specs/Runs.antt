-- Adding a run of pages: one addition after the other, until one is refused. It is a list of additions in one call; those before the refused one
-- stand, and the refused one changes nothing. A run takes every page, or only the records that are older than a given one.
use Rattle.std.specs.Prelude.{ℕ, zero, suc, ◌+◌, ◌-◌, min, Bool, true, not, ◌&&◌, List, [], ◌∷◌, length, eqb, ltb, leb, Result, Ok, Err}
use Rattle.page.specs.declared.refusal.Refusal.{Refusal}
use Rattle.page.specs.Choice.{pick}
use Rattle.page.specs.Lengths.{opened_of}
use Rattle.page.specs.Records.{record_at}
use Rattle.page.specs.declared.record.Record.{Record}
use Rattle.page.specs.declared.geometry.Geometry.{Geometry}
use Rattle.page.specs.declared.refusal.Refusal.TheVariants.{ShortIndex, BadPage}
use Rattle.chunk.specs.Records.{age_of}
use Rattle.chunk.specs.declared.takes.Takes.{Takes}
use Rattle.chunk.specs.declared.takes.Takes.TheVariants.{Every, Older}
use Rattle.index.specs.Cells.{cells_for}
use Rattle.index.specs.Chains.{objects}
use Rattle.index.specs.Additions.{add_to}
use Rattle.index.specs.Requests.{Request, add}
use Rattle.index.specs.Run.{Run, Done, Stopped}

-- the pages that are taken, where the pages say this: all, or the records below an age
abbrev pub taken_by : Takes → (says : ℕ → Record) (page : ℕ) → Bool
taken_by Every says p = true
taken_by (Older b) says p = not (eqb (objects says p) 0) && ltb (age_of says p) b

-- what a run answers, and the cells that it leaves
pub record Ran : Type 0 where
  pub answer : Run
  pub cells : List ℕ

abbrev pub ran : Run → List ℕ → Ran
ran r c = record { answer = r; cells = c }

-- by the addition of page p: it goes on from what that left, or stops there
abbrev pub onward : Result Unit Refusal → (cells : List ℕ) (page : ℕ) → (List ℕ → Ran) → Ran
onward (Ok tt) c p rest = rest c
onward (Err r) c p rest = ran (Stopped (record { 0 = p }) r) c

-- the pages taken of so many from page p on, of n
unfoldable pub run_by : (taken : ℕ → Bool) (pages : ℕ) (obj age : ℕ → ℕ) (count from : ℕ) (cells : List ℕ) → Ran
run_by taken n obj age zero p c = ran Done c
run_by taken n obj age (suc m) p c =
    let rest = run_by taken n obj age m (p + 1) in
    pick (taken p) (onward (add_to n obj age c p).answer (add_to n obj age c p).cells p rest) (rest c)

-- a dump or words that no addition would take stop a run at its first page, even if it has none to add
unfoldable pub run_in : Takes → Result ℕ Refusal → (says : ℕ → Record) (from to : ℕ) (cells : List ℕ) → Ran
run_in t (Err r) says from to c = ran (Stopped (record { 0 = from }) r) c
run_in t (Ok n) says from to c =
    pick (ltb (length c) (cells_for n)) (ran (Stopped (record { 0 = from }) ShortIndex) c)
    (run_by (taken_by t says) n (objects says) (age_of says) (to - from) from c)

-- the pages taken of a dump from one to before another
unfoldable pub taken_of : Takes → Geometry → (dump cells : List ℕ) (from to : ℕ) → Ran
taken_of t g dump c from to = run_in t (opened_of g (length dump)) (record_at g dump) from to c

-- all of them
abbrev pub run_of : Geometry → (dump cells : List ℕ) (from to : ℕ) → Ran
run_of = taken_of Every

-- of the dump's pages from one to before another, the records older than page b, which the dump must have. A page that is no record has none that
-- are older
unfoldable pub older_in : Result ℕ Refusal → (says : ℕ → Record) (from to before : ℕ) (cells : List ℕ) → Ran
older_in (Err r) says from to b c = ran (Stopped (record { 0 = from }) r) c
older_in (Ok n) says from to b c =
    pick (leb (cells_for n) (length c) && leb n b) (ran (Stopped (record { 0 = from }) BadPage) c)
    (run_in (Older (age_of says b)) (Ok n) says from (min to n) c)

unfoldable pub older_of : Geometry → (dump cells : List ℕ) (from to before : ℕ) → Ran
older_of g dump c from to b = older_in (opened_of g (length dump)) (record_at g dump) from to b c

-- the additions of a run as a list of requests: of so many pages from page p on those taken, each lent w words
unfoldable pub adds : (taken : ℕ → Bool) (k words count from : ℕ) → List Request
adds taken k w zero p = []
adds taken k w (suc m) p = let rest = adds taken k w m (p + 1) in pick (taken p) (add k w p ∷ rest) rest

-- how many pages a run went over: all of them, or those up to the refused one
unfoldable pub asked : Run → (from to : ℕ) → ℕ
asked Done from to = to - from
asked (Err e) from to = e.page.0 - from + 1
