-- The report by the words of two prepared dumps: object after object, the lesser id of both lists' first words next. Said of any words.
use Rattle.std.specs.Prelude.{ℕ, zero, suc, ◌+◌, min, ◌&&◌, List, [], ◌∷◌, ◌++◌, eqb, length, take, drop}
use Rattle.page.specs.Choice.{pick}
use Rattle.page.specs.declared.geometry.Geometry.{Geometry}
use Rattle.sort.specs.Packed.{key_of}
use Rattle.compare.specs.Report.{report_of}
use Rattle.compare.specs.Sides.{side_of}
use Rattle.compare.specs.declared.answer.Which.{Which}
use Rattle.compare.specs.declared.answer.Which.TheVariants as which
use Rattle.compare.specs.declared.whole.Turn.{Turn}

-- how many words at the front of a list are of object o
unfoldable pub run_of : (object : ℕ) (order : List ℕ) → ℕ
run_of o [] = 0
run_of o (x ∷ rest) = let more = run_of o rest in pick (eqb (key_of x) o) (suc more) 0

-- the object that comes next; 0 where both lists are empty
abbrev pub next_of : (one other : List ℕ) → ℕ
next_of [] [] = 0
next_of [] (y ∷ other) = key_of y
next_of (x ∷ one) [] = key_of x
next_of (x ∷ one) (y ∷ other) = min (key_of x) (key_of y)

-- two dumps
module _ (g : Geometry) (dump : List ℕ) (g' : Geometry) (dump' : List ℕ) where
  -- the report of object o by its words on each side
  abbrev pub sides_report : (object : ℕ) (order copies order' copies' : List ℕ) → List ℕ
  sides_report o L C L' C' = report_of o (side_of g dump L C) (side_of g' dump' L' C')

  -- the reports of at most so many objects
  unfoldable pub reports_to : (objects : ℕ) (order copies order' copies' : List ℕ) → List ℕ
  reports_to zero L C L' C' = []
  reports_to (suc k) L C L' C' =
      let o = next_of L L' in
      let i = run_of o L in
      let j = run_of o L' in
      let more = reports_to k (drop i L) (drop i C) (drop j L') (drop j C') in
      pick (eqb (length L) 0 && eqb (length L') 0) []
      (sides_report o (take i L) (take i C) (take j L') (take j C') ++ more)

  -- those of all: no more than there are words
  unfoldable pub lists_report : (order copies order' copies' : List ℕ) → List ℕ
  lists_report L C L' C' = reports_to (length L + length L') L C L' C'

  -- the one that is asked for
  abbrev pub asked_report : Which → (order copies order' copies' : List ℕ) → List ℕ
  asked_report which.All L C L' C' = lists_report L C L' C'
  asked_report (which.One o) L C L' C' = sides_report o.0 L C L' C'

-- the object that comes next, and how many words at the front of each list are of it
abbrev pub next_in : (one other : List ℕ) → Turn
next_in L L' = record { object = next_of L L'; first = run_of (next_of L L') L; second = run_of (next_of L L') L' }
