-- For the code alone: the lowest cut among records and those newer than each, by their ages from the oldest on. What it comes to is in Standings.
use Rattle.std.specs.Prelude.{ℕ, min, Bool, true, not, ◌&&◌, List, [], ◌∷◌, Option, Some, None}
use Rattle.page.specs.Choice.{pick}
use Rattle.page.specs.Records.{is_header}
use Rattle.page.specs.declared.record.Record.{Record}
use Rattle.chunk.specs.Cuts.{cut_of, lower}
use Rattle.records.specs.Written.{said_at}

-- a cut as a word: its place, or the last word for none, as for a place that no word holds
abbrev pub nowhere : ℕ
nowhere = 0xFFFFFFFFFFFFFFFF

abbrev pub cut_word : Option ℕ → ℕ
cut_word (Some a) = min a nowhere
cut_word None = nowhere

-- whether neither a record is a header, nor one of the newer, of which this is known
abbrev pub headless_with : Record → (newer : Bool) → Bool
headless_with k newer = not (is_header k) && newer

-- where a record cuts, where it is known whether no newer one is a header: a header that none follows is the newest
abbrev pub own_cut : (newest : Bool) → Record → Option ℕ
own_cut newest k = pick (is_header k) (cut_of newest k) None

-- the lowest cut with that of one record more
abbrev pub low_with : (newest : Bool) → Record → Option ℕ → Option ℕ
low_with newest k low = lower (own_cut newest k) low

module _ (says : ℕ → Record) where
  -- whether none of these records is a header
  unfoldable pub headless : (ages : List ℕ) → Bool
  headless [] = true
  headless (a ∷ newer) = headless_with (said_at says a) (headless newer)

  -- the lowest cut of these records
  unfoldable pub low_of : (ages : List ℕ) → Option ℕ
  low_of [] = None
  low_of (a ∷ newer) = low_with (headless newer) (said_at says a) (low_of newer)

  -- for each record the lowest cut of it and those newer, as a word
  unfoldable pub lows_of : (ages : List ℕ) → List ℕ
  lows_of [] = []
  lows_of (a ∷ newer) = cut_word (low_of (a ∷ newer)) ∷ lows_of newer
