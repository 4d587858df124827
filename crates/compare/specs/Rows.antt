-- For the code alone: the rows of the copies that an object's words show, of any words, in as many words as those are. What they come to is in Prepared.
use Rattle.std.specs.Prelude.{ℕ, ◌-◌, List, [], ◌++◌, map, length, replicate, Option, Some, None}
use Rattle.page.specs.declared.record.Record.{Record}
use Rattle.sort.specs.Packed.{value_of}
use Rattle.index.specs.Held.{from_list}
use Rattle.index.specs.Walks.{size_walk}
use Rattle.file.specs.Along.{copies_along}
use Rattle.file.specs.Copies.{packed_copy}
use Rattle.compare.specs.Views.{size_in}

-- rows and zeros behind them, so many words in all
abbrev pub padded : (words : ℕ) (rows : List ℕ) → List ℕ
padded m rows = rows ++ replicate (m - length rows) 0

module _ (says : ℕ → Record) (P : ℕ) (order : List ℕ) where
  -- the rows by the size of these words' file; none of an object that is no live file
  abbrev pub rows_sized : Option ℕ → List ℕ
  rows_sized (Some z) = map packed_copy (copies_along says P z (map value_of order))
  rows_sized None = []

  unfoldable pub rows_in : List ℕ
  rows_in = rows_sized (size_in (size_walk says P (from_list (map value_of order))))

  -- in as many words
  abbrev pub copies_in : List ℕ
  copies_in = padded (length order) rows_in
