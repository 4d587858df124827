-- Words that have room for more than is kept in them.
use Rattle.std.specs.Prelude.{ℕ, ◌-◌, ◌&&◌, cond, List, ◌++◌, leb, length, take, drop, replicate}

-- words of which some rows are kept: the rows, zeros in the rest of their room, and the words behind it as they were
abbrev pub in_room : (rows : List ℕ) (room : ℕ) (words : List ℕ) → List ℕ
in_room rows room words = rows ++ replicate (room - length rows) 0 ++ drop room words

-- words of which those from one to before another are cleared; none where there are not so many, or the first is behind the other
abbrev pub cleared_in : (from to : ℕ) (words : List ℕ) → List ℕ
cleared_in from to words = cond (leb from to && leb to (length words)) (in_room (take from words) to words) words
