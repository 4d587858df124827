-- The table of objects, searched by open addressing. An object's slot has its id as key and the link to its newest record.
use Rattle.std.specs.Prelude.{ℕ, zero, suc, ◌+◌, ◌*◌, ◌/◌, ◌%◌, Bool, not, ◌||◌, List, length, eqb, ltb, Option, Some, None}
use Rattle.std.specs.Option.{unwrap_or}
use Rattle.page.specs.Choice.{pick}
use Rattle.sort.specs.Packed.{word_values}
use Rattle.index.specs.Cells.{cells_for, slots_for, word, keys, first_at, seed_of}

-- whether a slot with key k may be the slot of object o: it is free, or the object's
abbrev pub serves : (object key : ℕ) → Bool
serves o k = eqb k 0 || eqb k o

-- the first slot that serves object o, from slot m - 1 down to slot 0
unfoldable pub down : (key : ℕ → ℕ) (object slots : ℕ) → Option ℕ
down key o zero = None
down key o (suc s) = pick (serves o (key s)) (Some s) (down key o s)

-- what lies below the middle of a product of an id and a seed, and below that of a square
abbrev pub below_product : ℕ
below_product = 0x4000

abbrev pub below_square : ℕ
below_square = 0x10000

-- an id mixed with a seed, so that who does not know the seed cannot choose ids that meet: the middle of their product, squared, whose middle is
-- added to the id; with the seed 0 it is the id
unfoldable pub mixed : (seed object : ℕ) → ℕ
mixed w o = let t = o * w / below_product % word_values in o + t * t / below_square % word_values

-- the home of object o among m slots
abbrev pub home_of : (slots seed object : ℕ) → ℕ
home_of m w o = mixed w o % m

-- the slot of object o among m: from its home down, then from the last one down, the first that serves; its home where none does
unfoldable pub slot : (slots home : ℕ) (key : ℕ → ℕ) (object : ℕ) → ℕ
slot m h key o = unwrap_or (down key o (h + 1)) (unwrap_or (down key o m) h)

-- the slot of object o on the cells of n pages
unfoldable pub slot_of : (pages : ℕ) (cells : List ℕ) (object : ℕ) → ℕ
slot_of n c o = slot (slots_for n) (home_of (slots_for n) (seed_of c) o) (keys c) o

-- the link to the first record of object o if slot s is the object's, else one that leads nowhere
unfoldable pub first_in : (cells : List ℕ) (slot object : ℕ) → ℕ
first_in c s o = pick (eqb (keys c s) o) (word c (first_at s)) 0

-- the link to the first record of object o
unfoldable pub first : (pages : ℕ) (cells : List ℕ) (object : ℕ) → ℕ
first n c o = first_in c (slot_of n c o) o

-- the same, on any words; one that leads nowhere where they are too few for n pages
unfoldable pub first_link : (pages : ℕ) (cells : List ℕ) (object : ℕ) → ℕ
first_link n c o = pick (eqb n 0 || ltb (length c) (cells_for n)) 0 (first n c o)

-- whether a slot is used
abbrev pub used : (ℕ → ℕ) → ℕ → Bool
used key s = not (eqb (key s) 0)
