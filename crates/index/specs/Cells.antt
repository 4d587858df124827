-- The words of a lent index, and what each is for (document 01, "Index"). This is the one file that knows where a word stands.
--
-- Words 0 to 15 are for the whole index; word 0 is the seed that the start was given, and the others are not used. Page p has the four words
-- from 16 + 4 p on:
--   +0          the link of page p: 0 where the page has not been added; else where the next older record of its object is
--   +1, +2, +3  the table of objects goes on from page to page in these, two words to a slot:
--               the key of the slot: 0 where it is free, else an object's id; then its first link: where the newest record of that object is
-- A link is a word that leads to a page: 0 and 1 lead nowhere, q + 2 to page q.
use Rattle.std.specs.Prelude.{ℕ, ◌+◌, ◌*◌, ◌/◌, ◌<◌, ◌^◌, Bool, not, List, length, get_or, set, eqb, ltb}
use Rattle.page.specs.Choice.{pick}

-- the words for the whole index
abbrev pub shared : ℕ
shared = 16

-- the words of a page
abbrev pub per_page : ℕ
per_page = 4

-- how many words an index of n pages has
abbrev pub cells_for : ℕ → ℕ
cells_for n = shared + per_page * n

-- where the link of page p stands
abbrev pub link_at : ℕ → ℕ
link_at p = shared + per_page * p

-- how many slots an index of n pages has: half as many again as there can be objects, so that a search soon meets a free one
abbrev pub slots_for : ℕ → ℕ
slots_for n = n + n / 2

-- where word u of the table of objects stands: three to a page, behind its link
unfoldable pub table_at : ℕ → ℕ
table_at u = shared + 1 + u + u / 3

-- where the key and the first link of slot s stand
abbrev pub key_at : ℕ → ℕ
key_at s = table_at (2 * s)

abbrev pub first_at : ℕ → ℕ
first_at s = table_at (2 * s + 1)

-- slot s stands in the cells
pub record InTable (c : List ℕ) (s : ℕ) : Type 0 where
  pub few : s < 2 ^ 33
  pub room : first_at s < length c

-- and so do all slots before slot m
abbrev pub AllInTable : List ℕ → ℕ → Type 0
AllInTable c m = (s : ℕ) → s < m → InTable c s

-- the word at a place
abbrev pub word : (cells : List ℕ) (i : ℕ) → ℕ
word c i = get_or c i 0

-- where the seed stands, and the seed
abbrev pub seed_at : ℕ
seed_at = 0

abbrev pub seed_of : (cells : List ℕ) → ℕ
seed_of c = word c seed_at

-- the keys of the slots
abbrev pub keys : (cells : List ℕ) (slot : ℕ) → ℕ
keys c s = word c (key_at s)

-- whether page p is marked as added
abbrev pub is_marked : (cells : List ℕ) (page : ℕ) → Bool
is_marked c p = not (eqb (word c (link_at p)) 0)

-- the link that leads nowhere, of a page that has been added
abbrev pub last : ℕ
last = 1

-- the link that leads to page q
abbrev pub link_to : ℕ → ℕ
link_to q = q + 2

-- the link of an added page that leads where the link w does
abbrev pub marked : ℕ → ℕ
marked w = pick (ltb w 2) last w

-- page p put in at a place: its link leads where the link at that place led, and the link at that place leads to p
unfoldable pub linked : (cells : List ℕ) (page at : ℕ) → List ℕ
linked c p at = set (set c (link_at p) (marked (word c at))) at (link_to p)

-- slot s made the slot of object o: if it is not yet, the object has no record
unfoldable pub claimed : (cells : List ℕ) (slot object : ℕ) → List ℕ
claimed c s o = pick (eqb (keys c s) o) c (set (set c (key_at s) o) (first_at s) 0)
