-- Page kinds, first match wins (document 01, "Page kinds"): what the tags alone say.
use Rattle.std.specs.Prelude.{ℕ, ◌/◌, ◌%◌, Bool, ◌&&◌, List, length, take, drop, ltb, leb, eqb}
use Rattle.page.specs.Choice.{pick}
use Rattle.page.specs.Numbers.{bad_object, most_chunk}
use Rattle.page.specs.Words.{le32}
use Rattle.page.specs.Lengths.{page_in}
use Rattle.page.specs.Pages.{page_at}
use Rattle.page.specs.declared.geometry.Geometry.{Geometry}
use Rattle.page.specs.declared.layout.Layout.{Layout}
use Rattle.page.specs.declared.tags.Tags.{Tags}
use Rattle.page.specs.declared.tags.Claim.{Claim}
use Rattle.page.specs.declared.tags.Claim.TheVariants.{Blank, Foreign, Damaged, Header, Data}

-- the sequence of a page that was never written
abbrev pub blank_sequence : ℕ
blank_sequence = 0xFFFFFFFF

-- the least and the largest sequence of a record
abbrev pub least_sequence : ℕ
least_sequence = 0x1000

abbrev pub most_sequence : ℕ
most_sequence = 0xEFFFFF00

-- four 32-bit words: sequence, object word, chunk word, byte count
unfoldable pub tags_of : List ℕ → Tags
tags_of s = record { sequence = le32 s 0; object = le32 s 4; chunk = le32 s 8; count = le32 s 12 }

-- the 16 tag bytes of a page, at T in its spare
unfoldable pub tag_bytes : Layout → List ℕ → List ℕ
tag_bytes l page = take 16 (drop l.tag (drop l.«data» page))

-- the top bit of a word, and how many ids its low 28 bits tell apart
abbrev pub top_bit : ℕ
top_bit = 0x80000000

abbrev pub ids : ℕ
ids = 0x10000000

-- whether the top bit of the chunk word is set
abbrev pub is_typed : Tags → Bool
is_typed t = leb top_bit t.chunk

-- the object id of a header: with the top bit the low 28 bits of the object word, else the whole word
unfoldable pub object_in : Tags → ℕ
object_in t = pick (is_typed t) (t.object % ids) t.object

-- the type in a header's tags, with the top bit: the high 4 bits of the object word
abbrev pub type_in : Tags → ℕ
type_in t = t.object / ids

-- a header, Damaged instead if its object id is out of range; its byte count is ignored
unfoldable pub header_claim : Tags → Claim
header_claim t = pick (bad_object (object_in t)) Damaged (Header t.sequence (record { 0 = object_in t }))

-- data, Damaged instead if its object id, its chunk number or its byte count is out of range
unfoldable pub data_claim : ℕ → Tags → Claim
data_claim p t =
    pick (bad_object t.object) Damaged
    (pick (ltb most_chunk t.chunk) Damaged
    (pick (eqb t.count 0) Damaged
    (pick (ltb p t.count) Damaged
    (Data (record { sequence = t.sequence; object = record { 0 = t.object }; chunk = record { 0 = t.chunk }; count = t.count })))))

-- the tags of a page of p data bytes, first match wins
unfoldable pub claim_of : ℕ → Tags → Claim
claim_of p t =
    pick (eqb t.sequence blank_sequence) Blank
    (pick (ltb t.sequence least_sequence) Foreign
    (pick (ltb most_sequence t.sequence) Foreign
    (pick (is_typed t) (header_claim t)
    (pick (eqb t.chunk 0) (header_claim t)
    (data_claim p t)))))

-- the tags of a page of a layout
unfoldable pub claim_on : Layout → List ℕ → Claim
claim_on l page = claim_of l.«data» (tags_of (tag_bytes l page))

-- what the tags of page i say; one that is not in the dump says nothing, as a blank one
unfoldable pub claim_at : Geometry → (dump : List ℕ) (page : ℕ) → Claim
claim_at g dump i = pick (page_in g (length dump) i) (claim_on g.layout (page_at g dump i)) Blank

-- whether the tags of page i name object o, by the low 28 bits of their object word alone; one that is not in the dump names none
unfoldable pub names_at : Geometry → (dump : List ℕ) (page object : ℕ) → Bool
names_at g dump i o = page_in g (length dump) i && eqb ((tags_of (tag_bytes g.layout (page_at g dump i))).object % ids) o
