-- DEMAND 3, whole, about any list of requests from an accepted start.
--
-- Start an index for one unchanged dump and layout with any seed, whatever the lent words held. Then, for every list of additions, lookups by object and
-- listings on it, in any order and refused calls included, each with its own K and its own length of slice, the fields below hold after the list.
use Rattle.std.specs.Prelude.{ℕ, ◌<◌, ◌≤◌, Bool, true, List, ◌++◌, ◌⊎◌, ◌≡◌, length, take, drop, Ok}
use Rattle.page.specs.Records.{record_at}
use Rattle.page.specs.Lengths.{page_count}
use Rattle.page.specs.declared.geometry.Geometry.{Geometry}
use Rattle.page.specs.declared.refusal.Refusal.TheVariants.{IndexDamaged}
use Rattle.chunk.specs.Records.{age_of}
use Rattle.chunk.specs.Newest.{records}
use Rattle.index.specs.Cells.{cells_for, word}
use Rattle.index.specs.Additions.{start_of}
use Rattle.index.specs.Chains.{objects, Trace, clean, broken, rec, chain, top}
use Rattle.index.specs.Held.{none_added}
use Rattle.index.specs.Walks.{seen_says, size_visits, chunk_visits}
use Rattle.index.specs.Requests.{Request, Given, size_seen, chunk_seen, answers_on, words_of, answers_by, added_of}

-- page p is one of the records of a chain
abbrev pub OnChain : (page : ℕ) → Trace → Type 0
OnChain p clean = ⊥
OnChain p broken = ⊥
OnChain p (rec q rest) = (p ≡ q) ⊎ OnChain p rest

-- a chain leads strictly from newer to older records, all older than an age, and no link of it is damaged
abbrev pub Falling : (age : ℕ → ℕ) (bound : ℕ) → Trace → Type 0
Falling age b clean = Unit {0}
Falling age b broken = ⊥
Falling age b (rec q rest) = (age q < b) × Falling age (age q) rest

-- the words after an accepted start with a seed, lent the first w of the memory c
abbrev pub started : Geometry → (dump : List ℕ) (words seed : ℕ) (memory : List ℕ) → List ℕ
started g dump w seed c = (start_of g dump (take w c) seed).cells ++ drop w c

module _ (g : Geometry) (dump c : List ℕ) (rs : List Request) where
  -- the pages that the list has added, and each object's chain after it, as the stored links give it from the stored first record
  abbrev pub is_added : ℕ → Bool
  is_added = added_of g dump (length c) none_added rs

  abbrev pub chain_after : ℕ → Trace
  chain_after o = chain (page_count g (length dump)) (objects (record_at g dump)) (age_of (record_at g dump)) (words_of g dump c rs) o

  -- how many added records an object has
  abbrev pub added_records : ℕ → ℕ
  added_records o = records (seen_says (record_at g dump) is_added) o (page_count g (length dump))

  pub record Demand3 : Type 0 where
    -- every answer is the paper's: demand 2 on the dump with the pages not yet added read as blank, refusal, visits and bytes included;
    -- a page's second accepted addition, and no other, is AlreadyAdded
    pub answers : answers_on g dump c rs ≡ answers_by g dump (length c) none_added rs
    -- IndexDamaged is never given
    pub undamaged : Given IndexDamaged (answers_on g dump c rs) → ⊥
    -- the words past the index are as they were
    pub past : (i : ℕ) → cells_for (page_count g (length dump)) ≤ i → word (words_of g dump c rs) i ≡ word c i
    -- a lookup after the list visits no more records than the object's added ones
    pub size_visits_lem : (o : ℕ) → size_visits (size_seen g dump (length c) is_added o (page_count g (length dump))) ≤ added_records o
    pub chunk_visits_lem : (o q : ℕ) → chunk_visits (chunk_seen g dump (length c) is_added o q (page_count g (length dump))) ≤ added_records o
    -- each object's chain holds only that object's added records
    pub only : (o p : ℕ) → 0 < o → OnChain p (chain_after o) → (p < page_count g (length dump)) × (objects (record_at g dump) p ≡ o) × (is_added p ≡ true)
    -- and all of them
    pub all : (o p : ℕ) → 0 < o → p < page_count g (length dump) → objects (record_at g dump) p ≡ o → is_added p ≡ true → OnChain p (chain_after o)
    -- strictly from newest to oldest, so each once
    pub order : (o : ℕ) → 0 < o → Falling (age_of (record_at g dump)) top (chain_after o)
    -- and no chains share a record
    pub apart : (o o' p : ℕ) → 0 < o → 0 < o' → OnChain p (chain_after o) → OnChain p (chain_after o') → o ≡ o'

-- the demand
abbrev pub Demand : Type 0
Demand =
    (g : Geometry) (dump : List ℕ) (w seed : ℕ) (c : List ℕ) →
    (start_of g dump (take w c) seed).answer ≡ (Ok tt) →
    (rs : List Request) →
    Demand3 g dump (started g dump w seed c) rs
