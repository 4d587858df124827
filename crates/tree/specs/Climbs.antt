-- Where the ways up of all objects lead, as a word for each row of heads: the code of the object's parent as its key, and as its value the code of
-- where its way has come to so far.
use Rattle.std.specs.Prelude.{ℕ, ◌+◌, ◌*◌, ◌/◌, ◌%◌, ◌≤◌, ◌<◌, Bool, true, false, not, ◌&&◌, List, ◌≡◌, eqb, length, get_or}
use Rattle.page.specs.Choice.{pick}
use Rattle.page.specs.declared.record.Record.{Record}
use Rattle.sort.specs.Ascending.{In}
use Rattle.sort.specs.Packed.{word_values, packed, key_of, value_of}
use Rattle.chunk.specs.Live.{live_ids}
use Rattle.chunk.specs.Records.{is_gone}
use Rattle.text.specs.Put.{Put}
use Rattle.tree.specs.Heads.{object_at, Heads}
use Rattle.tree.specs.Objects.{Stand, missing, deleted, non_directory, directory, root, parent_of, stand_of}
use Rattle.tree.specs.Paths.{listed}
use Rattle.tree.specs.Rows.{number_of, other_rows}
use Rattle.tree.specs.Tree.{is_in}
use Rattle.tree.specs.Ways.{goes_on, up, reason_of}
use Rattle.tree.specs.declared.climb.Kind.{Kind}
use Rattle.tree.specs.declared.climb.Kind.TheVariants.{GoesOn, Deleted, NonDirectory, Missing}
use Rattle.tree.specs.declared.reason.Reason.{Reason}
use Rattle.tree.specs.declared.reason.Reason.TheVariants as reason

-- the kind of an object: how it stands as a parent
abbrev pub kind_by : Stand → ℕ
kind_by directory = 0
kind_by deleted = 1
kind_by non_directory = 2
kind_by missing = 3

-- its number in a code
abbrev pub kind_number : Kind → ℕ
kind_number GoesOn = 0
kind_number Deleted = 1
kind_number NonDirectory = 2
kind_number Missing = 3

-- a code has the place of an object's row and its kind
abbrev pub place_in : (code : ℕ) → ℕ
place_in c = c / 4

abbrev pub kind_in : (code : ℕ) → ℕ
kind_in c = c % 4

-- how many places codes tell apart
abbrev pub code_places : ℕ
code_places = 0x40000000

-- the codes of the root, and of an object that has no row: the kind of one that is missing, and no place
abbrev pub to_root : ℕ
to_root = 3

abbrev pub to_none : ℕ
to_none = 7

module _ (says : ℕ → Record) (n : ℕ) where
  module _ (heads : List ℕ) where
    -- rows of a dump whose page numbers are words
    pub record Headed : Type 0 where
      pub small : n ≤ word_values
      pub right : Heads says n heads

    -- a code is that of object x
    pub record Leads (x code : ℕ) : Type 0 where
      pub top : eqb code to_root ≡ eqb x root
      pub kind : eqb x root ≡ false → kind_in code ≡ kind_by (stand_of says n x)
      pub inside : kind_in code < 3 → place_in code < length heads
      pub placed : kind_in code < 3 → object_at heads (place_in code) ≡ x

    -- so many steps up from object o come to this code, and the way goes on at each step before
    pub record Walked (o steps code : ℕ) : Type 0 where
      pub step : 1 ≤ steps
      pub leads : Leads (up says n steps o) code
      pub on : (j : ℕ) → 1 ≤ j → j < steps → goes_on says n (up says n j o) ≡ true

    -- some steps do, more than a bound unless the way ends there
    pub record Climbed (bound o code : ℕ) : Type 0 where
      pub steps : ℕ
      pub walked : Walked o steps code
      pub far : goes_on says n (up says n steps o) ≡ true → bound < steps

    -- the word of object o: the code of its parent, and one that its way has come to
    pub record Word (bound o word : ℕ) : Type 0 where
      pub parent : Leads (parent_of says n o) (key_of word)
      pub jump : Climbed bound o (value_of word)

    -- the words of all rows, with a bound for each
    pub record Ways (bound : (row : ℕ) → ℕ) (words : List ℕ) : Type 0 where
      pub long : length words ≡ length heads
      pub each : (i : ℕ) → i < length heads → Word (bound i) (object_at heads i) (get_or words i 0)

-- a code is that of object x, for as many pages as the rows are of
abbrev pub IsCode : (says : ℕ → Record) (heads : List ℕ) (x code : ℕ) → Type 0
IsCode says heads x code = (n : ℕ) → Headed says n heads → Leads says n heads x code

-- words of which each has gone a step, for as many pages as the rows are of
abbrev pub FirstWays : (says : ℕ → Record) (heads words : List ℕ) → Type 0
FirstWays says heads words = (n : ℕ) → Headed says n heads → Ways says n heads (λ i. 0) words

-- the words of some rows
pub record SomeWays (words : List ℕ) : Type 0 where
  pub says : ℕ → Record
  pub pages : ℕ
  pub heads : List ℕ
  pub bound : ℕ
  pub ways : Ways says pages heads (λ i. bound) words

-- words in place of which others have gone more steps, whatever rows they are of
abbrev pub Raised : (from to : ℕ) (before after : List ℕ) → Type 0
Raised b c before after =
    (says : ℕ → Record) (n : ℕ) (heads : List ℕ) → Ways says n heads (λ i. b) before → Ways says n heads (λ i. c) after

-- so many and again as many, and the one between
abbrev pub Doubled : (before after : List ℕ) → Type 0
Doubled before after = (b : ℕ) → Raised b (b * 2 + 1) before after

-- whether the object of row i is in the first list, if it is live and not the root, whatever rows the words are of
abbrev pub TellsListed : (words : List ℕ) (row : ℕ) → Bool → Type 0
TellsListed words i r =
    (says : ℕ → Record) (names : ℕ → List ℕ) (n : ℕ) (heads : List ℕ) (bound : ℕ → ℕ) → Ways says n heads bound words →
    In (object_at heads i) (live_ids says n) → (object_at heads i ≡ root → ⊥) → r ≡ is_in (object_at heads i) (listed says names n)

-- the reason of the object of row i whose way has come to a code
unfoldable pub reason_in : (row code : ℕ) → Reason
reason_in i code =
    pick (eqb code to_root) reason.TooDeep
    (pick (eqb (kind_in code) 3) reason.Missing
    (pick (eqb (kind_in code) 0) reason.Loop
    (pick (eqb (place_in code) i) reason.Loop
    (pick (eqb (kind_in code) 1) reason.Deleted
    reason.NonDirectory))))

module _ (says : ℕ → Record) where
  -- a dump of n pages, whose header pages have these names
  module _ (names : ℕ → List ℕ) (n : ℕ) where
    -- whether the object of a row is in the second list: its newest header is not gone, it is not the root, and not in the first list
    abbrev pub is_other : (row : ℕ) → Bool
    is_other row = not (is_gone (says (value_of row))) && (not (eqb (key_of row) root) && not (is_in (key_of row) (listed says names n)))

    -- its row there
    abbrev pub other_row : (row : ℕ) → ℕ
    other_row row = packed (number_of (reason_of says n (key_of row))) (value_of row)

  -- whether the object of row i is in the second list, by words of these rows
  abbrev pub TellsOther : (heads words : List ℕ) (row : ℕ) → Bool → Type 0
  TellsOther heads words i r =
      (names : ℕ → List ℕ) (n : ℕ) (bound : ℕ → ℕ) → Heads says n heads → Ways says n heads bound words → r ≡ is_other names n (get_or heads i 0)

  -- the rows of the second list are put at a position, by words of these rows that have gone as many steps as there are pages
  abbrev pub PutsOthers : (heads words before : List ℕ) (at : ℕ) (after : List ℕ) (next : ℕ) → Type 0
  PutsOthers heads words before at after next =
      (names : ℕ → List ℕ) (n : ℕ) → Headed says n heads → Ways says n heads (λ i. n) words → Put (other_rows says names n) before at after next
