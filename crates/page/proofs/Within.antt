-- What the values of a record are bounded by: what the crates above cite, so that they need not see through the definitions.
-- A record's tags passed every test before the one that made them a header or data, so each limit is the failed test of a worse
-- kind; the tests on a header's types stand behind those. A page that is not in the dump is blank, so a record's page is in it.
use Prim.Native.Nat.{ℕ, ◌+◌, ◌*◌, ◌%◌, ◌<◌, ◌≤◌, ◌^◌}
use Rattle.std.specs.Prelude.{Ok}
use mathlib.Core.Bool.{Bool, true, false, not, ◌||◌}
use mathlib.Core.List.{List}
use mathlib.Core.Path.{◌≡◌, refl, ◌∙◌}
use lib.Dec.{eqb, ltb}
use lib.ListN.{length, get_or, take, drop, length-take, get_or-eq_default}
use lib.Seq.{get_or-take, get_or-drop}
use native.Mathlib.Omega.{arith}
use borrow.Author.Tests.{eqb-false, ltb-true, ltb-false, lt-ltb, le-ltb, eq-eqb, ne_eqb}
use Rattle.page.specs.Choice.{pick}
use Rattle.page.specs.Words.{le32}
use Rattle.page.specs.Numbers.{most_object, most_chunk, bad_object, bad_chunk}
use Rattle.page.specs.Lengths.{in_blocks, page_in, opened_of}
use Rattle.page.specs.Pages.{page_at}
use Rattle.page.specs.Layouts.{page_len}
use Rattle.page.specs.Headers.{at_type, at_parent, at_size, at_shrink, fields_of}
use Rattle.page.specs.Tags.{blank_sequence, least_sequence, most_sequence, ids, is_typed, object_in, tags_of, tag_bytes, header_claim, data_claim, claim_of, claim_on, names_at}
use Rattle.page.specs.Records.{record_of, record_at}
use Rattle.page.specs.Kinds.{bad_type, type_differs, header_of, kind_by, kind_of, kind_at}
use Rattle.page.specs.declared.geometry.Geometry.{Geometry}
use Rattle.page.specs.declared.fields.Fields.{Fields}
use Rattle.page.specs.declared.number.ObjectId.{ObjectId}
use Rattle.page.specs.declared.tags.Tags.{Tags}
use Rattle.page.specs.declared.tags.Claim.{Claim}
use Rattle.page.specs.declared.tags.Claim.TheVariants as claim
use Rattle.page.specs.declared.kind.Kind.{Kind}
use Rattle.page.specs.declared.kind.Kind.TheVariants.{Blank, Foreign, Damaged, Header, Data}
use Rattle.page.specs.declared.record.Header as header
use Rattle.page.specs.declared.record.Data as «data»
use Rattle.page.specs.declared.record.Record.TheVariants as recorded
use Rattle.page.proofs.Lengths.{opened_facts, page_in_lem}
use Rattle.page.proofs.Searching.{clash, by_test, pick_cases}

-- neither of two tests that fail together holds
or_left : (a b : Bool) → a || b ≡ false → a ≡ false
or_left true b e = e
or_left false b e = refl

or_right : (a b : Bool) → a || b ≡ false → b ≡ false
or_right true b e = clash (cc)
or_right false b e = e

-- from one number to another, both included
pub record Between (low high n : ℕ) : Type 0 where
  pub least : low ≤ n
  pub most : n ≤ high

-- what is neither 0 nor above a limit
above_zero : (high n : ℕ) → eqb n 0 ≡ false → ltb high n ≡ false → Between 1 high n
above_zero high n e f =
    let a = eqb-false n 0 e in
    record { least = omega arith; most = ltb-false high n f }

not_zero_or_above : (high n : ℕ) → eqb n 0 || ltb high n ≡ false → Between 1 high n
not_zero_or_above high n e = above_zero high n (or_left (eqb n 0) (ltb high n) e) (or_right (eqb n 0) (ltb high n) e)

-- an id that is not bad is one of an object
pub object_within : (id : ℕ) → bad_object id ≡ false → Between 1 most_object id
unfolding bad_object
object_within id e = not_zero_or_above most_object id e

-- a number that is not bad is one of a chunk
pub chunk_within : (n : ℕ) → bad_chunk n ≡ false → Between 1 most_chunk n
unfolding bad_chunk
chunk_within n e = not_zero_or_above most_chunk n e

-- and those ids and numbers are not bad
above_zero_good : (high n : ℕ) → Between 1 high n → eqb n 0 || ltb high n ≡ false
above_zero_good high n b = rw (ne_eqb n 0 (λ e. absurd (omega (arith, b.least))), le-ltb high n b.most)

pub object_good : (id : ℕ) → Between 1 most_object id → bad_object id ≡ false
unfolding bad_object
object_good id b = above_zero_good most_object id b

pub chunk_good : (n : ℕ) → Between 1 most_chunk n → bad_chunk n ≡ false
unfolding bad_chunk
chunk_good n b = above_zero_good most_chunk n b

-- a page type that is not bad is one of the five
pub type_within : (t : ℕ) → bad_type t ≡ false → Between 1 5 t
unfolding bad_type
type_within t e = not_zero_or_above 5 t e

-- the low 28 bits of the object word are the object of a header, and of data
object_word : (n : ℕ) → bad_object n ≡ false → n % ids ≡ n
object_word n e = let b = object_within n e in omega (arith, b.most)

header_word : (t : Tags) → bad_object (object_in t) ≡ false → t.object % ids ≡ object_in t
unfolding object_in
header_word t e = by_test (is_typed t) _ (λ u. rw u) (λ u. rw u (object_word t.object (rw u at e)))

-- what tags that claim a header are
pub record HeaderClaimed (t : Tags) (s : ℕ) (o : ObjectId) : Type 0 where
  pub named : t.object % ids ≡ o.0
  pub sequence : Between least_sequence most_sequence s
  pub object : Between 1 most_object o.0

-- what tags that claim data are, on a page of p data bytes
pub record DataClaimed (p : ℕ) (t : Tags) (d : «data».Data) : Type 0 where
  pub named : t.object % ids ≡ d.object.0
  pub sequence : Between least_sequence most_sequence d.sequence
  pub object : Between 1 most_object d.object.0
  pub chunk : Between 1 most_chunk d.chunk.0
  pub count : Between 1 p d.count

module _ (p : ℕ) (t : Tags) where
  -- what is claimed behind the tests on the sequence
  claim_behind : Claim
  claim_behind = pick (is_typed t) (header_claim t) (pick (eqb t.chunk 0) (header_claim t) (data_claim p t))

  -- tags that say neither blank nor foreign have the sequence of a record
  passed :
      (r : Claim) (P : Type 0) →
      claim_of p t ≡ r →
      (claim.Blank ≡ r → P) →
      (claim.Foreign ≡ r → P) →
      (Between least_sequence most_sequence t.sequence → claim_behind ≡ r → P) →
      P
  unfolding claim_of claim_behind
  passed r P e blank foreign f =
      pick_cases (eqb t.sequence blank_sequence) _ _ _ P e (λ _ q. blank q)
      (λ _ e₁. pick_cases (ltb t.sequence least_sequence) _ _ _ P e₁ (λ _ q. foreign q)
      (λ h₂ e₂. pick_cases (ltb most_sequence t.sequence) _ _ _ P e₂ (λ _ q. foreign q)
      (λ h₃ e₃. f (record { least = ltb-false t.sequence least_sequence h₂; most = ltb-false most_sequence t.sequence h₃ }) e₃)))

  module _ (s : ℕ) (o : ObjectId) where
    by-header : Between least_sequence most_sequence t.sequence → header_claim t ≡ claim.Header s o → HeaderClaimed t s o
    unfolding header_claim
    by-header w e =
        pick_cases (bad_object (object_in t)) _ _ _ (HeaderClaimed t s o) e (λ _ q. clash (cc))
        (λ h q.
        let a : t.sequence ≡ s = cc in
        let b : object_in t ≡ o.0 = cc in
        record { named = header_word t h ∙ b; sequence = rw a at w; object = rw b at (object_within (object_in t) h) })

    no_header : data_claim p t ≡ claim.Header s o → HeaderClaimed t s o
    unfolding data_claim
    no_header e =
        pick_cases (bad_object t.object) _ _ _ (HeaderClaimed t s o) e (λ _ q. clash (cc))
        (λ _ e₁. pick_cases (ltb most_chunk t.chunk) _ _ _ (HeaderClaimed t s o) e₁ (λ _ q. clash (cc))
        (λ _ e₂. pick_cases (eqb t.count 0) _ _ _ (HeaderClaimed t s o) e₂ (λ _ q. clash (cc))
        (λ _ e₃. pick_cases (ltb p t.count) _ _ _ (HeaderClaimed t s o) e₃ (λ _ q. clash (cc)) (λ _ q. clash (cc)))))

    -- tags that claim a header have the sequence and the object of a record
    pub header_claimed : claim_of p t ≡ claim.Header s o → HeaderClaimed t s o
    unfolding claim_behind
    header_claimed e =
        passed (claim.Header s o) (HeaderClaimed t s o) e (λ q. clash (cc)) (λ q. clash (cc))
        (λ w e₁. pick_cases (is_typed t) _ _ _ (HeaderClaimed t s o) e₁ (λ _ q. by-header w q)
        (λ _ e₂. pick_cases (eqb t.chunk 0) _ _ _ (HeaderClaimed t s o) e₂ (λ _ q. by-header w q) (λ _ q. no_header q)))

  module _ (d : «data».Data) where
    no-data : header_claim t ≡ claim.Data d → DataClaimed p t d
    unfolding header_claim
    no-data e = pick_cases (bad_object (object_in t)) _ _ _ (DataClaimed p t d) e (λ _ q. clash (cc)) (λ _ q. clash (cc))

    by-data :
        Between least_sequence most_sequence t.sequence →
        eqb t.chunk 0 ≡ false →
        data_claim p t ≡ claim.Data d →
        DataClaimed p t d
    unfolding data_claim
    by-data w z e =
        pick_cases (bad_object t.object) _ _ _ (DataClaimed p t d) e (λ _ q. clash (cc))
        (λ h₁ e₁. pick_cases (ltb most_chunk t.chunk) _ _ _ (DataClaimed p t d) e₁ (λ _ q. clash (cc))
        (λ h₂ e₂. pick_cases (eqb t.count 0) _ _ _ (DataClaimed p t d) e₂ (λ _ q. clash (cc))
        (λ h₃ e₃. pick_cases (ltb p t.count) _ _ _ (DataClaimed p t d) e₃ (λ _ q. clash (cc))
        (λ h₄ q.
        let v : d ≡ record { sequence = t.sequence; object = record { 0 = t.object }; chunk = record { 0 = t.chunk }; count = t.count } = cc in
        rw v
        (record {
          named = object_word t.object h₁;
          sequence = w;
          object = object_within t.object h₁;
          chunk = above_zero most_chunk t.chunk z h₂;
          count = above_zero p t.count h₃ h₄;
        })))))

    -- tags that claim data have the sequence, the object, the chunk and the byte count of a record
    pub data_claimed : claim_of p t ≡ claim.Data d → DataClaimed p t d
    unfolding claim_behind
    data_claimed e =
        passed (claim.Data d) (DataClaimed p t d) e (λ q. clash (cc)) (λ q. clash (cc))
        (λ w e₁. pick_cases (is_typed t) _ _ _ (DataClaimed p t d) e₁ (λ _ q. no-data q)
        (λ _ e₂. pick_cases (eqb t.chunk 0) _ _ _ (DataClaimed p t d) e₂ (λ _ q. no-data q) (λ z q. by-data w z q)))

-- what a header's values are bounded by, and that its page is in the dump
pub record HeaderWithin (g : Geometry) (dump : List ℕ) (i : ℕ) (h : header.Header) : Type 0 where
  pub page : page_in g (length dump) i ≡ true
  pub named : names_at g dump i h.object.0 ≡ true
  pub sequence : Between least_sequence most_sequence h.sequence
  pub object : Between 1 most_object h.object.0
  pub page_type_lem : Between 1 5 h.page_type

-- what a data page's values are bounded by, and that it is in the dump
pub record DataWithin (g : Geometry) (dump : List ℕ) (i : ℕ) (d : «data».Data) : Type 0 where
  pub page : page_in g (length dump) i ≡ true
  pub named : names_at g dump i d.object.0 ≡ true
  pub sequence : Between least_sequence most_sequence d.sequence
  pub object : Between 1 most_object d.object.0
  pub chunk : Between 1 most_chunk d.chunk.0
  pub count : Between 1 g.layout.«data» d.count

-- a header's values are the fields of its page
pub record HeaderSays (f : Fields) (h : header.Header) : Type 0 where
  pub type_is : h.page_type ≡ f.page_type
  pub parent_is : h.parent.0 ≡ f.parent
  pub size_is : h.size ≡ f.file_size
  pub mark_is : h.shrink ≡ not (eqb f.shrink 0)

-- the tags of a header claim one, its type is one of the five, and its page says its values
record HeaderBy (page : List ℕ) (r : Claim) (h : header.Header) : Type 0 where
  claimed : r ≡ claim.Header h.sequence h.object
  page_type_lem : Between 1 5 h.page_type
  says : HeaderSays (fields_of page) h

module _ (page : List ℕ) (t : Tags) where
  header_by : (h : header.Header) (r : Claim) → kind_by page t r ≡ Header h → HeaderBy page r h
  unfolding kind_by header_of fields_of
  header_by h claim.Blank e = clash (cc)
  header_by h claim.Foreign e = clash (cc)
  header_by h claim.Damaged e = clash (cc)
  header_by h (claim.Header s o) e =
      pick_cases (bad_type (le32 page at_type)) _ _ _ (HeaderBy page (claim.Header s o) h) e (λ _ q. clash (cc))
      (λ b e₁. pick_cases (type_differs t (le32 page at_type)) _ _ _ (HeaderBy page (claim.Header s o) h) e₁ (λ _ q. clash (cc))
      (λ _ q.
      let v : h ≡ record {
        sequence = s;
        object = o;
        page_type = le32 page at_type;
        parent = record { 0 = le32 page at_parent };
        size = le32 page at_size;
        shrink = not (eqb (le32 page at_shrink) 0);
      } = cc in
      rw v
      (record {
        claimed = refl;
        page_type_lem = type_within (le32 page at_type) b;
        says = record { type_is = refl; parent_is = refl; size_is = refl; mark_is = refl };
      })))
  header_by h (claim.Data d) e = clash (cc)

  data_by : (d : «data».Data) (r : Claim) → kind_by page t r ≡ Data d → r ≡ claim.Data d
  unfolding kind_by header_of
  data_by d claim.Blank e = clash (cc)
  data_by d claim.Foreign e = clash (cc)
  data_by d claim.Damaged e = clash (cc)
  data_by d (claim.Header s o) e =
      pick_cases (bad_type (le32 page at_type)) _ _ _ _ e (λ _ q. clash (cc))
      (λ _ e₁. pick_cases (type_differs t (le32 page at_type)) _ _ _ _ e₁ (λ _ q. clash (cc)) (λ _ q. clash (cc)))
  data_by d (claim.Data d') e = cc

module _ (g : Geometry) (dump : List ℕ) (i : ℕ) where
  abbrev tags : Tags
  tags = tags_of (tag_bytes g.layout (page_at g dump i))

  -- the object word of a page that is in the dump
  names_word : (o : ℕ) → page_in g (length dump) i ≡ true → tags.object % ids ≡ o → names_at g dump i o ≡ true
  unfolding names_at
  names_word o p e = rw p (eq-eqb (tags.object % ids) o e)

  -- a header's values are within their limits
  kind_header : (h : header.Header) → kind_at g dump i ≡ Header h → HeaderWithin g dump i h × HeaderSays (fields_of (page_at g dump i)) h
  unfolding kind_at kind_of claim_on
  kind_header h e =
      pick_cases (page_in g (length dump) i) _ _ _ (HeaderWithin g dump i h × HeaderSays (fields_of (page_at g dump i)) h) e
      (λ p q.
      let b = header_by (page_at g dump i) tags h (claim_of g.layout.«data» tags) q in
      let w = header_claimed g.layout.«data» tags h.sequence h.object b.claimed in
      (record { page = p; named = names_word h.object.0 p w.named; sequence = w.sequence; object = w.object; page_type_lem = b.page_type_lem }, b.says))
      (λ _ q. clash (cc))

  kind_data : (d : «data».Data) → kind_at g dump i ≡ Data d → DataWithin g dump i d
  unfolding kind_at kind_of claim_on
  kind_data d e =
      pick_cases (page_in g (length dump) i) _ _ _ (DataWithin g dump i d) e
      (λ h q.
      let w = data_claimed g.layout.«data» tags d (data_by (page_at g dump i) tags d (claim_of g.layout.«data» tags) q) in
      record { page = h; named = names_word d.object.0 h w.named; sequence = w.sequence; object = w.object; chunk = w.chunk; count = w.count })
      (λ _ q. clash (cc))

  -- a page that is a record is of that kind
  header_kind : (h : header.Header) (k : Kind) → record_of k ≡ recorded.Header h → k ≡ Header h
  header_kind h Blank e = clash (cc)
  header_kind h Foreign e = clash (cc)
  header_kind h Damaged e = clash (cc)
  header_kind h (Header h') e = cc
  header_kind h (Data d) e = clash (cc)

  data_kind : (d : «data».Data) (k : Kind) → record_of k ≡ recorded.Data d → k ≡ Data d
  data_kind d Blank e = clash (cc)
  data_kind d Foreign e = clash (cc)
  data_kind d Damaged e = clash (cc)
  data_kind d (Header h) e = clash (cc)
  data_kind d (Data d') e = cc

  -- a header's values are within their limits, and are those that `header` gives
  pub header_within : (h : header.Header) → record_at g dump i ≡ recorded.Header h → HeaderWithin g dump i h
  unfolding record_at
  header_within h e = (kind_header h (header_kind h (kind_at g dump i) e)).0

  pub header_says : (h : header.Header) → record_at g dump i ≡ recorded.Header h → HeaderSays (fields_of (page_at g dump i)) h
  unfolding record_at
  header_says h e = (kind_header h (header_kind h (kind_at g dump i) e)).1

  -- a data page's values are within their limits
  pub data_within : (d : «data».Data) → record_at g dump i ≡ recorded.Data d → DataWithin g dump i d
  unfolding record_at
  data_within d e = kind_data d (data_kind d (kind_at g dump i) e)

  -- a page that is not in the dump is blank
  pub blank_outside : page_in g (length dump) i ≡ false → kind_at g dump i ≡ Blank
  unfolding kind_at
  blank_outside h = rw h

  -- and no record
  pub other_outside : page_in g (length dump) i ≡ false → record_at g dump i ≡ recorded.Other
  unfolding record_at
  other_outside h = rw (blank_outside h)

module _ (g : Geometry) (dump : List ℕ) (m : ℕ) (e : opened_of g (length dump) ≡ Ok m) where
  opened_in : (i : ℕ) → page_in g (length dump) i ≡ ltb i m
  opened_in i = let f = opened_facts g (length dump) m e in rw (← f.pages) (page_in_lem g (length dump) i f.room)

  -- of an accepted dump the pages below its page count are in the dump
  pub page_below : (i : ℕ) → i < m → page_in g (length dump) i ≡ true
  page_below i h = opened_in i ∙ lt-ltb i m h

  -- and those from it on are not
  pub page_beyond : (i : ℕ) → m ≤ i → page_in g (length dump) i ≡ false
  page_beyond i h = opened_in i ∙ le-ltb i m h

  -- so that they are blank
  pub blank_beyond : (i : ℕ) → m ≤ i → kind_at g dump i ≡ Blank
  blank_beyond i h = blank_outside g dump i (page_beyond i h)

-- what a page says does not depend on how many pages a block has
pub records_any_block : (g : Geometry) (k : ℕ) (dump : List ℕ) → record_at (in_blocks g k) dump ≡ record_at g dump
unfolding record_at kind_at page_in page_at
records_any_block g k dump = refl

-- whether every number of a list is a byte
abbrev pub AllBytes : List ℕ → Type 0
AllBytes s = (i : ℕ) → get_or s i 0 < 256

-- the bytes of a page are bytes of the dump
pub page_bytes : (g : Geometry) (dump : List ℕ) (i : ℕ) → AllBytes dump → AllBytes (page_at g dump i)
unfolding page_at
page_bytes g dump i b j =
    let long = page_len g.layout in
    by_test (ltb j long) _ (λ t. let h : j < long = ltb-true _ _ t in rw (get_or-take, get_or-drop) (b (i * long + j)))
    (λ t. let h : long ≤ j = ltb-false _ _ t in rw (get_or-eq_default (take long (drop (i * long) dump)) 0 {n = j} (simp length-take (omega arith))) (omega arith))

-- a word of bytes is below 2^32
pub word_below : (s : List ℕ) (at : ℕ) → AllBytes s → le32 s at < 2 ^ 32
unfolding le32
word_below s at b = omega (arith, b at, b (at + 1), b (at + 2), b (at + 3))

-- a header's parent and size are machine words
pub record HeaderWords (h : header.Header) : Type 0 where
  pub parent : h.parent.0 < 2 ^ 32
  pub size : h.size < 2 ^ 32

pub header_words : (g : Geometry) (dump : List ℕ) (i : ℕ) (h : header.Header) → AllBytes dump → record_at g dump i ≡ recorded.Header h → HeaderWords h
unfolding fields_of
header_words g dump i h b e =
    let f = header_says g dump i h e in
    let page = page_at g dump i in
    let bytes = page_bytes g dump i b in
    record { parent = rw f.parent_is (word_below page at_parent bytes); size = rw f.size_is (word_below page at_size bytes) }
