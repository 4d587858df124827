-- A header's fields are all of its 512 bytes: two pages that agree on every number and every text agree on each of them. So no byte of a header is
-- left out of what the calls give, and the table has no gap. Field by field, each beginning where the one before it ends.
use Prim.Native.Nat.{ℕ, zero, suc, ◌+◌, ◌<◌}
use mathlib.Core.List.{List}
use mathlib.Core.Path.{◌≡◌, refl, ap}
use native.Mathlib.Omega.{arith}
use lib.ListN.{length, get_or}
use lib.Seq.{get_or-take, get_or-drop}
use Rattle.page.specs.Words.{le16, le32, le64}
use Rattle.page.specs.Layouts.{header_bytes}
use Rattle.page.specs.Tags.{tags_of, tag_bytes, claim_of, claim_on}
use Rattle.page.specs.Lengths.{page_in}
use Rattle.page.specs.Kinds.{header_of, kind_by, kind_of, kind_at}
use Rattle.page.specs.Records.{record_of, record_at}
use Rattle.page.specs.Reading.{SameFirst, SameWords, SameSaid, SamePages}
use Rattle.page.specs.Headers.{at_type, at_parent, at_unused1, at_unused2, at_mode, at_uid, at_gid, at_accessed, at_modified, at_created, at_size, at_equivalent, at_rdev, at_win_created, at_win_accessed, at_win_modified, at_inband_shadow, at_inband_shrink, at_size_high, at_shadowed, at_shrink, fields_of, text_place, text_length, text_of}
use Rattle.page.specs.declared.geometry.Geometry.{Geometry}
use Rattle.page.specs.declared.layout.Layout.{Layout}
use Rattle.page.specs.declared.number.ObjectId.{ObjectId}
use Rattle.page.specs.declared.tags.Tags.{Tags}
use Rattle.page.specs.declared.tags.Claim.{Claim}
use Rattle.page.specs.declared.tags.Claim.TheVariants as claim
use Rattle.page.specs.declared.fields.Text.{Text}
use Rattle.page.specs.declared.fields.Text.TheVariants.{Name, Alias, Reserved}
use Rattle.page.proofs.Searching.{by_test, one_more}
use Rattle.page.proofs.Within.{AllBytes, word_below}

-- how long a header is
pub header_length_lem : header_bytes ≡ 512
header_length_lem = refl

module _ (p q : List ℕ) (bp : AllBytes p) (bq : AllBytes q) where
  -- one byte more
  byte : (n m : ℕ) → m ≡ n + 1 → get_or p n 0 ≡ get_or q n 0 → SameFirst n p q → SameFirst m p q
  byte n m l e s i h = one_more (λ i. get_or p i 0 ≡ get_or q i 0) n i (rw l at h) e (s i)

  -- some bytes more
  bytes : (n w : ℕ) → ((k : ℕ) → k < w → get_or p (n + k) 0 ≡ get_or q (n + k) 0) → SameFirst n p q → SameFirst (n + w) p q
  bytes n zero e s = λ i h. s i (omega arith)
  bytes n (suc w) e s = byte (n + w) (n + suc w) (omega arith) (e w (omega arith)) (bytes n w (λ k h. e k (omega arith)) s)

  -- a text more
  text : (f : Text) → text_of f p ≡ text_of f q → SameFirst (text_place f) p q → SameFirst (text_place f + text_length f) p q
  unfolding text_of
  text f e = bytes (text_place f) (text_length f) (λ k h. rw (get_or-take, get_or-drop, get_or-take, get_or-drop) at (ap (λ t. get_or t k 0) e))

  -- a number more: its digits are bytes, so it tells them
  half : (at : ℕ) → le16 p at ≡ le16 q at → SameFirst at p q → SameFirst (at + 2) p q
  unfolding le16
  half at e s =
      let b0 = bp at in
      let c0 = bq at in
      let b1 = bp (at + 1) in
      let c1 = bq (at + 1) in
      byte (at + 1) (at + 2) (omega arith) (omega (arith, e)) (byte at (at + 1) (omega arith) (omega (arith, e)) s)

  word : (at : ℕ) → le32 p at ≡ le32 q at → SameFirst at p q → SameFirst (at + 4) p q
  unfolding le32
  word at e s =
      let b0 = bp at in
      let c0 = bq at in
      let b1 = bp (at + 1) in
      let c1 = bq (at + 1) in
      let b2 = bp (at + 2) in
      let c2 = bq (at + 2) in
      let b3 = bp (at + 3) in
      let c3 = bq (at + 3) in
      byte (at + 3) (at + 4) (omega arith) (omega (arith, e))
      (byte (at + 2) (at + 3) (omega arith) (omega (arith, e))
      (byte (at + 1) (at + 2) (omega arith) (omega (arith, e))
      (byte at (at + 1) (omega arith) (omega (arith, e)) s)))

  long : (at : ℕ) → le64 p at ≡ le64 q at → SameFirst at p q → SameFirst (at + 8) p q
  unfolding le64
  long at e s =
      let b = word_below p at bp in
      let c = word_below q at bq in
      let low : le32 p at ≡ le32 q at = omega (arith, e) in
      let high : le32 p (at + 4) ≡ le32 q (at + 4) = omega (arith, e) in
      λ i h. word (at + 4) high (word at low s) i (omega arith)

  pub header_whole : fields_of p ≡ fields_of q → ((f : Text) → text_of f p ≡ text_of f q) → SameFirst header_bytes p q
  unfolding fields_of
  header_whole e texts =
      let page_type_lem = word at_type (ap (λ f. f.page_type) e) (λ i h. absurd (omega arith)) in
      let parent = word at_parent (ap (λ f. f.parent) e) page_type_lem in
      let unused1 = half at_unused1 (ap (λ f. f.unused1) e) parent in
      let name = text Name (texts Name) unused1 in
      let unused2 = half at_unused2 (ap (λ f. f.unused2) e) name in
      let mode = word at_mode (ap (λ f. f.mode) e) unused2 in
      let uid = word at_uid (ap (λ f. f.uid) e) mode in
      let gid = word at_gid (ap (λ f. f.gid) e) uid in
      let accessed = word at_accessed (ap (λ f. f.accessed) e) gid in
      let modified = word at_modified (ap (λ f. f.modified) e) accessed in
      let created = word at_created (ap (λ f. f.created) e) modified in
      let size = word at_size (ap (λ f. f.file_size) e) created in
      let equivalent = word at_equivalent (ap (λ f. f.equivalent_id) e) size in
      let alias = text Alias (texts Alias) equivalent in
      let rdev = word at_rdev (ap (λ f. f.rdev) e) alias in
      let win-created = long at_win_created (ap (λ f. f.win_created) e) rdev in
      let win-accessed = long at_win_accessed (ap (λ f. f.win_accessed) e) win-created in
      let win-modified = long at_win_modified (ap (λ f. f.win_modified) e) win-accessed in
      let inband-shadow = word at_inband_shadow (ap (λ f. f.inband_shadow) e) win-modified in
      let inband-shrink = word at_inband_shrink (ap (λ f. f.inband_shrink) e) inband-shadow in
      let size-high = word at_size_high (ap (λ f. f.size_high) e) inband-shrink in
      let reserved = text Reserved (texts Reserved) size-high in
      let shadowed = word at_shadowed (ap (λ f. f.shadowed_id) e) reserved in
      word at_shrink (ap (λ f. f.shrink) e) shadowed

-- A page has its kind, with all that the rules of records know of it, by its tags and, if it is a header, four of its words. So no other field decides
-- anything: not the alias, nor a time, nor an in-band word, nor the high word of the size.
kind_words : (p q : List ℕ) (t : Tags) (c : Claim) → ((sequence : ℕ) (object : ObjectId) → c ≡ claim.Header sequence object → SameWords p q) → kind_by p t c ≡ kind_by q t c
unfolding kind_by header_of
kind_words p q t claim.Blank same = refl
kind_words p q t claim.Foreign same = refl
kind_words p q t claim.Damaged same = refl
kind_words p q t (claim.Header sequence object) same =
    let w = same sequence object refl in
    rw (w.page_type_lem, w.parent, w.size, w.shrink)
kind_words p q t (claim.Data d) same = refl

pub kind_reads : (l : Layout) (p q : List ℕ) → SameSaid l p q → kind_of l p ≡ kind_of l q
unfolding kind_of claim_on
kind_reads l p q s = rw s.tags (kind_words p q (tags_of (tag_bytes l q)) (claim_of l.«data» (tags_of (tag_bytes l q))) s.words)

-- so two dumps whose pages agree on these have the same records
pub records_read : (g : Geometry) (a b : List ℕ) → SamePages g a b → record_at g a ≡ record_at g b
unfolding record_at kind_at
records_read g a b s = λ j i. record_of (same i j)
  where
    same : (i : ℕ) → kind_at g a i ≡ kind_at g b i
    same i = by_test (page_in g (length a) i) _ (λ t. rw (← s.long, t) (kind_reads g.layout _ _ (s.said i t))) (λ t. rw (← s.long, t))
