-- What the finding of the layout reads (document 02, item 3): tag bytes of the candidates that divide the dump, and no other byte.
-- A candidate's score goes by what the tags of its pages say, these by their 16 bytes, and a candidate that does not divide the dump has none.
use Prim.Native.Nat.{ℕ, zero, suc, ◌+◌, ◌*◌, ◌%◌, ◌≤◌, ◌<◌}
use mathlib.Core.Bool.{Bool, true, false}
use mathlib.Core.List.{List}
use mathlib.Core.Path.{◌≡◌, refl, sym, ◌∙◌, fun_ext}
use mathlib.Core.Logic.{⊎_elim}
use native.Mathlib.Nat.{add_assoc, eq-or-lt_of_le, le_of_suc-le-suc, mul-add-mod_self_right, mod-eq_of_lt}
use native.Mathlib.Omega.{arith}
use lib.Dec.{ltb}
use lib.ListN.{length, set, take, drop, length-take, length-drop, length-set}
use lib.Seq.{ext_get_or, get_or-take, get_or-drop, get_or-set_other, drop-drop}
use borrow.Author.Tests.{leb-false, ltb-true, ltb-false, le-leb, lt-leb, lt-ltb}
use Rattle.page.specs.Search.{count, more}
use Rattle.page.specs.Layouts.{layouts, layout_at, tag_length, page_len, tag_place, roomy}
use Rattle.page.specs.Lengths.{block_fits, length_fits, whole_blocks, page_in}
use Rattle.page.specs.Pages.{page_at}
use Rattle.page.specs.Tags.{tag_bytes, claim_on, claim_at}
use Rattle.page.specs.Find.{candidate_at, candidate_score, find_of}
use Rattle.page.specs.Reading.{in_spare, in_tags, tags_of_candidate, is_read, SameClaims, SameRead}
use Rattle.page.specs.declared.geometry.Geometry.{Geometry}
use Rattle.page.specs.declared.layout.Layout.{Layout}
use Rattle.page.proofs.Searching.{clash, by_test}
use Rattle.page.proofs.Layouts.{roomy_facts}
use Rattle.page.proofs.Lengths.{page_within}
use Rattle.page.proofs.Naming.{beyond}
use Rattle.page.proofs.Texts.{part_of_part}

-- no page lies in a dump under a number that the table lacks
unlisted : (k c n i : ℕ) → layouts ≤ c → page_in (candidate_at k c) n i ≡ false
unfolding page_in roomy
unlisted k c n i h = rw (beyond c h)

-- a page that is not in the dump says nothing, whatever the dump
outside_same : (g : Geometry) (a b : List ℕ) (i : ℕ) → length a ≡ length b → page_in g (length a) i ≡ false → claim_at g a i ≡ claim_at g b i
unfolding claim_at
outside_same g a b i e h = rw (← e, h)

-- two dumps whose tags say the same have the same scores
module _ {a b : List ℕ} {k : ℕ} (s : SameClaims a b k) where
  scores_same : block_fits k ≡ true → length_fits (length a) ≡ true → (c : ℕ) → candidate_score a k c ≡ candidate_score b k c
  unfolding candidate_score
  scores_same f g c =
      by_test (whole_blocks (candidate_at k c) (length a)) _
      (λ w. rw (← s.long, w, fun_ext (said w)))
      (λ w. rw (← s.long, w))
    where
      said : whole_blocks (candidate_at k c) (length a) ≡ true → (i : ℕ) → claim_at (candidate_at k c) a i ≡ claim_at (candidate_at k c) b i
      said w i =
          by_test (page_in (candidate_at k c) (length a) i) _
          (λ p. by_test (ltb c layouts) _
          (λ h. s.claims f g c i (ltb-true c layouts h) w p)
          (λ h. outside_same (candidate_at k c) a b i s.long (unlisted k c (length a) i (ltb-false c layouts h))))
          (λ p. outside_same (candidate_at k c) a b i s.long p)

  -- and so the same answer
  pub finding_by_claims : find_of a k ≡ find_of b k
  unfolding find_of
  finding_by_claims =
      by_test (block_fits k) _
      (λ f. by_test (length_fits (length a)) _
      (λ g. let e : candidate_score a k ≡ candidate_score b k = fun_ext (scores_same f g) in rw (← s.long, f, g, e))
      (λ g. rw (← s.long, f, g)))
      (λ f. rw f)

-- the tag bytes of a page, where they lie in the dump
tag_part : (g : Geometry) (dump : List ℕ) (i : ℕ) → page_in g (length dump) i ≡ true → tag_bytes g.layout (page_at g dump i) ≡ take tag_length (drop (i * page_len g.layout + tag_place g.layout) dump)
unfolding tag_bytes page_at
tag_part g dump i h =
    let r = roomy_facts g.layout (page_within g (length dump) i h).room in
    rw (drop-drop) (part_of_part dump (i * page_len g.layout) (page_len g.layout) (tag_place g.layout) tag_length (omega (arith, r)))

-- each is a tag byte
tag_byte : (l : Layout) (i j : ℕ) → roomy l ≡ true → j < tag_length → in_tags l (i * page_len l + tag_place l + j) ≡ true
unfolding in_tags
tag_byte l i j h g =
    let r = roomy_facts l h in
    let e : (i * page_len l + tag_place l + j) % page_len l ≡ tag_place l + j =
    rw (add_assoc (i * page_len l) (tag_place l) j) (mul-add-mod_self_right i (page_len l) (tag_place l + j) ∙ mod-eq_of_lt (omega (arith, r))) in
    rw (e, le-leb (tag_place l) (tag_place l + j) (omega arith), lt-ltb (tag_place l + j) (tag_place l + tag_length) (omega arith))

-- a number that passes is counted
more_some : (b : Bool) (m : ℕ) → 1 ≤ m → 1 ≤ more b m
more_some true m h = omega arith
more_some false m h = h

count_some : (test : ℕ → Bool) (n c : ℕ) → c < n → test c ≡ true → 1 ≤ count test n
unfolding count
count_some test zero c h t = absurd (omega arith)
count_some test (suc n) c h t =
    ⊎_elim
    (λ e. let here : test n ≡ true = rw (← e) t in rw here (omega arith))
    (λ less. more_some (test n) (count test n) (count_some test n c less t))
    (eq-or-lt_of_le (le_of_suc-le-suc h))

-- a tag byte of a candidate that divides the dump is read
tag_read :
    (k n at c : ℕ) → block_fits k ≡ true → length_fits n ≡ true → c < layouts → whole_blocks (candidate_at k c) n ≡ true → in_tags (layout_at c) at ≡ true → is_read k n at ≡ true
unfolding is_read
tag_read k n at c f g h w t =
    let here : tags_of_candidate k n at c ≡ true = rw (w, t) in
    rw (f, g, le-leb 1 (count (tags_of_candidate k n at) layouts) (count_some (tags_of_candidate k n at) layouts c h here))

-- two dumps that agree on every byte that is read have the same tag bytes under every candidate that divides them
module _ {a b : List ℕ} {k : ℕ} (s : SameRead a b k) where
  tags_same :
      block_fits k ≡ true → length_fits (length a) ≡ true → (c i : ℕ) → c < layouts → whole_blocks (candidate_at k c) (length a) ≡ true → page_in (candidate_at k c) (length a) i ≡ true →
      tag_bytes (layout_at c) (page_at (candidate_at k c) a i) ≡ tag_bytes (layout_at c) (page_at (candidate_at k c) b i)
  tags_same f g c i h w p =
      let l = layout_at c in
      let place = i * page_len l + tag_place l in
      let ends = page_within (candidate_at k c) (length a) i p in
      let r = roomy_facts l ends.room in
      tag_part (candidate_at k c) a i p
      ∙ ext_get_or 0 (take tag_length (drop place a)) (take tag_length (drop place b)) (simp (length-take, length-drop, s.long))
      (λ j q.
      let m : j < tag_length = omega (arith, simp length-take at q) in
      rw (get_or-take, get_or-drop, get_or-take, get_or-drop)
      (s.bytes (place + j) (omega (arith, ends.ends, r)) (tag_read k (length a) (place + j) c f g h w (tag_byte l i j ends.room m))))
      ∙ sym (tag_part (candidate_at k c) b i (rw s.long at p))

  claims_same : SameClaims a b k
  unfolding claim_at claim_on
  claims_same = record { long = s.long; claims = λ f g c i h w p. rw (← s.long, p, tags_same f g c i h w p) }

  -- and so the same answer
  pub finding_reads_tags : find_of a k ≡ find_of b k
  finding_reads_tags = finding_by_claims claims_same

-- so that one byte that is not read may be any other
pub byte_unread : (dump : List ℕ) (k at v : ℕ) → is_read k (length dump) at ≡ false → find_of (set dump at v) k ≡ find_of dump k
byte_unread dump k at v h =
    let other : (j : ℕ) → is_read k (length dump) j ≡ true → j ≡ at → ⊥ = λ j r e. let z : true ≡ false = sym (rw e at r) ∙ h in clash (cc) in
    sym (finding_reads_tags (record { long = sym (length-set dump at v); bytes = λ j _ r. sym (get_or-set_other dump at j v 0 (other j r)) }))

-- nothing is counted where nothing passes
count_no : (test : ℕ → Bool) (n : ℕ) → ((c : ℕ) → c < n → test c ≡ false) → count test n ≡ 0
unfolding count
count_no test zero f = refl
count_no test (suc n) f = rw (f n (omega arith)) (count_no test n (λ c h. f c (omega arith)))

-- tags lie in the spare
tags_spare : (l : Layout) (at : ℕ) → in_spare l at ≡ false → in_tags l at ≡ false
unfolding in_spare in_tags
tags_spare l at h =
    let less : at % page_len l < l.«data» = leb-false l.«data» (at % page_len l) h in
    rw (lt-leb (tag_place l) (at % page_len l) (omega arith))

none_read : (k n at : ℕ) → ((c : ℕ) → c < layouts → whole_blocks (candidate_at k c) n ≡ true → in_spare (layout_at c) at ≡ false) → is_read k n at ≡ false
unfolding is_read
none_read k n at f =
    let none : count (tags_of_candidate k n at) layouts ≡ 0 = count_no (tags_of_candidate k n at) layouts
    (λ c h. by_test (whole_blocks (candidate_at k c) n) _ (λ w. rw (w, tags_spare (layout_at c) at (f c h w))) (λ w. rw w)) in
    rw (none, lt-leb 1 0 (omega arith)) (by_test (block_fits k) _ (λ a. rw a (by_test (length_fits n) _ (λ b. rw b) (λ b. rw b))) (λ a. rw a))

-- so may one that lies in no spare of a candidate that divides the dump
pub outside_spares :
    (dump : List ℕ) (k at v : ℕ) → ((c : ℕ) → c < layouts → whole_blocks (candidate_at k c) (length dump) ≡ true → in_spare (layout_at c) at ≡ false) →
    find_of (set dump at v) k ≡ find_of dump k
outside_spares dump k at v f = byte_unread dump k at v (none_read k (length dump) at f)
