-- The second list by the rows of heads. The live objects are those of the rows whose headers are not gone: both lists ascend and have the same
-- members. So the second list is the objects of the rows that are kept by three tests, and its rows are made of those, one after the other.
use Prim.Native.Nat.{ℕ, ◌+◌, ◌≤◌, ◌<◌, zero-le}
use mathlib.Core.Bool.{Bool, true, false, not, ◌&&◌}
use mathlib.Core.List.{List, [], ◌∷◌, map}
use mathlib.Core.Path.{◌≡◌, refl, sym, ap, ◌∙◌}
use native.Mathlib.Omega.{arith}
use borrow.Author.Tests.{not-true, ne_eqb}
use lib.Dec.{eqb}
use lib.ListN.{length, get_or, take}
use lib.Seq.{take_all}
use Rattle.page.specs.declared.record.Record.{Record}
use Rattle.sort.specs.Lists.{keep}
use Rattle.sort.specs.Packed.{word_values, packed, key_of, value_of}
use Rattle.sort.proofs.Ascending.{same_members}
use Rattle.sort.proofs.Lists.{keep_twice, keep_in, keep_of, map_keep, kept_ascends, made_pass, made_more}
use Rattle.sort.proofs.Making.{in_map, map_in, map_made}
use Rattle.sort.proofs.Packing.{packed_key, packed_value}
use Rattle.sort.proofs.Places.{at_in}
use Rattle.chunk.specs.Live.{live_ids}
use Rattle.chunk.specs.Records.{is_gone}
use Rattle.chunk.proofs.Living.{live_of, live_ids_ascend}
use Rattle.text.specs.Put.{most, Put}
use Rattle.text.proofs.Putting.{nothing, also, kept}
use Rattle.tree.specs.Climbs.{Headed, Ways, TellsListed, reason_in, is_other, other_row, TellsOther, PutsOthers}
use Rattle.tree.specs.Objects.{root, page_of}
use Rattle.tree.specs.Paths.{listed}
use Rattle.tree.specs.Rows.{number_of, other_rows}
use Rattle.tree.specs.Tree.{is_in, others}
use Rattle.tree.specs.Ways.{reason_of}
use Rattle.tree.proofs.HeadRows.{row_live}
use Rattle.tree.proofs.Settled.{settled_reason}
use Rattle.tree.proofs.Standing.{head_below}

-- ---- the second list

module _ (says : ℕ → Record) (n : ℕ) (heads : List ℕ) (w : Headed says n heads) where
  -- whether a row's header is not gone
  abbrev here : ℕ → Bool
  here row = not (is_gone (says (value_of row)))

  -- the live objects are those of such rows
  live_rows : map key_of (keep here heads) ≡ live_ids says n
  live_rows =
      same_members 0 (map key_of (keep here heads)) (live_ids says n)
      (kept_ascends key_of here 0 heads w.right.ascend)
      (live_ids_ascend says n)
      (λ x i.
      let r = map_in key_of x (keep here heads) i in
      let k = keep_of here r.from heads r.there in
      rw r.made at (row_live says n heads w.right r.from k.0 (not-true _ k.1)))
      (λ x i.
      let l = live_of says n x i in
      let p = l.header in
      let b : p < word_values = omega (arith, head_below says n x p l.newest_header_lem, w.small) in
      let e : key_of (packed x p) ≡ x = packed_key x p b in
      let v : value_of (packed x p) ≡ p = packed_value x p b in
      rw e at
      (in_map key_of (packed x p) (keep here heads)
      (keep_in here (packed x p) heads (w.right.all x p l.newest_header_lem) (rw (v, l.kept)))))

  module _ (names : ℕ → List ℕ) where
    -- the second list is those of the rows that pass all tests
    others-kept : others says names n ≡ map key_of (keep (is_other says names n) heads)
    unfolding others
    others-kept =
        let t : ℕ → Bool = λ o. not (eqb o root) && not (is_in o (listed says names n)) in
        ap (keep t) (sym live_rows)
        ∙ map_keep key_of t (keep here heads)
        ∙ ap (map key_of) (keep_twice (λ row. t (key_of row)) here heads)

    -- and its rows are made of those
    pub rows_kept : other_rows says names n ≡ map (other_row says names n) (keep (is_other says names n) heads)
    unfolding other_rows
    rows_kept =
        let g : ℕ → ℕ = λ o. packed (number_of (reason_of says n o)) (page_of says n o) in
        ap (map g) others-kept
        ∙ map_made key_of g (other_row says names n) (keep (is_other says names n) heads)
        (λ row i. rw (w.right.right row (keep_of (is_other says names n) row heads i).0))

-- ---- whether an object is in it

module _ (says : ℕ → Record) (heads words : List ℕ) (i : ℕ) where
  abbrev row : ℕ
  row = get_or heads i 0

  -- one that is not the root, and whose newest header is not gone, is, if the first list does not have it
  pub tells_else :
      (r : Bool) → i < length heads → (key_of row ≡ root → ⊥) → is_gone (says (value_of row)) ≡ false → TellsListed words i r →
      TellsOther says heads words i (not r)
  tells_else r h d e f names n bound rows w =
      let q = f says names n heads bound w (row_live says n heads rows row (at_in i heads h) e) d in
      rw (e, ne_eqb (key_of row) root d, q)

-- ---- its rows one after the other

module _ (says : ℕ → Record) (heads words before : List ℕ) (at : ℕ) where
  -- the rows of those of the first i rows of heads that are in it are put
  pub record Listing (after : List ℕ) (next i : ℕ) : Type 0 where
    pub inside : i ≤ length heads
    pub long : length after ≡ length before
    pub put :
        (names : ℕ → List ℕ) (n : ℕ) → Headed says n heads → Ways says n heads (λ j. n) words →
        Put (map (other_row says names n) (keep (is_other says names n) (take i heads))) before at after next

  -- none is
  pub listing_none : length before < most → at ≤ most → Listing before at 0
  unfolding keep
  listing_none h k = record { inside = zero-le; long = refl; put = λ names n r w. nothing before at h k }

  module _ (after : List ℕ) (next i : ℕ) (q : Listing after next i) (h : i < length heads) where
    -- one that is not in it is passed over
    pub listing_pass : TellsOther says heads words i false → Listing after next (i + 1)
    listing_pass f =
        record {
          inside = omega arith;
          long = q.long;
          put = λ names n r w.
              rw (made_pass (other_row says names n) (is_other says names n) heads i h (sym (f names n _ r.right w))) (q.put names n r w);
        }

    -- the row of one that is in it is put
    pub listing_more :
        (then : List ℕ) (last : ℕ) → TellsOther says heads words i true →
        Put (packed (number_of (reason_in i (value_of (get_or words i 0)))) (value_of (get_or heads i 0)) ∷ []) after next then last →
        Listing then last (i + 1)
    listing_more then last f p =
        record {
          inside = omega arith;
          long = kept p ∙ q.long;
          put = λ names n r w.
              rw (made_more (other_row says names n) (is_other says names n) heads i h (sym (f names n _ r.right w)))
              (also (q.put names n r w) (rw (settled_reason says n heads r.right words i w h) at p));
        }

  -- all are
  pub listing_all : (after : List ℕ) (next i : ℕ) → Listing after next i → length heads ≤ i → PutsOthers says heads words before at after next
  listing_all after next i q h names n r w =
      let e : take i heads ≡ heads = take_all i heads h in
      rw (rows_kept says n heads r names) (rw e at (q.put names n r w))
