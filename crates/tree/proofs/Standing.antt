-- How an object stands, by its newest header. A header is of one object, so that two objects never share their newest one; and what stands as a
-- directory has a header that is not gone, which makes it live.
use Rattle.std.specs.Prelude.{Option, Some, None}
use Prim.Native.Nat.{ℕ, ◌<◌}
use mathlib.Core.Bool.{true, false, not}
use mathlib.Core.Path.{◌≡◌, refl, sym, ◌∙◌}
use borrow.Author.Tests.{not-true, eqb-false, ne_eqb}
use lib.Dec.{eqb}
use Rattle.page.specs.declared.record.Record.{Record}
use Rattle.page.proofs.Layouts.{and_left, and_right}
use Rattle.page.proofs.Searching.{clash, by_test}
use Rattle.sort.specs.Ascending.{In}
use Rattle.chunk.specs.Live.{live_ids}
use Rattle.chunk.specs.Records.{is_of, header_of, is_gone}
use Rattle.chunk.proofs.Living.{live_in}
use Rattle.chunk.proofs.Meaning.{newest_found}
use Rattle.chunk.proofs.Records.{of_object}
use Rattle.tree.specs.Objects.{Stand, missing, deleted, non_directory, directory, root, is_directory, parent_in, stand_by, is_standing}
use Rattle.tree.specs.Objects.{given, head_of, page_of, parent_of, stand_of}
use Rattle.tree.specs.Ways.{goes_on}

-- ---- what a page says

-- a header that is gone does not stand as a directory
pub gone_standing : (r : Record) → is_gone r ≡ true → is_standing (stand_by r) ≡ false
gone_standing r e = rw e

-- a dump of n pages
module _ (says : ℕ → Record) (n : ℕ) where
  -- ---- newest headers

  -- the page of a newest header is below n
  pub head_below : (x p : ℕ) → head_of says n x ≡ Some p → p < n
  head_below x p e = (newest_found says (header_of x) n p e).below

  -- and it is a header of the object
  pub head_of_lem : (x p : ℕ) → head_of says n x ≡ Some p → header_of x (says p) ≡ true
  head_of_lem x p e = (newest_found says (header_of x) n p e).passes

  -- so that two objects with the same one are the same
  pub same_head : (x y p : ℕ) → head_of says n x ≡ Some p → head_of says n y ≡ Some p → x ≡ y
  same_head x y p e f =
      sym (of_object x (says p) (and_left (is_of x (says p)) _ (head_of_lem x p e))) ∙ of_object y (says p) (and_left (is_of y (says p)) _ (head_of_lem y p f))

  -- an object with a newest header has it on its page
  pub head_page : (x p : ℕ) → head_of says n x ≡ Some p → head_of says n x ≡ Some (page_of says n x)
  head_page x p e = rw e

  -- and the parent that it names
  pub parent_head : (x p : ℕ) → head_of says n x ≡ Some p → parent_of says n x ≡ parent_in (says p)
  unfolding parent_of
  parent_head x p e = rw e

  -- ---- how an object stands

  -- one with no header is missing
  pub stand_missing : (x : ℕ) → head_of says n x ≡ None → stand_of says n x ≡ missing
  unfolding stand_of
  stand_missing x e = rw e

  -- one with a header stands by it
  pub stand_head : (x p : ℕ) → head_of says n x ≡ Some p → stand_of says n x ≡ stand_by (says p)
  unfolding stand_of
  stand_head x p e = rw e

  -- one whose newest header is gone is deleted
  pub stand_deleted : (x p : ℕ) → head_of says n x ≡ Some p → is_gone (says p) ≡ true → stand_of says n x ≡ deleted
  stand_deleted x p e t = stand_head x p e ∙ rw t

  -- and one whose newest header is neither gone nor a directory's is no directory
  pub stand_plain : (x p : ℕ) → head_of says n x ≡ Some p → is_gone (says p) ≡ false → is_directory (says p) ≡ false → stand_of says n x ≡ non_directory
  stand_plain x p e t u = stand_head x p e ∙ rw (t, u)

  -- what holds in each of these cases, and of a directory
  pub by_stand :
      (x : ℕ) (P : Stand → Type 0) → (head_of says n x ≡ None → P missing) →
      ((h : ℕ) → head_of says n x ≡ Some h → is_gone (says h) ≡ true → P deleted) →
      ((h : ℕ) → head_of says n x ≡ Some h → is_gone (says h) ≡ false → is_directory (says h) ≡ true → P directory) →
      ((h : ℕ) → head_of says n x ≡ Some h → is_gone (says h) ≡ false → is_directory (says h) ≡ false → P non_directory) → P (stand_of says n x)
  unfolding stand_of
  by_stand x P without gone here plain = go (head_of says n x) refl
    where
      go : (r : Option ℕ) → head_of says n x ≡ r → P (given missing (λ h. stand_by (says h)) r)
      go None e = without e
      go (Some h) e =
          by_test (is_gone (says h)) _
          (λ t. rw t (gone h e t))
          (λ t. by_test (is_directory (says h)) _ (λ u. rw (t, u) (here h e t u)) (λ u. rw (t, u) (plain h e t u)))

  -- what stands as a directory has a newest header that is not gone
  pub standing_head : (x : ℕ) → is_standing (stand_of says n x) ≡ true → (p : ℕ) × (head_of says n x ≡ Some p) × (is_gone (says p) ≡ false)
  standing_head x =
      by_stand x (λ s. is_standing s ≡ true → (p : ℕ) × (head_of says n x ≡ Some p) × (is_gone (says p) ≡ false))
      (λ e t. clash (cc))
      (λ h e g t. clash (cc))
      (λ h e g d t. (h, e, g))
      (λ h e g d t. clash (cc))

  -- so it is live
  pub standing_live : (x : ℕ) → is_standing (stand_of says n x) ≡ true → In x (live_ids says n)
  standing_live x t = let w = standing_head x t in live_in says n x record { header = w.0; newest_header_lem = w.1; kept = w.2 }

  -- ---- where a way goes on

  -- what goes on is not the root, and stands as a directory
  pub goes_on_lem : (x : ℕ) → goes_on says n x ≡ true → (x ≡ root → ⊥) × (is_standing (stand_of says n x) ≡ true)
  goes_on_lem x t = (eqb-false x root (not-true _ (and_left (not (eqb x root)) _ t)), and_right (not (eqb x root)) _ t)

  -- and what is so goes on
  pub on_goes : (x : ℕ) → (x ≡ root → ⊥) → is_standing (stand_of says n x) ≡ true → goes_on says n x ≡ true
  on_goes x d t = rw (ne_eqb x root d, t)

  -- it has a newest header
  pub on_headed : (x : ℕ) → goes_on says n x ≡ true → head_of says n x ≡ Some (page_of says n x)
  on_headed x g = let w = standing_head x (goes_on_lem x g).1 in head_page x w.0 w.1
