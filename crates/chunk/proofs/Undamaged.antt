-- Demand 2 knows no index, so none of its answers is IndexDamaged. Each answer is a choice, or a case of what was found before it: every refusal
-- among them is another one, or the one that was found before.
use Prim.Native.Nat.{ℕ}
use Rattle.std.specs.Prelude.{Option, Some, None, Ok, Err}
use mathlib.Core.List.{List}
use mathlib.Core.Path.{◌≡◌, ap}
use lib.Dec.{eqb, ltb, leb}
use lib.ListN.{length}
use Rattle.page.specs.Numbers.{bad_object, bad_chunk}
use Rattle.page.specs.declared.record.Record.{Record}
use Rattle.page.specs.declared.refusal.Refusal.TheVariants.{IndexDamaged}
use Rattle.chunk.proofs.Alike.{sought_by, short_by, unread_by}
use Rattle.page.proofs.Searching.{clash, pick_cases}
use Rattle.chunk.specs.Records.{age_of, is_gone, is_file, base_of}
use Rattle.chunk.specs.Newest.{newest_header, newest_copy, records}
use Rattle.chunk.specs.Cuts.{lowest_cut, hides}
use Rattle.chunk.specs.Sizes.{size_of}
use Rattle.chunk.specs.Lookups.{file_at, file_by, file_of, sized_by, sized_of, shown_of, copy_at, copy_by, chunk_by, looked_by, looked_of}
use Rattle.chunk.specs.Answers.{read_by}
use Rattle.chunk.specs.Lists.{listed_by}
use Rattle.chunk.specs.File.{File}
use Rattle.chunk.specs.File as file
use Rattle.chunk.specs.Sized as sized
use Rattle.chunk.specs.Looked.{Looked}
use Rattle.chunk.specs.Looked as looked
use Rattle.chunk.specs.Listed as listed

-- what a newest header makes of its object
header_undamaged : (k : Record) (h v w : ℕ) → file_at k h v ≡ file.Refused IndexDamaged w → ⊥
unfolding file_at
header_undamaged k h v w e =
    pick_cases (is_gone k) _ _ _ ⊥ e (λ _ q. clash (let h = ap sought_by q in cc))
    (λ _ e₁. pick_cases (is_file k) _ _ _ ⊥ e₁ (λ _ q. clash (let h = ap sought_by q in cc)) (λ _ q. clash (let h = ap sought_by q in cc)))

module _ (says : ℕ → Record) (o n : ℕ) where
  found_undamaged : (f : Option ℕ) (v : ℕ) → file_by says o n f ≡ file.Refused IndexDamaged v → ⊥
  unfolding file_by
  found_undamaged None v e = clash (let h = ap sought_by e in cc)
  found_undamaged (Some h) v e = header_undamaged (says h) h _ v e

  -- the live file that an object is
  pub file_undamaged : (v : ℕ) → file_of says o n ≡ file.Refused IndexDamaged v → ⊥
  unfolding file_of
  file_undamaged v e =
      pick_cases (eqb (records says o n) 0) _ _ _ ⊥ e (λ _ q. clash (let h = ap sought_by q in cc)) (λ _ q. found_undamaged (newest_header says o n) v q)

  module _ (P : ℕ) where
    -- its size
    sized-undamaged : (f : File) → ((v : ℕ) → f ≡ file.Refused IndexDamaged v → ⊥) → (v : ℕ) → sized_by says o n P f ≡ sized.Refused IndexDamaged v → ⊥
    unfolding sized_by
    sized-undamaged (Err f) never v e = never f.visits (let h : Some f.answer ≡ Some IndexDamaged = ap sought_by e in let g : f.answer ≡ IndexDamaged = cc in rw (← g))
    sized-undamaged (Ok x) never v e = clash (cc)

    pub size_undamaged : (v : ℕ) → sized_of says o n P ≡ sized.Refused IndexDamaged v → ⊥
    unfolding sized_of
    size_undamaged v e = pick_cases (bad_object o) _ _ _ ⊥ e (λ _ q. clash (let h = ap sought_by q in cc)) (λ _ q. sized-undamaged (file_of says o n) file_undamaged v q)

    -- one of its chunks
    module _ (c : ℕ) where
      copy-undamaged : (h shown : ℕ) (q : Option ℕ) (v m : ℕ) → copy_by says o n P c h shown q ≡ looked.Refused IndexDamaged v m → ⊥
      unfolding copy_by copy_at
      copy-undamaged h shown None v m e = clash (cc)
      copy-undamaged h shown (Some q) v m e =
          pick_cases (hides (lowest_cut says o h (age_of says q) n) (base_of P c)) _ _ _ ⊥ e (λ _ e₁. clash (let h = ap unread_by e₁ in cc)) (λ _ e₁. clash (let h = ap unread_by e₁ in cc))

      looked-undamaged :
          (f : File) → ((v : ℕ) → f ≡ file.Refused IndexDamaged v → ⊥) → (v m : ℕ) → looked_by says o n P c f ≡ looked.Refused IndexDamaged v m → ⊥
      unfolding looked_by chunk_by
      looked-undamaged (Err f) never v m e = never f.visits (let h : Some f.answer ≡ Some IndexDamaged = ap unread_by e in let g : f.answer ≡ IndexDamaged = cc in rw (← g))
      looked-undamaged (Ok x) never v m e =
          let size = size_of says P o x.answer.0 n in
          pick_cases (leb size (base_of P c)) _ _ _ ⊥ e (λ _ q. clash (let h = ap unread_by q in cc))
          (λ _ q. copy-undamaged x.answer.0 (shown_of P c size) (newest_copy says o c n) v m q)

      pub chunk_undamaged : (v m : ℕ) → looked_of says o n P c ≡ looked.Refused IndexDamaged v m → ⊥
      unfolding looked_of
      chunk_undamaged v m e =
          pick_cases (bad_object o) _ _ _ ⊥ e (λ _ q. clash (let h = ap unread_by q in cc))
          (λ _ e₁. pick_cases (bad_chunk c) _ _ _ ⊥ e₁ (λ _ q. clash (let h = ap unread_by q in cc)) (λ _ q. looked-undamaged (file_of says o n) file_undamaged v m q))

-- a read of a chunk whose lookup is not
pub read_undamaged :
    (room : ℕ) (a : Looked) → ((v m : ℕ) → a ≡ looked.Refused IndexDamaged v m → ⊥) → (v m : ℕ) → read_by room a ≡ looked.Refused IndexDamaged v m → ⊥
unfolding read_by
read_undamaged room (Err f) never v m e = never v m e
read_undamaged room (looked.Hole s w) never v m e = pick_cases (ltb room s) _ _ _ ⊥ e (λ _ q. clash (let h = ap unread_by q in cc)) (λ _ q. clash (let h = ap unread_by q in cc))
read_undamaged room (looked.Copy p a s w) never v m e = pick_cases (ltb room s) _ _ _ ⊥ e (λ _ q. clash (let h = ap unread_by q in cc)) (λ _ q. clash (let h = ap unread_by q in cc))

-- a listing
pub list_undamaged : (room : ℕ) (ids : List ℕ) (m : ℕ) → listed_by room ids ≡ listed.Refused IndexDamaged m → ⊥
unfolding listed_by
list_undamaged room ids m e = pick_cases (ltb room (length ids)) _ _ _ ⊥ e (λ _ q. clash (let h = ap short_by q in cc)) (λ _ q. clash (let h = ap short_by q in cc))
