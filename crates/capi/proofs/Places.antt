-- The part of the dump at the place that an answer names is the part that the call below lends.
use Prim.Native.Nat.{ℕ, ◌+◌, ◌*◌, ◌≤◌}
use Rattle.std.specs.Prelude.{Result, Ok, Err}
use Rattle.page.specs.declared.fields.Fields.{Fields}
use Rattle.page.specs.declared.refusal.Refusal.{Refusal}
use mathlib.Core.Bool.{◌&&◌}
use mathlib.Core.List.{List}
use mathlib.Core.Path.{◌≡◌, refl, sym, ◌∙◌}
use native.Mathlib.Omega.{arith}
use lib.ListN.{length, take, drop}
use lib.Dec.{leb}
use borrow.Author.Tests.{leb-true}
use Rattle.page.specs.Layouts.{page_len}
use Rattle.page.specs.Lengths.{page_in}
use Rattle.page.specs.Headers.{text_place, text_length}
use Rattle.page.specs.Asked.{headed_of, text_at}
use Rattle.page.specs.declared.geometry.Geometry.{Geometry}
use Rattle.page.specs.declared.fields.Text.{Text}
use Rattle.page.proofs.Layouts.{and_right}
use Rattle.page.proofs.Pages.{page_front}
use Rattle.page.proofs.Searching.{by_test}
use Rattle.page.proofs.Texts.{headed_text, refused_text}
use Rattle.chunk.specs.Answers.{valid_part, part_by}
use Rattle.chunk.specs.Looked.{Looked}
use Rattle.chunk.specs.Looked as looked
use Rattle.chunk.proofs.Cases.{valid_there, valid_none, part_copy, part_hole, part_refused}
use Rattle.capi.specs.Headers.{part_answer, text_answer}
use Rattle.capi.specs.Lookups.{place_of, place_answer}

module _ (f : Text) (g : Geometry) (dump : List ℕ) (i : ℕ) where
  part_here :
      (h : (Result Fields Refusal)) →
      headed_of g dump i ≡ h →
      let r = part_answer h (i * page_len g.layout + text_place f) (text_length f) in take r.length (drop r.offset dump) ≡ text_at f g dump i
  part_here (Err r) e = sym (refused_text f g dump i r e)
  part_here (Ok v) e = sym (headed_text f g dump i v e)

  pub text_here : take (text_answer f g dump i).length (drop (text_answer f g dump i).offset dump) ≡ text_at f g dump i
  unfolding text_answer
  text_here = part_here (headed_of g dump i) refl

module _ (g : Geometry) (dump : List ℕ) where
  pub valid_here : (p valid : ℕ) → let r = place_of g (length dump) p valid in take r.length (drop r.offset dump) ≡ valid_part g dump p valid
  valid_here p valid =
      by_test (page_in g (length dump) p && leb valid g.layout.«data») _
      (λ t.
      let h : valid ≤ g.layout.«data» = leb-true _ _ (and_right (page_in g (length dump) p) _ t) in
      rw (t, valid_there g dump p valid t) (sym (page_front g dump p valid (omega arith))))
      (λ t. rw (t, valid_none g dump p valid t))

  -- the valid bytes of a chunk
  pub chunk_here : (a : Looked) → take (place_answer g (length dump) a).length (drop (place_answer g (length dump) a).offset dump) ≡ part_by g dump a
  unfolding place_answer
  chunk_here (Err e) = sym (part_refused g dump e.answer.refusal e.visits e.answer.need)
  chunk_here (looked.Hole s v) = sym (part_hole g dump s v)
  chunk_here (looked.Copy p a s v) = valid_here p.0 a ∙ sym (part_copy g dump p a s v)
