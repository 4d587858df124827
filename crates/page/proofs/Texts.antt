-- Where a header field that is bytes stands in the dump, for crates above that hand out places.
use Prim.Native.Nat.{ℕ, ◌+◌, ◌*◌, ◌≤◌, ◌<◌}
use Rattle.std.specs.Prelude.{Result, Ok, Err}
use mathlib.Core.List.{List, []}
use mathlib.Core.Bool.{true}
use mathlib.Core.Path.{◌≡◌, refl}
use native.Mathlib.Nat.{add_assoc}
use native.Mathlib.Omega.{arith}
use lib.ListN.{length, take, drop, length-take, length-drop}
use lib.Seq.{ext_get_or, get_or-take, get_or-drop}
use Rattle.page.specs.Layouts.{page_len}
use Rattle.page.specs.Lengths.{page_in}
use Rattle.page.specs.Pages.{page_at}
use Rattle.page.specs.Headers.{fields_of, text_place, text_length, text_of}
use Rattle.page.specs.Asked.{asked_of, headed_by, headed_of, text_by, text_at}
use Rattle.page.specs.declared.geometry.Geometry.{Geometry}
use Rattle.page.specs.declared.fields.Fields.{Fields}
use Rattle.page.specs.declared.fields.Text.{Text}
use Rattle.page.specs.declared.refusal.Refusal.{Refusal}
use Rattle.page.proofs.Layouts.{roomy_facts}
use Rattle.page.proofs.Lengths.{page_within}
use Rattle.page.proofs.Sound.{asked_in, text_fits}
use Rattle.page.proofs.Searching.{clash}

-- a part of a part, counted from the list's begin
pub part_of_part : (s : List ℕ) (a n b m : ℕ) → b + m ≤ n → take m (drop b (take n (drop a s))) ≡ take m (drop (a + b) s)
part_of_part s a n b m h =
    ext_get_or 0 _ _ (simp (length-take, length-drop) (omega arith))
    (λ i q.
    let k : i < m = omega (arith, simp length-take at q) in
    let j : b + i < n = omega arith in
    rw (get_or-take, get_or-take, get_or-drop, get_or-take, get_or-drop, get_or-drop, add_assoc))

header_asked : (a : (Result Unit Refusal)) (v g : Fields) → headed_by a v ≡ Ok g → a ≡ (Ok tt)
unfolding headed_by
header_asked (Ok tt) v g e = refl
header_asked (Err r) v g e = clash (cc)

no_text : (a : (Result Unit Refusal)) (v : Fields) (r : Refusal) (s : List ℕ) → headed_by a v ≡ Err r → text_by a s ≡ []
unfolding headed_by text_by
no_text (Ok tt) v r s e = clash (cc)
no_text (Err q) v r s e = refl

-- a page whose fields were given lies in the dump
pub headed_in : (g : Geometry) (dump : List ℕ) (i : ℕ) (v : Fields) → headed_of g dump i ≡ Ok v → page_in g (length dump) i ≡ true
unfolding headed_of
headed_in g dump i v e = asked_in g dump i (header_asked (asked_of g dump i) (fields_of (page_at g dump i)) v e)

module _ (f : Text) (g : Geometry) (dump : List ℕ) (i : ℕ) where
  -- the field of a header stands at its offset from the page's begin
  pub headed_text : (v : Fields) → headed_of g dump i ≡ Ok v → text_at f g dump i ≡ take (text_length f) (drop (i * page_len g.layout + text_place f) dump)
  unfolding headed_of text_at text_by text_of page_at
  headed_text v e =
      let h = header_asked (asked_of g dump i) (fields_of (page_at g dump i)) v e in
      let w = page_within g (length dump) i (headed_in g dump i v e) in
      let r = roomy_facts g.layout w.room in
      rw h (part_of_part dump (i * page_len g.layout) (page_len g.layout) (text_place f) (text_length f) (omega (arith, text_fits f, r)))

  -- a refused page has none
  pub refused_text : (r : Refusal) → headed_of g dump i ≡ Err r → text_at f g dump i ≡ []
  unfolding headed_of text_at
  refused_text r e = no_text (asked_of g dump i) (fields_of (page_at g dump i)) r (text_of f (page_at g dump i)) e
