-- What preparing answers and leaves gives document 02's report: where both dumps were prepared, the words in front of the lent slices, compared, tell
-- exactly what differs.
use Prim.Native.Nat.{ℕ}
use Rattle.std.specs.Prelude.{Result, Ok, Err}
use Rattle.page.specs.declared.refusal.Refusal.{Refusal}
use mathlib.Core.Bool.{Bool, true, false}
use mathlib.Core.List.{List, [], ◌∷◌}
use mathlib.Core.Logic.{inl, inr}
use mathlib.Core.Path.{◌≡◌, refl, sym, ◌∙◌}
use lib.ListN.{length, take, length-append, length-map}
use lib.Seq.{take_at}
use Rattle.page.specs.Lengths.{opened_of}
use Rattle.page.specs.Records.{record_at}
use Rattle.page.specs.declared.geometry.Geometry.{Geometry}
use Rattle.page.proofs.Searching.{clash}
use Rattle.sort.specs.Ascending.{In}
use Rattle.sort.specs.Lists.{joined}
use Rattle.sort.specs.Packed.{packed}
use Rattle.chunk.specs.Live.{object_ids}
use Rattle.compare.specs.Lists.{lists_report}
use Rattle.compare.specs.Prepared as prepared
use Rattle.compare.specs.Prepared.{records_in, records_of, order_of, copies_of, is_room, prepared_on, order_left, copies_left}
use Rattle.compare.specs.Report.{whole_report}
use Rattle.compare.specs.Preparing.{Records}
use Rattle.compare.proofs.Filling.{copies_length}
use Rattle.compare.proofs.OrderWords.{order_length}
use Rattle.compare.proofs.Reporting.{listed_good}
use Rattle.compare.proofs.Told.{lists_whole}

-- lists of the same lengths, joined
joined_lengths :
    (f h : ℕ → List ℕ) (L : List ℕ) → ((x : ℕ) → In x L → length (f x) ≡ length (h x)) → length (joined f L) ≡ length (joined h L)
unfolding joined
joined_lengths f h [] e = refl
joined_lengths f h (x ∷ L) e =
    rw (length-append (f x) (joined f L), length-append (h x) (joined h L), e x (inl refl), joined_lengths f h L (λ y i. e y (inr i)))

module _ (g : Geometry) (dump words rows work : List ℕ) where
  -- a dump that was prepared to m words: how many pages it has, and what stands in front then
  pub record Ready (m : ℕ) : Type 0 where
    pub pages : ℕ
    pub accepted : opened_of g (length dump) ≡ Ok pages
    pub order : take m (order_left g dump words (length rows) (length work)) ≡ prepared.order (record_at g dump) pages
    pub copies : take m (copies_left g dump rows (length words) (length work)) ≡ prepared.copies (record_at g dump) pages g.layout.«data»

  -- there are as many rows as words
  copies_long : (n : ℕ) → opened_of g (length dump) ≡ Ok n → length (prepared.copies (record_at g dump) n g.layout.«data») ≡ length (prepared.order (record_at g dump) n)
  unfolding prepared.copies prepared.order
  copies_long n e =
      joined_lengths (copies_of (record_at g dump) n g.layout.«data») (order_of (record_at g dump) n) (object_ids (record_at g dump) n)
      (λ o i. copies_length g dump n g.layout.«data» e o (listed_good g dump n o i) ∙ sym (length-map (records_of (record_at g dump) n o) (packed o)))

  -- an answer has one number
  records_same : (a b : ℕ) → Records a ≡ Records b → a ≡ b
  records_same a b e = cc

  -- whatever dump was answered so is
  pub ready : (m : ℕ) → prepared_on g dump (length words) (length rows) (length work) ≡ Records m → Ready m
  unfolding prepared_on order_left copies_left
  ready m q = go (opened_of g (length dump)) refl
    where
      by-room :
          (n : ℕ) → opened_of g (length dump) ≡ Ok n → (t : Bool) → is_room (records_in g dump n) (length words) (length rows) (length work) ≡ t → Ready m
      by-room n e false t = clash (let f = rw (e, t) at q in cc)
      by-room n e true t =
          let k : m ≡ records_in g dump n = let f = rw (e, t) at q in sym (records_same (records_in g dump n) m f) in
          let says = record_at g dump in
          let P = g.layout.«data» in
          let long : m ≡ length (prepared.order says n) = k ∙ sym (order_length g dump n e) in
          let long' : m ≡ length (prepared.copies says n P) = long ∙ sym (copies_long n e) in
          record {
            pages = n;
            accepted = e;
            order = rw (e, t, long) (take_at (prepared.order says n) _ _ refl);
            copies = rw (e, t, long') (take_at (prepared.copies says n P) _ _ refl);
          }

      go : (o : (Result ℕ Refusal)) → opened_of g (length dump) ≡ o → Ready m
      go (Err r) e = clash (let f = rw e at q in cc)
      go (Ok n) e = by-room n e (is_room (records_in g dump n) (length words) (length rows) (length work)) refl

-- two dumps that were prepared
module _
    (g : Geometry) (dump words rows work : List ℕ) (m : ℕ) (one : Ready g dump words rows work m)
    (g' : Geometry) (dump' words' rows' work' : List ℕ) (m' : ℕ) (other : Ready g' dump' words' rows' work' m')
  where
    pub compare_told :
        lists_report g dump g' dump'
        (take m (order_left g dump words (length rows) (length work))) (take m (copies_left g dump rows (length words) (length work)))
        (take m' (order_left g' dump' words' (length rows') (length work'))) (take m' (copies_left g' dump' rows' (length words') (length work')))
        ≡ whole_report g dump one.pages g' dump' other.pages
    compare_told =
        rw (one.order, one.copies, other.order, other.copies)
        (lists_whole g dump one.pages one.accepted g' dump' other.pages other.accepted)
