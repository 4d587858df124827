-- The report by the words that two accepted dumps are prepared to is document 02's report: of each object by its words what the rules say of it, and
-- object after object over the ids of both.
use Prim.Native.Nat.{ℕ}
use Rattle.std.specs.Prelude.{Ok}
use mathlib.Core.Bool.{false}
use mathlib.Core.List.{List, []}
use mathlib.Core.Logic.{◌⊎◌, ⊎_elim}
use mathlib.Core.Path.{◌≡◌, sym, ap, ap₂, ◌∙◌}
use lib.ListN.{length, length-map}
use Rattle.page.specs.Lengths.{opened_of}
use Rattle.page.specs.Numbers.{bad_object}
use Rattle.page.specs.Records.{record_at}
use Rattle.page.specs.declared.geometry.Geometry.{Geometry}
use Rattle.page.specs.declared.record.Record.{Record}
use Rattle.sort.specs.Ascending.{In}
use Rattle.sort.specs.Packed.{packed}
use Rattle.chunk.specs.Live.{object_ids}
use Rattle.chunk.proofs.Living.{objects_ascend}
use Rattle.compare.specs.Views.{view_of}
use Rattle.compare.specs.Report.{report_of, in_either, ids_in, object_report, whole_report}
use Rattle.compare.specs.Lists.{sides_report, lists_report}
use Rattle.compare.specs.Sides.{side_of}
use Rattle.compare.specs.Prepared.{records_of, order_of, order, copies_of, copies}
use Rattle.compare.proofs.Filling.{copies_length}
use Rattle.compare.proofs.Ids.{either_of}
use Rattle.compare.proofs.Joining.{length_none}
use Rattle.compare.proofs.Running.{keys_back}
use Rattle.compare.proofs.Reporting.{unlisted_none, listed_some, listed_good, joined_same}
use Rattle.compare.proofs.Prepared.{record_words, many, side_view}
use Rattle.compare.proofs.Walking.{Words, walked}

-- ---- one accepted dump

module _ (g : Geometry) (dump : List ℕ) (n : ℕ) (e : opened_of g (length dump) ≡ Ok n) (o : ℕ) (good : bad_object o ≡ false) where
  abbrev says : ℕ → Record
  says = record_at g dump

  abbrev P : ℕ
  P = g.layout.«data»

  -- an object's rows have as many words as its records
  copies_long : length (copies_of says n P o) ≡ length (order_of says n o)
  copies_long = copies_length g dump n P e o good ∙ sym (length-map (records_of says n o) (packed o))

  -- so the words of each are as the walk takes them
  object_words : Words (object_ids says n) (order_of says n) (copies_of says n P) o
  object_words = record {
    keys = keys_back o (records_of says n o) (record_words g dump n e o good);
    long = copies_long;
    some = λ i z. listed_some g dump n o i (sym (many g dump n e o good) ∙ z);
    none = λ f. length_none (order_of says n o) (many g dump n e o good ∙ unlisted_none g dump n o f);
  }

  -- one that the dump has no record of has none
  pub side_none : (In o (object_ids says n) → ⊥) → side_of g dump [] [] ≡ view_of g dump n o
  side_none f =
      let none : order_of says n o ≡ [] = object_words.none f in
      let none' : copies_of says n P o ≡ [] = length_none (copies_of says n P o) (copies_long ∙ ap length none) in
      rw (none, none') at (side_view g dump n e o good)

-- ---- two accepted dumps

module _
    (g : Geometry) (dump : List ℕ) (n : ℕ) (e : opened_of g (length dump) ≡ Ok n)
    (g' : Geometry) (dump' : List ℕ) (n' : ℕ) (e' : opened_of g' (length dump') ≡ Ok n')
  where
    abbrev one : ℕ → Record
    one = record_at g dump

    abbrev other : ℕ → Record
    other = record_at g' dump'

    abbrev P₁ : ℕ
    P₁ = g.layout.«data»

    abbrev P₂ : ℕ
    P₂ = g'.layout.«data»

    -- the report of an object by its words is the report by the rules; one that a dump has no record of has no words there
    pub sides_report_lem :
        (o : ℕ) → bad_object o ≡ false →
        sides_report g dump g' dump' o (order_of one n o) (copies_of one n P₁ o) (order_of other n' o) (copies_of other n' P₂ o)
        ≡ report_of o (view_of g dump n o) (view_of g' dump' n' o)
    sides_report_lem o good = ap₂ (report_of o) (side_view g dump n e o good) (side_view g' dump' n' e' o good)

    -- an id of either
    either-good : (o : ℕ) → In o (object_ids one n) ⊎ In o (object_ids other n') → bad_object o ≡ false
    either-good o i = ⊎_elim (λ k. listed_good g dump n o k) (λ k. listed_good g' dump' n' o k) i

    -- the whole report
    pub lists_whole : lists_report g dump g' dump' (order one n) (copies one n P₁) (order other n') (copies other n' P₂) ≡ whole_report g dump n g' dump' n'
    unfolding lists_report order copies whole_report object_report ids_in
    lists_whole =
        walked g dump g' dump' (object_ids one n) (object_ids other n') (order_of one n) (copies_of one n P₁) (order_of other n') (copies_of other n' P₂)
        (λ o i. object_words g dump n e o (either-good o i))
        (λ o i. object_words g' dump' n' e' o (either-good o i))
        (objects_ascend one n) (objects_ascend other n')
        ∙ joined_same
        (λ o. sides_report g dump g' dump' o (order_of one n o) (copies_of one n P₁ o) (order_of other n' o) (copies_of other n' P₂ o))
        (object_report g dump n g' dump' n') (in_either (object_ids one n) (object_ids other n'))
        (λ o i. sides_report_lem o (either-good o (either_of (object_ids one n) o (object_ids other n') i)))
