-- The rows of copies beside the words of records. What is laid from the work is a list of rows with zeros behind it; and run after run the objects'
-- rows come to stand where their records do.
use Prim.Native.Nat.{ℕ, zero, suc, ◌+◌, ◌-◌, ◌≤◌, ◌<◌}
use Rattle.std.specs.Prelude.{Ok, Err}
use mathlib.Core.List.{List, [], ◌∷◌, ◌++◌, map, append_assoc, append-nil}
use mathlib.Core.Bool.{false}
use mathlib.Core.Logic.{inl, inr}
use mathlib.Core.Path.{◌≡◌, refl, sym, ap, ◌∙◌}
use native.Mathlib.Omega.{arith}
use lib.Dec.{eqb}
use lib.ListN.{length, take, drop, get_or, replicate, length-append, length-drop, length-map, length-replicate}
use lib.Seq.{length-take-le, take_all, take_at, drop_at, drop-drop, get_or-drop}
use Rattle.page.specs.Lengths.{opened_of}
use Rattle.page.specs.Numbers.{page_values, bad_object}
use Rattle.page.specs.Records.{record_at}
use Rattle.page.specs.declared.geometry.Geometry.{Geometry}
use Rattle.page.specs.declared.record.Record.{Record}
use Rattle.page.proofs.Lengths.{opened_pages}
use Rattle.page.proofs.Searching.{by_test}
use Rattle.sort.specs.Ascending.{In, Ascends}
use Rattle.sort.specs.Packed.{word_values, packed, key_of}
use Rattle.sort.specs.Room.{in_room}
use Rattle.sort.proofs.Ascending.{ascends_in}
use Rattle.sort.proofs.Packing.{packed_key}
use Rattle.sort.specs.Lists.{joined}
use Rattle.chunk.specs.Live.{object_ids}
use Rattle.chunk.specs.Lookups.{sized_of}
use Rattle.chunk.specs.Records.{age_of}
use Rattle.chunk.specs.Sized.{Sized}
use Rattle.chunk.proofs.Living.{objects_ascend}
use Rattle.index.specs.Chains.{objects}
use Rattle.index.specs.Held.{recs}
use Rattle.index.proofs.Sorted.Records.{recs_of}
use Rattle.file.specs.Along.{copies_along}
use Rattle.file.specs.Copies.{packed_copy}
use Rattle.compare.specs.Lists.{run_of}
use Rattle.compare.specs.Prepared as prepared
use Rattle.compare.specs.Prepared.{records_of, order_of, rows_of, copies_of}
use Rattle.compare.specs.Rows.{padded, rows_in, copies_in}
use Rattle.compare.proofs.Copying.{size_recorded, copies_recorded, rows_few, ids_recorded}
use Rattle.compare.proofs.Running.{values_back, run_words, run_others}
use Rattle.compare.proofs.OrderWords.{insert_length}
use Rattle.compare.proofs.Reporting.{listed_good}

-- rows in front of words that have room for more
pub room_front : (rows : List ℕ) (room : ℕ) (words : List ℕ) (r : ℕ) → r ≡ length rows → take r (in_room rows room words) ≡ rows
room_front rows room words r e =
    ap (λ (l : List ℕ). take r l) (append_assoc rows (replicate (room - length rows) 0) (drop room words))
    ∙ take_at rows (replicate (room - length rows) 0 ++ drop room words) r (sym e)

-- rows that were laid in front of so many words
pub laid_padded : (work rows : List ℕ) (m words : ℕ) → m ≤ length work → take m work ≡ rows → take m work ++ replicate (words - m) 0 ≡ padded words rows
laid_padded work rows m words h e =
    let l : length rows ≡ m = ap length (sym e) ∙ length-take-le m work h in
    rw (e, l)

-- no object has more records than there are pages
recs_few : (obj age : ℕ → ℕ) (o m : ℕ) → length (recs obj age o m) ≤ m
unfolding recs
recs_few obj age o zero = omega arith
recs_few obj age o (suc m) =
    by_test (eqb (obj m) o) _
    (λ t. rw t (omega (arith, insert_length age m (recs obj age o m), recs_few obj age o m)))
    (λ t. rw t (omega (arith, recs_few obj age o m)))

-- the object of their first
first_key : (o : ℕ) (L M : List ℕ) → 0 < length L → ((x : ℕ) → In x L → x < word_values) → key_of (get_or (map (packed o) L ++ M) 0 0) ≡ o
first_key o [] M h b = absurd (omega arith)
first_key o (p ∷ L) M h b = packed_key o p (b p (inl refl))

-- a part of so many words from word i on
pub part_length : (words : List ℕ) (i run : ℕ) → i + run ≤ length words → length (take (i + run - i) (drop i words)) ≡ run
part_length words i run h =
    let e : i + run - i ≡ run = omega arith in
    rw e (length-take-le run (drop i words) (omega (arith, length-drop i words)))

-- the words of all records of a dump of n pages
module _ (g : Geometry) (dump : List ℕ) (n P : ℕ) (list : List ℕ) where
  -- what holds when the rows up to word i are written: those of the objects left are to come
  pub record Filling (copies : List ℕ) (i : ℕ) : Type 0 where
    pub left : List ℕ
    pub least : ℕ
    pub rises : Ascends least left
    pub within : (x : ℕ) → In x left → In x (object_ids (record_at g dump) n)
    pub inside : i ≤ length list
    pub long : length copies ≡ length list
    pub rest : drop i list ≡ joined (order_of (record_at g dump) n) left
    pub filled : prepared.copies (record_at g dump) n P ≡ take i copies ++ joined (copies_of (record_at g dump) n P) left

  -- the run of words from i on, with an object's word there
  pub record Turn (copies : List ℕ) (i run : ℕ) : Type 0 where
    pub object : ℕ
    pub some : 0 < run
    pub few : run < page_values
    pub inside : i + run ≤ length list
    pub words : take run (drop i list) ≡ order_of (record_at g dump) n object
    pub onward :
        (written : List ℕ) →
        written ≡ take i copies ++ (copies_in (record_at g dump) P (order_of (record_at g dump) n object) ++ drop run (drop i copies)) →
        Filling written (i + run)

-- an accepted dump of n pages
module _ (g : Geometry) (dump : List ℕ) (n P : ℕ) (e : opened_of g (length dump) ≡ Ok n) where
  abbrev says : ℕ → Record
  says = record_at g dump

  abbrev ids : List ℕ
  ids = object_ids says n

  -- the pages of its records fit a word
  pages_below : (o p : ℕ) → In p (records_of says n o) → p < word_values
  pages_below o p i = omega (arith, (recs_of (objects says) (age_of says) o n p i).0, opened_pages g (length dump) n e)

  -- the rows that an object's words show are those of its file
  rows_own : (o : ℕ) → bad_object o ≡ false → (s : Sized) → sized_of says o n P ≡ s → rows_in says P (order_of says n o) ≡ rows_of says n P o
  unfolding rows_in
  rows_own o good (Ok x) s =
      let own = values_back o (records_of says n o) (pages_below o) in
      rw (own, size_recorded g dump n e o good P, s)
      (ap (λ (L : List ℕ). map packed_copy (copies_along says P x.answer L)) own ∙ ap (map packed_copy) (copies_recorded g dump n e o good P x.answer x.visits s))
  rows_own o good (Err f) s =
      let own = values_back o (records_of says n o) (pages_below o) in
      rw (own, size_recorded g dump n e o good P, s) refl

  -- and behind them zeros
  copies_own : (o : ℕ) → In o ids → copies_in says P (order_of says n o) ≡ copies_of says n P o
  copies_own o i = rw (rows_own o (listed_good g dump n o i) _ refl, length-map (records_of says n o) (packed o))

  -- they have as many words as its records
  pub copies_length : (o : ℕ) → bad_object o ≡ false → length (copies_of says n P o) ≡ length (records_of says n o)
  copies_length o good =
      let rows = rows_of says n P o in
      length-append rows (replicate (length (records_of says n o) - length rows) 0)
      ∙ rw (length-replicate {A = ℕ} (length (records_of says n o) - length rows) 0)
      (omega (arith, rows_few g dump n e o good P))

  -- the words of its records
  module _ (list : List ℕ) (is : list ≡ prepared.order says n) where
    -- at the begin none are written, and all objects are left
    pub fill_start : (copies : List ℕ) → length copies ≡ length list → Filling g dump n P list copies 0
    unfolding prepared.order prepared.copies
    fill_start copies l =
        record {
          left = ids;
          least = 0;
          rises = objects_ascend says n;
          within = λ x i. i;
          inside = omega arith;
          long = l;
          rest = is;
          filled = refl;
        }

    module _ (copies : List ℕ) (i : ℕ) (f : Filling g dump n P list copies i) where
      -- of the objects left, o comes next
      module _ (o : ℕ) (more : List ℕ) (up : Ascends (suc o) more) (known : In o ids) (within : (x : ℕ) → In x more → In x ids)
          (rest : drop i list ≡ order_of says n o ++ joined (order_of says n) more)
          (filled : prepared.copies says n P ≡ take i copies ++ (copies_of says n P o ++ joined (copies_of says n P) more))
        where
          abbrev own : ℕ
          own = length (records_of says n o)

          words_long : length (order_of says n o) ≡ own
          words_long = length-map (records_of says n o) (packed o)

          key-is : key_of (get_or list i 0) ≡ o
          key-is =
              let z : i + 0 ≡ i = omega arith in
              ap key_of (rw z at (sym (get_or-drop i list 0 0)) ∙ ap (λ (l : List ℕ). get_or l 0 0) rest)
              ∙ first_key o (records_of says n o) (joined (order_of says n) more) (ids_recorded g dump n e o known) (pages_below o)

          run_is : run_of o (drop i list) ≡ own
          run_is =
              ap (run_of o) rest
              ∙ run_words o (records_of says n o) (joined (order_of says n) more) (pages_below o)
              ∙ omega (arith, run_others o (records_of says n) pages_below more (λ x j z. absurd (omega (arith, ascends_in (suc o) x more up j))))

          fits : i + own ≤ length list
          fits =
              omega (arith, f.inside, ap length rest, length-drop i list, length-append (order_of says n o) (joined (order_of says n) more), words_long)

          on :
              (written : List ℕ) → written ≡ take i copies ++ (copies_in says P (order_of says n o) ++ drop own (drop i copies)) → Filling g dump n P list written (i + own)
          on written w =
              let C = copies_of says n P o in
              let front : length (take i copies) ≡ i = length-take-le i copies (omega (arith, f.inside, f.long)) in
              let long : length (take i copies ++ C) ≡ i + own = length-append (take i copies) C ∙ omega (arith, front, copies_length o (listed_good g dump n o known)) in
              let parts : written ≡ (take i copies ++ C) ++ drop own (drop i copies) =
              w ∙ ap (λ (l : List ℕ). take i copies ++ (l ++ drop own (drop i copies))) (copies_own o known) ∙ sym (append_assoc (take i copies) C (drop own (drop i copies))) in
              record {
                left = more;
                least = suc o;
                rises = up;
                within = within;
                inside = fits;
                long =
                    ap length parts
                    ∙ length-append (take i copies ++ C) (drop own (drop i copies))
                    ∙ omega (arith, long, length-drop own (drop i copies), length-drop i copies, f.long, fits);
                rest = sym (drop-drop own i list) ∙ ap (λ (l : List ℕ). drop own l) rest ∙ drop_at (order_of says n o) (joined (order_of says n) more) own words_long;
                filled =
                    filled
                    ∙ sym (append_assoc (take i copies) C (joined (copies_of says n P) more))
                    ∙ ap (λ (l : List ℕ). l ++ joined (copies_of says n P) more)
                    (sym (ap (λ (l : List ℕ). take (i + own) l) parts ∙ take_at (take i copies ++ C) (drop own (drop i copies)) (i + own) long));
              }

          turn-next : (run : ℕ) → run ≡ own → Turn g dump n P list copies i run
          turn-next run r =
              rw r (
              record {
                object = o;
                some = ids_recorded g dump n e o known;
                few = omega (arith, recs_few (objects says) (age_of says) o n, opened_pages g (length dump) n e);
                inside = fits;
                words = ap (λ (l : List ℕ). take own l) rest ∙ take_at (order_of says n o) (joined (order_of says n) more) own words_long;
                onward = on;
              }
              )

      -- the first object that is left is that of word i
      turn-of :
          (left : List ℕ) (least : ℕ) → Ascends least left → ((x : ℕ) → In x left → In x ids) → drop i list ≡ joined (order_of says n) left →
          prepared.copies says n P ≡ take i copies ++ joined (copies_of says n P) left → i < length list →
          (o run : ℕ) → o ≡ key_of (get_or list i 0) → run ≡ run_of o (drop i list) → Turn g dump n P list copies i run
      unfolding joined
      turn-of [] least up within rest filled h o run a b = absurd (omega (arith, ap length rest, length-drop i list))
      turn-of (x ∷ more) least up within rest filled h o run a b =
          let known = within x (inl refl) in
          let on : (y : ℕ) → In y more → In y ids = λ y j. within y (inr j) in
          let same : o ≡ x = a ∙ key-is x more up.1 known on rest filled in
          turn-next x more up.1 known on rest filled run (b ∙ rw same (run_is x more up.1 known on rest filled))

      -- by what holds there
      pub turn_at : i < length list → (o run : ℕ) → o ≡ key_of (get_or list i 0) → run ≡ run_of o (drop i list) → Turn g dump n P list copies i run
      turn_at = turn-of f.left f.least f.rises f.within f.rest f.filled

      -- at the end all are written
      end_of :
          (left : List ℕ) → ((x : ℕ) → In x left → In x ids) → drop i list ≡ joined (order_of says n) left →
          prepared.copies says n P ≡ take i copies ++ joined (copies_of says n P) left → length list ≤ i → copies ≡ prepared.copies says n P
      unfolding joined
      end_of [] within rest filled h =
          sym (filled ∙ append-nil (take i copies) ∙ take_all i copies (omega (arith, f.long)))
      end_of (x ∷ more) within rest filled h =
          absurd
          (omega (
            arith,
            ap length rest,
            length-drop i list,
            length-append (order_of says n x) (joined (order_of says n) more),
            length-map (records_of says n x) (packed x),
            ids_recorded g dump n e x (within x (inl refl)),
          ))

      -- by what holds there
      pub fill_end : length list ≤ i → copies ≡ prepared.copies (record_at g dump) n P
      fill_end = end_of f.left f.within f.rest f.filled
