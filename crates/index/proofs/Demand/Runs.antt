-- A run of additions, one at a time: none left, one that was done, or one that was refused. However it ends, a run leaves the words that the list
-- of the additions it asked for leaves, so that demand 3 speaks of it too.
use Prim.Native.Nat.{ℕ, zero, suc, ◌+◌, ◌-◌, ◌≤◌, ◌<◌, min}
use Rattle.std.specs.Prelude.{Result, Ok, Err}
use mathlib.Core.Bool.{Bool, true, false}
use mathlib.Core.List.{List, [], ◌++◌, append-nil}
use mathlib.Core.Path.{◌≡◌, refl, sym, ap, ◌∙◌}
use native.Mathlib.Omega.{arith}
use lib.ListN.{length, take, drop, length-take, length-drop, length-append, take-append-drop, drop_of_length-le}
use lib.Seq.{take_all, length-take-le, take_at, drop_at}
use lib.Dec.{ltb, leb}
use borrow.Author.Tests.{lt-leb, ltb-true, leb-true, leb-false}
use Rattle.page.specs.Choice.{pick}
use Rattle.page.specs.Records.{record_at}
use Rattle.page.specs.Lengths.{opened_of}
use Rattle.page.specs.declared.record.Record.{Record}
use Rattle.page.specs.declared.geometry.Geometry.{Geometry}
use Rattle.page.specs.declared.refusal.Refusal.{Refusal}
use Rattle.page.proofs.Searching.{by_test}
use Rattle.chunk.specs.Records.{age_of}
use Rattle.chunk.specs.declared.takes.Takes.{Takes}
use Rattle.chunk.specs.declared.takes.Takes.TheVariants.{Older}
use Rattle.index.specs.Cells.{cells_for}
use Rattle.index.specs.Chains.{objects}
use Rattle.index.specs.Additions.{Outcome, outcome, add_to, add_in, add_of}
use Rattle.index.specs.Requests.{add, words_after, words_of}
use Rattle.index.specs.Runs.{Ran, ran, taken_by, onward, run_by, run_in, taken_of, older_in, older_of, adds, asked}
use Rattle.index.specs.Run.{Done, Stopped}
use Rattle.index.proofs.Held.Cases.{add_short}
use Rattle.index.proofs.Demand.Requests.{add_length}

module _ (taken : ℕ → Bool) (n : ℕ) (obj age : ℕ → ℕ) (end p : ℕ) (c : List ℕ) where
  pub run_none : end ≤ p → run_by taken n obj age (end - p) p c ≡ ran Done c
  unfolding run_by
  run_none h = let k : end - p ≡ 0 = omega arith in rw k

  module _ (h : p < end) where
    more : end - p ≡ suc (end - (p + 1))
    more = omega arith

    pub run_skip : taken p ≡ false → run_by taken n obj age (end - p) p c ≡ run_by taken n obj age (end - (p + 1)) (p + 1) c
    unfolding run_by
    run_skip t = rw (more, t)

    module _ (t : taken p ≡ true) (u : List ℕ) where
      pub run_more : outcome (Ok tt) u ≡ add_to n obj age c p → run_by taken n obj age (end - p) p c ≡ run_by taken n obj age (end - (p + 1)) (p + 1) u
      unfolding run_by
      run_more e = rw (more, t, ← e)

      pub run_stop : (r : Refusal) → outcome (Err r) u ≡ add_to n obj age c p → run_by taken n obj age (end - p) p c ≡ ran (Stopped (record { 0 = p }) r) u
      unfolding run_by
      run_stop r e = rw (more, t, ← e)

-- a run of the records older than page b
module _ (g : Geometry) (dump : List ℕ) (from end b : ℕ) (c : List ℕ) where
  module _ (n : ℕ) (e : opened_of g (length dump) ≡ Ok n) where
    abbrev says : ℕ → Record
    says = record_at g dump

    -- it takes those below the age of page b, if the dump has that page
    pub older_taken : b < n → older_of g dump c from end b ≡ taken_of (Older (age_of says b)) g dump c from (min end n)
    unfolding older_of older_in taken_of
    older_taken k = rw (e, lt-leb n b k) (by_test (leb (cells_for n) (length c)) _ (λ t. rw t) (λ t. rw t))

-- a run that goes on after page p went over one page more from p on
module _ (taken : ℕ → Bool) (n : ℕ) (obj age : ℕ → ℕ) (end p : ℕ) (h : p < end) where
  asked_more :
      (m q : ℕ) (c : List ℕ) → p < q → asked (run_by taken n obj age m q c).answer p end ≡ suc (asked (run_by taken n obj age m q c).answer (p + 1) end)
  unfolding run_by asked
  asked_more zero q c k = omega arith
  asked_more (suc m) q c k = go (taken q) (add_to n obj age c q).answer (add_to n obj age c q).cells (λ u. asked_more m (q + 1) u (omega arith))
    where
      rest : List ℕ → Ran
      rest = run_by taken n obj age m (q + 1)

      go : (t : Bool) (a : (Result Unit Refusal)) (u : List ℕ)
          → ((v : List ℕ) → asked (rest v).answer p end ≡ suc (asked (rest v).answer (p + 1) end))
          → asked (pick t (onward a u q rest) (rest c)).answer p end ≡ suc (asked (pick t (onward a u q rest) (rest c)).answer (p + 1) end)
      go true (Ok tt) u on = on u
      go true (Err r) u on = omega arith
      go false a u on = on c

module _ (takes : Takes) (g : Geometry) (dump : List ℕ) (c : List ℕ) (w : ℕ) where
  -- words in the place of those that a call was lent are what the next one is lent
  module _ (d : List ℕ) (e : length d ≡ length (take w c)) where
    module _ (t : leb w (length c) ≡ false) where
      none : drop w c ≡ []
      none = drop_of_length-le c {i = w} (omega (arith, leb-false w (length c) t))

      short : length (d ++ drop w c) ≤ w
      short = simp (length-append, length-drop) (omega (arith, length-take w c, leb-false w (length c) t))

    lent : take w (d ++ drop w c) ≡ d
    lent =
        by_test (leb w (length c)) _
        (λ t. take_at d (drop w c) w (e ∙ length-take-le w c (leb-true _ _ t)))
        (λ t. take_all w (d ++ drop w c) (short t) ∙ rw (none t) (append-nil d))

    kept : drop w (d ++ drop w c) ≡ drop w c
    kept =
        by_test (leb w (length c)) _
        (λ t. drop_at d (drop w c) w (e ∙ length-take-le w c (leb-true _ _ t)))
        (λ t. drop_of_length-le (d ++ drop w c) (short t) ∙ sym (none t))

  module _ (n : ℕ) (o : opened_of g (length dump) ≡ Ok n) where
    abbrev obj : ℕ → ℕ
    obj = objects (record_at g dump)

    abbrev age : ℕ → ℕ
    age = age_of (record_at g dump)

    abbrev taken : ℕ → Bool
    taken = taken_by takes (record_at g dump)

    abbrev to : List ℕ → ℕ → Outcome
    to d p = add_to n obj age d p

    one : (d : List ℕ) (p : ℕ) → length d ≡ length (take w c) → words_after g dump (d ++ drop w c) (add g.block w p) ≡ (to d p).cells ++ drop w c
    unfolding words_after add_of add_in
    one d p e = rw (o, lent d e, kept d e)

    -- the requests of the pages from p on, by whether p is taken
    skipped : (v : List ℕ) (p m : ℕ) → taken p ≡ false → words_of g dump v (adds taken g.block w (suc m) p) ≡ words_of g dump v (adds taken g.block w m (p + 1))
    unfolding adds
    skipped v p m t = rw t refl

    next :
        (d : List ℕ) (p m : ℕ) → taken p ≡ true → length d ≡ length (take w c) →
        words_of g dump (d ++ drop w c) (adds taken g.block w (suc m) p) ≡ words_of g dump ((to d p).cells ++ drop w c) (adds taken g.block w m (p + 1))
    unfolding words_of adds
    next d p m t e = rw t (ap (λ (v : List ℕ). words_of g dump v (adds taken g.block w m (p + 1))) (one d p e))

    abbrev Left : (end m p : ℕ) (d : List ℕ) → Type 0
    Left end m p d =
        (run_by taken n obj age m p d).cells ++ drop w c
        ≡ words_of g dump (d ++ drop w c) (adds taken g.block w (asked (run_by taken n obj age m p d).answer p end) p)

    by : (end m p : ℕ) (d : List ℕ) → end - p ≡ m → length d ≡ length (take w c) → Left end m p d
    unfolding run_by words_of adds asked
    by end zero p d z e = rw z refl
    by end (suc m) p d z e =
        go (taken p) refl (to d p).answer (by end m (p + 1) u (omega arith) (add_length n obj age d p ∙ e)) (by end m (p + 1) d (omega arith) e)
      where
        u : List ℕ
        u = (to d p).cells

        rest : List ℕ → Ran
        rest = run_by taken n obj age m (p + 1)

        single : p - p + 1 ≡ suc zero
        single = omega arith

        further : (d : List ℕ) → asked (rest d).answer p end ≡ suc (asked (rest d).answer (p + 1) end)
        further d = asked_more taken n obj age end p (omega arith) m (p + 1) d (omega arith)

        go : (t : Bool) → taken p ≡ t → (a : (Result Unit Refusal)) → Left end m (p + 1) u → Left end m (p + 1) d
            → (pick t (onward a u p rest) (rest d)).cells ++ drop w c
            ≡ words_of g dump (d ++ drop w c) (adds taken g.block w (asked (pick t (onward a u p rest) (rest d)).answer p end) p)
        go true t (Ok tt) on off = rw (further u) (on ∙ sym (next d p (asked (rest u).answer (p + 1) end) t e))
        go true t (Err r) on off = rw single (sym (next d p zero t e))
        go false t a on off = rw (further d) (off ∙ sym (skipped (d ++ drop w c) p (asked (rest d).answer (p + 1) end) t))

  -- one addition that is refused leaves the words as they are, and so does none
  refused_one : (from : ℕ) → (add_of g dump (take w c) from).cells ≡ take w c → c ≡ words_of g dump c (adds (taken_by takes (record_at g dump)) g.block w 1 from)
  unfolding words_of words_after adds
  refused_one from e = by_test (taken_by takes (record_at g dump) from) _ (λ t. rw t (rw e (sym (take-append-drop w c)))) (λ t. rw t refl)

  -- a dump and words that no addition would take
  unopened : (from : ℕ) (r : Refusal) → opened_of g (length dump) ≡ Err r → (add_of g dump (take w c) from).cells ≡ take w c
  unfolding add_of add_in
  unopened from r o = rw o refl

  shortened : (from n : ℕ) → opened_of g (length dump) ≡ Ok n → length (take w c) < cells_for n → (add_of g dump (take w c) from).cells ≡ take w c
  unfolding add_of add_in
  shortened from n o h = rw (o, add_short n (objects (record_at g dump)) (age_of (record_at g dump)) (take w c) from h) refl

  -- a run, lent the first w words of a memory, leaves what the list of the additions that it asked for leaves
  pub run_list :
      (from end : ℕ) →
      (taken_of takes g dump (take w c) from end).cells ++ drop w c
      ≡ words_of g dump c (adds (taken_by takes (record_at g dump)) g.block w (asked (taken_of takes g dump (take w c) from end).answer from end) from)
  unfolding taken_of run_in asked
  run_list from end = go (opened_of g (length dump)) refl
    where
      single : from - from + 1 ≡ 1
      single = omega arith

      go : (v : (Result ℕ Refusal)) → opened_of g (length dump) ≡ v
          → (run_in takes v (record_at g dump) from end (take w c)).cells ++ drop w c
          ≡ words_of g dump c (adds (taken_by takes (record_at g dump)) g.block w (asked (run_in takes v (record_at g dump) from end (take w c)).answer from end) from)
      go (Err r) o = rw single (take-append-drop w c ∙ refused_one from (unopened from r o))
      go (Ok n) o =
          by_test (ltb (length (take w c)) (cells_for n)) _
          (λ t. rw (t, single) (take-append-drop w c ∙ refused_one from (shortened from n o (ltb-true _ _ t))))
          (λ t. rw t (rw (take-append-drop w c) at (by n o end (end - from) from (take w c) refl refl)))
