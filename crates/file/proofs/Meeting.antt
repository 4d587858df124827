-- The walk that meets copies. Its turns put what is met, one record after the other; at the end all copies of the chain are put.
use Prim.Native.Nat.{ℕ, ◌+◌, ◌≤◌}
use Rattle.std.specs.Prelude.{Option, None}
use mathlib.Core.Bool.{Bool, true, false}
use mathlib.Core.List.{List, [], ◌++◌}
use mathlib.Core.Path.{◌≡◌, refl, sym, ap, ◌∙◌}
use native.Mathlib.Omega.{arith}
use lib.ListN.{length, length-append}
use Rattle.page.specs.Records.{is_header}
use Rattle.page.specs.declared.record.Data.{Data}
use Rattle.page.specs.declared.record.Record.{Record}
use Rattle.page.specs.declared.record.Record.TheVariants as said
use Rattle.page.proofs.Searching.{by_test}
use Rattle.chunk.specs.Records.{chunk_of, base_of}
use Rattle.chunk.specs.Lookups.{shown_of, valid_of}
use Rattle.chunk.proofs.Cuts.{leaves_most}
use Rattle.chunk.proofs.Records.{header_chunk}
use Rattle.index.specs.Chains.{Trace, clean, broken, rec}
use Rattle.index.specs.Walks.{records_in, cut_by}
use Rattle.index.specs.Ahead.{still_newest}
use Rattle.index.proofs.Chain.Turns.{count_on}
use Rattle.file.specs.Shows.{is_met}
use Rattle.index.specs.Recorded.{is_broken}
use Rattle.file.specs.Copies.{met_of, met, put_from}
use Rattle.file.specs.declared.copy.Copy.{Copy}
use Rattle.file.proofs.Putting.{put_none, put_on, put_length}

-- no more bytes are valid than a page has
pub valid_most : (P c : ℕ) (k : Record) (z : ℕ) (cut : (Option ℕ)) → valid_of P c k (shown_of P c z) cut ≤ P
valid_most P c k z cut = omega (arith, leaves_most cut (base_of P c) (shown_of P c z))

-- a header is not met as a copy, and the newest one is no longer ahead; data does not cut
module _ (says : ℕ → Record) (P m size : ℕ) where
  module _ (newest : Bool) (cut : (Option ℕ)) (t : Trace) where
    met-end : t ≡ clean → met says P m size newest cut t ≡ []
    unfolding met
    met-end e = rw e

    met-broken : t ≡ broken → met says P m size newest cut t ≡ []
    unfolding met
    met-broken e = rw e

    met-on :
        (q : ℕ) (rest : Trace) → t ≡ rec q rest →
        met says P m size newest cut t ≡ met_of P m size cut q (says q) ++ met says P m size (still_newest says newest q) (cut_by says newest q cut) rest
    unfolding met
    met-on q rest e = rw e

  broken_on : (t : Trace) (q : ℕ) (rest : Trace) → t ≡ rec q rest → is_broken t ≡ is_broken rest
  unfolding is_broken
  broken_on t q rest e = rw e

  broken_clean : (t : Trace) → t ≡ clean → is_broken t ≡ false
  unfolding is_broken
  broken_clean t e = rw e

  broken_broken : (t : Trace) → t ≡ broken → is_broken t ≡ true
  unfolding is_broken
  broken_broken t e = rw e

  -- the words w₀ of a walk along a chain that puts n copies, on the way
  module _ (n pages : ℕ) (w₀ : List ℕ) (all : Trace) where
    abbrev whole : List Copy
    whole = met says P m size true None all

    pub record Underway (w : List ℕ) (newest : Bool) (cut : (Option ℕ)) (copies : ℕ) (t : Trace) : Type 0 where
      pub long : length w ≡ length w₀
      pub few : copies + records_in t ≤ pages
      pub count : copies + length (met says P m size newest cut t) ≡ length whole
      pub puts : put_from n w copies (met says P m size newest cut t) ≡ put_from n w₀ 0 whole
      pub ends : is_broken t ≡ is_broken all

    pub under_start : records_in all ≤ pages → Underway w₀ true None 0 all
    under_start h = record { long = refl; few = omega arith; count = omega arith; puts = refl; ends = refl }

    module _ (w : List ℕ) (newest : Bool) (cut : (Option ℕ)) (copies : ℕ) (t : Trace) (u : Underway w newest cut copies t) where
      -- past a record, with what is met there
      module _ (q : ℕ) (rest : Trace) (e : t ≡ rec q rest) where
        abbrev here : List Copy
        here = met_of P m size cut q (says q)

        here-few : length here ≤ 1
        here-few = by_test (is_met P m cut (chunk_of (says q))) _ (λ h. rw h (omega arith)) (λ h. rw h (omega arith))

        on : Underway (put_from n w copies here) (still_newest says newest q) (cut_by says newest q cut) (copies + length here) rest
        on =
            let ahead = met says P m size (still_newest says newest q) (cut_by says newest q cut) rest in
            let parts : met says P m size newest cut t ≡ here ++ ahead = met-on newest cut t q rest e in
            record {
              long = put_length n w copies here ∙ u.long;
              few = omega (arith, u.few, count_on t q rest e, here-few);
              count = omega (arith, u.count, ap length parts, length-append here ahead);
              puts = sym (put_on n w copies here ahead) ∙ ap (put_from n w copies) (sym parts) ∙ u.puts;
              ends = sym (broken_on t q rest e) ∙ u.ends;
            }

        pub under_header : is_header (says q) ≡ true → Underway w false (cut_by says newest q cut) copies rest
        under_header h =
            let none : here ≡ [] = rw (header_chunk (says q) h) refl in
            let newer : still_newest says newest q ≡ false = rw h (by_test newest _ (λ b. rw b refl) (λ b. rw b refl)) in
            let same : copies + 0 ≡ copies = omega arith in
            rw (none, newer, same, put_none n w copies) at on

        pub under_data :
            (d : Data) → says q ≡ said.Data d → (v : List ℕ) (count : ℕ) →
            v ≡ put_from n w copies (met_of P m size cut q (said.Data d)) →
            count ≡ copies + length (met_of P m size cut q (said.Data d)) →
            Underway v newest cut count rest
        under_data d k v count a b =
            let newer : still_newest says newest q ≡ newest = rw k (by_test newest _ (λ b. rw b refl) (λ b. rw b refl)) in
            rw (a, b) (rw (newer, k) at on)

        -- a page that is no record is neither
        pub under_other : says q ≡ said.Other → Underway w newest cut copies rest
        under_other k =
            let newer : still_newest says newest q ≡ newest = rw k (by_test newest _ (λ b. rw b refl) (λ b. rw b refl)) in
            let same : copies + 0 ≡ copies = omega arith in
            rw (newer, k, same, put_none n w copies) at on

      -- at the end
      done : met says P m size newest cut t ≡ [] → (copies ≡ length whole) × (w ≡ put_from n w₀ 0 whole)
      done e = (omega (arith, u.count, ap length e), sym (put_none n w copies) ∙ rw e at u.puts)

      pub under_clean : t ≡ clean → (copies ≡ length whole) × (w ≡ put_from n w₀ 0 whole) × (false ≡ is_broken all)
      under_clean e = let f = done (met-end newest cut t e) in (f.0, f.1, sym (broken_clean t e) ∙ u.ends)

      pub under_broken : t ≡ broken → (copies ≡ length whole) × (w ≡ put_from n w₀ 0 whole) × (true ≡ is_broken all)
      under_broken e = let f = done (met-broken newest cut t e) in (f.0, f.1, sym (broken_broken t e) ∙ u.ends)
