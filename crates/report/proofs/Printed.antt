-- What the program prints is never longer than the bytes that it has for it.
use Rattle.std.proofs.Common.{◌≡◌, ℕ, ◌<◌, ◌≤◌, List, [], ◌++◌, append-nil, length, length-append, length-take-le, take, arith, le_trans, ltb, lt-ltb, le-ltb, eq-or-lt_of_le, inl, inr, take_at, Option, None, Some, IfSome, refl, sym, ap, subst, ◌∙◌}
use Rattle.std.specs.Prelude.{Option, Some, None}
use Rattle.std.specs.Io.KnownBytes.{Consumes, IsAtEnd}
use Rattle.page.proofs.Searching.{by_test}
use Rattle.page.specs.declared.refusal.Refusal.TheVariants.{BadLength}
use Rattle.text.specs.Whole.{written_by, bytes_by}
use Rattle.text.specs.Written.{Written}
use Rattle.text.specs.Written.{Bytes}
use Rattle.text.proofs.Writing.{fits}
use Rattle.summary.specs.Report.{longest}
use Rattle.summary.proofs.Length.{refusal_length, report_length}
use Rattle.report.specs.Printed.{most_read, block_pages, printed_of}

pub printed_length : (input : List ℕ) → length (printed_of input) ≤ longest
unfolding printed_of
printed_length input =
    by_test (ltb most_read (length input)) _ (λ t. rw t (refusal_length BadLength)) (λ t. rw t (report_length input block_pages))

-- so it is written whole
pub printed_whole :
    (room : ℕ) (input : List ℕ) (w : Written) → w ≡ written_by room (printed_of input) → longest ≤ room → w ≡ Bytes (length (printed_of input))
printed_whole room input w e h = e ∙ fits room (printed_of input) (le_trans (printed_length input) h)

-- and stands in front
pub printed_front :
    (input before after : List ℕ) (n : ℕ) → n ≡ length (printed_of input) → after ≡ bytes_by (printed_of input) before → longest ≤ length before
    → take n after ≡ printed_of input
unfolding bytes_by
printed_front input before after n e b h =
    let room = le-ltb (length before) (length (printed_of input)) (le_trans (printed_length input) h) in
    ap (take n) b ∙ rw room (take_at (printed_of input) _ n (sym e))

-- an input that is longer than what is read is refused, however it goes on
pub printed_longer : (input more : List ℕ) → most_read < length input → printed_of (input ++ more) ≡ printed_of input
unfolding printed_of
printed_longer input more h =
    let l : most_read < length (input ++ more) = simp length-append (omega arith) in
    rw (lt-ltb most_read (length (input ++ more)) l, lt-ltb most_read (length input) h) refl

-- so what was read of a reader's bytes is reported on as all of them
printed_read : (all rest bytes : List ℕ) (n : ℕ) → all ≡ take n bytes ++ rest → (n < length bytes → rest ≡ []) → n ≤ length bytes
    → most_read < length bytes → printed_of (take n bytes) ≡ printed_of all
printed_read all rest bytes n lost end within long =
    let longer : n ≡ length bytes → most_read < length (take n bytes) = λ e. omega (arith, length-take-le n bytes within) in
    elim (eq-or-lt_of_le within) as (λ _. printed_of (take n bytes) ≡ printed_of all) [
      | inl e ↦ sym (ap printed_of lost ∙ printed_longer (take n bytes) rest (longer e))
      | inr l ↦ ap printed_of (sym (lost ∙ ap (λ r. take n bytes ++ r) (end l) ∙ append-nil (take n bytes)))
    ]

pub printed_known :
    (old new : Option (List ℕ)) (bytes : List ℕ) (n : ℕ) (P : List ℕ → Type 0)
    → Consumes old new (take n bytes) → (n < length bytes → IsAtEnd new) → n ≤ length bytes → most_read < length bytes
    → P (printed_of (take n bytes)) → IfSome old (λ all. P (printed_of all))
printed_known None new bytes n P lost end within long p = tt
printed_known (Some all) None bytes n P lost end within long p = absurd lost
printed_known (Some all) (Some rest) bytes n P lost end within long p = subst P (printed_read all rest bytes n lost end within long) p
