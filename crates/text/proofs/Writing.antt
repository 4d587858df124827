-- A text that was measured on no bytes, and then written if it fits: what every report's call answers.
use Prim.Native.Nat.{ℕ, ◌≤◌, ◌<◌}
use mathlib.Core.Bool.{cond}
use mathlib.Core.Path.{◌≡◌, ap}
use mathlib.Core.List.{List, [], ◌++◌}
use native.Mathlib.Omega.{arith}
use borrow.Author.Tests.{lt-ltb, le-ltb}
use lib.Dec.{ltb}
use lib.ListN.{length}
use Rattle.text.specs.Put.{Put, most, counted}
use Rattle.text.specs.Whole.{written_by, bytes_by}
use Rattle.std.specs.Prelude.{Result, Ok, Err}
use Rattle.text.specs.declared.written.Short.{Short}
use Rattle.text.proofs.Putting.{exact, measured, whole}

-- what is above a counted length is above the length, and lent bytes that have room for the one have room for the other, which is the same
below : (room next n : ℕ) → next ≡ counted n → room < next → room < n
unfolding counted
below room next n e h = omega arith

within : (room next n : ℕ) → next ≡ counted n → next ≤ room → room < most → n ≤ room
unfolding counted
within room next n e h l = omega arith

same : (room next n : ℕ) → next ≡ counted n → next ≤ room → room < most → next ≡ n
unfolding counted
same room next n e h l = omega arith

-- it does not fit: the bytes are left alone
pub refused : {text after : List ℕ} {next : ℕ} (bytes : List ℕ) → Put text [] 0 after next → length bytes < next
    → (◌≡◌ {A = Result ℕ Short} (Err (record { needed = next })) (written_by (length bytes) text)) × (after ++ bytes ≡ bytes_by text bytes)
unfolding written_by bytes_by
refused {text} {after} {next} bytes p h =
    let m = measured p in
    let l = lt-ltb (length bytes) (length text) (below (length bytes) next (length text) m.1 h) in
    (rw (l, m.1), rw (l, m.0))

-- it fits: it stands in front
pub accepted : {text after after₁ : List ℕ} {next next₁ : ℕ} (bytes : List ℕ) → Put text [] 0 after next → next ≤ length bytes
    → Put text (after ++ bytes) 0 after₁ next₁ → (Ok next ≡ written_by (length bytes) text) × (after₁ ≡ bytes_by text bytes)
unfolding written_by bytes_by
accepted {text} {after} {after₁} {next} {next₁} bytes p h q =
    let m = measured p in
    let w : Put text bytes 0 after₁ next₁ = rw m.0 at q in
    let f = within (length bytes) next (length text) m.1 h w.short in
    let l = le-ltb (length bytes) (length text) f in
    (rw l (ap Ok (same (length bytes) next (length text) m.1 h w.short)), rw l (whole w f))

-- a text that there is room for is written
pub fits : (room : ℕ) (text : List ℕ) → length text ≤ room → written_by room text ≡ Ok (length text)
unfolding written_by
fits room text h = rw (le-ltb room (length text) h)

-- the length told is the text's own, for every text that a position can count
pub exactly : (room : ℕ) (text : List ℕ) → length text ≤ most → written_by room text ≡ cond (ltb room (length text)) (Err (record { needed = length text })) (Ok (length text))
unfolding written_by
exactly room text h = rw (exact (length text) h)
