-- Words that are cleared where they are there, and all of them.
use Prim.Native.Nat.{ℕ, ◌-◌, ◌≤◌, zero-le}
use mathlib.Core.List.{List, append-nil}
use mathlib.Core.Path.{◌≡◌, ◌∙◌}
use native.Mathlib.Omega.{arith}
use lib.ListN.{length, take, replicate, drop_of_length-le}
use lib.Seq.{length-take-le}
use borrow.Author.Tests.{le-leb}
use Rattle.sort.specs.Room.{in_room, cleared_in}

-- words that are there are cleared
pub clear_inside : (from to : ℕ) (w : List ℕ) → from ≤ to → to ≤ length w → cleared_in from to w ≡ in_room (take from w) to w
clear_inside from to w h k = rw (le-leb from to h, le-leb to (length w) k)

-- where they are all the words, zeros are left
pub cleared_all : (w : List ℕ) (n : ℕ) → length w ≡ n → cleared_in 0 n w ≡ replicate n 0
cleared_all w n e =
    let z : n - length (take 0 w) ≡ n = omega (arith, length-take-le 0 w zero-le) in
    clear_inside 0 n w zero-le (omega arith) ∙ rw (drop_of_length-le w {i = n} (omega arith), z) (append-nil (replicate n 0))
