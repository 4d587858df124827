-- What a read adds is the first bytes of what is left of those lent, and the reader lost it after the others.
use Rattle.std.proofs.Common.{rules, ◌≡◌, Ok, ℕ, ◌+◌, ◌≤◌, List, ◌++◌, length, take, sym, ap, ap₂, ◌∙◌, subst, le_refl, drop_at, length-take-le}
use Rattle.std.proofs.lemmas.Slice.{take-put_mid_below}
use Rattle.std.specs.Io.KnownBytes.{Consumes}
use Rattle.std.proofs.KnownBytes.{Consumes-trans}
use borrow.Rule.Slice.PartMut.{put_mid, post_of}
use lib.Seq.{take-add, take-append-le}
use Rattle.input.proofs.read_all.Goals as goal

take_more : (a k n : ℕ) (xs ys : List ℕ) → a ≤ length xs → n ≤ length ys → take (a + n) (put_mid a k xs ys) ≡ take a xs ++ take n ys
take_more a k n xs ys h i =
    let after = post_of a k xs in
    let front = take-put_mid_below a k xs ys a (le_refl a) h in
    let part = ap (take n) (drop_at (take a xs) (ys ++ after) a (length-take-le a xs h)) ∙ take-append-le n ys after i in
    take-add a n (put_mid a k xs ys) ∙ ap₂ (λ u v. u ++ v) front part

pub loop-done-preserved : goal.loop-done-preserved
loop-done-preserved g c =
    let more = c.in_ok-more.more in
    let was : c.read.result ≡ Ok more = search rules in
    let bound = rw was at c.read.ensures.bound in
    let bytes = rw was at c.read.ensures.bytes in
    let taken = take_more c.loop-done.done _ more c.loop-done.buf c.read.new.buf c.loop-done.invariant.within bound.0 in
    let lost = Consumes-trans _ _ _ _ _ c.loop-done.invariant.known bytes.0 in
    record { within = search rules; kept = search rules; known = subst (Consumes _ _) (sym taken) lost }
