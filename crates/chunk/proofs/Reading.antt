-- What is answered of sizes, chunks and live objects hangs on the tags of pages and on four words of each header. Every other field of a header, the
-- time stamps and the high word of the size among them, decides nothing.
use Prim.Native.Nat.{ℕ}
use mathlib.Core.List.{List}
use mathlib.Core.Path.{◌≡◌}
use Rattle.page.specs.Reading.{SamePages}
use Rattle.page.specs.declared.geometry.Geometry.{Geometry}
use Rattle.page.proofs.Headers.{records_read}
use Rattle.chunk.specs.Answers.{size_on, chunk_on}
use Rattle.chunk.specs.Lists.{live_on}

pub record SameAnswers (g : Geometry) (a b : List ℕ) : Type 0 where
  pub size : (o : ℕ) → size_on g a o ≡ size_on g b o
  pub chunk : (o c : ℕ) → chunk_on g a o c ≡ chunk_on g b o c
  pub live : live_on g a ≡ live_on g b

pub answers_read : (g : Geometry) (a b : List ℕ) → SamePages g a b → SameAnswers g a b
unfolding size_on chunk_on live_on
answers_read g a b s =
    let same = records_read g a b s in
    record { size = λ o. rw (same, s.long); chunk = λ o c. rw (same, s.long); live = rw (same, s.long) }
