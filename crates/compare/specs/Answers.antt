-- What is answered of a report of two dumps, and what the lent bytes hold then (document 01's refusals, by the table's order over both dumps).
use Rattle.std.specs.Prelude.{ℕ, List, ltb, Result, Ok, Err}
use Rattle.page.specs.Choice.{pick}
use Rattle.page.specs.Lengths.{opened_of}
use Rattle.page.specs.Refusals.{refusal_number}
use Rattle.page.specs.declared.geometry.Geometry.{Geometry}
use Rattle.page.specs.declared.refusal.Refusal.{Refusal}
use Rattle.page.specs.declared.refusal.Refusal.TheVariants.{ShortBuffer}
use Rattle.text.specs.Whole.{written_by, bytes_by}
use Rattle.text.specs.Written.{Written}
use Rattle.compare.specs.Compared.{Compared, Refused}

-- the refusal that comes first in the table's order: of those by which a dump is refused, the one with the lower number
abbrev pub earlier_of : Refusal → Refusal → Refusal
earlier_of r s = pick (ltb (refusal_number s) (refusal_number r)) s r

-- that two dumps are accepted, or by what they are refused
abbrev pub both_of : Result ℕ Refusal → Result ℕ Refusal → Result Unit Refusal
both_of (Ok n) (Ok m) = Ok tt
both_of (Err r) (Err s) = Err (earlier_of r s)
both_of (Err r) (Ok m) = Err r
both_of (Ok n) (Err s) = Err s

-- an answer about two accepted dumps; refused dumps are refused before anything else
abbrev pub on_both : {A : Type 0} → (Refusal → A) → A → Result Unit Refusal → A
on_both refuse answer (Err r) = refuse r
on_both refuse answer (Ok u) = answer

-- the answer by what became of the text
abbrev pub compared_by : Written → Compared
compared_by (Ok n) = Ok n
compared_by (Err e) = Refused ShortBuffer e.needed

-- two dumps, by their lengths
module _ (g : Geometry) (bytes : ℕ) (g' : Geometry) (bytes' : ℕ) where
  -- what is answered for a text and so many lent bytes
  unfoldable pub compared_on : (text : List ℕ) (room : ℕ) → Compared
  compared_on text room = on_both (λ r. Refused r 0) (compared_by (written_by room text)) (both_of (opened_of g bytes) (opened_of g' bytes'))

  -- what the lent bytes hold then: the text in front and the rest as it was; after a refusal all as they were
  unfoldable pub bytes_left : (text lent : List ℕ) → List ℕ
  bytes_left text lent = on_both (λ r. lent) (bytes_by text lent) (both_of (opened_of g bytes) (opened_of g' bytes'))
