-- What is answered of the text of rows and of one row's path, and what the lent bytes hold then.
use Rattle.std.specs.Prelude.{ℕ, List, length, Err}
use Rattle.page.specs.Lengths.{opened_of}
use Rattle.page.specs.declared.geometry.Geometry.{Geometry}
use Rattle.page.specs.declared.refusal.Refusal.TheVariants.{ShortBuffer}
use Rattle.chunk.specs.Answers.{on_pages}
use Rattle.text.specs.Whole.{written_by, bytes_by}
use Rattle.text.specs.Written.{Written}
use Rattle.text.specs.Written as written
use Rattle.tree.specs.Rows.{rows_text, path_at}
use Rattle.tree.specs.Texted.{Texted}
use Rattle.tree.specs.Texted as texted

-- the answer by what became of the text
abbrev pub texted_by : Written → Texted
texted_by (written.Bytes n) = texted.Written n
texted_by (Err e) = texted.Refused ShortBuffer e.needed

-- a dump
module _ (g : Geometry) (dump : List ℕ) where
  -- what is answered of any text of it, for so many lent bytes; a refused dump is refused before anything else
  unfoldable pub texted_on : (text : List ℕ) (room : ℕ) → Texted
  texted_on text room = on_pages (λ r. texted.Refused r 0) (λ n. texted_by (written_by room text)) (opened_of g (length dump))

  -- what the lent bytes hold then: the text in front and the rest as it was; after a refusal all as they were
  unfoldable pub texted_left : (text bytes : List ℕ) → List ℕ
  texted_left text bytes = on_pages (λ r. bytes) (λ n. bytes_by text bytes) (opened_of g (length dump))

  -- the text of rows, of which so many are of the first list
  abbrev pub text_on : (rows : List ℕ) (listed room : ℕ) → Texted
  text_on rows m = texted_on (rows_text g dump rows m)

  abbrev pub text_left : (rows : List ℕ) (listed : ℕ) (bytes : List ℕ) → List ℕ
  text_left rows m = texted_left (rows_text g dump rows m)

  -- the path of row i
  abbrev pub path_on : (rows : List ℕ) (row room : ℕ) → Texted
  path_on rows i = texted_on (path_at g dump rows i)

  abbrev pub path_left : (rows : List ℕ) (row : ℕ) (bytes : List ℕ) → List ℕ
  path_left rows i = texted_left (path_at g dump rows i)
