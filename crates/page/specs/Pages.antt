-- The bytes of a page of a dump.
use Rattle.std.specs.Prelude.{ℕ, ◌*◌, List, take, drop}
use Rattle.page.specs.Layouts.{page_len}
use Rattle.page.specs.declared.geometry.Geometry.{Geometry}

-- page i: P data bytes and then S spare bytes
unfoldable pub page_at : Geometry → (dump : List ℕ) (page : ℕ) → List ℕ
page_at g dump i = take (page_len g.layout) (drop (i * page_len g.layout) dump)
