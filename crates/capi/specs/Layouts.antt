-- The answers about layouts and page counts, as the exports give them: the refusal's number first, 0 where nothing is refused.
use Rattle.page.specs.Refusals.{refusal_number}
use Rattle.std.specs.Prelude.{ℕ, Result, Ok, Err}
use Rattle.page.specs.declared.layout.Layout.{Layout}
use Rattle.page.specs.declared.refusal.Refusal.{Refusal}
use Rattle.page.specs.Layouts.{layouts, layout_at, number_of}
use Rattle.page.specs.declared.geometry.Geometry as page
use Rattle.capi.specs.declared.layout.Geometry.{Geometry}
use Rattle.capi.specs.declared.layout.LayoutAnswer.{LayoutAnswer}
use Rattle.capi.specs.declared.layout.PagesAnswer.{PagesAnswer}

-- how the dump is read that has the layout of this number
unfoldable pub geometry_at : Geometry → page.Geometry
geometry_at g = record { layout = layout_at g.layout; block = g.block }

-- a layout with its number in the table; beside a refusal that is 13, which the table lacks
abbrev pub layout_answer : Result Layout Refusal → LayoutAnswer
layout_answer (Err r) = record { refusal = refusal_number r; number = layouts; «data» = 0; spare = 0; tag = 0 }
layout_answer (Ok l) = record {
  refusal = 0;
  number = number_of l;
  «data» = l.«data»;
  spare = l.spare;
  tag = l.tag;
}

abbrev pub pages_answer : Result ℕ Refusal → PagesAnswer
pages_answer (Err r) = record { refusal = refusal_number r; pages = 0 }
pages_answer (Ok n) = record { refusal = 0; pages = n }
