-- The tree of a dump's live objects, as the exports give it.
use Rattle.std.specs.Prelude.{ℕ, Ok, Err}
use Rattle.page.specs.Refusals.{refusal_number}
use Rattle.sort.specs.Packed.{key_of, value_of}
use Rattle.tree.specs.Texted.{Texted}
use Rattle.tree.specs.Texted as texted
use Rattle.tree.specs.Grown.{Grown}
use Rattle.capi.specs.declared.trees.TreeAnswer.{TreeAnswer}
use Rattle.capi.specs.declared.trees.TextAnswer.{TextAnswer}
use Rattle.capi.specs.declared.trees.RowAnswer.{RowAnswer}

abbrev pub tree_answer : Grown → TreeAnswer
tree_answer (Err e) = record { refusal = refusal_number e.refusal; need = e.need; listed = 0; others = 0 }
tree_answer (Ok x) = record { refusal = 0; need = 0; listed = x.listed; others = x.others }

abbrev pub texted_answer : Texted → TextAnswer
texted_answer (Err e) = record { refusal = refusal_number e.refusal; need = e.need; length = 0 }
texted_answer (texted.Written n) = record { refusal = 0; need = 0; length = n }

abbrev pub row_answer : (row : ℕ) → RowAnswer
row_answer row = record { key = key_of row; page = value_of row }
