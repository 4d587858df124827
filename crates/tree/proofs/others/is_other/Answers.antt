-- The root is tested first, then the header's parent; of another object it is asked whether the first list has it.
use mathlib.Core.Path.{sym, ◌∙◌}
use borrow.Author.Tests.{eqb-false, not-true}
use Rattle.tree.proofs.SecondList.{tells_else}
use Rattle.tree.proofs.others.is_other.Goals as goal
use Rattle.tree.proofs.others.is_other.Goals.{then-key_of-ne-ROOT, else-key_of-ne-ROOT}

pub returns-then-not-is_gone : goal.returns-then-not-is_gone
returns-then-not-is_gone c =
    elim c.if-key_of-ne-ROOT.branch [
      | then-key_of-ne-ROOT w ↦
          tells_else _ _ _ _ _ c.requires.i_in_bounds (λ q. w.if-key_of-ne-ROOT.true (c.key_of.ensures ∙ q))
          (rw (← w.value_of.ensures, ← w.seen_at.ensures, ← w.is_gone.ensures) (not-true _ (sym w.value-is ∙ c.if-not-is_gone.true)))
          c.is_listed.ensures
      | else-key_of-ne-ROOT w ↦ absurd (eqb-false _ _ (not-true _ (sym w.value-is ∙ c.if-not-is_gone.true)) w.if-key_of-ne-ROOT.false)
    ]
