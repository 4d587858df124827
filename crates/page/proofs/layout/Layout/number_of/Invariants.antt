-- The loop's invariant: the search from the start and the search from here find the same.
use Prim.Native.Nat.{◌-◌}
use mathlib.Core.Path.{◌≡◌}
use Rattle.page.specs.Search.{first_from}
use Rattle.page.specs.Layouts.{layout_at, has_sizes, number_of_sizes}
use Rattle.page.proofs.layout.Layout.number_of.Given as goal

abbrev pub invariant-loop-n : goal.invariant-loop-n
invariant-loop-n l = number_of_sizes l.data l.spare l.tag ≡ first_from (λ k. has_sizes l.data l.spare l.tag (layout_at k)) l.n (13 - l.n)
