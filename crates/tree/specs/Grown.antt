-- How many rows each list of the tree has; or a refusal, with the words that ShortBuffer needs.
use Rattle.std.specs.Prelude.{ℕ, Result, Ok, Err}
use Rattle.page.specs.declared.refusal.Refusal.{Refusal}
use Rattle.page.specs.declared.refusal.Short.{Short}
use Rattle.tree.specs.declared.whole.Lists.{Lists}

abbrev pub Grown : Type 0
Grown = Result Lists (Short ℕ)

abbrev pub Rows : (listed : ℕ) → (others : ℕ) → Grown
Rows a b = Ok (record { listed = a; others = b })

abbrev pub Refused : Refusal → (need : ℕ) → Grown
Refused r n = Err (record { refusal = r; need = n })
