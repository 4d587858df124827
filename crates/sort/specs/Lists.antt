-- Lists made of another: those of it that pass a test, and what each of it gives.
use Rattle.std.specs.Prelude.{Bool, cond, List, [], ◌∷◌, ◌++◌}

-- those of a list that pass a test
unfoldable pub keep : {A : Type 0} → (A → Bool) → List A → List A
keep test [] = []
keep test (x ∷ rest) = let more = keep test rest in cond (test x) (x ∷ more) more

-- what each of a list gives, one behind the other
unfoldable pub joined : {A B : Type 0} → (A → List B) → List A → List B
joined f [] = []
joined f (x ∷ rest) = f x ++ joined f rest
