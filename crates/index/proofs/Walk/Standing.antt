-- How an object stands by a chain, turn by turn and for the chain of a list: the first header of it decides.
use Prim.Native.Nat.{ℕ}
use mathlib.Core.Bool.{Bool, true, false}
use mathlib.Core.List.{List, [], ◌∷◌, ◌++◌}
use mathlib.Core.Logic.{inl, inr}
use mathlib.Core.Path.{◌≡◌, refl, ap, ◌∙◌}
use Rattle.page.specs.Records.{is_header}
use Rattle.page.specs.declared.record.Record.{Record}
use Rattle.index.specs.Chains.{Trace, clean, broken, rec}
use Rattle.index.specs.Held.{from_list}
use Rattle.index.specs.Listing.{headed_standing, headless_standing, stands}
use Rattle.index.specs.declared.list.Ask.{Ask}
use Rattle.index.specs.declared.list.Standing.TheVariants.{Damaged}
use Rattle.index.proofs.Sorted.Parting.{Fails}
use Rattle.index.proofs.Walk.Walks.{headed}

-- whether a record was met before a list or in it
abbrev pub met_in : Bool → List ℕ → Bool
met_in met [] = met
met_in met (q ∷ L) = true

met_still : (L : List ℕ) → met_in true L ≡ true
met_still [] = refl
met_still (q ∷ L) = refl

module _ (ask : Ask) (says : ℕ → Record) where
  -- a list without a header, and one whose first header is h
  pub stands_none : (met : Bool) (L : List ℕ) → Fails (headed says) L → stands ask says met (from_list L) ≡ headless_standing ask (met_in met L)
  unfolding stands from_list
  stands_none met [] f = refl
  stands_none met (q ∷ L) f =
      rw (f q (inl refl)) (stands_none true L (λ x i. f x (inr i)) ∙ ap (headless_standing ask) (met_still L))

  pub stands_at_lem :
      (met : Bool) (A : List ℕ) (h : ℕ) (B : List ℕ) → Fails (headed says) A → headed says h ≡ true →
      stands ask says met (from_list (A ++ (h ∷ B))) ≡ headed_standing ask (says h)
  unfolding stands from_list
  stands_at_lem met [] h B f e = rw e
  stands_at_lem met (q ∷ A) h B f e = rw (f q (inl refl)) (stands_at_lem true A h B (λ x i. f x (inr i)) e)

  -- one turn of the walk, by what the next link leads to
  module _ (met : Bool) (t : Trace) where
    pub stands_end : t ≡ clean → stands ask says met t ≡ headless_standing ask met
    unfolding stands
    stands_end e = rw e

    pub stands_broken : t ≡ broken → stands ask says met t ≡ Damaged
    unfolding stands
    stands_broken e = rw e

    module _ (q : ℕ) (rest : Trace) (e : t ≡ rec q rest) where
      pub stands_here : is_header (says q) ≡ true → stands ask says met t ≡ headed_standing ask (says q)
      unfolding stands
      stands_here h = rw e (rw h)

      pub stands_on : is_header (says q) ≡ false → stands ask says met t ≡ stands ask says true rest
      unfolding stands
      stands_on h = rw e (rw h)
