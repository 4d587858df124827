-- The two searches are those of the definition.
use Prim.Native.Nat.{ℕ, ◌+◌}
use Rattle.std.specs.Prelude.{Option}
use Rattle.std.specs.Option.{unwrap_or}
use mathlib.Core.Path.{◌≡◌, sym, ap, ◌∙◌}
use native.Mathlib.Omega.{arith}
use Rattle.index.specs.Cells.{slots_for, seed_of, keys}
use Rattle.index.specs.Slots.{home_of, down}
use Rattle.index.proofs.Slot.Search.{slot_first, slot_second}
use Rattle.index.proofs.slots.slot_of.Goals as goal
use Rattle.index.proofs.slots.slot_of.Goals.{After-home_of-home}

home-is : (h : After-home_of-home) → h.home_of-home.result ≡ home_of (slots_for h.args.pages) (seed_of h.args.cells.now) h.args.o.0
home-is h =
    h.home_of-home.ensures
    ∙ ap (λ (w : ℕ). home_of h.slots_for-slots.result w h.args.o.0) h.seed_of.ensures
    ∙ ap (λ (m : ℕ). home_of m (seed_of h.args.cells.now) h.args.o.0) h.slots_for-slots.ensures

pub returns-in-Some : goal.returns-in-Some
returns-in-Some c =
    let home = home-is (goal.at.returns-in-Some c).After-home_of-home in
    let searched : let b = c.args in down (keys b.cells.now) b.o.0 (home_of (slots_for b.pages) (seed_of b.cells.now) b.o.0 + 1) ≡ c.slot_below.result = ap (λ (m : ℕ). down (keys c.args.cells.now) c.args.o.0 (m + 1)) (sym home) ∙ sym c.slot_below.ensures in
    let told = slot_first c.args.pages c.args.cells.now c.args.o.0 c.requires.pages_nonzero (omega arith) c.requires.pages_in_bounds _ (searched ∙ c.in-Some.is) in
    record { value = told.0; in_table = told.1 }

pub returns-in-None : goal.returns-in-None
returns-in-None c =
    let home = home-is (goal.at.returns-in-None c).After-home_of-home in
    let searched : let b = c.args in down (keys b.cells.now) b.o.0 (home_of (slots_for b.pages) (seed_of b.cells.now) b.o.0 + 1) ≡ c.slot_below.result = ap (λ (m : ℕ). down (keys c.args.cells.now) c.args.o.0 (m + 1)) (sym home) ∙ sym c.slot_below.ensures in
    let told =
    slot_second c.args.pages c.args.cells.now c.args.o.0 c.requires.pages_nonzero (omega arith) c.requires.pages_in_bounds _
    (searched ∙ c.in-None.is)
    (c.unwrap_or.ensures
    ∙ ap (λ (f : Option ℕ). unwrap_or f c.home_of-home.result) c.slot_below-in-None.ensures
    ∙ ap (λ (m : ℕ). unwrap_or (down (keys c.args.cells.now) c.args.o.0 m) c.home_of-home.result) c.slots_for-slots.ensures
    ∙ ap (unwrap_or (down (keys c.args.cells.now) c.args.o.0 (slots_for c.args.pages))) home)
    in
    record { value = told.0; in_table = told.1 }
