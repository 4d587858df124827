-- Laws of the counts of pages by kind: kinds exclude each other, so the counts add up.
use Prim.Native.Nat.{ℕ, zero, suc, ◌+◌, ◌/◌, ◌≤◌}
use Rattle.std.specs.Prelude.{Ok}
use mathlib.Core.Bool.{Bool}
use mathlib.Core.List.{List}
use mathlib.Core.Path.{◌≡◌, refl}
use native.Mathlib.Nat.{le_trans}
use native.Mathlib.Numerals.{add-one}
use native.Mathlib.Omega.{arith}
use lib.ListN.{length}
use Rattle.page.specs.Search.{count, more}
use Rattle.page.specs.Lengths.{page_count, opened_of}
use Rattle.page.specs.Kinds.{kind_at}
use Rattle.page.specs.Counts.{counts_below, counted_in, counted_of, with_kind, AtMost, is_blank, is_foreign, is_damaged, is_header, is_data}
use Rattle.page.specs.declared.geometry.Geometry.{Geometry}
use Rattle.page.specs.declared.count.Counts.{Counts}
use Rattle.page.specs.declared.kind.Kind.{Kind}
use Rattle.page.specs.declared.kind.Kind.TheVariants.{Blank, Foreign, Damaged, Header, Data}
use Rattle.page.proofs.Searching.{count_le}

-- one where a test holds
abbrev pub one : Bool → ℕ
one b = more b 0

-- every kind passes exactly one of the five tests: kinds exclude each other
pub one_kind : (k : Kind) → one (is_blank k) + one (is_foreign k) + one (is_damaged k) + one (is_header k) + one (is_data k) ≡ 1
one_kind Blank = refl
one_kind Foreign = refl
one_kind Damaged = refl
one_kind (Header h) = refl
one_kind (Data d) = refl

module _ (g : Geometry) (dump : List ℕ) where
  -- the next page counted too
  pub counts_next : (n : ℕ) → counts_below g dump (n + 1) ≡ with_kind (counts_below g dump n) (kind_at g dump n)
  unfolding counts_below count
  counts_next n = rw add-one

  -- no count is above the number of pages counted
  pub counts_at_most : (n m : ℕ) (c : Counts) → c ≡ counts_below g dump n → n ≤ m → AtMost m c
  unfolding counts_below
  counts_at_most n m c e h =
      rw e record {
        blanks = le_trans (count_le _ n) h;
        foreigns = le_trans (count_le _ n) h;
        damageds = le_trans (count_le _ n) h;
        header = le_trans (count_le _ n) h;
        datas = le_trans (count_le _ n) h;
      }

  -- counting an accepted dump is not refused
  pub counted_pages : (n : ℕ) → opened_of g (length dump) ≡ Ok n → counted_of g dump ≡ Ok (counts_below g dump n)
  unfolding counted_of counted_in
  counted_pages n e = rw e

-- the sum of the five counts
abbrev pub total : Counts → ℕ
total c = c.blank + c.foreign + c.damaged + c.headers + c.«data»

-- one page more is one more in all
total_with : (c : Counts) (k : Kind) → total (with_kind c k) ≡ total c + 1
total_with c Blank = omega arith
total_with c Foreign = omega arith
total_with c Damaged = omega arith
total_with c (Header h) = omega arith
total_with c (Data d) = omega arith

-- the five counts of the first n pages add up to n
pub adds_up : (g : Geometry) (dump : List ℕ) (n : ℕ) → total (counts_below g dump n) ≡ n
unfolding counts_below count
adds_up g dump zero = refl
adds_up g dump (suc n) = omega (arith, total_with (counts_below g dump n) (kind_at g dump n), adds_up g dump n)

-- those of a dump add up to its length / (P + S), for any P and S
pub counts_add_up : (g : Geometry) (dump : List ℕ) → total (counts_below g dump (page_count g (length dump))) ≡ length dump / (g.layout.«data» + g.layout.spare)
counts_add_up g dump = adds_up g dump (page_count g (length dump))
