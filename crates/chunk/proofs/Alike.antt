-- Equal answers have equal parts.
use Prim.Native.Nat.{ℕ}
use mathlib.Core.Path.{◌≡◌, ap}
use Rattle.std.specs.Prelude.{Result, Ok, Err, Option, Some, None}
use Rattle.page.specs.declared.refusal.Refusal.{Refusal}
use Rattle.page.specs.declared.refusal.Short.{Short}
use Rattle.page.specs.declared.number.PageNumber.{PageNumber}
use Rattle.chunk.specs.declared.answer.Visited.{Visited}
use Rattle.chunk.specs.declared.scan.Aged.{Aged}
use Rattle.chunk.specs.Aged.{At}

-- what an answer is, the records visited for it, and by what a call is refused, if it is
abbrev pub answer_of : {A : Type 0} → Visited A → A
answer_of v = v.answer

abbrev pub visits_of : {A : Type 0} → Visited A → ℕ
visits_of v = v.visits

abbrev pub refused_by : {A B : Type 0} → (B → Refusal) → Result A B → Option Refusal
refused_by why (Ok x) = None
refused_by why (Err e) = Some (why e)

abbrev pub sought_by : {A : Type 0} → Result A (Visited Refusal) → Option Refusal
sought_by r = refused_by answer_of r

abbrev pub short_by : {A : Type 0} → Result A (Short ℕ) → Option Refusal
short_by r = refused_by (λ s. s.refusal) r

abbrev pub unread_by : {A : Type 0} → Result A (Visited (Short ℕ)) → Option Refusal
unread_by r = refused_by (λ v. v.answer.refusal) r

-- a page found, and its age
pub same_page : (p q : PageNumber) (a b : ℕ) → At p a ≡ At q b → p ≡ q
same_page p q a b e = let h : ◌≡◌ {A = Aged} (record { page = p; age = a }) (record { page = q; age = b }) = cc in ap (λ (x : Aged). x.page) h

pub same_age : (p q : PageNumber) (a b : ℕ) → At p a ≡ At q b → a ≡ b
same_age p q a b e = let h : ◌≡◌ {A = Aged} (record { page = p; age = a }) (record { page = q; age = b }) = cc in ap (λ (x : Aged). x.age) h
