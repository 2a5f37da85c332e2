-- Of two cases that exclude each other, one tells what is told.
use Rattle.std.proofs.Common.{◌≡◌, ◌⊎◌, inl, inr}

-- ---- one of two cases
pub branch : {T P Q : Type 0} (A B : T → Type 0) → (P → Q → ⊥) → ((x y : T) → P → A x → A y → x ≡ y) → ((x y : T) → Q → B x → B y → x ≡ y) → (x y : T) → ((P × A x) ⊎ (Q × B x)) → ((P × A y) ⊎ (Q × B y)) → x ≡ y
branch A B clash left right x y (inl a) (inl b) = left x y a.0 a.1 b.1
branch A B clash left right x y (inl a) (inr b) = absurd (clash a.0 b.0)
branch A B clash left right x y (inr a) (inl b) = absurd (clash b.0 a.0)
branch A B clash left right x y (inr a) (inr b) = right x y a.0 a.1 b.1
