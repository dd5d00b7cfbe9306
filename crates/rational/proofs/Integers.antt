-- The whole numbers are a commutative ring; the size of a product and of a negative.
use mathlib.Core.Path.{◌≡◌, refl, sym, ap, ap₂, ◌∙◌}
use Prim.Native.Nat.{zero, suc, ◌*◌}
use lib.IntN.{ℤ, pos, negsuc, neg_ℤ, nat_abs, suc_ℤ, pred_ℤ, ◌+ℤ◌, ◌-ℤ◌, ◌*ℤ◌, one, ℤ_ind, +ℤ_comm, +ℤ_assoc, +ℤ_idr, +ℤ_idl, +ℤ_one, -ℤ_one, +ℤ_invr, *ℤ_comm, *ℤ-one, zero-*ℤ, suc_ℤ-+ℤ, pred_ℤ-+ℤ, suc_ℤ-*ℤ, pred_ℤ-*ℤ}
use Rattle.rational.specs.Algebra.{RingOps, RingLaws}

abbrev pub whole : RingOps ℤ
whole = record { add = ◌+ℤ◌; sub = ◌-ℤ◌; mul = ◌*ℤ◌; neg = neg_ℤ; lit = λ z. z }

-- induction by steps of one up and down
steps : (P : ℤ → Type 0) → P (pos 0) → ((k : ℤ) → P k → P (suc_ℤ k)) → ((k : ℤ) → P k → P (pred_ℤ k)) → (k : ℤ) → P k
steps P z s p = ℤ_ind P z (λ n h. rw (+ℤ_one (pos n)) (s (pos n) h)) (λ n h. rw (-ℤ_one (neg_ℤ (pos n))) (p (neg_ℤ (pos n)) h))

-- (a + b) + c = (a + c) + b
swap : (a b c : ℤ) → a +ℤ b +ℤ c ≡ a +ℤ c +ℤ b
swap a b c = +ℤ_assoc a b c ∙ ap (λ x. a +ℤ x) (+ℤ_comm b c) ∙ sym (+ℤ_assoc a c b)

add-mul : (a b c : ℤ) → (a +ℤ b) *ℤ c ≡ a *ℤ c +ℤ b *ℤ c
add-mul a b c = steps (λ a. (a +ℤ b) *ℤ c ≡ a *ℤ c +ℤ b *ℤ c)
    (ap (λ x. x *ℤ c) (+ℤ_idl b) ∙ sym (ap (λ x. x +ℤ b *ℤ c) (zero-*ℤ c) ∙ +ℤ_idl (b *ℤ c)))
    (λ k h. ap (λ x. x *ℤ c) (suc_ℤ-+ℤ k b) ∙ suc_ℤ-*ℤ (k +ℤ b) c ∙ ap (λ x. x +ℤ c) h ∙ swap (k *ℤ c) (b *ℤ c) c ∙ ap (λ x. x +ℤ b *ℤ c) (sym (suc_ℤ-*ℤ k c)))
    (λ k h. ap (λ x. x *ℤ c) (pred_ℤ-+ℤ k b) ∙ pred_ℤ-*ℤ (k +ℤ b) c ∙ ap (λ x. x +ℤ neg_ℤ c) h ∙ swap (k *ℤ c) (b *ℤ c) (neg_ℤ c) ∙ ap (λ x. x +ℤ b *ℤ c) (sym (pred_ℤ-*ℤ k c)))
    a

pub neg-mul : (b c : ℤ) → neg_ℤ b *ℤ c ≡ neg_ℤ (b *ℤ c)
neg-mul b c = sym (+ℤ_idl y) ∙ ap (λ x. x +ℤ y) (sym (+ℤ_invr p) ∙ +ℤ_comm p (neg_ℤ p)) ∙ +ℤ_assoc (neg_ℤ p) p y
    ∙ ap (λ x. neg_ℤ p +ℤ x) (sym (add-mul b (neg_ℤ b) c) ∙ ap (λ x. x *ℤ c) (+ℤ_invr b) ∙ zero-*ℤ c) ∙ +ℤ_idr (neg_ℤ p)
  where
    p : ℤ
    p = b *ℤ c

    y : ℤ
    y = neg_ℤ b *ℤ c

mul_assoc : (a b c : ℤ) → (a *ℤ b) *ℤ c ≡ a *ℤ (b *ℤ c)
mul_assoc a b c = steps (λ a. (a *ℤ b) *ℤ c ≡ a *ℤ (b *ℤ c))
    (ap (λ x. x *ℤ c) (zero-*ℤ b) ∙ zero-*ℤ c ∙ sym (zero-*ℤ (b *ℤ c)))
    (λ k h. ap (λ x. x *ℤ c) (suc_ℤ-*ℤ k b) ∙ add-mul (k *ℤ b) b c ∙ ap (λ x. x +ℤ b *ℤ c) h ∙ sym (suc_ℤ-*ℤ k (b *ℤ c)))
    (λ k h. ap (λ x. x *ℤ c) (pred_ℤ-*ℤ k b) ∙ add-mul (k *ℤ b) (neg_ℤ b) c ∙ ap₂ ◌+ℤ◌ h (neg-mul b c) ∙ sym (pred_ℤ-*ℤ k (b *ℤ c)))
    a

pub ℤ-ring : RingLaws whole
unfolding one
ℤ-ring = record {
  add_comm = +ℤ_comm;
  add_assoc = +ℤ_assoc;
  add_zero = +ℤ_idr;
  add_neg = +ℤ_invr;
  sub_is = λ a b. refl;
  mul_comm = *ℤ_comm;
  mul_assoc = mul_assoc;
  mul_one = *ℤ-one;
  mul_add = λ a b c. *ℤ_comm a (b +ℤ c) ∙ add-mul b c a ∙ ap₂ ◌+ℤ◌ (*ℤ_comm b a) (*ℤ_comm c a);
  lit_add = λ x y. refl;
  lit_mul = λ x y. refl;
}

pub abs_negative : (z : ℤ) → nat_abs (neg_ℤ z) ≡ nat_abs z
abs_negative (pos zero) = refl
abs_negative (pos (suc n)) = refl
abs_negative (negsuc n) = refl

pub abs_product : (m n : ℤ) → nat_abs (m *ℤ n) ≡ nat_abs m * nat_abs n
abs_product (pos m) (pos n) = refl
abs_product (pos m) (negsuc n) = abs_negative (pos (m * suc n))
abs_product (negsuc m) (pos n) = abs_negative (pos (suc m * n))
abs_product (negsuc m) (negsuc n) = refl
