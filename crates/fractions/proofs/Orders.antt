-- The answer `order a b`: what gives it (`order_less`), what it says (`answer`, `less_order`), and the answer turned round.
use mathlib.Core.Path.{◌≡◌, refl, sym, ap, ◌∙◌, subst}
use Prim.Native.Nat.{ℕ, ◌<◌}
use lib.IntN.{ℤ, pos, neg_ℤ}
use lib.Signed.{◌<ℤ◌}
use Rattle.integers.proofs.Naturals.{pos-<}
use Rattle.integers.proofs.Order.{neg-<}
use Rattle.integers.proofs.Comparison.{three_less, three_equal, three_greater, by_three}
use Rattle.fractions.specs.Order.{order, turned, and_then}
use Rattle.std.specs.Ordering.{MatchOrdering, nat_cmp, int_cmp}
use Rattle.std.proofs.lemmas.Cmp.{ranked, by_ranked}
use Rattle.std.specs.declared.cmp.Ordering.{Ordering}
use Rattle.std.specs.declared.cmp.Ordering.TheVariants.{Less, Equal, Greater}

-- ---- from an order to the answer
module _ {a b : ℤ} where
  pub order_less : a <ℤ b → order a b ≡ Less
  unfolding order
  order_less h = three_less Less Equal Greater h

  pub order_equal : a ≡ b → order a b ≡ Equal
  unfolding order
  order_equal e = three_equal Less Equal Greater e

  pub order_greater : b <ℤ a → order a b ≡ Greater
  unfolding order
  order_greater h = three_greater Less Equal Greater h

-- ---- what the answer says
pub data Answer (a b : ℤ) : Ordering → Type 0 where
  is_less_lem : a <ℤ b → Answer a b Less
  is_equal_lem : a ≡ b → Answer a b Equal
  is_greater : b <ℤ a → Answer a b Greater

pub answer : (a b : ℤ) → Answer a b (order a b)
unfolding order
answer a b = by_three a b (Answer a b) is_less_lem is_equal_lem is_greater

module _ (a b : ℤ) where
  pub less_order : order a b ≡ Less → a <ℤ b
  less_order e = go (subst (Answer a b) e (answer a b))
    where
      go : Answer a b Less → a <ℤ b
      go (is_less_lem h) = h

  pub equal_order : order a b ≡ Equal → a ≡ b
  equal_order e = go (subst (Answer a b) e (answer a b))
    where
      go : Answer a b Equal → a ≡ b
      go (is_equal_lem h) = h

  pub greater_order : order a b ≡ Greater → b <ℤ a
  greater_order e = go (subst (Answer a b) e (answer a b))
    where
      go : Answer a b Greater → b <ℤ a
      go (is_greater h) = h

-- ---- the answer turned round
pub order_turned : (a b : ℤ) → order b a ≡ turned (order a b)
order_turned a b = go (answer a b)
  where
    go : {o : Ordering} → Answer a b o → order b a ≡ turned o
    go (is_less_lem h) = order_greater h
    go (is_equal_lem e) = order_equal (sym e)
    go (is_greater h) = order_less h

-- of the numbers turned round 0
pub order_negated : (x y : ℤ) → order x y ≡ order (neg_ℤ y) (neg_ℤ x)
order_negated x y = go (answer x y)
  where
    go : {o : Ordering} → Answer x y o → o ≡ order (neg_ℤ y) (neg_ℤ x)
    go (is_less_lem h) = sym (order_less (neg-< h))
    go (is_equal_lem e) = sym (order_equal (ap neg_ℤ (sym e)))
    go (is_greater h) = sym (order_greater (neg-< h))

-- ---- what a test of the code shows
module _ {x y : ℕ} where
  pub nat_less : x < y → Less ≡ order (pos x) (pos y)
  nat_less h = sym (order_less (pos-< h))

  pub nat_equal : x ≡ y → Equal ≡ order (pos x) (pos y)
  nat_equal e = sym (order_equal (ap pos e))

  pub nat_greater : y < x → Greater ≡ order (pos x) (pos y)
  nat_greater h = sym (order_greater (pos-< h))

-- ---- the library's `cmp` and `then_with`
pub nat_ordered : (x y : ℕ) → nat_cmp x y ≡ order (pos x) (pos y)
nat_ordered x y = by_ranked (x < y) (x ≡ y) (y < x) (nat_cmp x y) (ranked x y (nat_cmp x y) refl)
    (λ e h. e ∙ nat_less h)
    (λ e h. e ∙ nat_equal h)
    (λ e h. e ∙ nat_greater h)

pub int_ordered : (x y : ℤ) → int_cmp x y ≡ order x y
unfolding order
int_ordered x y = refl

-- what `then_with` says, where what it calls answers p
pub chained : {P : Type 0} (o r p : Ordering) → MatchOrdering o (r ≡ Less) P (r ≡ Greater) → (P → r ≡ p) → r ≡ and_then o p
chained Less r p h k = h
chained Equal r p h k = k h
chained Greater r p h k = h
