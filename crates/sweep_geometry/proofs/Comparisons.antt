-- Comparisons that order: turned round they answer the other way, equals are alike, and they chain.
-- By fractions (`fraction_orders`), by one and then another (`then_orders`), by number (`number_orders`).
use mathlib.Core.Path.{◌≡◌, refl, sym, ap, ap₂, ◌∙◌}
use mathlib.Core.Logic.{◌≢◌}
use mathlib.Core.List.{[], ◌∷◌}
use Prim.Native.Nat.{ℕ}
use native.Mathlib.Omega.{arith}
use lib.IntN.{ℤ, pos, ◌*ℤ◌}
use lib.Signed.{◌<ℤ◌}
use Rattle.integers.proofs.Identity.{by_ring, terms}
use Rattle.integers.proofs.Order.{<_trans}
use Rattle.integers.proofs.Factors.{*_mono-<}
use Rattle.integers.proofs.Ratios.{ratio-<_trans}
use Rattle.fractions.specs.Order.{order, turned, and_then}
use Rattle.std.specs.declared.cmp.Ordering.{Ordering}
use Rattle.std.specs.declared.cmp.Ordering.TheVariants.{Less, Equal, Greater}
use Rattle.fractions.proofs.Orders.{Answer, is_less_lem, is_equal_lem, is_greater, answer, order_less, order_equal, order_greater, less_order, equal_order, order_turned}

abbrev number : Ordering → ℕ
number Less = 0
number Equal = 1
number Greater = 2

-- no answer is two: `never e f (omega arith)`
pub never : {o x y : Ordering} {A : Type 0} → o ≡ x → o ≡ y → number x ≢ number y → A
never e f d = absurd (d (ap number (sym e ∙ f)))

pub data Said (o : Ordering) : Type 0 where
  said_less : o ≡ Less → Said o
  said_equal : o ≡ Equal → Said o
  said_greater : o ≡ Greater → Said o

pub say : (o : Ordering) → Said o
say Less = said_less refl
say Equal = said_equal refl
say Greater = said_greater refl

pub turned_twice : (o : Ordering) → turned (turned o) ≡ o
turned_twice Less = refl
turned_twice Equal = refl
turned_twice Greater = refl

turned_then : (o r : Ordering) → and_then (turned o) (turned r) ≡ turned (and_then o r)
turned_then Less r = refl
turned_then Equal r = refl
turned_then Greater r = refl

pub then_equal : (o r : Ordering) → and_then o r ≡ Equal → (o ≡ Equal) × (r ≡ Equal)
then_equal Less r e = never refl e (omega arith)
then_equal Equal r e = (refl, e)
then_equal Greater r e = never refl e (omega arith)

pub record Orders {A : Type 0} (Ok : A → Type 0) (f : A → A → Ordering) : Type 0 where
  pub turns : (a b : A) → Ok a → Ok b → f b a ≡ turned (f a b)
  pub alike : (a b c : A) → Ok a → Ok b → Ok c → f a b ≡ Equal → f a c ≡ f b c
  pub chain : (a b c : A) → Ok a → Ok b → Ok c → f a b ≡ Less → f b c ≡ Less → f a c ≡ Less

module _ {A : Type 0} {Ok : A → Type 0} where
  -- equals are alike on the right as well
  pub alike_right : {f : A → A → Ordering} → Orders Ok f → (a b c : A) → Ok a → Ok b → Ok c → f b c ≡ Equal → f a b ≡ f a c
  alike_right {f} F a b c oa ob oc e =
      let d : f c b ≡ Equal = F.turns b c ob oc ∙ ap turned e in
      sym (turned_twice (f a b)) ∙ ap turned (sym (F.turns a b oa ob) ∙ sym (F.alike c b a oc ob oa d) ∙ F.turns a c oa oc) ∙ turned_twice (f a c)

  pub then_orders : {f g : A → A → Ordering} → Orders Ok f → Orders Ok g → Orders Ok (λ a b. and_then (f a b) (g a b))
  then_orders {f} {g} F G =
      record {
        turns = λ a b oa ob. ap₂ and_then (F.turns a b oa ob) (G.turns a b oa ob) ∙ turned_then (f a b) (g a b);
        alike = λ a b c oa ob oc e. let d = then_equal (f a b) (g a b) e in ap₂ and_then (F.alike a b c oa ob oc d.0) (G.alike a b c oa ob oc d.1);
        chain = λ a b c oa ob oc h k. chained a b c oa ob oc (say (f a b)) (say (f b c)) h k;
      }
    where
      lift : (o r : Ordering) → o ≡ Equal → r ≡ Less → and_then o r ≡ Less
      lift o r e h = rw e h

      no : (o r : Ordering) → o ≡ Greater → and_then o r ≡ Less → ⊥
      no o r e h = let d : Greater ≡ Less = rw e at h in never refl d (omega arith)

      chained : (a b c : A) → Ok a → Ok b → Ok c → Said (f a b) → Said (f b c) → and_then (f a b) (g a b) ≡ Less → and_then (f b c) (g b c) ≡ Less → and_then (f a c) (g a c) ≡ Less
      chained a b c oa ob oc (said_less p) (said_less q) h k = rw (F.chain a b c oa ob oc p q)
      chained a b c oa ob oc (said_less p) (said_equal q) h k = rw (sym (alike_right F a b c oa ob oc q) ∙ p)
      chained a b c oa ob oc (said_less p) (said_greater q) h k = absurd (no (f b c) (g b c) q k)
      chained a b c oa ob oc (said_equal p) (said_less q) h k = rw (F.alike a b c oa ob oc p ∙ q)
      chained a b c oa ob oc (said_equal p) (said_equal q) h k =
          lift (f a c) (g a c) (F.alike a b c oa ob oc p ∙ q) (G.chain a b c oa ob oc (rw p at h) (rw q at k))
      chained a b c oa ob oc (said_equal p) (said_greater q) h k = absurd (no (f b c) (g b c) q k)
      chained a b c oa ob oc (said_greater p) s h k = absurd (no (f a b) (g a b) p h)

  pub same_equal : {f : A → A → Ordering} → Orders Ok f → (a : A) → Ok a → f a a ≡ Equal
  same_equal {f} F a oa = go (f a a) (F.turns a a oa oa)
    where
      go : (o : Ordering) → o ≡ turned o → o ≡ Equal
      go Less e = never refl e (omega arith)
      go Equal e = refl
      go Greater e = never refl e (omega arith)

pub order_scaled : (a b c : ℤ) → pos 0 <ℤ c → order a b ≡ order (a *ℤ c) (b *ℤ c)
order_scaled a b c p = go (answer a b)
  where
    go : {o : Ordering} → Answer a b o → o ≡ order (a *ℤ c) (b *ℤ c)
    go (is_less_lem h) = sym (order_less (*_mono-< a b p h))
    go (is_equal_lem e) = sym (order_equal (ap (λ (z : ℤ). z *ℤ c) e))
    go (is_greater h) = sym (order_greater (*_mono-< b a p h))

-- by a fraction whose lower number is above 0
module _ {A : Type 0} {Ok : A → Type 0} (above below : A → ℤ) (up : (a : A) → Ok a → pos 0 <ℤ below a) where
  by_fraction : A → A → Ordering
  by_fraction a b = order (above a *ℤ below b) (above b *ℤ below a)

  swap : (x y z : ℤ) → x *ℤ y *ℤ z ≡ x *ℤ z *ℤ y
  swap x y z = by_ring (x ∷ y ∷ z ∷ []) (search terms depth 60 fits 20000) tt

  pub fraction_orders : Orders Ok (λ a b. order (above a *ℤ below b) (above b *ℤ below a))
  fraction_orders =
      record {
        turns = λ a b oa ob. order_turned (above a *ℤ below b) (above b *ℤ below a);
        alike = λ a b c oa ob oc e.
            let s : above a *ℤ below b ≡ above b *ℤ below a = equal_order _ _ e in
            order_scaled (above a *ℤ below c) (above c *ℤ below a) (below b) (up b ob)
            ∙ ap₂ order (swap (above a) (below c) (below b) ∙ ap (λ (z : ℤ). z *ℤ below c) s ∙ swap (above b) (below a) (below c)) (swap (above c) (below a) (below b))
            ∙ sym (order_scaled (above b *ℤ below c) (above c *ℤ below b) (below a) (up a oa));
        chain = λ a b c oa ob oc h k.
            order_less (ratio-<_trans (above a) (below a) (above b) (below b) (above c) (below c) (up a oa) (up b ob) (up c oc) (less_order _ _ h) (less_order _ _ k));
      }

pub number_orders : {Ok : ℕ → Type 0} → Orders Ok (λ i j. order (pos i) (pos j))
number_orders =
    record {
      turns = λ i j a b. order_turned (pos i) (pos j);
      alike = λ i j k a b c e. ap (λ (z : ℤ). order z (pos k)) (equal_order (pos i) (pos j) e);
      chain = λ i j k a b c h l. order_less (<_trans (less_order (pos i) (pos j) h) (less_order (pos j) (pos k) l));
    }
