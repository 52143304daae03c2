-- One thing is due to a list, and it is accepted exactly when it names each meeting pair once.
-- Assumes nothing.
use mathlib.Core.Path.{◌≡◌, refl, sym, ap, ap₂, ◌∙◌, subst}
use mathlib.Core.Bool.{Bool, true, false, cond}
use mathlib.Core.List.{List}
use mathlib.Core.Logic.{inl, inr, ⊎_elim, ◌≢◌}
use Prim.Native.Nat.{ℕ, ◌/◌, ◌<◌}
use native.Mathlib.Nat.{eq-or-lt_of_le}
use native.Mathlib.Omega.{arith}
use borrow.Author.Tests.{ltb-true, ltb-false}
use lib.Dec.{ltb}
use lib.IntN.{ℤ}
use lib.ListN.{length}
use Rattle.naive.specs.Demand.{Before}
use Rattle.supplied.specs.declared.Checked.TheVariants.{Accepted, Fault, Missing}
use Rattle.supplied.specs.Entries.{one, other, named}
use Rattle.supplied.specs.Demand.{Meets, Names, Named, AtFault, no_piece, itself, apart, repeated, Good, GoodBelow, Lacks, Due, fault, lacks, accepted, OneIsDue, NamesOnce, AcceptsExactly}
use Rattle.supplied.proofs.Sides.{turned, named_yes, named_has}
use Rattle.supplied.proofs.Promises.{says_what_is_due}

-- one of two numbers is less, or they are equal
pub data Either (a b : ℕ) : Type 0 where
  less : a < b → Either a b
  equal : a ≡ b → Either a b
  more : b < a → Either a b

pub either : (a b : ℕ) → Either a b
either a b = go (ltb a b) refl
  where
    go : (t : Bool) → ltb a b ≡ t → Either a b
    go true e = less (ltb-true _ _ e)
    go false e = ⊎_elim (λ (q : b ≡ a). equal (sym q)) (λ (l : b < a). more l) (eq-or-lt_of_le {n = b} {m = a} (ltb-false _ _ e))

module _ (list : List ℤ) (n : ℕ) (bytes : List ℕ) where
  -- ---- a good entry has no fault, and no entry has two
  good_fault : {i k : ℕ} → Good list n bytes i → AtFault list n bytes i k → ⊥
  good_fault g (no_piece (inl h)) = let p = g.first_piece in absurd (omega arith)
  good_fault g (no_piece (inr h)) = let p = g.second_piece in absurd (omega arith)
  good_fault g (itself h q) = g.two q
  good_fault g (apart h l d m) = m g.meeting
  good_fault g (repeated h l d m r) = g.new r

  one_fault : {i k l : ℕ} → AtFault list n bytes i k → AtFault list n bytes i l → k ≡ l
  one_fault (no_piece p) (no_piece q) = refl
  one_fault (no_piece (inl p)) (itself h q) = absurd (omega arith)
  one_fault (no_piece (inr p)) (itself h q) = absurd (omega arith)
  one_fault (no_piece (inl p)) (apart h k d m) = absurd (omega arith)
  one_fault (no_piece (inr p)) (apart h k d m) = absurd (omega arith)
  one_fault (no_piece (inl p)) (repeated h k d m r) = absurd (omega arith)
  one_fault (no_piece (inr p)) (repeated h k d m r) = absurd (omega arith)
  one_fault (itself h q) (no_piece (inl p)) = absurd (omega arith)
  one_fault (itself h q) (no_piece (inr p)) = absurd (omega arith)
  one_fault (itself h q) (itself h' q') = refl
  one_fault (itself h q) (apart h' k d m) = absurd (d q)
  one_fault (itself h q) (repeated h' k d m r) = absurd (d q)
  one_fault (apart h k d m) (no_piece (inl p)) = absurd (omega arith)
  one_fault (apart h k d m) (no_piece (inr p)) = absurd (omega arith)
  one_fault (apart h k d m) (itself h' q) = absurd (d q)
  one_fault (apart h k d m) (apart h' k' d' m') = refl
  one_fault (apart h k d m) (repeated h' k' d' m' r) = absurd (m m')
  one_fault (repeated h k d m r) (no_piece (inl p)) = absurd (omega arith)
  one_fault (repeated h k d m r) (no_piece (inr p)) = absurd (omega arith)
  one_fault (repeated h k d m r) (itself h' q) = absurd (d q)
  one_fault (repeated h k d m r) (apart h' k' d' m') = absurd (m' m)
  one_fault (repeated h k d m r) (repeated h' k' d' m' r') = refl

  first_fault : {i k j l : ℕ} → GoodBelow list n bytes i → AtFault list n bytes i k → GoodBelow list n bytes j → AtFault list n bytes j l → Fault i k ≡ Fault j l
  first_fault {i} {k} {j} {l} g f g' f' = go (either i j)
    where
      go : Either i j → Fault i k ≡ Fault j l
      go (less h) = absurd (good_fault (g' i h) f)
      go (more h) = absurd (good_fault (g j h) f')
      go (equal e) = ap₂ Fault e (one_fault f (subst (λ (m : ℕ). AtFault list n bytes m l) (sym e) f'))

  first_lack : (a b c d : ℕ) → Lacks list n bytes a b → ((x y : ℕ) → Before (x, y) (a, b) → ¬ Lacks list n bytes x y)
      → Lacks list n bytes c d → ((x y : ℕ) → Before (x, y) (c, d) → ¬ Lacks list n bytes x y) → Missing a b ≡ Missing c d
  first_lack a b c d p first q first' = go (either a c) (either b d)
    where
      go : Either a c → Either b d → Missing a b ≡ Missing c d
      go (less h) _ = absurd (first' a b (inl h) p)
      go (more h) _ = absurd (first c d (inl h) q)
      go (equal e) (less h) = absurd (first' a b (inr (e, h)) p)
      go (equal e) (more h) = absurd (first c d (inr (sym e, h)) q)
      go (equal e) (equal f) = ap₂ Missing e f

pub one_is_due : OneIsDue
one_is_due list n bytes r s (fault i k h g f) (fault j l h' g' f') = first_fault list n bytes g f g' f'
one_is_due list n bytes r s (fault i k h g f) (lacks a b g' l first) = absurd (good_fault list n bytes (g' i h) f)
one_is_due list n bytes r s (fault i k h g f) (accepted g' none) = absurd (good_fault list n bytes (g' i h) f)
one_is_due list n bytes r s (lacks a b g l first) (fault i k h g' f) = absurd (good_fault list n bytes (g i h) f)
one_is_due list n bytes r s (lacks a b g l first) (lacks c d g' l' first') = first_lack list n bytes a b c d l first l' first'
one_is_due list n bytes r s (lacks a b g l first) (accepted g' none) = absurd (none a b l)
one_is_due list n bytes r s (accepted g none) (fault i k h g' f) = absurd (good_fault list n bytes (g i h) f)
one_is_due list n bytes r s (accepted g none) (lacks a b g' l first) = absurd (none a b l)
one_is_due list n bytes r s (accepted g none) (accepted g' none') = refl

-- ---- accepted
module _ (list : List ℤ) (n : ℕ) (bytes : List ℕ) where
  -- two entries of one pair
  also : (i j a b : ℕ) → Names list n bytes i a b → Names list n bytes j a b → Names list n bytes i (one bytes j) (other bytes j)
  also i j a b (inl p) (inl q) = inl (p.0 ∙ sym q.0, p.1 ∙ sym q.1)
  also i j a b (inl p) (inr q) = inr (p.0 ∙ sym q.1, p.1 ∙ sym q.0)
  also i j a b (inr p) (inl q) = inr (p.0 ∙ sym q.1, p.1 ∙ sym q.0)
  also i j a b (inr p) (inr q) = inl (p.0 ∙ sym q.0, p.1 ∙ sym q.1)

  meeting_named : {i a b : ℕ} → Good list n bytes i → Names list n bytes i a b → (a < n) × (b < n) × (a ≢ b) × Meets list n bytes a b
  meeting_named {i} {a} {b} g (inl p) =
      let x = g.first_piece in let y = g.second_piece in let e = p.0 in let f = p.1 in
      (omega arith, omega arith, λ q. g.two (e ∙ q ∙ sym f), subst (λ (k : ℕ). Meets list n bytes a k) f (subst (λ (k : ℕ). Meets list n bytes k (other bytes i)) e g.meeting))
  meeting_named {i} {a} {b} g (inr p) =
      let x = g.first_piece in let y = g.second_piece in let e = p.0 in let f = p.1 in
      (omega arith, omega arith, λ q. g.two (e ∙ sym q ∙ sym f), turned _ _ (subst (λ (k : ℕ). Meets list n bytes b k) f (subst (λ (k : ℕ). Meets list n bytes k (other bytes i)) e g.meeting)))

  is_named : (a b : ℕ) → b < a → a < n → Meets list n bytes a b → ¬ Lacks list n bytes a b → Named list n bytes (length bytes / 2) a b
  is_named a b g p m none = go (named bytes (length bytes / 2) a b) refl
    where
      go : (t : Bool) → named bytes (length bytes / 2) a b ≡ t → Named list n bytes (length bytes / 2) a b
      go true e = named_yes list n bytes _ a b e
      go false e = absurd (none (record {
        greater = g;
        piece = p;
        meeting = m;
        unnamed = λ d. let z : ◌≡◌ {A = ℕ} 0 1 = ap (λ (t : Bool). cond t 1 0) (sym e ∙ named_has list n bytes _ a b g d) in absurd (omega arith);
      }))

  names_once : Due list n bytes Accepted → NamesOnce list n bytes
  names_once (accepted g none) = record {
    only_meeting = λ i h a b m. meeting_named (g i h) m;
    each = λ a b h p m. is_named a b h p m (none a b);
    once = λ i j a b h l p q. (g j l).new (i, h, also i j a b p q);
  }

  due_accepted : NamesOnce list n bytes → Due list n bytes Accepted
  due_accepted o =
      accepted
      (λ i h. let m = o.only_meeting i h (one bytes i) (other bytes i) (inl (refl, refl)) in record {
        first_piece = m.0;
        second_piece = m.1;
        two = m.2;
        meeting = m.3;
        new = λ d. o.once d.0 i (one bytes i) (other bytes i) d.1 h d.2 (inl (refl, refl));
      })
      (λ a b l. l.unnamed (o.each a b l.greater l.piece l.meeting))

pub accepts_exactly : AcceptsExactly
accepts_exactly list n bytes e h = (
  λ q. names_once list n bytes (subst (Due list n bytes) q (says_what_is_due list n bytes e h)),
  λ o. one_is_due list n bytes _ _ (says_what_is_due list n bytes e h) (due_accepted list n bytes o),
)
