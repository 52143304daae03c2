-- The order of points, by x and then by y: what it says (`places`, `placed`), and its laws for points over positive numbers.
-- A point's `positive` of `Lowest` is what they ask for.
use mathlib.Core.Path.{◌≡◌, refl, sym, ap, ap₂, ◌∙◌}
use Prim.Native.Nat.{ℕ, ◌<◌}
use native.Mathlib.Omega.{arith}
use lib.IntN.{pos, ◌*ℤ◌}
use lib.Signed.{◌<ℤ◌}
use Rattle.fractions.specs.Order.{order, turned, and_then}
use Rattle.fractions.specs.Fraction.{ratio_order}
use Rattle.fractions.specs.Point.{point_order}
use Rattle.std.specs.declared.cmp.Ordering.{Ordering}
use Rattle.std.specs.declared.cmp.Ordering.TheVariants.{Less, Equal, Greater}
use Rattle.fractions.specs.declared.Point.{Point}
use Rattle.fractions.proofs.Orders.{Answer, is_less_lem, is_equal_lem, is_greater, answer, order_less, order_equal, order_greater}
use Rattle.fractions.proofs.Ratios.{ratio_turned, ratio_trans, ratio_alike, ratio_alike'}

-- the answers of the two steps
abbrev x_order : Point → Point → Ordering
x_order p q = ratio_order p.x p.d q.x q.d

abbrev y_order : Point → Point → Ordering
y_order p q = ratio_order p.y p.d q.y q.d

-- ---- what it says, over the whole numbers
pub data Places (p q : Point) : Ordering → Type 0 where
  left : (p.x *ℤ pos q.d) <ℤ (q.x *ℤ pos p.d) → Places p q Less
  below : p.x *ℤ pos q.d ≡ q.x *ℤ pos p.d → (p.y *ℤ pos q.d) <ℤ (q.y *ℤ pos p.d) → Places p q Less
  same : p.x *ℤ pos q.d ≡ q.x *ℤ pos p.d → p.y *ℤ pos q.d ≡ q.y *ℤ pos p.d → Places p q Equal
  above : p.x *ℤ pos q.d ≡ q.x *ℤ pos p.d → (q.y *ℤ pos p.d) <ℤ (p.y *ℤ pos q.d) → Places p q Greater
  right : (q.x *ℤ pos p.d) <ℤ (p.x *ℤ pos q.d) → Places p q Greater

pub places : (p q : Point) → Places p q (point_order p q)
unfolding point_order ratio_order
places p q = first (answer (p.x *ℤ pos q.d) (q.x *ℤ pos p.d))
  where
    second : {o : Ordering} → p.x *ℤ pos q.d ≡ q.x *ℤ pos p.d → Answer (p.y *ℤ pos q.d) (q.y *ℤ pos p.d) o → Places p q o
    second e (is_less_lem h) = below e h
    second e (is_equal_lem h) = same e h
    second e (is_greater h) = above e h

    first : {o : Ordering} → Answer (p.x *ℤ pos q.d) (q.x *ℤ pos p.d) o → Places p q (and_then o (order (p.y *ℤ pos q.d) (q.y *ℤ pos p.d)))
    first (is_less_lem h) = left h
    first (is_equal_lem e) = second e (answer (p.y *ℤ pos q.d) (q.y *ℤ pos p.d))
    first (is_greater h) = right h

pub placed : {p q : Point} {o : Ordering} → Places p q o → point_order p q ≡ o
unfolding point_order ratio_order
placed (left h) = rw (order_less h)
placed (below e h) = rw (order_equal e, order_less h)
placed (same e h) = rw (order_equal e, order_equal h)
placed (above e h) = rw (order_equal e, order_greater h)
placed (right h) = rw (order_greater h)

-- ---- one answer after another
clash : {A : Type 0} {o : Ordering} → o ≡ Less → o ≡ Greater → A
clash h k = absurd (let z : ◌≡◌ {A = ℕ} 0 1 = cc in omega arith)

then_turned : (o p : Ordering) → turned (and_then o p) ≡ and_then (turned o) (turned p)
then_turned Less p = refl
then_turned Equal p = refl
then_turned Greater p = refl

then_equal : (o p : Ordering) → and_then o p ≡ Equal → (o ≡ Equal) × (p ≡ Equal)
then_equal Less p e = absurd (let z : ◌≡◌ {A = ℕ} 0 1 = cc in omega arith)
then_equal Equal p e = (refl, e)
then_equal Greater p e = absurd (let z : ◌≡◌ {A = ℕ} 0 1 = cc in omega arith)

-- from p to q, from q to r and from p to r, by x and by y
then_trans :
    (pq qr pr pq' qr' pr' : Ordering) →
    (pq ≡ Less → qr ≡ Less → pr ≡ Less) → (pq ≡ Equal → pr ≡ qr) → (qr ≡ Equal → pq ≡ pr) → (pq' ≡ Less → qr' ≡ Less → pr' ≡ Less) →
    and_then pq pq' ≡ Less → and_then qr qr' ≡ Less → and_then pr pr' ≡ Less
then_trans Less Less pr pq' qr' pr' t l r t' h k = rw (t refl refl)
then_trans Less Equal pr pq' qr' pr' t l r t' h k = rw (sym (r refl))
then_trans Less Greater pr pq' qr' pr' t l r t' h k = clash k refl
then_trans Equal Less pr pq' qr' pr' t l r t' h k = rw (l refl)
then_trans Equal Equal pr pq' qr' pr' t l r t' h k = rw (l refl) (t' h k)
then_trans Equal Greater pr pq' qr' pr' t l r t' h k = clash k refl
then_trans Greater qr pr pq' qr' pr' t l r t' h k = clash h refl

-- ---- the laws
pub point_itself : (p : Point) → point_order p p ≡ Equal
point_itself p = placed (same refl refl)

pub point_turned : (p q : Point) → point_order q p ≡ turned (point_order p q)
unfolding point_order
point_turned p q =
    ap₂ and_then (ratio_turned p.x p.d q.x q.d) (ratio_turned p.y p.d q.y q.d)
    ∙ sym (then_turned (x_order p q) (y_order p q))

module _ (p q r : Point) where
  -- equal points compare alike
  pub point_alike : 0 < p.d → 0 < q.d → point_order p q ≡ Equal → point_order p r ≡ point_order q r
  unfolding point_order
  point_alike hp hq e =
      let b = then_equal (x_order p q) (y_order p q) e in
      ap₂ and_then
      (ratio_alike p.x p.d q.x q.d r.x r.d hp hq b.0)
      (ratio_alike p.y p.d q.y q.d r.y r.d hp hq b.1)

  pub point_trans : 0 < p.d → 0 < q.d → 0 < r.d → point_order p q ≡ Less → point_order q r ≡ Less → point_order p r ≡ Less
  unfolding point_order
  point_trans hp hq hr =
      then_trans (x_order p q) (x_order q r) (x_order p r) (y_order p q) (y_order q r) (y_order p r)
      (ratio_trans p.x p.d q.x q.d r.x r.d hp hq hr)
      (ratio_alike p.x p.d q.x q.d r.x r.d hp hq)
      (ratio_alike' p.x p.d q.x q.d r.x r.d hq hr)
      (ratio_trans p.y p.d q.y q.d r.y r.d hp hq hr)

pub point_alike' : (p q r : Point) → 0 < q.d → 0 < r.d → point_order q r ≡ Equal → point_order p q ≡ point_order p r
point_alike' p q r hq hr e = point_turned q p ∙ ap turned (point_alike q r p hq hr e) ∙ sym (point_turned r p)

-- ---- chains with "at most", which is: not Greater
module _ (p q r : Point) (hp : 0 < p.d) (hq : 0 < q.d) (hr : 0 < r.d) where
  pub less_at_most : point_order p q ≡ Less → ¬ (point_order q r ≡ Greater) → point_order p r ≡ Less
  less_at_most h k = go (point_order q r) refl
    where
      go : (o : Ordering) → point_order q r ≡ o → point_order p r ≡ Less
      go Less e = point_trans p q r hp hq hr h e
      go Equal e = sym (point_alike' p q r hq hr e) ∙ h
      go Greater e = absurd (k e)

  pub at_most_less : ¬ (point_order p q ≡ Greater) → point_order q r ≡ Less → point_order p r ≡ Less
  at_most_less h k = go (point_order p q) refl
    where
      go : (o : Ordering) → point_order p q ≡ o → point_order p r ≡ Less
      go Less e = point_trans p q r hp hq hr e k
      go Equal e = point_alike p q r hp hq e ∙ k
      go Greater e = absurd (h e)

  pub at_most_trans : ¬ (point_order p q ≡ Greater) → ¬ (point_order q r ≡ Greater) → ¬ (point_order p r ≡ Greater)
  at_most_trans h k g = go (point_order p q) refl
    where
      go : (o : Ordering) → point_order p q ≡ o → ⊥
      go Less e = clash (less_at_most e k) g
      go Equal e = k (sym (point_alike p q r hp hq e) ∙ g)
      go Greater e = h e
