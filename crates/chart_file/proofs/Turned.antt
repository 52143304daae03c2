-- A coordinate and the number that it is stored as determine each other, and the range of one is a range of the other.
use mathlib.Core.Path.{◌≡◌, refl, sym, ap, ◌∙◌}
use mathlib.Core.Bool.{Bool, true, false, or-false}
use Prim.Native.Nat.{ℕ, suc, ◌+◌, ◌*◌, ◌/◌, ◌%◌, ◌≤◌, ◌<◌}
use native.Mathlib.Decide.{dec_lt}
use native.Mathlib.Omega.{arith}
use borrow.Author.Tests.{eqb-true, eqb-false, eq-eqb, ne_eqb, lt-ltb, le-ltb}
use lib.Dec.{eqb, ltb, ltb→lt}
use lib.IntN.{ℤ, pos, negsuc, neg_ℤ, neg_ℤ-neg_ℤ, -ℤ_one}
use Rattle.charts.specs.Fault.{range, outside}
use Rattle.chart_file.specs.Coordinate.{stored, signed_of}
use Rattle.chart_file.specs.Demand.{TurnedBack, StoredAsSaid}

pub signed_even : (u : ℕ) → u % 2 ≡ 0 → signed_of u ≡ pos (u / 2)
unfolding signed_of
signed_even u e = rw (eq-eqb (u % 2) 0 e)

pub signed_odd : (u : ℕ) → (u % 2 ≡ 0 → ⊥) → signed_of u ≡ negsuc (u / 2)
unfolding signed_of
signed_odd u e = rw (ne_eqb (u % 2) 0 e)

by_parity {ℓ} : (u : ℕ) {A : Type ℓ} → (u % 2 ≡ 0 → A) → ((u % 2 ≡ 0 → ⊥) → A) → A
by_parity u {A} even odd = go (eqb (u % 2) 0) refl
  where
    go : (t : Bool) → eqb (u % 2) 0 ≡ t → A
    go true e = even (eqb-true (u % 2) 0 e)
    go false e = odd (eqb-false (u % 2) 0 e)

pub signed_stored : (v : ℤ) → signed_of (stored v) ≡ v
unfolding stored
signed_stored (pos n) = signed_even (2 * n) (omega arith) ∙ ap pos (omega arith)
signed_stored (negsuc n) = signed_odd (2 * n + 1) (omega arith) ∙ ap negsuc (omega arith)

pub stored_signed : (u : ℕ) → stored (signed_of u) ≡ u
unfolding stored
stored_signed u = by_parity u
    (λ e. ap stored (signed_even u e) ∙ omega arith)
    (λ e. ap stored (signed_odd u e) ∙ omega arith)

-- In range is at most twice the range.
same_test : (a b c d : ℕ) → (a < b → c < d) → (b ≤ a → d ≤ c) → ltb a b ≡ ltb c d
same_test a b c d f g = elim (dec_lt a b) [
  | yes h ↦ lt-ltb a b h ∙ sym (lt-ltb c d (f h))
  | no h ↦ le-ltb a b (omega arith) ∙ sym (le-ltb c d (g (omega arith)))
]

pub outside_stored : (u : ℕ) → outside (neg_ℤ range) range (signed_of u) ≡ ltb 65534 u
unfolding outside
outside_stored u = by_parity u
    (λ e. rw (signed_even u e) (same_test 32767 (u / 2) 65534 u (λ h. omega arith) (λ h. omega arith)))
    (λ e. rw (signed_odd u e) (or-false (ltb 32766 (u / 2)) ∙ same_test 32766 (u / 2) 65534 u (λ h. omega arith) (λ h. omega arith)))

pub turned_back : TurnedBack
turned_back = (signed_stored, stored_signed)

pub stored_as_said : StoredAsSaid
unfolding stored
stored_as_said (pos n) = (λ h. refl, λ h. absurd (omega (arith, ltb→lt n 0 h.lt)))
stored_as_said (negsuc n) =
    let e : 2 * suc n ≡ suc (2 * n + 1) = omega arith in
    (λ h. absurd h.le, λ h. rw (neg_ℤ-neg_ℤ, e) (sym (-ℤ_one (pos (suc (2 * n + 1))))))
