-- The promises of refusals, from how an outcome goes by the verdict.
-- Assumes nothing.
use mathlib.Core.Path.{◌≡◌, refl, sym, ap, ◌∙◌, subst}
use mathlib.Core.Logic.{◌⊎◌, inl, inr}
use mathlib.Core.List.{List}
use Prim.Native.Nat.{ℕ, ◌<◌}
use native.Mathlib.Omega.{arith}
use lib.IntN.{ℤ}
use Rattle.charts.specs.Verdict.{Verdict}
use Rattle.charts.specs.Verdict.{Accepted, Refused}
use Rattle.charts.specs.Answer.{listing_of}
use Rattle.charts.specs.Pair.{pair_verdict_of}
use Rattle.charts.specs.Demand.{Due, nine, three, piece, ListingDue, refused, eight, PairDue, not_ten, ten}
use Rattle.charts.proofs.Listing.{listing_refuses_exactly}
use Rattle.charts.proofs.Ten.{pair_refuses_exactly}
use Rattle.promises.specs.Refusals.{RefusalPromises}

-- a call whose inputs are refused or accepted
module _ {I O : Type 0} {Refuse : I → ℕ → ℕ → Type 0} {Accept : I → Type 0} {Allowed : I → O → Type 0} {number place : O → ℕ} {whole : I → ℕ → ℕ → O}
    (decided : (i : I) → Accept i ⊎ ((k : ℕ) × (p : ℕ) × (0 < k) × Refuse i k p))
    (as_whole : (i : I) (o : O) → Allowed i o → (k p : ℕ) → Refuse i k p → o ≡ whole i k p)
    (as_done : (i : I) (o : O) → Allowed i o → Accept i → (number o ≡ 0) × (place o ≡ 0))
    (tells : (i : I) (k p : ℕ) → (number (whole i k p) ≡ k) × (place (whole i k p) ≡ p)) where
  told : (i : I) (o : O) → Allowed i o → (k p : ℕ) → Refuse i k p → (number o ≡ k) × (place o ≡ p)
  told i o a k p d = let e = as_whole i o a k p d in let t = tells i k p in (ap number e ∙ t.0, ap place e ∙ t.1)

  pub refusing : RefusalPromises Refuse Accept Allowed number place whole
  refusing =
      record {
        refuses_exactly = λ i o a k p h. (λ g. there i o a k p h g (decided i), λ d. told i o a k p d);
        refuses_whole = as_whole;
        done_exactly = λ i o a. ((λ g. back i o a g (decided i), λ c. (as_done i o a c).0), λ c. (as_done i o a c).1);
      }
    where
      there : (i : I) (o : O) → Allowed i o → (k p : ℕ) → 0 < k → (number o ≡ k) × (place o ≡ p) → Accept i ⊎ ((k : ℕ) × (p : ℕ) × (0 < k) × Refuse i k p) → Refuse i k p
      there i o a k p h g (inl c) = absurd (omega (arith, (as_done i o a c).0, g.0))
      there i o a k p h g (inr (l, q, z, d)) =
          let t = told i o a l q d in
          subst (λ (m : ℕ × ℕ). Refuse i m.0 m.1) (λ j. ((sym t.0 ∙ g.0) j, (sym t.1 ∙ g.1) j)) d

      back : (i : I) (o : O) → Allowed i o → number o ≡ 0 → Accept i ⊎ ((k : ℕ) × (p : ℕ) × (0 < k) × Refuse i k p) → Accept i
      back i o a g (inl c) = c
      back i o a g (inr (l, q, z, d)) = absurd (omega (arith, (told i o a l q d).0, g, z))

-- ---- a refusal has a number above 0
due_above : (list : List ℤ) (k p : ℕ) → Due list (Refused k p) → 0 < k
due_above list k p (nine h) = omega arith
due_above list k p (three n e h) = omega arith
due_above list k p (piece n e h i j l s f) = omega arith

listing_above : (list : List ℤ) (lent k p : ℕ) → ListingDue list lent (Refused k p) → 0 < k
listing_above list lent k p (refused _ _ d) = due_above list k p d
listing_above list lent k p (eight n d h) = omega arith

pair_above : (list : List ℤ) (k p : ℕ) → PairDue list (Refused k p) → 0 < k
pair_above list k p (not_ten h) = omega arith
pair_above list k p (ten e v d) = due_above list k p d

module _ (D : Verdict → Type 0) (above : (k p : ℕ) → D (Refused k p) → 0 < k) where
  by_verdict : (v : Verdict) → D v → ((n : ℕ) × D (Accepted n)) ⊎ ((k : ℕ) × (p : ℕ) × (0 < k) × D (Refused k p))
  by_verdict (Accepted n) d = inl (n, d)
  by_verdict (Refused k p) d = inr (k, p, above k p d, d)

pub listing_decided : (list : List ℤ) (lent : ℕ) → ((n : ℕ) × ListingDue list lent (Accepted n)) ⊎ ((k : ℕ) × (p : ℕ) × (0 < k) × ListingDue list lent (Refused k p))
listing_decided list lent =
    by_verdict (ListingDue list lent) (listing_above list lent) (listing_of list lent) ((listing_refuses_exactly list lent (listing_of list lent)).0 refl)

pub pair_decided : (list : List ℤ) → ((n : ℕ) × PairDue list (Accepted n)) ⊎ ((k : ℕ) × (p : ℕ) × (0 < k) × PairDue list (Refused k p))
pair_decided list =
    by_verdict (PairDue list) (pair_above list) (pair_verdict_of list) ((pair_refuses_exactly list (pair_verdict_of list)).0 refl)
