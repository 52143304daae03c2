-- The promises of the call for all pairs: an outcome that the contract allows is the list of all pairs.
-- Assumes nothing.
use mathlib.Core.Path.{◌≡◌, refl, sym, ap, ◌∙◌}
use mathlib.Core.List.{List}
use Prim.Native.Nat.{ℕ}
use lib.IntN.{ℤ}
use lib.ListN.{length}
use Rattle.charts.specs.declared.Answer.{Answer}
use Rattle.charts.specs.Verdict.{Accepted, Refused}
use Rattle.charts.specs.Chart.{verdict_of}
use Rattle.charts.specs.Answer.{done_with, refused_with, listing_of}
use Rattle.charts.specs.Demand.{ListingDue}
use Rattle.charts.proofs.Listing.{listing_goes, listing_refuses_exactly}
use Rattle.naive.specs.Pairs.{bytes, over}
use Rattle.naive.specs.AllPairs.{pairs_of, all_pairs_of, lent_after}
use Rattle.naive.proofs.Exactly as all
use Rattle.all_pairs.proofs.all_pairs.Reads as all_pairs
use Rattle.sweep.specs.Lists.{Pair}
use Rattle.promises.specs.Chart.{Accepts}
use Rattle.promises.specs.AllPairs.{Allowed, listed_in, AllPairsPromises}
use Rattle.promises.proofs.Refusing.{refusing, listing_decided}
use Rattle.naive.proofs.Reading.{read_back}

-- the contract of `all_pairs` itself allows no other outcome
pub allows_these : (κ : _) (a : _) (r : _) (s : _) → all_pairs.Post κ a r s → Allowed a.0.now a.1.0.now r s.1.0.now
allows_these κ a r s h = record { returned = h.0; left = h.1 }

-- an outcome on an accepted list
module _ (list : List ℤ) (n : ℕ) (lent : List ℕ) (c : Accepts list lent n) {r : Answer} {after : List ℕ} (o : Allowed list lent r after) where
  given : listing_of list (length lent) ≡ Accepted n
  given = (listing_refuses_exactly list (length lent) (Accepted n)).1 c

  pub accepted : verdict_of list ≡ Accepted n
  accepted = (listing_goes list (length lent) n given).0

  says : r ≡ done_with (length (pairs_of list n))
  unfolding all_pairs_of
  says = o.returned ∙ rw given

  leaves : after ≡ over (bytes (pairs_of list n)) lent
  unfolding lent_after
  leaves = o.left ∙ rw given

  pub its_count : r.count ≡ length (pairs_of list n)
  its_count = ap (λ (s : Answer). s.count) says

  pub its_list : listed_in r after ≡ pairs_of list n
  its_list = rw (says, leaves) (read_back (pairs_of list n) lent)

refused_whole : (list : List ℤ) (lent : List ℕ) (r : Answer) (after : List ℕ) → Allowed list lent r after → (k p : ℕ) → ListingDue list (length lent) (Refused k p)
    → ◌≡◌ {A = Answer × List ℕ} (r, after) (refused_with k p, lent)
unfolding all_pairs_of lent_after
refused_whole list lent r after o k p d =
    let e = (listing_refuses_exactly list (length lent) (Refused k p)).1 d in
    let f : r ≡ refused_with k p = o.returned ∙ rw e in
    let g : after ≡ lent = o.left ∙ rw e in
    λ i. (f i, g i)

pub all_pairs_promises : AllPairsPromises Allowed
all_pairs_promises =
    record {
      lists_exactly = λ list n lent r after c o a b. rw (its_list list n lent c o) (all.lists_exactly list n (accepted list n lent c o) a b);
      lists_in_order = λ list n lent r after c o. rw (its_list list n lent c o) (all.lists_in_order list n);
      lists_once = λ list n lent r after c o. rw (its_list list n lent c o) (all.lists_once list n);
      keeps_the_rest = λ list n lent r after c o.
          let l = its_list list n lent c o in
          (its_count list n lent c o ∙ ap length (sym l), leaves list n lent c o ∙ ap (λ (m : List Pair). over (bytes m) lent) (sym l));
      refusals = refusing
          (λ i. listing_decided i.0 (length i.1))
          (λ i o a. refused_whole i.0 i.1 o.0 o.1 a)
          (λ i o a c. let s = says i.0 c.0 i.1 c.1 a in (ap (λ (t : Answer). t.number) s, ap (λ (t : Answer). t.place) s))
          (λ i k p. (refl, refl));
    }
