-- The active list and the ends, sorted by insertion from the right.
use mathlib.Core.Path.{◌≡◌, refl, sym, ◌∙◌}
use mathlib.Core.Logic.{◌≢◌, ⊎_elim}
use mathlib.Core.Bool.{Bool, true, false}
use mathlib.Core.List.{List, [], ◌∷◌}
use mathlib.Core.List.Memᴰ.{head as here}
use mathlib.Core.List.Memᴰ.{tail as there}
use mathlib.Core.List.{Memᴰ as In}
use Prim.Native.Nat.{ℕ, ◌<◌}
use Rattle.sweep.specs.Lists.{place, sort_into, sort, Pairwise}
use Rattle.sweep.specs.Chart.{Chart}
use Rattle.sweep.proofs.Tests.{ask, clash}
use Rattle.sweep.proofs.Lists.{pairwise_map}
use Rattle.sweep.proofs.Sorting.{place_out, place_sorted}
use Rattle.ported_arrays.specs.Insertion.{insert_all}
use Rattle.ported_arrays.specs.Agreement.{Ordered}
use Rattle.ported_arrays.proofs.Inserting.{insert_all_sort}
use Rattle.ported_arrays.proofs.Order.{Up, nearer, place_up, not_after}

-- distinct members put in one by one are sorted, by an order that is transitive and total on them
module _ (before : ℕ → ℕ → Bool) (Ok : ℕ → Type 0) (trans : (x y z : ℕ) → Ok x → Ok y → Ok z → before x y ≡ true → before y z ≡ true → before x z ≡ true)
    (total : (x y : ℕ) → Ok x → Ok y → x ≢ y → before x y ≡ false → before y x ≡ true) where
  record Ranking (done l : List ℕ) : Type 0 where
    done_ok : (y : ℕ) → In y done → Ok y
    ok : (y : ℕ) → In y l → Ok y
    once : Pairwise (λ x y. x ≢ y) l
    apart : (x y : ℕ) → In x l → In y done → x ≢ y
    sorted : Pairwise (λ x y. before x y ≡ true) done

  rank_one : (x : ℕ) (done l : List ℕ) → Ranking done (x ∷ l) → Pairwise (λ y z. before x y ≡ true → before x z ≡ true) done × Ranking (place before x done) l
  rank_one x done l k = (
    pairwise_map _ _ done (λ y z m h e f. trans x y z (k.ok x (here refl)) (k.done_ok y m) (k.done_ok z h) f e) k.sorted,
    record {
      done_ok = λ y m. one y (place_out before x done m);
      ok = λ y m. k.ok y (there m);
      once = k.once.1;
      apart = λ z y m h. two z y m (place_out before x done h);
      sorted = place_sorted before Ok trans total x done (k.ok x (here refl)) k.done_ok (λ y m. k.apart x y (here refl) m) k.sorted;
    },
  )
    where
      one : (y : ℕ) → In y (x ∷ done) → Ok y
      one y (here e) = rw e (k.ok x (here refl))
      one y (there m) = k.done_ok y m

      two : (z y : ℕ) → In z l → In y (x ∷ done) → z ≢ y
      two z y m (here e) d = k.once.0 z m (sym (d ∙ e))
      two z y m (there h) d = k.apart z y (there m) h d

  pub inserted_sort : (l : List ℕ) → ((y : ℕ) → In y l → Ok y) → Pairwise (λ x y. x ≢ y) l → insert_all before [] l ≡ sort before l
  unfolding sort
  inserted_sort l ok o =
      insert_all_sort before Ranking rank_one [] l
      (record { done_ok = λ y m. elim m [ ]; ok = ok; once = o; apart = λ x y m h. elim h [ ]; sorted = tt })

module _ (C : Chart) (O : Ordered C) where
  open C use {Point, less, n, before}
  open O use {Fit}

  pub resorted : (p : Point) → Fit p → (l : List ℕ) → ((y : ℕ) → In y l → y < n) → Pairwise (λ x y. x ≢ y) l → insert_all (before p) [] l ≡ sort (before p) l
  resorted p fit = inserted_sort (before p) (λ i. i < n) (O.before_trans p fit) (O.before_total p fit)

  -- things in the order of their points
  module _ (point : ℕ → Point) where
    record Settling (done l : List ℕ) : Type 0 where
      done_fit : (y : ℕ) → In y done → Fit (point y)
      fits : (y : ℕ) → In y l → Fit (point y)
      up : Up C point done

    settle_one : (x : ℕ) (done l : List ℕ) → Settling done (x ∷ l)
        → Pairwise (λ y z. nearer C point x y ≡ true → nearer C point x z ≡ true) done × Settling (place (nearer C point) x done) l
    settle_one x done l k = (
      pairwise_map _ _ done (λ y z m h e f. beyond y z m h e f) k.up,
      record {
        done_fit = λ y m. one y (place_out (nearer C point) x done m);
        fits = λ y m. k.fits y (there m);
        up = place_up C O point x done (k.fits x (here refl)) k.done_fit k.up;
      },
    )
      where
        one : (y : ℕ) → In y (x ∷ done) → Fit (point y)
        one y (here e) = rw e (k.fits x (here refl))
        one y (there m) = k.done_fit y m

        beyond : (y z : ℕ) → In y done → In z done → less (point z) (point y) ≡ false → less (point x) (point y) ≡ true → less (point x) (point z) ≡ true
        beyond y z m h e f =
            ⊎_elim
            (λ (g : less (point x) (point z) ≡ true). g)
            (λ (g : less (point x) (point z) ≡ false).
            clash f (not_after C O (point y) (point z) (point x) (k.done_fit y m) (k.done_fit z h) (k.fits x (here refl)) e g))
            (ask (less (point x) (point z)))

    pub settled : (l : List ℕ) → ((y : ℕ) → In y l → Fit (point y)) → insert_all (nearer C point) [] l ≡ sort (nearer C point) l
    unfolding sort
    settled l f =
        insert_all_sort (nearer C point) Settling settle_one [] l (record { done_fit = λ y m. elim m [ ]; fits = f; up = tt })

    into_up : (done l : List ℕ) → Settling done l → Up C point (sort_into (nearer C point) done l)
    unfolding sort_into
    into_up done [] k = k.up
    into_up done (x ∷ l) k = into_up (place (nearer C point) x done) l (settle_one x done l k).1

    pub settled_up : (l : List ℕ) → ((y : ℕ) → In y l → Fit (point y)) → Up C point (sort (nearer C point) l)
    unfolding sort
    settled_up l f = into_up [] l (record { done_fit = λ y m. elim m [ ]; fits = f; up = tt })
