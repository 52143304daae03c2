-- A list of pairs and its bytes: entry i is the i-th pair; so the list is accepted exactly when it has each meeting pair once.
-- Assumes nothing.
use mathlib.Core.Path.{◌≡◌, refl, sym, ap, ap₂, ◌∙◌, subst}
use mathlib.Core.List.{List, [], ◌∷◌}
use mathlib.Core.List.Memᴰ.{cases_cons}
use mathlib.Core.List.Memᴰ.{head as here}
use mathlib.Core.List.Memᴰ.{not-nil}
use mathlib.Core.List.Memᴰ.{tail as there}
use mathlib.Core.List.{Memᴰ as In}
use mathlib.Core.Logic.{◌⊎◌, inl, inr, ⊎_elim, ◌≢◌}
use Prim.Native.Nat.{ℕ, zero, suc, ◌+◌, ◌*◌, ◌/◌, ◌%◌, ◌<◌}
use native.Mathlib.Omega.{arith}
use lib.IntN.{ℤ}
use lib.ListN.{length, get_or}
use Rattle.naive.specs.AllPairs.{pairs_of}
use Rattle.naive.specs.Pairs.{Pair, bytes}
use Rattle.naive.specs.Demand.{Pairwise}
use Rattle.naive.proofs.Exactly.{lists_exactly, lists_once}
use Rattle.naive.proofs.Rows.{bytes_length}
use Rattle.supplied.specs.Entries.{one, other}
use Rattle.supplied.specs.Demand.{Names, Named, NamesOnce, turn, Lists, AcceptsLists, AcceptsAllPairs, AcceptsLesserFirst}
use Rattle.supplied.proofs.Sides.{turned}
use Rattle.supplied.proofs.Exactly.{accepts_exactly}

-- ---- entry i is pair i
one_next : (p : Pair) (ps : List Pair) (i : ℕ) → one (bytes (p ∷ ps)) (suc i) ≡ one (bytes ps) i
unfolding bytes
one_next p ps i = let e : 2 * suc i ≡ suc (suc (2 * i)) = omega arith in ap (λ (k : ℕ). get_or (p.0 ∷ p.1 ∷ bytes ps) k 0) e

other_next : (p : Pair) (ps : List Pair) (i : ℕ) → other (bytes (p ∷ ps)) (suc i) ≡ other (bytes ps) i
unfolding bytes
other_next p ps i = let e : 2 * suc i + 1 ≡ suc (suc (2 * i + 1)) = omega arith in ap (λ (k : ℕ). get_or (p.0 ∷ p.1 ∷ bytes ps) k 0) e

abbrev entry : List Pair → ℕ → Pair
entry ps i = (one (bytes ps) i, other (bytes ps) i)

entry_first : (p : Pair) (ps : List Pair) → entry (p ∷ ps) 0 ≡ p
unfolding bytes
entry_first p ps = refl

entry_next : (p : Pair) (ps : List Pair) (i : ℕ) → entry (p ∷ ps) (suc i) ≡ entry ps i
entry_next p ps i = ap₂ (λ (a b : ℕ). (a, b)) (one_next p ps i) (other_next p ps i)

at_in : (ps : List Pair) (i : ℕ) → i < length ps → In (entry ps i) ps
at_in [] i h = absurd (omega arith)
at_in (p ∷ ps) zero h = here (entry_first p ps)
at_in (p ∷ ps) (suc i) h = there (subst (λ (q : Pair). In q ps) (sym (entry_next p ps i)) (at_in ps i (omega arith)))

in_at : (ps : List Pair) (p : Pair) → In p ps → (i : ℕ) × (i < length ps) × (entry ps i ≡ p)
in_at [] p m = absurd (not-nil m)
in_at (q ∷ ps) p m =
    ⊎_elim
    (λ (e : p ≡ q). (0, omega arith, entry_first q ps ∙ sym e))
    (λ (o : In p ps). let r = in_at ps p o in let h = r.1 in (suc r.0, omega arith, entry_next q ps r.0 ∙ r.2))
    (cases_cons m)

module _ (R : Pair → Pair → Type 0) where
  pairwise_at : (ps : List Pair) → Pairwise R ps → (i j : ℕ) → i < j → j < length ps → R (entry ps i) (entry ps j)
  pairwise_at [] w i j h l = absurd (omega arith)
  pairwise_at (p ∷ ps) w i zero h l = absurd (omega arith)
  pairwise_at (p ∷ ps) w zero (suc j) h l =
      subst (λ (q : Pair). R q (entry (p ∷ ps) (suc j))) (sym (entry_first p ps)) (subst (R p) (sym (entry_next p ps j)) (w.0 _ (at_in ps j (omega arith))))
  pairwise_at (p ∷ ps) w (suc i) (suc j) h l =
      subst (λ (q : Pair). R q (entry (p ∷ ps) (suc j))) (sym (entry_next p ps i)) (subst (R (entry ps i)) (sym (entry_next p ps j)) (pairwise_at ps w.1 i j (omega arith) (omega arith)))

  at_pairwise : (ps : List Pair) → ((i j : ℕ) → i < j → j < length ps → R (entry ps i) (entry ps j)) → Pairwise R ps
  at_pairwise [] f = tt
  at_pairwise (p ∷ ps) f = (
    λ q m. let r = in_at ps q m in let h = r.1 in
        subst (R p) (entry_next p ps r.0 ∙ r.2) (subst (λ (x : Pair). R x (entry (p ∷ ps) (suc r.0))) (entry_first p ps) (f 0 (suc r.0) (omega arith) (omega arith))),
    at_pairwise ps (λ i j h l. subst (λ (x : Pair). R x (entry ps j)) (entry_next p ps i) (subst (R (entry (p ∷ ps) (suc i))) (entry_next p ps j) (f (suc i) (suc j) (omega arith) (omega arith)))),
  )

-- ---- as many entries as pairs
pub entries : (ps : List Pair) → length (bytes ps) / 2 ≡ length ps
entries ps = omega (arith, bytes_length ps)

pub even : (ps : List Pair) → length (bytes ps) % 2 ≡ 0
even ps = omega (arith, bytes_length ps)

module _ (list : List ℤ) (n : ℕ) (ps : List Pair) where
  names_entry : (i : ℕ) (p : Pair) → entry ps i ≡ p → Names list n (bytes ps) i p.0 p.1
  names_entry i p e = inl (ap (λ (q : Pair). q.0) e, ap (λ (q : Pair). q.1) e)

  in_named : (p : Pair) → In p ps → Named list n (bytes ps) (length (bytes ps) / 2) p.0 p.1
  in_named p m = let r = in_at ps p m in let h = r.1 in let c = entries ps in (r.0, omega arith, names_entry r.0 p r.2)

  entry_named : (i a b : ℕ) → i < length ps → Names list n (bytes ps) i a b → In (a, b) ps ⊎ In (b, a) ps
  entry_named i a b h (inl w) = inl (subst (λ (q : Pair). In q ps) (ap₂ (λ (x y : ℕ). (x, y)) w.0 w.1) (at_in ps i h))
  entry_named i a b h (inr w) = inr (subst (λ (q : Pair). In q ps) (ap₂ (λ (x y : ℕ). (x, y)) w.0 w.1) (at_in ps i h))

  lists : NamesOnce list n (bytes ps) → Lists list n ps
  lists o = record {
    only = λ p m. let r = in_at ps p m in let h = r.1 in let c = entries ps in o.only_meeting r.0 (omega arith) p.0 p.1 (names_entry r.0 p r.2);
    each = λ a b g p m. let w = o.each a b g p m in let h = w.1 in let c = entries ps in entry_named w.0 a b (omega arith) w.2;
    once = at_pairwise (λ p q. (p ≢ q) × (turn p ≢ q)) ps (λ i j h l. let c = entries ps in (
      λ e. o.once i j _ _ h (omega arith) (inl (refl, refl)) (names_entry j (entry ps i) (sym e)),
      λ e. o.once i j _ _ h (omega arith) (inl (refl, refl)) (inr (ap (λ (q : Pair). q.0) (sym e), ap (λ (q : Pair). q.1) (sym e))),
    ));
  }

  apart_once : (i j a b : ℕ) → (entry ps i ≢ entry ps j) × (turn (entry ps i) ≢ entry ps j) → Names list n (bytes ps) i a b → ¬ Names list n (bytes ps) j a b
  apart_once i j a b w (inl p) (inl q) = w.0 (ap₂ (λ (x y : ℕ). (x, y)) (p.0 ∙ sym q.0) (p.1 ∙ sym q.1))
  apart_once i j a b w (inl p) (inr q) = w.1 (ap₂ (λ (x y : ℕ). (x, y)) (p.1 ∙ sym q.0) (p.0 ∙ sym q.1))
  apart_once i j a b w (inr p) (inl q) = w.1 (ap₂ (λ (x y : ℕ). (x, y)) (p.1 ∙ sym q.0) (p.0 ∙ sym q.1))
  apart_once i j a b w (inr p) (inr q) = w.0 (ap₂ (λ (x y : ℕ). (x, y)) (p.0 ∙ sym q.0) (p.1 ∙ sym q.1))

  names : Lists list n ps → NamesOnce list n (bytes ps)
  names o = record {
    only_meeting = λ i h a b m. let c = entries ps in ⊎_elim
        (λ w. o.only (a, b) w)
        (λ w. let r = o.only (b, a) w in (r.1, r.0, λ e. r.2 (sym e), turned _ _ r.3))
        (entry_named i a b (omega arith) m);
    each = λ a b g p m. ⊎_elim (λ w. in_named (a, b) w) (λ w. let r = in_named (b, a) w in (r.0, r.1, ⊎_elim (λ v. inr v) (λ v. inl v) r.2)) (o.each a b g p m);
    once = λ i j a b h l p. let c = entries ps in apart_once i j a b (pairwise_at (λ p q. (p ≢ q) × (turn p ≢ q)) ps o.once i j h (omega arith)) p;
  }

pub accepts_lists : AcceptsLists
accepts_lists list n ps e =
    let a = accepts_exactly list n (bytes ps) e (even ps) in
    (λ q. lists list n ps (a.0 q), λ o. a.1 (names list n ps o))

-- ---- lists of one number order
no_turn : (ps : List Pair) → ((p q : Pair) → In p ps → In q ps → turn p ≢ q) → Pairwise (λ p q. p ≢ q) ps → Pairwise (λ p q. (p ≢ q) × (turn p ≢ q)) ps
no_turn [] d w = tt
no_turn (p ∷ ps) d w = (λ q m. (w.0 q m, d p q (here refl) (there m)), no_turn ps (λ q r m o. d q r (there m) (there o)) w.1)

-- two pairs, both the greater number first, or both the lesser
not_turned : (p q : Pair) → p.1 < p.0 → q.1 < q.0 → turn p ≢ q
not_turned p q h l z = let x : p.1 ≡ q.0 = ap (λ (r : Pair). r.0) z in let y : p.0 ≡ q.1 = ap (λ (r : Pair). r.1) z in absurd (omega arith)

pub accepts_all_pairs : AcceptsAllPairs
accepts_all_pairs list n e =
    (accepts_lists list n (pairs_of list n) e).1
    (record {
      only = λ p m. let r = (lists_exactly list n e p.0 p.1).0 m in let g = r.0 in let h = r.1 in (h, omega arith, λ q. absurd (omega arith), r.2);
      each = λ a b g p m. inl ((lists_exactly list n e a b).1 (g, p, m));
      once = no_turn (pairs_of list n) (λ p q m o. not_turned p q ((lists_exactly list n e p.0 p.1).0 m).0 ((lists_exactly list n e q.0 q.1).0 o).0) (lists_once list n);
    })

pub accepts_lesser_first : AcceptsLesserFirst
accepts_lesser_first list n ps e x w =
    (accepts_lists list n ps e).1
    (record {
      only = λ p m. let r = (x p.0 p.1).0 m in let g = r.0 in let h = r.1 in (omega arith, h, λ q. absurd (omega arith), r.2);
      each = λ a b g p m. inr ((x b a).1 (g, p, turned _ _ m));
      once = no_turn ps (λ p q m o z. not_turned (turn p) (turn q) ((x p.0 p.1).0 m).0 ((x q.0 q.1).0 o).0 (ap turn z)) w;
    })
