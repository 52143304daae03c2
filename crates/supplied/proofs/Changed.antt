-- A right list with one entry taken out, replaced or put in twice is not right.
-- Assumes nothing.
use mathlib.Core.Path.{◌≡◌, refl, sym, ap, ◌∙◌}
use mathlib.Core.List.{List, [], ◌∷◌, ◌++◌}
use mathlib.Core.List.Memᴰ
use mathlib.Core.List.Memᴰ.{cases_cons}
use mathlib.Core.List.Memᴰ.{head as here}
use mathlib.Core.List.Memᴰ.{tail as there}
use mathlib.Core.List.{Memᴰ as In}
use mathlib.Core.Logic.{◌⊎◌, inl, inr, ⊎_elim, ◌≢◌}
use Prim.Native.Nat.{ℕ, ◌<◌}
use lib.IntN.{ℤ}
use Rattle.line_segment.specs.Demand.{Meet}
use Rattle.charts.specs.Piece.{piece_at}
use Rattle.naive.specs.Pairs.{Pair}
use Rattle.naive.specs.Demand.{Pairwise}
use Rattle.supplied.specs.Demand.{turn, Lists, RefusesOneLess, RefusesAnother, RefusesTwice}
use Rattle.supplied.proofs.Sides.{turned}
use Rattle.supplied.proofs.Exactly.{Either, less, equal, more, either}
use Rattle.supplied.proofs.Written.{accepts_lists}

-- the entries beside one are of other pairs
beside : (s t : List Pair) (p q : Pair) → Pairwise (λ p q. (p ≢ q) × (turn p ≢ q)) (s ++ (p ∷ t)) → (q ≡ p) ⊎ (q ≡ turn p) → In q (s ++ t) → ⊥
beside [] t p q w e m = ⊎_elim (λ z. (w.0 q m).0 (sym z)) (λ z. (w.0 q m).1 (sym z)) e
beside (x ∷ s) t p q w e m =
    ⊎_elim
    (λ (z : q ≡ x). ⊎_elim (λ y. (w.0 p (Memᴰ.append_right s (here refl))).0 (sym z ∙ y)) (λ y. (w.0 p (Memᴰ.append_right s (here refl))).1 (ap turn (sym z ∙ y))) e)
    (λ (o : In q (s ++ t)). beside s t p q w.1 e o)
    (cases_cons m)

-- an entry other than the one in the middle stands beside it
not_middle : (s t : List Pair) (x q : Pair) → x ≢ q → In x (s ++ (q ∷ t)) → In x (s ++ t)
not_middle [] t x q d m = ⊎_elim (λ z. absurd (d z)) (λ o. o) (cases_cons m)
not_middle (y ∷ s) t x q d m = ⊎_elim (λ z. here z) (λ o. there (not_middle s t x q d o)) (cases_cons m)

module _ (list : List ℤ) (n : ℕ) where
  -- a meeting pair is listed, one way round or the other
  listed : (l : List Pair) → Lists list n l → (p : Pair) → p.0 < n → p.1 < n → p.0 ≢ p.1 → Meet (piece_at list p.0) (piece_at list p.1) → In p l ⊎ In (turn p) l
  listed l o p h k d m = go (either p.0 p.1)
    where
      go : Either p.0 p.1 → In p l ⊎ In (turn p) l
      go (less g) = ⊎_elim (λ z. inr z) (λ z. inl z) (o.each p.1 p.0 g k (turned _ _ m))
      go (equal e) = absurd (d e)
      go (more g) = o.each p.0 p.1 g h m

  still : (s t l : List Pair) (p : Pair) → Lists list n (s ++ (p ∷ t)) → Lists list n l → In p l ⊎ In (turn p) l
  still s t l p a b = let w = a.only p (Memᴰ.append_right s (here refl)) in listed l b p w.0 w.1 w.2 w.3

  both_beside : (s t : List Pair) (p : Pair) → Lists list n (s ++ (p ∷ t)) → In p (s ++ t) ⊎ In (turn p) (s ++ t) → ⊥
  both_beside s t p a m = ⊎_elim (λ z. beside s t p p a.once (inl refl) z) (λ z. beside s t p (turn p) a.once (inr refl) z) m

pub refuses_twice : RefusesTwice
refuses_twice list n s t p e m q = both_beside list n s t p ((accepts_lists list n (s ++ (p ∷ t)) e).0 q) m

pub refuses_one_less : RefusesOneLess
refuses_one_less list n s t p e q r =
    let a = (accepts_lists list n (s ++ (p ∷ t)) e).0 q in
    both_beside list n s t p a (still list n s t (s ++ t) p a ((accepts_lists list n (s ++ t) e).0 r))

pub refuses_another : RefusesAnother
refuses_another list n s t p q e d f g r =
    let a = (accepts_lists list n (s ++ (p ∷ t)) e).0 g in
    let b = (accepts_lists list n (s ++ (q ∷ t)) e).0 r in
    both_beside list n s t p a
    (⊎_elim
    (λ z. inl (not_middle s t p q (λ y. d (sym y)) z))
    (λ z. inr (not_middle s t (turn p) q (λ y. f (sym y)) z))
    (still list n s t (s ++ (q ∷ t)) p a b))
