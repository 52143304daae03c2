-- Where two active pieces cross next, two neighbours of the active list cross: every piece between goes through too.
use mathlib.Core.Path.{◌≡◌, refl, sym, ◌∙◌}
use mathlib.Core.Logic.{◌⊎◌, ⊎_elim, ◌≢◌, by_cases}
use mathlib.Core.Bool.{true}
use mathlib.Core.List.{List, [], ◌∷◌}
use mathlib.Core.List.Memᴰ.{head as here}
use mathlib.Core.List.Memᴰ.{tail as there}
use mathlib.Core.List.{Memᴰ as In}
use Prim.Native.Nat.{ℕ, ◌<◌}
use native.Mathlib.Omega.{arith}
use Rattle.sweep.specs.Lists.{Pair, lesser_first, adjacent_from, adjacent, Pairwise}
use Rattle.sweep.specs.Chart.{crosses, Chart}
use Rattle.sweep.specs.Geometry.{Occurs}
use Rattle.sweep.proofs.Tests.{clash}
use Rattle.sweep.proofs.Ranked.{Act, Hit, Ranked}

module _ (C : Chart) (F : Ranked C) (p c : C.Point) where
  open C use {n, max, contains, test, crossing, before}
  open F use {On, Aligned}
  open F.keyed use {key}

  -- two pieces that cross at c, as a member of a list of pairs
  pub record CrossAt (qs : List Pair) : Type 0 where
    pub a : ℕ
    pub b : ℕ
    pub a_in : a < n
    pub b_in : b < n
    pub apart : a ≢ b
    pub meet : test a b ≡ crosses
    pub there_at : c ≡ crossing a b
    pub member : In (lesser_first a b) qs

  further : (qs : List Pair) (q : Pair) → CrossAt qs → CrossAt (q ∷ qs)
  further qs q r =
      record { a = r.a; b = r.b; a_in = r.a_in; b_in = r.b_in; apart = r.apart; meet = r.meet; there_at = r.there_at; member = there r.member }

  -- active at p and beyond c
  abbrev Spans : ℕ → Type 0
  Spans i = Act C key p i × (key c < key (max i))

  abbrev Line : List ℕ → Type 0
  Line = Pairwise (λ i j. before p i j ≡ true)

  before_ne : (i j : ℕ) → before p i j ≡ true → i ≢ j
  before_ne i j e d = clash {b = before p j j} (rw d at e) (F.before_irr p j)

  module _ (op : Occurs C p) (oc : Occurs C c) (pc : key p < key c) (clear : (i j : ℕ) → i < n → j < n → i ≢ j → ¬ Hit C key p c i j) where
    found : (x y : ℕ) (qs : List Pair) → Spans x → Spans y → before p x y ≡ true → On x c → On y c → ¬ Aligned x y → In (lesser_first x y) qs → CrossAt qs
    found x y qs ox oy e nx ny na m =
        let ne : x ≢ y = before_ne x y e in
        let hx : contains x c ≡ true = F.on_contains x c ox.0.0 oc nx (omega arith) (omega arith) in
        let hy : contains y c ≡ true = F.on_contains y c oy.0.0 oc ny (omega arith) (omega arith) in
        let k : test x y ≡ crosses = F.contains_crosses x y c ox.0.0 oy.0.0 ne oc hx hy na in
        record { a = x; b = y; a_in = ox.0.0; b_in = oy.0.0; apart = ne; meet = k; there_at = F.crossing_only x y c ox.0.0 oy.0.0 ne oc k nx ny; member = m }

    -- no crossing lies between p and c, so the squeeze leaves one case
    between : (x y j : ℕ) → Spans x → Spans y → Spans j → before p x y ≡ true → before p y j ≡ true → On x c → On j c → On y c
    between x y j ox oy oj e d nx nj =
        ⊎_elim
        (λ (h : On y c). h)
        (λ (h : Hit C key p c x y ⊎ Hit C key p c y j).
        absurd
        (⊎_elim
        (λ (k : Hit C key p c x y). clear x y ox.0.0 oy.0.0 (before_ne x y e) k)
        (λ (k : Hit C key p c y j). clear y j oy.0.0 oj.0.0 (before_ne y j d) k)
        h))
        (F.squeeze p c op oc pc x y j ox.0 oy.0 oj.0 ox.1 oy.1 oj.1 e d nx nj)

    along : (x : ℕ) (l : List ℕ) (j : ℕ) → ((i : ℕ) → In i (x ∷ l) → Spans i) → Line (x ∷ l) → In j l → On x c → On j c → ¬ Aligned x j → CrossAt (adjacent_from x l)
    unfolding adjacent_from
    along x [] j ok ln m nx nj na = elim m [ ]
    along x (y ∷ l) j ok ln (here q) nx nj na =
        found x y (adjacent_from x (y ∷ l)) (ok x (here refl)) (ok y (there (here refl))) (ln.0 y (here refl)) nx (rw q at nj) (rw q at na) (here refl)
    along x (y ∷ l) j ok ln (there m) nx nj na =
        let ox : Spans x = ok x (here refl) in
        let oy : Spans y = ok y (there (here refl)) in
        let oj : Spans j = ok j (there (there m)) in
        let e : before p x y ≡ true = ln.0 y (here refl) in
        let ny : On y c = between x y j ox oy oj e (ln.1.0 j m) nx nj in
        by_cases (F.aligned_dec x y)
        (λ (h : Aligned x y).
        further (adjacent_from y l) (lesser_first x y)
        (along y l j (λ i k. ok i (there k)) ln.1 m ny nj
        (λ (g : Aligned y j). na (F.aligned_trans x y j c ox.0.0 oy.0.0 oj.0.0 oc nx ny nj h g))))
        (λ (h : ¬ Aligned x y). found x y (adjacent_from x (y ∷ l)) ox oy e nx ny h (here refl))

    -- two members that go through c and are not on one line: then so do two neighbours
    pub neighbours : (l : List ℕ) (i j : ℕ) → ((k : ℕ) → In k l → Spans k) → Line l → In i l → In j l → i ≢ j → On i c → On j c → ¬ Aligned i j → ¬ Aligned j i → CrossAt (adjacent l)
    unfolding adjacent adjacent_from
    neighbours [] i j ok ln mi mj ne ni nj na na' = elim mi [ ]
    neighbours (x ∷ l) i j ok ln (here q) (here r) ne ni nj na na' = absurd (ne (q ∙ sym r))
    neighbours (x ∷ l) i j ok ln (here q) (there m) ne ni nj na na' = along x l j ok ln m (rw q at ni) nj (rw q at na)
    neighbours (x ∷ l) i j ok ln (there m) (here q) ne ni nj na na' = along x l i ok ln m (rw q at nj) ni (rw q at na')
    neighbours (x ∷ l) i j ok ln (there m) (there k) ne ni nj na na' = widen l (neighbours l i j (λ k h. ok k (there h)) ln.1 m k ne ni nj na na')
      where
        widen : (l : List ℕ) → CrossAt (adjacent l) → CrossAt (adjacent_from x l)
        widen [] r = elim r.member [ ]
        widen (y ∷ l) r = further (adjacent_from y l) (lesser_first x y) r
