-- Examining adjacent pairs lists nothing, since whatever met is listed: it only sets pairs to wait.
use mathlib.Core.Path.{◌≡◌, refl, ap, ◌∙◌}
use mathlib.Core.Logic.{◌⊎◌, inl, inr, ⊎_elim}
use mathlib.Core.Bool.{true, false, ◌||◌}
use mathlib.Core.List.{List, [], ◌∷◌}
use mathlib.Core.List.Memᴰ.{head as here}
use mathlib.Core.List.Memᴰ.{tail as there}
use mathlib.Core.List.{Memᴰ as In}
use Prim.Native.Nat.{suc, ◌≤◌, ◌<◌}
use native.Mathlib.Omega.{arith}
use Rattle.sweep.specs.Lists.{Pair, among}
use Rattle.sweep.specs.Chart.{nothing, crosses, overlaps, Chart, meets, kind, at}
use Rattle.sweep.specs.State.{Marks}
use Rattle.sweep.specs.Step.{wait, each, examine_free, examine}
use Rattle.sweep.specs.Sought.{first}
use Rattle.sweep.specs.Geometry.{Occurs}
use Rattle.sweep.specs.Demand.{Pieces}
use Rattle.sweep.proofs.Tests.{ask, or_one, neither, clash}
use Rattle.sweep.proofs.Pairs.{among_in, among_out}
use Rattle.sweep.proofs.Sorting.{place_in, place_out}
use Rattle.sweep.proofs.Occurring.{at_occurs}
use Rattle.sweep.proofs.Ranked.{Ranked, less_true, less_false}
use Rattle.sweep.proofs.First.{kind_cases, two_meet, first_crosses, first_min}
use Rattle.sweep.proofs.Marked.{Known, Good}

module _ (C : Chart) (F : Ranked C) (p : C.Point) (op : Occurs C p) where
  open C use {less, min}
  open F.keyed use {key}

  -- both pieces have begun
  abbrev pub Begun : Pair → Type 0
  Begun q = (key (min q.0) ≤ key p) × (key (min q.1) ≤ key p)

  -- what examining a pair comes to: nothing new, or the pair waits
  abbrev Looked : Pair → Marks → Marks → Type 0
  Looked q m e = ((e ≡ m) × Known C m q) ⊎ ((e ≡ wait C q m) × (kind C q ≡ crosses) × (key p < key (at C q)))

  examine_marked : (q : Pair) (m : Marks) → (among q m.listed || among q m.waiting) ≡ true → examine C p q m ≡ m
  unfolding examine
  examine_marked q m e = rw e

  examine_else : (q : Pair) (m : Marks) → (among q m.listed || among q m.waiting) ≡ false → examine C p q m ≡ examine_free C p (kind C q) q m
  unfolding examine
  examine_else q m e = rw e

  look : (q : Pair) (m : Marks) → Good C F (suc (key p)) m → Pieces C q → Begun q → Looked q m (examine C p q m)
  unfolding examine_free
  look q m G v b =
      ⊎_elim
      (λ (a : (among q m.listed || among q m.waiting) ≡ true).
      inl (
        examine_marked q m a,
        ⊎_elim
            (λ (h : among q m.listed ≡ true). inl (among_out q m.listed h))
            (λ (h : among q m.waiting ≡ true). inr (inl (among_out q m.waiting h)))
            (or_one (among q m.listed) (among q m.waiting) a),
      ))
      (λ (a : (among q m.listed || among q m.waiting) ≡ false).
      let free : ¬ In q m.listed = λ h. clash (among_in h) (neither (among q m.listed) (among q m.waiting) a).0 in
      ⊎_elim
      (λ (k : kind C q ≡ nothing). inl (examine_else q m a ∙ rw k, inr (inr k)))
      (λ (r : (kind C q ≡ crosses) ⊎ (kind C q ≡ overlaps)).
      let me : meets (kind C q) ≡ true = two_meet (kind C q) r in
      ⊎_elim
      (λ (k : kind C q ≡ crosses).
      let f = ap key (first_crosses C q k) in
      let oc = at_occurs C q v k in
      ⊎_elim
      (λ (l : less p (at C q) ≡ true). inr (examine_else q m a ∙ rw (k, l), k, less_true C F.keyed p (at C q) op oc l))
      (λ (l : less p (at C q) ≡ false). absurd (free (G.pairs_met.full q v me (omega (arith, less_false C F.keyed p (at C q) op oc l)))))
      (ask (less p (at C q))))
      (λ (k : kind C q ≡ overlaps).
      absurd
      (free (G.pairs_met.full q v me
      (⊎_elim (λ (g : first C q ≡ min q.0). omega (arith, ap key g)) (λ (g : first C q ≡ min q.1). omega (arith, ap key g)) (first_min C F q v k)))))
      r)
      (kind_cases (kind C q)))
      (ask (among q m.listed || among q m.waiting))

  wait_good : (q : Pair) (m : Marks) → Good C F (suc (key p)) m → Pieces C q → kind C q ≡ crosses → key p < key (at C q) → Good C F (suc (key p)) (wait C q m)
  unfolding wait
  wait_good q m G v k l = record { pairs_met = G.pairs_met; ahead = λ r h. ahead r (place_out _ q m.waiting h) }
    where
      ahead : (r : Pair) → In r (q ∷ m.waiting) → Pieces C r × (kind C r ≡ crosses) × (suc (key p) ≤ key (at C r))
      ahead r (here e) = rw e (v, k, l)
      ahead r (there h) = G.ahead r h

  wait_known : (q r : Pair) (m : Marks) → Known C m r → Known C (wait C q m) r
  unfolding wait
  wait_known q r m (inl h) = inl h
  wait_known q r m (inr (inl h)) = inr (inl (place_in _ q m.waiting (there h)))
  wait_known q r m (inr (inr e)) = inr (inr e)

  -- what a look at a list of pairs leaves
  pub record After (l : List Pair) (m e : Marks) : Type 0 where
    pub good : Good C F (suc (key p)) e
    pub same_list : e.listed ≡ m.listed
    pub kept : (q : Pair) → Known C m q → Known C e q
    pub known : (q : Pair) → In q l → Known C e q

  after_one : (q : Pair) (m e : Marks) → Good C F (suc (key p)) m → Pieces C q → Looked q m e → After (q ∷ []) m e
  unfolding wait
  after_one q m e G v (inl (d, k)) = rw d (record { good = G; same_list = refl; kept = λ r h. h; known = λ r h. one r h })
    where
      one : (r : Pair) → In r (q ∷ []) → Known C m r
      one r (here g) = rw g k
      one r (there h) = elim h [ ]
  after_one q m e G v (inr (d, k, l)) =
      rw d (record { good = wait_good q m G v k l; same_list = refl; kept = λ r h. wait_known q r m h; known = λ r h. one r h })
    where
      one : (r : Pair) → In r (q ∷ []) → Known C (wait C q m) r
      one r (here g) = rw g (inr (inl (place_in _ q m.waiting (here refl))))
      one r (there h) = elim h [ ]

  after_more : (q : Pair) (l : List Pair) (m d e : Marks) → After (q ∷ []) m d → After l d e → After (q ∷ l) m e
  after_more q l m d e a b =
      record { good = b.good; same_list = b.same_list ∙ a.same_list; kept = λ r h. b.kept r (a.kept r h); known = λ r h. fix r h }
    where
      fix : (r : Pair) → In r (q ∷ l) → Known C e r
      fix r (here g) = b.kept r (a.known r (here g))
      fix r (there h) = b.known r h

  pub examined_after : (l : List Pair) (m : Marks) → Good C F (suc (key p)) m → ((q : Pair) → In q l → Pieces C q × Begun q) → After l m (each (examine C p) l m)
  unfolding each
  examined_after [] m G ok = record { good = G; same_list = refl; kept = λ q h. h; known = λ q h. elim h [ ] }
  examined_after (q ∷ l) m G ok =
      let o = ok q (here refl) in
      let a = after_one q m (examine C p q m) G o.0 (look q m G o.0 o.1) in
      after_more q l m (examine C p q m) _ a (examined_after l (examine C p q m) a.good (λ r h. ok r (there h)))
