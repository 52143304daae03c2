-- A pass over the pieces at the next point, of whichever mode, lists exactly the pairs that meet first there, in number
-- order.
use mathlib.Core.Path.{◌≡◌, sym, ap, ◌∙◌}
use mathlib.Core.Logic.{⊎_elim, ◌≢◌, by_cases}
use mathlib.Core.Bool.{Bool, true, false, ◌&&◌, not}
use mathlib.Core.Option.{Option}
use mathlib.Core.List.Memᴰ
use mathlib.Core.List.{List, [], ◌∷◌, ◌++◌, append_assoc, append-nil}
use mathlib.Core.List.{Memᴰ as In}
use Prim.Native.Nat.{ℕ, suc, ◌<◌}
use native.Mathlib.Omega.{arith}
use native.Mathlib.Decide.{dec_lt}
use Rattle.sweep.specs.Lists.{Pair, among, upto, keep, pairs, Pairwise}
use Rattle.sweep.specs.Chart.{Chart, meets, same, kind}
use Rattle.sweep.specs.Step.{each}
use Rattle.sweep.specs.Sought.{all, first, pairs_at}
use Rattle.sweep.specs.Geometry.{Occurs}
use Rattle.sweep.specs.Demand.{Pieces}
use Rattle.sweep.proofs.Tests.{ask, clash, and_both, not_true, same_test}
use Rattle.sweep.proofs.Lists.{keep_yes, keep_no, keep_keep, keep_same, pairwise_keep}
use Rattle.sweep.proofs.Pairs.{both, upto_up, pairs_keep, pairs_once, among_in, among_no, among_snoc}
use Rattle.sweep.proofs.Occurring.{all_out}
use Rattle.sweep.proofs.Ranked.{Ranked, same_yes, same_true}
use Rattle.sweep.proofs.First.{first_on, first_occurs, first_least, pairs_at_in, pairs_at_out}
use Rattle.sweep.proofs.Between.{bound, Met, Soonest}

module _ (C : Chart) where
  abbrev pub unlisted : List Pair → Pair → Bool
  unlisted listed q = not (among q listed) && meets (kind C q)

  -- a choice among the pairs of the pieces on p that takes those that meet first there, and no other
  module _ (F : Ranked C) (p : C.Point) (op : Occurs C p) (part : ℕ → Bool)
      (part_on : (i : ℕ) → i < C.n → part i ≡ true → F.On i p) (on_part : (i : ℕ) → i < C.n → F.On i p → part i ≡ true)
      (choice : Pair → Bool)
      (sound : (q : Pair) → Pieces C q → F.On q.0 p → F.On q.1 p → choice q ≡ true → (meets (kind C q) ≡ true) × (F.keyed.key (first C q) ≡ F.keyed.key p))
      (whole : (q : Pair) → Pieces C q → meets (kind C q) ≡ true → F.keyed.key (first C q) ≡ F.keyed.key p → choice q ≡ true) where
    choice_is : (q : Pair) → Pieces C q → (both part q && choice q) ≡ (meets (kind C q) && same C (first C q) p)
    choice_is q v = same_test (both part q && choice q) (meets (kind C q) && same C (first C q) p) to fro
      where
        to : (both part q && choice q) ≡ true → (meets (kind C q) && same C (first C q) p) ≡ true
        to e =
            let r = and_both (both part q) (choice q) e in
            let t = and_both (part q.0) (part q.1) r.0 in
            let m = sound q v (part_on q.0 (omega arith) t.0) (part_on q.1 v.1 t.1) r.1 in
            rw (m.0, same_yes C F.keyed (first C q) p (first_occurs C F q v m.0) op m.1)

        fro : (meets (kind C q) && same C (first C q) p) ≡ true → (both part q && choice q) ≡ true
        fro e =
            let r = and_both (meets (kind C q)) (same C (first C q) p) e in
            let o = first_occurs C F q v r.0 in
            let d = same_true C F.keyed (first C q) p o op r.1 in
            let g : first C q ≡ p = F.keyed.key_inj (first C q) p o op d in
            let t = first_on C F q v r.0 in
            rw (on_part q.0 (omega arith) (rw g at t.0), on_part q.1 v.1 (rw g at t.1), whole q v r.0 d)

    pub chosen : keep choice (pairs (keep part (upto C.n))) ≡ pairs_at C p
    unfolding pairs_at all
    chosen =
        rw (pairs_keep part (upto C.n))
        (keep_keep choice (both part) (all C)
        ∙ keep_same (λ q. both part q && choice q) (λ q. meets (kind C q) && same C (first C q) p) (all C) (λ q m. choice_is q (all_out C m)))

  -- a pass that appends each pair that is not listed yet and meets, over distinct pairs: it lists those that were not
  -- listed before it
  module _ {S : Type 0} (listed : S → List Pair) (f : Pair → S → S)
      (yes : (q : Pair) (s : S) → unlisted (listed s) q ≡ true → listed (f q s) ≡ listed s ++ (q ∷ []))
      (no : (q : Pair) (s : S) → unlisted (listed s) q ≡ false → listed (f q s) ≡ listed s) where
    passed : (l : List Pair) (s : S) → Pairwise (λ (q r : Pair). q ≢ r) l → listed (each f l s) ≡ listed s ++ keep (unlisted (listed s)) l
    unfolding each keep
    passed [] s d = sym (append-nil (listed s))
    passed (q ∷ l) s d =
        ⊎_elim
        (λ (e : unlisted (listed s) q ≡ true).
        let g = yes q s e in
        let k : keep (unlisted (listed (f q s))) l ≡ keep (unlisted (listed s)) l =
        keep_same (unlisted (listed (f q s))) (unlisted (listed s)) l (λ x h. rw (g, among_snoc x q (listed s) (λ t. d.0 x h (sym t))))
        in
        rw (keep_yes (unlisted (listed s)) q l e)
        (passed l (f q s) d.1 ∙ rw (k, g) (append_assoc (listed s) (q ∷ []) _)))
        (λ (e : unlisted (listed s) q ≡ false).
        rw (keep_no (unlisted (listed s)) q l e) (passed l (f q s) d.1 ∙ rw (no q s e)))
        (ask (unlisted (listed s) q))

    module _ (F : Ranked C) (last : Option C.Point) (p : C.Point) (N : Soonest C F last p) (part : ℕ → Bool)
        (part_on : (i : ℕ) → i < C.n → part i ≡ true → F.On i p) (on_part : (i : ℕ) → i < C.n → F.On i p → part i ≡ true)
        (s : S) (M : Met C F (bound F.keyed.key last) (listed s)) where
      open F.keyed use {key}

      sound : (q : Pair) → Pieces C q → F.On q.0 p → F.On q.1 p → unlisted (listed s) q ≡ true → (meets (kind C q) ≡ true) × (key (first C q) ≡ key p)
      sound q v a b e =
          let t = and_both (not (among q (listed s))) (meets (kind C q)) e in
          let le = first_least C F q p N.occurs v t.1 a b in
          by_cases (dec_lt (key (first C q)) (bound key last))
          (λ (k : key (first C q) < bound key last). clash (among_in (M.full q v t.1 k)) (not_true _ t.0))
          (λ (k : ¬ (key (first C q) < bound key last)). (t.1, omega (arith, N.least (first C q) (first_occurs C F q v t.1) (omega arith))))

      whole : (q : Pair) → Pieces C q → meets (kind C q) ≡ true → key (first C q) ≡ key p → unlisted (listed s) q ≡ true
      whole q v e d = let u = N.new in rw (among_no q (listed s) (λ m. omega (arith, (M.met q m).2)), e)

      pub pass_lists : listed (each f (pairs (keep part (upto C.n))) s) ≡ listed s ++ pairs_at C p
      pass_lists =
          passed (pairs (keep part (upto C.n))) s (pairs_once (keep part (upto C.n)) (pairwise_keep ◌<◌ part (upto C.n) (upto_up C.n)))
          ∙ ap (λ (z : List Pair). listed s ++ z) (chosen F p N.occurs part part_on on_part (unlisted (listed s)) sound whole)

  -- with the pairs that meet first at the next point, the list holds those that met up to it
  module _ (F : Ranked C) (last : Option C.Point) (p : C.Point) (N : Soonest C F last p) (listed : List Pair) (M : Met C F (bound F.keyed.key last) listed) where
    open F.keyed use {key}

    more_out : (q : Pair) → In q (listed ++ pairs_at C p) → Pieces C q × (meets (kind C q) ≡ true) × (key (first C q) < suc (key p))
    more_out q m =
        ⊎_elim
        (λ (k : In q listed). let r = M.met q k in let u = N.new in (r.0, r.1, omega arith))
        (λ (k : In q (pairs_at C p)). let r = pairs_at_out C F p N.occurs q k in (r.0, r.1, omega (arith, ap key r.2)))
        (Memᴰ.append_cases listed m)

    more_in : (q : Pair) → Pieces C q → meets (kind C q) ≡ true → key (first C q) < suc (key p) → In q (listed ++ pairs_at C p)
    more_in q v e h =
        by_cases (dec_lt (key (first C q)) (bound key last))
        (λ (k : key (first C q) < bound key last). Memᴰ.append_left {s = listed} (pairs_at C p) (M.full q v e k))
        (λ (k : ¬ (key (first C q) < bound key last)).
        Memᴰ.append_right listed (pairs_at_in C F p N.occurs q v e (omega (arith, N.least (first C q) (first_occurs C F q v e) (omega arith)))))

    pub met_more : Met C F (suc (key p)) (listed ++ pairs_at C p)
    met_more = record { met = more_out; full = more_in }
