-- Listing without marks: the pieces at the next point are the block and the starters, and of two of them a crossing is new,
-- and an overlap where one of them starts.
use mathlib.Core.Path.{◌≡◌, refl, sym, ap, ◌∙◌}
use mathlib.Core.Logic.{◌⊎◌, ⊎_elim, ◌≢◌, by_cases}
use mathlib.Core.Bool.{Bool, true, ◌||◌}
use mathlib.Core.Option.{some}
use mathlib.Core.List.{List, ◌++◌}
use Prim.Native.Nat.{ℕ, ◌<◌}
use native.Mathlib.Omega.{arith}
use native.Mathlib.Decide.{ℕ_discrete}
use lib.Dec.{eqb}
use borrow.Author.Tests.{eqb-true}
use Rattle.sweep.specs.Lists.{Pair, any}
use Rattle.sweep.specs.Chart.{Kind, nothing, crosses, overlaps, Chart, meets, kind}
use Rattle.sweep.specs.Step.{starts}
use Rattle.sweep.specs.Sought.{first, pairs_at}
use Rattle.sweep.specs.Geometry.{Occurs, Geometry}
use Rattle.sweep.specs.Demand.{Pieces}
use Rattle.sweep.proofs.Tests.{clash, or_one, or_left, or_right, eqb_yes}
use Rattle.sweep.proofs.Lists.{any_in, any_out}
use Rattle.sweep.proofs.Occurring.{min_occurs}
use Rattle.sweep.proofs.Ranked.{Ranked, ranked, same_yes, same_true}
use Rattle.sweep.proofs.First.{kind_cases, meets_two, two_meet, first_crosses, first_overlaps, first_min, first_least, later_two}
use Rattle.sweep.proofs.Between.{Soonest}
use Rattle.sweep.proofs.Soonest.{starts_on, begun_in}
use Rattle.sweep.proofs.Listing.{chosen}
use Rattle.full_steps.specs.Steps.{State, next, reported, step}
use Rattle.full_steps.specs.InPlace.{Sides, InPlaceFacts, block, gathered, fresh_by, fresh, fresh_pairs}
use Rattle.full_steps.proofs.Step.{Inv, step_listed}
use Rattle.full_steps.proofs.Sides.{F, N}
use Rattle.full_steps.proofs.Replaced.{block_out, block_in}

module _ (C : Chart) (S : Sides C) (G : Geometry C) (A : InPlaceFacts C S G) (s : State C) (I : Inv C (ranked C G) s) (p : C.Point) (hp : next C s ≡ some p) where
  open C use {n, min}
  open (F C S G A).keyed use {key}

  abbrev R : Ranked C
  R = F C S G A

  abbrev here_at : Soonest C R s.last p
  here_at = N C S G A s I p hp

  op : Occurs C p
  op = here_at.occurs

  abbrev part : ℕ → Bool
  part i = starts C p i || any (eqb i) (block C S s.active p)

  -- the pieces gathered are those that lie on p
  part_on : (i : ℕ) → i < n → part i ≡ true → R.On i p
  part_on i h e =
      ⊎_elim
      (λ (a : starts C p i ≡ true). starts_on C R s.active s.last I.lined p here_at i h a)
      (λ (a : any (eqb i) (block C S s.active p) ≡ true).
      let r = any_out (eqb i) (block C S s.active p) a in
      rw (eqb-true i r.0 r.2) (block_out C S G A s I p hp r.0 r.1).1)
      (or_one (starts C p i) (any (eqb i) (block C S s.active p)) e)

  on_part : (i : ℕ) → i < n → R.On i p → part i ≡ true
  on_part i h o =
      let r = R.on_range i p h op o in
      by_cases (ℕ_discrete (key (min i)) (key p))
      (λ (e : key (min i) ≡ key p). or_left (starts C p i) _ (unfold starts in same_yes C R.keyed (min i) p (min_occurs C i h) op e))
      (λ (e : key (min i) ≢ key p).
      or_right (starts C p i) _
      (any_in (eqb i) (block_in C S G A s I p hp i (begun_in C R s.active s.last I.lined p here_at i h (omega arith) (omega arith)) o) (eqb_yes i i refl)))

  -- a piece that starts at p has it as its min
  start_key : (i : ℕ) → i < n → starts C p i ≡ true → key (min i) ≡ key p
  unfolding starts
  start_key i h e = same_true C R.keyed (min i) p (min_occurs C i h) op e

  key_start : (i : ℕ) → i < n → key (min i) ≡ key p → starts C p i ≡ true
  unfolding starts
  key_start i h e = same_yes C R.keyed (min i) p (min_occurs C i h) op e

  fresh_is : (k : Kind) (q : Pair) → kind C q ≡ k → fresh C p q ≡ fresh_by C k p q
  unfolding fresh
  fresh_is k q e = rw e

  -- two pieces on p that pass for new do meet first there
  fresh_first : (q : Pair) → Pieces C q → R.On q.0 p → R.On q.1 p → fresh C p q ≡ true → (meets (kind C q) ≡ true) × (key (first C q) ≡ key p)
  unfolding fresh_by
  fresh_first q v a b e =
      ⊎_elim
      (λ (k : kind C q ≡ nothing). clash e (fresh_is nothing q k))
      (λ (k : (kind C q ≡ crosses) ⊎ (kind C q ≡ overlaps)).
      let m : meets (kind C q) ≡ true = two_meet (kind C q) k in
      let le = first_least C R q p op v m a b in
      ⊎_elim
      (λ (k : kind C q ≡ crosses). (m, ap key (first_crosses C q k ∙ sym (R.crossing_only q.0 q.1 p (omega arith) v.1 (omega arith) op k a b))))
      (λ (k : kind C q ≡ overlaps).
      let t = later_two C R (min q.0) (min q.1) (min_occurs C q.0 (omega arith)) (min_occurs C q.1 v.1) in
      let f = ap key (first_overlaps C q k) in
      ⊎_elim
      (λ (h : starts C p q.0 ≡ true). (m, omega (arith, start_key q.0 (omega arith) h)))
      (λ (h : starts C p q.1 ≡ true). (m, omega (arith, start_key q.1 v.1 h)))
      (or_one (starts C p q.0) (starts C p q.1) (sym (fresh_is overlaps q k) ∙ e)))
      k)
      (kind_cases (kind C q))

  -- and the other way round
  first_fresh : (q : Pair) → Pieces C q → meets (kind C q) ≡ true → key (first C q) ≡ key p → fresh C p q ≡ true
  unfolding fresh_by
  first_fresh q v m d =
      ⊎_elim
      (λ (k : kind C q ≡ crosses). fresh_is crosses q k)
      (λ (k : kind C q ≡ overlaps).
      fresh_is overlaps q k
      ∙ ⊎_elim
      (λ (g : first C q ≡ min q.0). or_left (starts C p q.0) (starts C p q.1) (key_start q.0 (omega arith) (sym (ap key g) ∙ d)))
      (λ (g : first C q ≡ min q.1). or_right (starts C p q.0) (starts C p q.1) (key_start q.1 v.1 (sym (ap key g) ∙ d)))
      (first_min C R q v k))
      (meets_two (kind C q) m)

  fresh_pairs_at : fresh_pairs C S s.active p ≡ pairs_at C p
  unfolding fresh_pairs gathered
  fresh_pairs_at = chosen C R p op part part_on on_part (fresh C p) fresh_first first_fresh

  pub same_listed : reported C s p ≡ s.listed ++ fresh_pairs C S s.active p
  unfolding step
  same_listed = step_listed C R s I p hp ∙ ap (λ (z : List Pair). s.listed ++ z) (sym fresh_pairs_at)
