-- Where the block of the next point stands, found from the arrays: by bisection at an end, from the lane at a crossing.
use mathlib.Core.Path.{◌≡◌, sym, ap, subst, ◌∙◌}
use mathlib.Core.Logic.{⊎_elim}
use mathlib.Core.Bool.{Bool, true, false, cond}
use mathlib.Core.Option.{some}
use mathlib.Core.List.{List}
use Prim.Native.Nat.{ℕ, ◌+◌, ◌<◌, ◌≤◌}
use native.Mathlib.Omega.{arith}
use borrow.Author.Tests.{ltb-true, ltb-false}
use lib.Dec.{ltb}
use lib.IntN.{ℤ}
use lib.ListN.{get_or}
use Rattle.std.specs.declared.cmp.Ordering.TheVariants.{Less, Equal, Greater}
use Rattle.std.specs.declared.cmp.Ordering.{Ordering}
use Rattle.fractions.specs.declared.Point.{Point}
use Rattle.sweep.specs.Lists.{Pair, lesser_first}
use Rattle.sweep.specs.Chart.{crosses, kind, at}
use Rattle.sweep.proofs.Tests.{ask}
use Rattle.full_steps.specs.Steps.{next, run}
use Rattle.full_steps.proofs.Placed.{lo, hi, side_below, side_above, whole_length}
use Rattle.full_steps.proofs.Replaced.{on_active}
use Rattle.full_order.specs.Finer.{finer, aside}
use Rattle.ported_pieces.specs.Table.{piece_in}
use Rattle.full_active.specs.Parts.{below_in, through_in, Edge, Down, Up}
use Rattle.full_active.proofs.Blocks.{search_is, widen_down_is, widen_up_is}
use Rattle.full_lanes.specs.Lanes.{pair_at}
use Rattle.full_ahead.specs.Coming.{Known}
use Rattle.full_ahead.proofs.Queue.{C, s, S, G, A, F, inv, long, piece_at', is_active, is_piece, apart}

module _ {n : ℕ} {table : List ℤ} {m : ℕ} {active lanes : List ℕ} {live : ℕ} (W : Known n table m active lanes live)
    (p : Point) (hp : next (finer n (piece_in table)) (run (finer n (piece_in table)) m) ≡ some p) where
  abbrev pub first : ℕ
  first = lo (C W) (S W) (G W) (A W) (s W) (inv W) p hp

  abbrev pub last : ℕ
  last = hi (C W) (S W) (G W) (A W) (s W) (inv W) p hp

  pub within : last ≤ live
  within = omega (arith, long W, whole_length (C W) (S W) (G W) (A W) (s W) (inv W) p hp)

  -- at an end
  pub searched : (r : ℕ) → Edge (below_in table p) active live r → r ≡ first
  searched r E = search_is (C W) (S W) (G W) (A W) (s W) (inv W) p hp active live W.beside.places W.holds r E

  pub widened_up : (from : ℕ) → first ≤ from → from ≤ last → (r : ℕ) → Up (through_in table p) active live from r → r ≡ last
  widened_up from a b r U = widen_up_is (C W) (S W) (G W) (A W) (s W) (inv W) p hp active live W.beside.places W.holds from a b r U

  pub widened_down : (from : ℕ) → first ≤ from → from ≤ last → (r : ℕ) → Down (through_in table p) active from r → r ≡ first
  widened_down from a b r D = widen_down_is (C W) (S W) (G W) (A W) (s W) (inv W) p hp active live W.beside.places W.holds from a b r D

  -- a place whose piece goes through p is one of the block
  in_block : (k : ℕ) → k < live → (F W).On (get_or active k 0) p → (first ≤ k) × (k < last)
  in_block k h o = (from_first, to_last)
    where
      on : aside p (piece_in table (get_or active k 0)) ≡ Equal
      on = on_active (C W) (S W) (G W) (A W) (s W) (inv W) p hp (get_or active k 0) (is_active W k h) o

      at_run : aside p (piece_in table (get_or (s W).active k 0)) ≡ Equal
      at_run = ap (λ (i : ℕ). aside p (piece_in table i)) (sym (piece_at' W k h)) ∙ on

      which_order : Ordering → ℕ
      which_order Less = 0
      which_order Equal = 1
      which_order Greater = 2

      from_first : first ≤ k
      from_first =
          ⊎_elim
          (λ (t : ltb k first ≡ true).
          absurd (let e = ap which_order (sym at_run ∙ side_below (C W) (S W) (G W) (A W) (s W) (inv W) p hp k (ltb-true k first t)) in omega (arith, e)))
          (λ (t : ltb k first ≡ false). ltb-false k first t)
          (ask (ltb k first))

      to_last : k < last
      to_last =
          ⊎_elim
          (λ (t : ltb k last ≡ true). ltb-true k last t)
          (λ (t : ltb k last ≡ false).
          absurd (let e = ap which_order (sym at_run ∙ side_above (C W) (S W) (G W) (A W) (s W) (inv W) p hp k (ltb-false k last t) (omega (arith, long W))) in omega (arith, e)))
          (ask (ltb k last))

  -- of two neighbours that cross at p, both do
  pub crossing_block : (k : ℕ) → k + 1 < live → kind (C W) (pair_at active k) ≡ crosses → p ≡ at (C W) (pair_at active k) → (first ≤ k) × (k + 2 ≤ last)
  unfolding pair_at lesser_first
  crossing_block k h e d = go (ltb (get_or active k 0) (get_or active (k + 1) 0)) e d
    where
      both : (F W).On (get_or active k 0) p → (F W).On (get_or active (k + 1) 0) p → (first ≤ k) × (k + 2 ≤ last)
      both a b = let u = in_block k (omega arith) a in let v = in_block (k + 1) h b in (u.0, omega (arith, v.1))

      go : (t : Bool) → kind (C W) (cond {A = Pair} t (get_or active k 0, get_or active (k + 1) 0) (get_or active (k + 1) 0, get_or active k 0)) ≡ crosses
          → p ≡ at (C W) (cond {A = Pair} t (get_or active k 0, get_or active (k + 1) 0) (get_or active (k + 1) 0, get_or active k 0)) → (first ≤ k) × (k + 2 ≤ last)
      go true e d =
          let o = (F W).crossing_on (get_or active k 0) (get_or active (k + 1) 0) (is_piece W k (omega arith)) (is_piece W (k + 1) h) (apart W k h) e in
          both (subst (λ (z : Point). (F W).On (get_or active k 0) z) (sym d) o.0) (subst (λ (z : Point). (F W).On (get_or active (k + 1) 0) z) (sym d) o.1)
      go false e d =
          let o = (F W).crossing_on (get_or active (k + 1) 0) (get_or active k 0) (is_piece W (k + 1) h) (is_piece W k (omega arith)) (λ z. apart W k h (sym z)) e in
          both (subst (λ (z : Point). (F W).On (get_or active k 0) z) (sym d) o.1) (subst (λ (z : Point). (F W).On (get_or active (k + 1) 0) z) (sym d) o.0)
