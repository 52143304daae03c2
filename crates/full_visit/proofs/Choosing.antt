-- Which point a visit takes, and what the arrays are after it.
use mathlib.Core.Path.{◌≡◌, sym, ap, subst, ◌∙◌}
use mathlib.Core.Logic.{◌⊎◌, inl, inr, ⊎_elim}
use mathlib.Core.Bool.{true, not}
use mathlib.Core.List.{List, []}
use mathlib.Core.List.{Memᴰ as In}
use mathlib.Core.Option.{Option, none, some}
use Prim.Native.Nat.{ℕ, suc, ◌+◌, ◌-◌, ◌*◌, ◌<◌, ◌≤◌, ◌^◌}
use native.Mathlib.Omega.{arith}
use lib.IntN.{ℤ, pos, nat_abs, ◌+ℤ◌}
use lib.ListN.{length, take, drop, get_or}
use Rattle.integers.specs.Size.{Small}
use Rattle.fractions.specs.Point.{lowest_of}
use Rattle.fractions.specs.declared.Point.{Point}
use Rattle.charts.specs.Chart.{most}
use Rattle.sweep.proofs.Between.{Lined, which, bound, bound_none}
use Rattle.sweep_geometry.specs.Demand.{AllProper}
use Rattle.ported_pieces.specs.Table.{piece_in}
use Rattle.full_steps.specs.Steps.{step, move, move_to, run}
use Rattle.full_steps.specs.InPlace.{lane}
use Rattle.full_steps.proofs.Placed.{get_d_in}
use Rattle.full_ends.specs.Ends.{end_key, min_key, max_key, sorted_keys, Passed}
use Rattle.full_ends.specs.Demand.{standing, Split}
use Rattle.full_ends.proofs.Promises.{counted, sorted_in_order}
use Rattle.full_lanes.specs.Lanes.{Keyed, pair_at, meeting_at, steeper}
use Rattle.full_lanes.proofs.Promises.{Open, opened, beside_keyed}
use Rattle.full_lanes.proofs.Steeper.{open_steeper}
use Rattle.full_active.specs.Ranks.{goes_on_in}
use Rattle.full_next.specs.Next.{Next}
use Rattle.full_at_point.specs.Carried.{chart, Carried}
use Rattle.full_at_point.proofs.Joined.{goes_on_is}
use Rattle.full_at_point.specs.Coming.{Known, Comes}
use Rattle.full_at_point.proofs.Promises.{lane_comes, end_comes}
use Rattle.full_at_point.proofs.Queue.{G, F, K, inv, is_active, is_piece, places_proper}
use Rattle.full_at_point.proofs.Starts.{lane_goes_on}
use Rattle.full_at_point.specs.AtPoint.{Awaits, CrossAt, crossing_at}
use Rattle.full_at_point.proofs.AtPoint.{crossing_lowest, end_lowest}
use Rattle.full_visit.specs.Visit.{After}

-- ---- a key has 48 bits
below_48 : (x y : ℤ) (e : ℕ) → Small 32767 x → Small 32767 y → e < 65536 → end_key x y e < 2 ^ 48
unfolding end_key
below_48 x y e hx hy h = go (nat_abs (x +ℤ pos 32768)) (nat_abs (y +ℤ pos 32768)) (counted hx).1 (counted hy).1
  where
    go : (X Y : ℕ) → X < 65536 → Y < 65536 → (X * 65536 + Y) * 65536 + e < 2 ^ 48
    go X Y a b = omega arith

key_below : (n : ℕ) (table : List ℤ) → n ≤ most → AllProper n (piece_in table) → (k : ℕ) → In k (sorted_keys table n) → k < 2 ^ 48
key_below n table few ok k i = go ((sorted_in_order table n).only k i)
  where
    go : (j : ℕ) × (j < n) × ((k ≡ min_key table j) ⊎ (k ≡ max_key table j)) → k < 2 ^ 48
    go (j, h, inl e) = let c = (ok j h).charted in subst (λ (z : ℕ). z < 2 ^ 48) (sym e) (below_48 _ _ (2 * j) c.min_x c.min_y (omega arith))
    go (j, h, inr e) = let c = (ok j h).charted in subst (λ (z : ℕ). z < 2 ^ 48) (sym e) (below_48 _ _ (2 * j + 1) c.max_x c.max_y (omega arith))

module _ {n : ℕ} {table : List ℤ} {lent : List ℕ} {m : ℕ} {ends : List ℕ} {passed : ℕ} {active lanes : List ℕ} {live : ℕ} {bytes : List ℕ} {end : ℕ}
    (a : After n table lent m ends passed active lanes live bytes end) where
  pub known : Known n table m active lanes live
  known = record { few = a.given.few; proper = a.given.proper; holds = a.carried.active_is; beside = a.carried.lanes_are }

  pub count : length ends ≡ 2 * n
  count = ap length a.in_order ∙ (sorted_in_order table n).count

  pub keyed : Keyed table active lanes live
  keyed = beside_keyed n table (run (chart n table) m).last active lanes live (places_proper known) a.carried.lanes_are

  -- it awaits a point that comes
  awaits : {p : Point} {keys : List ℕ} {to : ℕ} → Comes n table m p keys to → Awaits n table lent m p keys active lanes live bytes end
  awaits c = record { given = a.given; carried = a.carried; next_is = c.next_is; starting = c.starting }

  -- and after the step there it has passed the point's ends
  module _ {p : Point} {keys : List ℕ} {to : ℕ} (c : Comes n table m p keys to) where
    last_is : (run (chart n table) (suc m)).last ≡ some p
    unfolding run move move_to step
    last_is = rw c.next_is

    moved : to ≤ length ends → {active' lanes' bytes' : List ℕ} {live' end' : ℕ} → Carried n table lent (run (chart n table) (suc m)) active' lanes' live' bytes' end'
        → (q : Point) → p ≡ lowest_of q.x q.y q.d
        → After n table lent (suc m) ends to active' lanes' live' bytes' end' × ((run (chart n table) (suc m)).last ≡ some (lowest_of q.x q.y q.d))
    moved h K q e = (
      record {
        given = a.given;
        in_order = a.in_order;
        within = h;
        split = subst (λ (o : Option Point). Split n table o to) (sym last_is) c.split;
        carried = K;
      },
      last_is ∙ ap some e,
    )

  module _ (h : passed < length ends) where
    pub key_small : get_or ends passed 0 < 2 ^ 48
    key_small =
        key_below n table a.given.few a.given.proper (get_or ends passed 0)
        (subst (λ (l : List ℕ). In (get_or ends passed 0) l) a.in_order (get_d_in ends passed 0 h))

    -- ---- a crossing
    module _ {k : ℕ} (N : Next table active lanes live (get_or ends passed 0) k) (l : k < live) where
      N' : Next table active lanes live (get_or (sorted_keys table n) passed 0) k
      N' = subst (λ (z : List ℕ). Next table active lanes live (get_or z passed 0) k) a.in_order N

      lane_comes_here : Comes n table m (crossing_at table active k) [] passed
      lane_comes_here = lane_comes n table m active lanes live passed k known a.split (omega (arith, count)) N' l

      open_here : Open n table (run (chart n table) m).last (pair_at active k)
      open_here = opened n table (run (chart n table) m).last active lanes live (places_proper known) a.carried.lanes_are k l ((N.lane l).0.taken l)

      goes_on : (i : ℕ) → i < n → goes_on_in table (crossing_at table active k) i ≡ true
      goes_on i b = goes_on_is n table (crossing_at table active k) i ∙ ap not (lane_goes_on known a.split (omega (arith, count)) k N' l i b)

      -- the pieces are active after the last point, if there was one
      falls : k + 1 < live → steeper table (get_or active k 0) (get_or active (k + 1) 0) ≡ true
      falls two =
          let L = (inv known).lined in
          ⊎_elim
          (λ (e : (run (chart n table) m).last ≡ none).
          absurd (omega (arith, (L.active_out (get_or active k 0) (is_active known k l)).1, ap (bound (K known).key) e ∙ bound_none (K known).key)))
          (λ (e : (q : Point) × ((run (chart n table) m).last ≡ some q)).
          open_steeper n table a.given.proper (G known) active live a.carried.lanes_are.places e.0
          (subst (λ (o : Option Point). Lined (chart n table) (F known) (take live active) o) e.1
          (subst (λ (z : List ℕ). Lined (chart n table) (F known) z (run (chart n table) m).last) (sym a.carried.active_is) L))
          k two
          (subst (λ (o : Option Point). lane (chart n table) o (pair_at active k) ≡ some (crossing_at table active k)) e.1 open_here.is))
          (which (run (chart n table) m).last)

      pub cross_at : CrossAt table active live k
      cross_at =
          let t = keyed.taken k l ((N.lane l).0.taken l) in
          record {
            two = t.two;
            crosses = open_here.crosses;
            charted = t.charted;
            first_on = goes_on (get_or active k 0) (is_piece known k l);
            second_on = goes_on (get_or active (k + 1) 0) (is_piece known (k + 1) t.two);
            falls = falls t.two;
          }

      pub lane_awaits : Awaits n table lent m (crossing_at table active k) [] active lanes live bytes end
      lane_awaits = awaits lane_comes_here

      pub lane_after : {active' lanes' bytes' : List ℕ} {live' end' : ℕ} → Carried n table lent (run (chart n table) (suc m)) active' lanes' live' bytes' end'
          → (q : Point) → q ≡ meeting_at table active k
          → After n table lent (suc m) ends passed active' lanes' live' bytes' end' × ((run (chart n table) (suc m)).last ≡ some (lowest_of q.x q.y q.d))
      lane_after K q e = moved lane_comes_here a.within K q (crossing_lowest table active k ∙ ap (λ (z : Point). lowest_of z.x z.y z.d) (sym e))

    -- ---- an end
    module _ {k : ℕ} (N : Next table active lanes live (get_or ends passed 0) k) (l : live ≤ k) {to : ℕ} (P : Passed ends passed to) where
      end_comes_here : Comes n table m (standing (get_or ends passed 0)) (take (to - passed) (drop passed ends)) to
      end_comes_here =
          let e : k ≡ live = omega (arith, N.within) in
          let N' = subst (λ (z : List ℕ). Next table active lanes live (get_or z passed 0) live) a.in_order (subst (λ (z : ℕ). Next table active lanes live (get_or ends passed 0) z) e N) in
          subst (λ (z : List ℕ). Comes n table m (standing (get_or z passed 0)) (take (to - passed) (drop passed z)) to) (sym a.in_order)
          (end_comes n table m active lanes live passed to known a.split N' (subst (λ (z : List ℕ). Passed z passed to) a.in_order P))

      pub end_awaits : Awaits n table lent m (standing (get_or ends passed 0)) (take (to - passed) (drop passed ends)) active lanes live bytes end
      end_awaits = awaits end_comes_here

      pub end_after : {active' lanes' bytes' : List ℕ} {live' end' : ℕ} → Carried n table lent (run (chart n table) (suc m)) active' lanes' live' bytes' end'
          → (q : Point) → q ≡ standing (get_or ends passed 0)
          → After n table lent (suc m) ends to active' lanes' live' bytes' end' × ((run (chart n table) (suc m)).last ≡ some (lowest_of q.x q.y q.d))
      end_after K q e = moved end_comes_here P.within K q (end_lowest _ _ ∙ ap (λ (z : Point). lowest_of z.x z.y z.d) (sym e))
