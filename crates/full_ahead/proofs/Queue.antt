-- The queue after m steps, from the arrays: the ends from place `passed` on, and the lanes that are taken.
use mathlib.Core.Path.{◌≡◌, refl, sym, ap, subst, ◌∙◌}
use mathlib.Core.Logic.{◌≢◌, ⊎_elim}
use mathlib.Core.Bool.{true, false}
use mathlib.Core.List.Memᴰ
use mathlib.Core.List.{List, ◌++◌}
use mathlib.Core.List.{Memᴰ as In}
use mathlib.Core.Option.{some}
use Prim.Native.Nat.{ℕ, ◌+◌, ◌*◌, ◌<◌}
use native.Mathlib.Omega.{arith}
use lib.IntN.{ℤ}
use lib.ListN.{length, take, get_or}
use lib.Seq.{length-take-le, get_or-take}
use Rattle.fractions.specs.Point.{point_order}
use Rattle.fractions.specs.declared.Point.{Point}
use Rattle.sweep.specs.Lists.{upto, keep}
use Rattle.sweep.specs.Chart.{Chart, crosses, kind, at}
use Rattle.sweep.specs.Queue.{ends, beyond, least}
use Rattle.sweep.specs.Geometry.{Occurs, Geometry}
use Rattle.sweep.specs.Demand.{Pieces}
use Rattle.sweep.specs.Ported.{is_less, kind_of}
use Rattle.sweep.proofs.Lists.{keep_out}
use Rattle.sweep.proofs.Occurring.{two_pieces, ends_out, end_occurs, at_occurs}
use Rattle.sweep.proofs.Ranked.{Ranked, Keyed, ranked, less_true, less_false, less_no}
use Rattle.full_steps.specs.Steps.{State, next, run}
use Rattle.full_steps.specs.InPlace.{Sides, InPlaceFacts, somes, lanes, held_next}
use Rattle.full_steps.proofs.Step.{Inv}
use Rattle.full_steps.proofs.Promises.{run_inv}
use Rattle.full_steps.proofs.Held.{in_place}
use Rattle.full_steps.proofs.Placed.{get_d_in}
use Rattle.full_order.specs.Finer.{finer, sides_of}
use Rattle.full_order.proofs.Promises.{finer_geometry, in_place_facts}
use Rattle.ported_pieces.specs.Table.{piece_in}
use Rattle.ported_pieces.proofs.Crossings.{rough_before}
use Rattle.full_ends.specs.Ends.{sorted_keys}
use Rattle.full_ends.specs.Demand.{standing, Split}
use Rattle.full_ends.proofs.Promises.{next_end}
use Rattle.full_lanes.specs.Lanes.{no_key, pair_at, ProperPlaces}
use Rattle.full_lanes.proofs.Promises.{some_open, opened, ahead_out, has_key, beside_keyed, least_is_ahead}
use Rattle.full_lanes.proofs.Steeper.{at_two}
use Rattle.full_next.specs.Next.{Next}
use Rattle.full_ahead.specs.Coming.{Known}
use Rattle.full_ahead.proofs.Least.{least_is}

module _ {n : ℕ} {table : List ℤ} {m : ℕ} {active keys : List ℕ} {live : ℕ} (W : Known n table m active keys live) where
  abbrev pub C : Chart
  C = finer n (piece_in table)

  abbrev pub s : State C
  s = run C m

  abbrev pub S : Sides C
  S = sides_of n (piece_in table)

  abbrev pub G : Geometry C
  G = finer_geometry n (piece_in table) W.proper

  abbrev pub A : InPlaceFacts C S G
  A = in_place_facts n (piece_in table) W.proper

  abbrev pub F : Ranked C
  F = ranked C G

  abbrev pub K : Keyed C
  K = F.keyed

  pub inv : Inv C F s
  inv = run_inv C F m

  abbrev pub left : List Point
  left = keep (beyond C s.last) (ends C (upto n))

  abbrev pub taken : List Point
  taken = somes (lanes C s.last (take live active))

  pub next_least : next C s ≡ least C (left ++ taken)
  unfolding held_next
  next_least =
      let H = (in_place C S G A).1 m in
      sym H.same_next ∙ ap (held_next C) H.same_state
      ∙ ap (λ (l : List ℕ). least C (left ++ somes (lanes C s.last l))) (sym W.holds)

  -- ---- the active pieces by place
  pub long : length s.active ≡ live
  long = ap length (sym W.holds) ∙ length-take-le live active W.beside.places

  pub piece_at' : (k : ℕ) → k < live → get_or active k 0 ≡ get_or s.active k 0
  piece_at' k h = sym (get_or-take live active k 0 h) ∙ ap (λ (l : List ℕ). get_or l k 0) W.holds

  pub is_active : (k : ℕ) → k < live → In (get_or active k 0) s.active
  is_active k h = subst (λ (i : ℕ). In i s.active) (sym (piece_at' k h)) (get_d_in s.active k 0 (omega (arith, long)))

  pub is_piece : (k : ℕ) → k < live → get_or active k 0 < n
  is_piece k h = (inv.lined.active_out (get_or active k 0) (is_active k h)).0

  pub places_proper : ProperPlaces table active live
  places_proper k h = W.proper (get_or active k 0) (is_piece k h)

  pub apart : (k : ℕ) → k + 1 < live → get_or active k 0 ≢ get_or active (k + 1) 0
  apart k h e =
      at_two (λ i j. i ≢ j) s.active inv.lined.once k (k + 1) (omega arith) (omega (arith, long))
      (sym (piece_at' k (omega arith)) ∙ e ∙ piece_at' (k + 1) h)

  pub pair_pieces : (k : ℕ) → k + 1 < live → Pieces C (pair_at active k)
  unfolding pair_at
  pair_pieces k h =
      (two_pieces C (λ i. i < n) (get_or active k 0) (get_or active (k + 1) 0) (is_piece k (omega arith), is_piece k (omega arith))
      (is_piece (k + 1) h, is_piece (k + 1) h) (apart k h)).0

  -- ---- the points of the queue occur
  end_in : (x : Point) → In x left → Occurs C x
  end_in x h = end_occurs C (ends_out C (keep_out (beyond C s.last) (ends C (upto n)) h).0)

  -- a crossing ahead, by its place
  pub record Crossed (c : Point) : Type 0 where
    pub place : ℕ
    pub two : place + 1 < live
    pub key : get_or keys place 0 < no_key
    pub crosses_there : kind C (pair_at active place) ≡ crosses
    pub is : c ≡ at C (pair_at active place)

  pub crossed : (c : Point) → In c taken → Crossed c
  crossed c h =
      let a = ahead_out n table s.last active keys live 0 places_proper W.beside h in
      let o = some_open n table s.last (pair_at active a.0) a.2 in
      record {
        place = a.0;
        two = a.1;
        key = has_key n table s.last active keys live 0 places_proper W.beside a.0 a.1 a.2;
        crosses_there = ap kind_of o.0.crosses;
        is = o.1;
      }

  lane_in : (c : Point) → In c taken → Occurs C c
  lane_in c h = let x = crossed c h in subst (Occurs C) (sym x.is) (at_occurs C (pair_at active x.place) (pair_pieces x.place x.two) x.crosses_there)

  pub queue_in : (x : Point) → In x (left ++ taken) → Occurs C x
  queue_in x h = ⊎_elim (end_in x) (lane_in x) (Memᴰ.append_cases left h)

  -- ---- the next end, where one is left
  module _ {passed : ℕ} (Z : Split n table s.last passed) (h : passed < 2 * n) where
    abbrev pub end_next : Point
    end_next = standing (get_or (sorted_keys table n) passed 0)

    pub end_next_in : In end_next left
    end_next_in = (next_end n table W.few W.proper s.last passed Z h).0

    pub end_next_occurs : Occurs C end_next
    end_next_occurs = end_in end_next end_next_in

    pub end_next_least : (x : Point) → In x left → is_less (point_order x end_next) ≡ false
    end_next_least = (next_end n table W.few W.proper s.last passed Z h).1

    -- where no lane comes before it, it is the next point
    pub next_is_end : Next table active keys live (get_or (sorted_keys table n) passed 0) live → next C s ≡ some end_next
    next_is_end N =
        next_least
        ∙ least_is C K (left ++ taken) end_next queue_in (Memᴰ.append_left taken end_next_in)
        (λ x i. ⊎_elim (end_next_least x) (λ (j : In x taken). no_lane x (crossed x j)) (Memᴰ.append_cases left i))
      where
        no_lane : (x : Point) → Crossed x → is_less (point_order x end_next) ≡ false
        no_lane x c =
            ap (λ (z : Point). is_less (point_order z end_next)) c.is
            ∙ ap is_less (sym (rough_before n table (pair_at active c.place) end_next))
            ∙ N.end refl c.place (let t = c.two in omega arith) c.key

    -- else it is the crossing of the lane
    module _ (r : ℕ) (N : Next table active keys live (get_or (sorted_keys table n) passed 0) r) (l : r < live) where
      abbrev pub lane_next : Point
      lane_next = at C (pair_at active r)

      pub lane_two : r + 1 < live
      lane_two = ((beside_keyed n table s.last active keys live places_proper W.beside).taken r l ((N.lane l).0.taken l)).two

      pub lane_crosses : kind C (pair_at active r) ≡ crosses
      lane_crosses = ap kind_of (opened n table s.last active keys live places_proper W.beside r l ((N.lane l).0.taken l)).crosses

      pub lane_occurs : Occurs C lane_next
      lane_occurs = at_occurs C (pair_at active r) (pair_pieces r lane_two) lane_crosses

      -- no end is before it, nor at it
      pub lane_first : is_less (point_order lane_next end_next) ≡ true
      lane_first = ap is_less (sym (rough_before n table (pair_at active r) end_next)) ∙ (N.lane l).1

      pub before_ends : (x : Point) → In x left → K.key lane_next < K.key x
      before_ends x i =
          let o = end_in x i in
          let a = less_true C K lane_next end_next lane_occurs end_next_occurs lane_first in
          let b = less_false C K x end_next o end_next_occurs (end_next_least x i) in
          omega arith

      pub next_is_lane : next C s ≡ some lane_next
      next_is_lane =
          let L = least_is_ahead n table s.last active keys live r places_proper W.beside (N.lane l).0 in
          next_least
          ∙ least_is C K (left ++ taken) lane_next queue_in (Memᴰ.append_right left (L.one l))
          (λ x i. ⊎_elim
          (λ (j : In x left). less_no C K x lane_next (end_in x j) lane_occurs (let b = before_ends x j in omega arith))
          (λ (j : In x taken). L.least l x j)
          (Memᴰ.append_cases left i))
