-- The pieces that start at the next point, by the keys of the ends there; and which ends are behind it afterwards.
use mathlib.Core.Path.{◌≡◌, sym, ap, subst, ◌∙◌}
use mathlib.Core.Logic.{◌≢◌, ◌⊎◌, inl, inr, ⊎_elim}
use mathlib.Core.Bool.{true, false}
use mathlib.Core.List.Memᴰ
use mathlib.Core.List.{List, [], ◌∷◌, map}
use mathlib.Core.List.{Memᴰ as In}
use mathlib.Core.Option.{some}
use Prim.Native.Nat.{ℕ, ◌+◌, ◌-◌, ◌*◌, ◌/◌, ◌%◌, ◌<◌, ◌≤◌}
use native.Mathlib.Omega.{arith}
use borrow.Author.Tests.{ltb-true, ltb-false}
use lib.Dec.{ltb}
use lib.IntN.{ℤ}
use lib.ListN.{length, take, drop, get_or, length-drop, take-append-drop}
use lib.Seq.{get_or-take, get_or-drop, length-take-le}
use Rattle.fractions.specs.Point.{point_order}
use Rattle.fractions.specs.declared.Point.{Point}
use Rattle.fractions.proofs.Points.{point_itself}
use Rattle.line_segment.specs.Piece.{point_of}
use Rattle.sweep.specs.Lists.{Pairwise, keep, upto}
use Rattle.sweep.specs.Chart.{Chart, same}
use Rattle.sweep.specs.Queue.{ends, beyond}
use Rattle.sweep.specs.Step.{starts, finishes}
use Rattle.sweep.specs.Geometry.{Occurs}
use Rattle.sweep.specs.Ported.{is_less}
use Rattle.sweep.proofs.Tests.{ask, clash}
use Rattle.sweep.proofs.Lists.{keep_in, keep_out, pairwise_map, keep_none, pairwise_keep, pairwise_take, pairwise_right}
use Rattle.sweep.proofs.Occurring.{min_in, max_in, ends_out, end_occurs, min_occurs, max_occurs}
use Rattle.sweep.proofs.Ranked.{Keyed, less_true, less_false, less_yes, same_yes, same_true}
use Rattle.sweep.proofs.Between.{bound}
use Rattle.sweep.proofs.Soonest.{beyond_yes}
use Rattle.ported_pieces.specs.Table.{piece_in}
use Rattle.full_steps.specs.Steps.{run}
use Rattle.full_steps.proofs.Step.{next_soonest}
use Rattle.full_steps.proofs.Placed.{get_d_in}
use Rattle.full_order.specs.Finer.{finer}
use Rattle.full_active.specs.Ranks.{of_min, starters}
use Rattle.full_ends.specs.Ends.{min_key, max_key, sorted_keys, Passed}
use Rattle.full_ends.specs.Demand.{standing, InOrder, Split}
use Rattle.full_ends.proofs.Promises.{keys_stand, keys_order_points, sorted_in_order, place_of}
use Rattle.full_next.specs.Next.{Next}
use Rattle.full_step.specs.Carried.{Starting}
use Rattle.full_ahead.specs.Coming.{Known}
use Rattle.full_ahead.proofs.Keyed.{Once, alike_stand, stand_alike, sorted_once, MinOf, min_of, min_is}
use Rattle.full_ahead.proofs.Queue as Q

-- ---- a part of a list
pub part_out : (a b : ℕ) (l : List ℕ) → a ≤ b → b ≤ length l → {e : ℕ} → In e (take (b - a) (drop a l)) → (i : ℕ) × (a ≤ i) × (i < b) × (get_or l i 0 ≡ e)
part_out a b l h g m =
    let r = place_of (take (b - a) (drop a l)) m in
    let c : length (take (b - a) (drop a l)) ≡ b - a = length-take-le (b - a) (drop a l) (omega (arith, length-drop a l)) in
    let j : r.0 < b - a = omega (arith, r.1, c) in
    (a + r.0, omega arith, omega arith, sym (get_or-drop a l r.0 0) ∙ sym (get_or-take (b - a) (drop a l) r.0 0 j) ∙ r.2)

pub part_in : (a b : ℕ) (l : List ℕ) → b ≤ length l → (i : ℕ) → a ≤ i → i < b → In (get_or l i 0) (take (b - a) (drop a l))
part_in a b l g i h k =
    let c : length (take (b - a) (drop a l)) ≡ b - a = length-take-le (b - a) (drop a l) (omega (arith, length-drop a l)) in
    let e : a + (i - a) ≡ i = omega arith in
    subst (λ (z : ℕ). In z (take (b - a) (drop a l)))
    (get_or-take (b - a) (drop a l) (i - a) 0 (omega arith) ∙ get_or-drop a l (i - a) 0 ∙ ap (λ (z : ℕ). get_or l z 0) e)
    (get_d_in (take (b - a) (drop a l)) (i - a) 0 (omega (arith, c)))

part_once : (a b : ℕ) (l : List ℕ) → Once l → Once (take (b - a) (drop a l))
part_once a b l u =
    pairwise_take (λ x y. x ≢ y) (b - a) (drop a l)
    (pairwise_right (λ x y. x ≢ y) (take a l) (drop a l) (subst Once (sym (take-append-drop a l)) u))

map_once : (f : ℕ → ℕ) (l : List ℕ) → Pairwise (λ x y. f x ≢ f y) l → Once (map f l)
map_once f [] u = tt
map_once f (x ∷ l) u = (
  λ y m e. let t = Memᴰ.of_map f l m in u.0 t.0 t.1 (e ∙ sym t.2),
  map_once f l u.1,
)

abbrev numbered : ℕ → ℕ
numbered e = e % 65536 / 2

module _ {n : ℕ} {table : List ℤ} {m : ℕ} {active lanes : List ℕ} {live : ℕ} (W : Known n table m active lanes live) where
  abbrev C : Chart
  C = finer n (piece_in table)

  abbrev K : Keyed C
  K = Q.K W

  abbrev keys : List ℕ
  keys = sorted_keys table n

  O : InOrder table n
  O = sorted_in_order table n

  -- ---- the ends and their keys
  min_stands : (i : ℕ) → i < n → standing (min_key table i) ≡ point_of (piece_in table i).min
  min_stands i h = (keys_stand n table W.few W.proper i h).0

  max_stands : (i : ℕ) → i < n → standing (max_key table i) ≡ point_of (piece_in table i).max
  max_stands i h = (keys_stand n table W.few W.proper i h).1

  pub end_at : (i : ℕ) → i < 2 * n → In (standing (get_or keys i 0)) (ends C (upto n))
  end_at i h = go (O.only (get_or keys i 0) (get_d_in keys i 0 (omega (arith, O.count))))
    where
      go : (j : ℕ) × (j < n) × ((get_or keys i 0 ≡ min_key table j) ⊎ (get_or keys i 0 ≡ max_key table j)) → In (standing (get_or keys i 0)) (ends C (upto n))
      go (j, b, inl e) = subst (λ (p : Point). In p (ends C (upto n))) (sym (ap standing e ∙ min_stands j b)) (min_in C j b)
      go (j, b, inr e) = subst (λ (p : Point). In p (ends C (upto n))) (sym (ap standing e ∙ max_stands j b)) (max_in C j b)

  pub key_occurs : (i : ℕ) → i < 2 * n → Occurs C (standing (get_or keys i 0))
  key_occurs i h = end_occurs C (ends_out C (end_at i h))

  -- where all ends are passed, none is left
  pub none_left : Split n table (run C m).last (2 * n) → keep (beyond C (run C m).last) (ends C (upto n)) ≡ []
  none_left Z = keep_none (beyond C (run C m).last) (ends C (upto n)) (λ x h. go x (ends_out C h))
    where
      at : {k : ℕ} (x : Point) → In k keys → standing k ≡ x → beyond C (run C m).last x ≡ false
      at x h d =
          let r = place_of keys h in
          ap (beyond C (run C m).last) (sym d ∙ ap standing (sym r.2)) ∙ Z.behind r.0 (omega (arith, r.1, O.count))

      go : (x : Point) → (j : ℕ) × (j < n) × ((x ≡ point_of (piece_in table j).min) ⊎ (x ≡ point_of (piece_in table j).max)) → beyond C (run C m).last x ≡ false
      go x (j, b, inl d) = at x (O.min_in j b) (min_stands j b ∙ sym d)
      go x (j, b, inr d) = at x (O.max_in j b) (max_stands j b ∙ sym d)

  module _ {passed : ℕ} (Z : Split n table (run C m).last passed) (h : passed < 2 * n) where
    -- ---- at the next end
    module _ (to : ℕ) (P : Passed keys passed to) where
      abbrev p : Point
      p = Q.end_next W Z h

      abbrev there_keys : List ℕ
      there_keys = take (to - passed) (drop passed keys)

      occurs : Occurs C p
      occurs = Q.end_next_occurs W Z h

      ordered : passed ≤ to
      ordered = let b = P.begun in omega arith

      stands_there : (e : ℕ) → In e there_keys → standing e ≡ p
      stands_there e i =
          let r = part_out passed to keys ordered P.within i in
          alike_stand e (get_or keys passed 0) (ap (λ (z : ℕ). z / 65536) (sym r.3) ∙ P.one r.0 r.1 r.2)

      among_keys : (e : ℕ) → In e there_keys → In e keys
      among_keys e i =
          let r = part_out passed to keys ordered P.within i in
          subst (λ (z : ℕ). In z keys) r.3 (get_d_in keys r.0 0 (omega (arith, r.2, P.within)))

      -- those behind do not stand there
      past : (i : ℕ) → to ≤ i → i < 2 * n → standing (get_or keys i 0) ≢ p
      past i a b e =
          let x = stand_alike (get_or keys i 0) (get_or keys passed 0) e in
          let u = O.rising passed to ordered (omega arith) in
          let v = O.rising to i a b in
          P.other (omega (arith, O.count)) (omega arith)

      not_behind : (i : ℕ) → standing (get_or keys i 0) ≡ p → passed ≤ i
      not_behind i e =
          ⊎_elim
          (λ (t : ltb i passed ≡ true). clash (Z.ahead passed (omega arith) h) (ap (beyond C (run C m).last) (sym e) ∙ Z.behind i (ltb-true i passed t)))
          (λ (t : ltb i passed ≡ false). ltb-false i passed t)
          (ask (ltb i passed))

      not_past : (i : ℕ) → i < 2 * n → standing (get_or keys i 0) ≡ p → i < to
      not_past i b e =
          ⊎_elim
          (λ (t : ltb i to ≡ true). ltb-true i to t)
          (λ (t : ltb i to ≡ false). absurd (past i (ltb-false i to t) b e))
          (ask (ltb i to))

      min_there : (e : ℕ) → In e (keep of_min there_keys) → MinOf table n e
      min_there e i = let k = keep_out of_min there_keys i in min_of table n W.few e (among_keys e k.0) k.1

      start_only : (i : ℕ) → In i (starters there_keys) → (i < n) × (starts C p i ≡ true)
      unfolding starters starts
      start_only i j =
          let t = Memᴰ.of_map numbered (keep of_min there_keys) j in
          let M = min_there t.0 t.1 in
          let d : C.min M.piece ≡ p = sym (min_stands M.piece M.within) ∙ ap standing (sym M.is) ∙ stands_there t.0 (keep_out of_min there_keys t.1).0 in
          subst (λ (z : ℕ). (z < n) × (same C (C.min z) p ≡ true)) (sym M.number ∙ t.2)
          (M.within, same_yes C K (C.min M.piece) p (min_occurs C M.piece M.within) occurs (ap K.key d))

      start_all : (i : ℕ) → i < n → starts C p i ≡ true → In i (starters there_keys)
      unfolding starters starts
      start_all i b e =
          let d : C.min i ≡ p = K.key_inj (C.min i) p (min_occurs C i b) occurs (same_true C K (C.min i) p (min_occurs C i b) occurs e) in
          let r = place_of keys (O.min_in i b) in
          let g = ap standing r.2 ∙ min_stands i b ∙ d in
          let v = min_is table i (omega (arith, W.few)) in
          let w = part_in passed to keys P.within r.0 (not_behind r.0 g) (not_past r.0 (omega (arith, r.1, O.count)) g) in
          subst (λ (z : ℕ). In z (map numbered (keep of_min there_keys))) v.1
          (Memᴰ.map numbered (keep_in of_min (subst (λ (z : ℕ). In z there_keys) r.2 w) v.0))

      start_once : Once (starters there_keys)
      unfolding starters
      start_once =
          map_once numbered (keep of_min there_keys)
          (pairwise_map (λ x y. x ≢ y) (λ x y. numbered x ≢ numbered y) (keep of_min there_keys)
          (λ x y mx my ne e.
          let a = min_there x mx in
          let b = min_there y my in
          ne (a.is ∙ ap (min_key table) (sym a.number ∙ e ∙ b.number) ∙ sym b.is))
          (pairwise_keep (λ x y. x ≢ y) of_min there_keys (part_once passed to keys (sorted_once table n W.few))))

      pub end_starting : Starting n table p there_keys
      end_starting = record { once = start_once; only = start_only; all = start_all }

      pub end_split : Split n table (some p) to
      unfolding beyond
      end_split = record {
        behind = λ i a.
            ⊎_elim
            (λ (t : ltb passed i ≡ true).
            ap (λ (z : Point). is_less (point_order p z)) (alike_stand (get_or keys i 0) (get_or keys passed 0) (P.one i (let b = ltb-true passed i t in omega arith) a)) ∙ ap is_less (point_itself p))
            (λ (t : ltb passed i ≡ false). keys_order_points (get_or keys i 0) (get_or keys passed 0) (O.rising i passed (ltb-false passed i t) h))
            (ask (ltb passed i));
        ahead = λ i a b.
            less_yes C K p (standing (get_or keys i 0)) occurs (key_occurs i b)
            (let u = less_false C K (standing (get_or keys i 0)) p (key_occurs i b) occurs (keys_order_points (get_or keys passed 0) (get_or keys i 0) (O.rising passed i (omega arith) b)) in
            let ne : K.key p ≢ K.key (standing (get_or keys i 0)) = λ e. past i a b (sym (K.key_inj p (standing (get_or keys i 0)) occurs (key_occurs i b) e)) in
            strictly (K.key p) (K.key (standing (get_or keys i 0))) u ne);
      }
        where
          strictly : (a b : ℕ) → a ≤ b → a ≢ b → a < b
          strictly a b u ne = ⊎_elim (λ (t : ltb a b ≡ true). ltb-true a b t) (λ (t : ltb a b ≡ false). absurd (ne (omega (arith, ltb-false a b t)))) (ask (ltb a b))

    -- ---- at a crossing in front of it
    module _ (r : ℕ) (N : Next table active lanes live (get_or keys passed 0) r) (l : r < live) where
      abbrev c : Point
      c = Q.lane_next W Z h r N l

      c_occurs : Occurs C c
      c_occurs = Q.lane_occurs W Z h r N l

      c_new : bound K.key (run C m).last ≤ K.key c
      c_new = (next_soonest C (Q.F W) (run C m) (Q.inv W) c (Q.next_is_lane W Z h r N l)).new

      is_beyond : (x : Point) → Occurs C x → K.key c ≤ K.key x → beyond C (run C m).last x ≡ true
      is_beyond x o g = beyond_yes C (Q.F W) (run C m).active (run C m).last (Q.inv W).lined x o (let u = c_new in omega arith)

      -- no end stands there
      no_start : (i : ℕ) → i < n → ¬ (starts C c i ≡ true)
      unfolding starts
      no_start i b e =
          let d = same_true C K (C.min i) c (min_occurs C i b) c_occurs e in
          let u = Q.before_ends W Z h r N l (C.min i) (keep_in (beyond C (run C m).last) (min_in C i b) (is_beyond (C.min i) (min_occurs C i b) (omega arith))) in
          omega arith

      pub lane_goes_on : (i : ℕ) → i < n → finishes C c i ≡ false
      unfolding finishes
      lane_goes_on i b =
          ⊎_elim
          (λ (e : same C (C.max i) c ≡ true).
          let d = same_true C K (C.max i) c (max_occurs C i b) c_occurs e in
          let u = Q.before_ends W Z h r N l (C.max i) (keep_in (beyond C (run C m).last) (max_in C i b) (is_beyond (C.max i) (max_occurs C i b) (omega arith))) in
          absurd (omega arith))
          (λ (e : same C (C.max i) c ≡ false). e)
          (ask (same C (C.max i) c))

      pub lane_starting : Starting n table c []
      unfolding starters keep
      lane_starting = record { once = tt; only = λ i j. elim j [ ]; all = λ i b e. absurd (no_start i b e) }

      pub lane_split : Split n table (some c) passed
      unfolding beyond
      lane_split = record {
        behind = λ i a.
            ⊎_elim
            (λ (t : is_less (point_order c (standing (get_or keys i 0))) ≡ true).
            let o = key_occurs i (omega arith) in
            let u = less_true C K c (standing (get_or keys i 0)) c_occurs o t in
            clash (is_beyond (standing (get_or keys i 0)) o (omega arith)) (Z.behind i a))
            (λ (t : is_less (point_order c (standing (get_or keys i 0))) ≡ false). t)
            (ask (is_less (point_order c (standing (get_or keys i 0)))));
        ahead = λ i a b.
            less_yes C K c (standing (get_or keys i 0)) c_occurs (key_occurs i b)
            (Q.before_ends W Z h r N l (standing (get_or keys i 0)) (keep_in (beyond C (run C m).last) (end_at i b) (Z.ahead i a b)));
      }
