-- `put_groups`: groups up to a place have gone out; what is left goes out in the rest of them.
use mathlib.Core.Path.{◌≡◌, ap, ◌∙◌}
use mathlib.Core.List.{List, ◌++◌}
use Prim.Native.Nat.{ℕ, ◌+◌, ◌-◌, ◌≤◌, ◌<◌}
use native.Mathlib.Nat.{add-zero}
use native.Mathlib.Omega.{arith}
use borrow.Rule.Slice.PartMut.{put_mid}
use lib.ListN.{length, set, take, drop, take-append-drop}
use lib.Seq.{sets, set-append_left, length-take-le}
use Rattle.std.proofs.lemmas.List.{set-append_right}
use Rattle.chart_file.specs.Groups.{spelled}
use Rattle.chart_file.specs.Format.{groups}
use Rattle.chart_writer.proofs.Puts.{Left, all_left, one_more, last_one}
use Rattle.chart_writer.proofs.Zeros.{counts_groups}
use Rattle.file_groups.proofs.put_groups.Goals as goal
use Rattle.file_groups.proofs.put_groups.Goals.{After-more_groups}

module _ (l : List ℕ) (a k : ℕ) where
  -- a part as it was
  whole : put_mid a k l (take k (drop a l)) ≡ l
  whole = ap (λ (r : List ℕ). take a l ++ r) (take-append-drop k (drop a l)) ∙ take-append-drop a l

  -- a store into a part
  within : (ys : List ℕ) (j v : ℕ) → a ≤ length l → j < length ys → set (put_mid a k l ys) (a + j) v ≡ put_mid a k l (set ys j v)
  within ys j v h g =
      let e : a + j - a ≡ j = omega arith in
      set-append_right (take a l) (ys ++ drop k (drop a l)) a (a + j) v (length-take-le a l h) (omega arith)
      ∙ ap (λ (i : ℕ). take a l ++ set (ys ++ drop k (drop a l)) i v) e
      ∙ ap (λ (r : List ℕ). take a l ++ r) (set-append_left ys (drop k (drop a l)) j v g)

-- with the last one they are all the groups
counted : (c : After-more_groups) → c.more_groups.result + 1 ≡ length (spelled groups c.args.v)
counted c =
    c.more_groups.ensures ∙ counts_groups 32 groups c.args.v c.ranges.v.fits (omega arith) c.requires.0

pub overflow_add-last : goal.overflow_add-last
overflow_add-last c = record { fits = omega (arith, counted c, c.requires.1, c.well_formed) }

pub slice_bounds-group-items-end : goal.slice_bounds-group-items-end
slice_bounds-group-items-end c =
    let h : c.args.at + c.more_groups.result ≤ length c.args.out.now = omega (arith, c.more_groups.ensures ∙ counts_groups 32 groups c.args.v c.ranges.v.fits (omega arith) c.requires.0, c.requires.1) in
    h

pub loop-group-init : goal.loop-group-init
loop-group-init c =
    let a = c.args in
    let e = c.more_groups.ensures ∙ counts_groups 32 groups a.v c.ranges.v.fits (omega arith) c.requires.0 in
    (omega (arith, e), rw (add-zero a.at, whole _ _ _) (all_left groups a.v a.at a.out.now (omega arith) c.requires.0))

pub loop-group-preserved : goal.loop-group-preserved
loop-group-preserved c =
    let a = c.args in
    let l = c.loop-group in
    let more = one_more groups a.v a.at a.out.now (a.at + l.group-index) l.rest _ l.invariant.1 (omega (arith, l.invariant.0)) in
    let e : a.at + l.group-index + 1 ≡ a.at + (l.group-index + 1) = omega arith in
    (l.invariant.0, rw (e, within a.out.now a.at _ l.group-items l.group-index _ (omega (arith, l.invariant.0, c.requires.1)) (omega arith)) at more)

-- the last group is what is left, and goes where there is room
last : (v at i j rest : ℕ) (out now : List ℕ) → at + j ≡ i → i + 1 ≡ at + length (spelled groups v) → at + length (spelled groups v) ≤ length out
    → Left groups v at out (at + j) rest now → (i < length now) × (rest < 128) × (set now i rest ≡ sets out at (spelled groups v))
last v at i j rest out now e n h l =
    let t = last_one groups v at out (at + j) rest now l (omega arith) in
    (omega (arith, l.size), t.0, rw e at t.1)

pub overflow_cast-out : goal.overflow_cast-out
overflow_cast-out c =
    let a = c.args in
    let l = c.loop-group in
    let e : a.at + l.group-index ≡ a.at + c.more_groups.result = omega (arith, l.invariant.0, c.requires.1) in
    record { fits = omega (arith, (last _ _ _ _ _ _ _ e l.invariant.0 c.requires.1 l.invariant.1).1) }

pub bounds-out-last : goal.bounds-out-last
bounds-out-last c =
    let a = c.args in
    let l = c.loop-group in
    let e : a.at + l.group-index ≡ a.at + c.more_groups.result = omega (arith, l.invariant.0, c.requires.1) in
    (last _ _ _ _ _ _ _ e l.invariant.0 c.requires.1 l.invariant.1).0

pub returns : goal.returns
returns c =
    let a = c.args in
    let l = c.loop-group in
    let e : a.at + l.group-index ≡ a.at + c.more_groups.result = omega (arith, l.invariant.0, c.requires.1) in
    (l.invariant.0, (last _ _ _ _ _ _ _ e l.invariant.0 c.requires.1 l.invariant.1).2)
