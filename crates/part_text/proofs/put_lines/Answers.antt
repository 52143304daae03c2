-- `put_lines` meets its contract: the bytes of a part's pairs, as many as there are.
use mathlib.Core.Path.{◌≡◌, refl, ap}
use mathlib.Core.List.{List, []}
use Prim.Native.Nat.{ℕ, ◌+◌, ◌*◌, ◌-◌}
use native.Mathlib.Omega.{arith}
use lib.ListN.{take, drop}
use Rattle.decimals.specs.Text.{put}
use Rattle.decimals.proofs.Puts.{put_as}
use Rattle.listing_lines.specs.Lines.{pairs_in, pair_lines}
use Rattle.listing_parts.specs.Parts.{part_bytes}
use Rattle.listing_parts.proofs.Cases.{none_behind, all_left}
use Rattle.part_text.proofs.put_lines.Goals as goal

pub returns-then-last-part : goal.returns-then-last-part
unfolding put pair_lines
returns-then-last-part c =
    let s = c.args in
    put_as [] _ _ refl (ap (pair_lines s.list.now) (none_behind s.pairs.now s.part c.if-last-part.true))

pub returns-then-part-last : goal.returns-then-part-last
returns-then-part-last c =
    let s = c.args in
    put_as _ _ _ c.put_pairs.ensures
    (ap (λ (l : List ℕ). pair_lines s.list.now (pairs_in l)) (all_left s.pairs.now s.part c.if-part-last.true _ refl))

pub returns : goal.returns
returns c =
    let s = c.args in
    let size : part_bytes * s.part + part_bytes - part_bytes * s.part ≡ part_bytes = omega arith in
    put_as _ _ _ c.put_pairs-2.ensures
    (ap (λ (k : ℕ). pair_lines s.list.now (pairs_in (take k (drop (part_bytes * s.part) s.pairs.now)))) size)
