-- One byte after another renamed.
-- Assumes nothing.
use mathlib.Core.Path.{◌≡◌, refl, sym, ◌∙◌}
use mathlib.Core.List.{List, map}
use Prim.Native.Nat.{ℕ, suc, ◌+◌, ◌<◌}
use native.Mathlib.Numerals.{add-one}
use native.Mathlib.Omega.{arith}
use borrow.Table.Elements.{map_app}
use lib.ListN.{length, get_or, take, drop, set, length-map}
use lib.Seq.{drop-cons, take-suc, set_at, get_or_at, length-take-le, append_snoc}
use Rattle.open_chart.specs.Listing.{named, renamed}

module _ (names before : List ℕ) where
  pub renamed_none : before ≡ renamed names 0 before
  unfolding renamed
  renamed_none = refl

  module _ (i : ℕ) (h : i < length before) where
    front : length (map (named names) (take i before)) ≡ i
    front = length-map (take i before) (named names) ∙ length-take-le i before (omega arith)

    -- the byte at i is still the old one
    pub renamed_reads : get_or (renamed names i before) i 0 ≡ get_or before i 0
    unfolding renamed
    renamed_reads = rw (drop-cons before i 0 h) (get_or_at (map (named names) (take i before)) (get_or before i 0) (drop (suc i) before) 0 i front)

    pub renamed_more : set (renamed names i before) i (named names (get_or before i 0)) ≡ renamed names (i + 1) before
    unfolding renamed
    renamed_more =
        rw (add-one, drop-cons before i 0 h, take-suc before i 0 h, map_app)
        (set_at (map (named names) (take i before)) (get_or before i 0) (drop (suc i) before) (named names (get_or before i 0)) i front
        ∙ sym (append_snoc (map (named names) (take i before)) (named names (get_or before i 0)) (drop (suc i) before)))
