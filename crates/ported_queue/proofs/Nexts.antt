-- The next point by what stands at the two places: an end or none, a pair or none.
use mathlib.Core.Path.{◌≡◌, refl}
use mathlib.Core.Bool.{Bool, true, false}
use mathlib.Core.List.{List}
use Prim.Native.Nat.{ℕ, ◌≤◌, ◌<◌}
use lib.IntN.{ℤ}
use lib.ListN.{length, get_or, drop, drop_of_length-le}
use lib.Seq.{drop-cons}
use Rattle.std.specs.Prelude.{None, Some}
use Rattle.fractions.specs.Point.{point_order}
use Rattle.sweep.specs.Chart.{at}
use Rattle.sweep.specs.Ported.{is_less}
use Rattle.ported_pieces.specs.Table.{chart_in}
use Rattle.ported_arrays.specs.Numbers.{pair_of, end_of}
use Rattle.ported_arrays.specs.Run.{next_by'}
use Rattle.ported_queue.specs.Next.{next_by}

module _ (n : ℕ) (table : List ℤ) (ends waiting : List ℕ) (k h : ℕ) where
  pub neither : length ends ≤ k → length waiting ≤ h → None ≡ next_by n table (drop k ends) (drop h waiting)
  unfolding next_by next_by'
  neither a b = rw (drop_of_length-le ends a, drop_of_length-le waiting b) refl

  pub end_only : k < length ends → length waiting ≤ h → Some (end_of (chart_in n table) (get_or ends k 0)) ≡ next_by n table (drop k ends) (drop h waiting)
  unfolding next_by next_by'
  end_only a b = rw (drop-cons ends k 0 a, drop_of_length-le waiting b) refl

  pub pair_only : length ends ≤ k → h < length waiting → Some (at (chart_in n table) (pair_of (get_or waiting h 0))) ≡ next_by n table (drop k ends) (drop h waiting)
  unfolding next_by next_by'
  pair_only a b = rw (drop_of_length-le ends a, drop-cons waiting h 0 b) refl

  module _ (a : k < length ends) (b : h < length waiting) where
    abbrev first : Bool
    first = is_less (point_order (at (chart_in n table) (pair_of (get_or waiting h 0))) (end_of (chart_in n table) (get_or ends k 0)))

    pub pair_first : first ≡ true → Some (at (chart_in n table) (pair_of (get_or waiting h 0))) ≡ next_by n table (drop k ends) (drop h waiting)
    unfolding next_by next_by'
    pair_first e = rw (drop-cons ends k 0 a, drop-cons waiting h 0 b) (rw e refl)

    pub end_first : first ≡ false → Some (end_of (chart_in n table) (get_or ends k 0)) ≡ next_by n table (drop k ends) (drop h waiting)
    unfolding next_by next_by'
    end_first e = rw (drop-cons ends k 0 a, drop-cons waiting h 0 b) (rw e refl)
