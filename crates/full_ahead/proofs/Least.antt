-- A member of a list of points than which none is less is its least.
use mathlib.Core.Path.{◌≡◌, ap, ◌∙◌}
use mathlib.Core.Logic.{◌⊎◌, inl, inr}
use mathlib.Core.Bool.{false}
use mathlib.Core.List.{List}
use mathlib.Core.List.{Memᴰ as In}
use mathlib.Core.Option.{none, some}
use native.Mathlib.Omega.{arith}
use Rattle.sweep.specs.Chart.{Chart}
use Rattle.sweep.specs.Queue.{least}
use Rattle.sweep.specs.Geometry.{Occurs}
use Rattle.sweep.proofs.Between.{which}
use Rattle.sweep.proofs.Least.{least_none, least_some}
use Rattle.sweep.proofs.Ranked.{Keyed, less_false}

pub least_is : (C : Chart) (K : Keyed C) (l : List C.Point) (p : C.Point) → ((x : C.Point) → In x l → Occurs C x)
    → In p l → ((x : C.Point) → In x l → C.less x p ≡ false) → least C l ≡ some p
least_is C K l p occur m f = go (which (least C l))
  where
    go : (least C l ≡ none) ⊎ ((q : C.Point) × (least C l ≡ some q)) → least C l ≡ some p
    go (inl e) = absurd (least_none C l e p m)
    go (inr (q, e)) =
        let r = least_some C K l q occur e in
        let o = occur q r.0 in
        e ∙ ap some (K.key_inj q p o (occur p m) (let a = r.1 p m in let b = less_false C K q p o (occur p m) (f q r.0) in omega (arith, a, b)))
