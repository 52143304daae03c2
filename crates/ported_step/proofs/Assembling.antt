-- A step put together from its parts: the passed fronts, the flags, the pieces here, and the passes over pairs.
use mathlib.Core.Path.{◌≡◌, refl, sym, ap, ap₂, ◌∙◌, subst}
use mathlib.Core.Bool.{Bool, true, false, cond, not}
use mathlib.Core.Option.{Option, some}
use mathlib.Core.List.{List, [], ◌∷◌, ◌++◌}
use mathlib.Core.List.Memᴰ.{head as here}
use mathlib.Core.List.Memᴰ.{tail as there}
use mathlib.Core.List.{Memᴰ as In}
use Prim.Native.Nat.{ℕ, suc, ◌+◌}
use native.Mathlib.Omega.{arith}
use lib.IntN.{ℤ}
use lib.ListN.{length, take, drop, replicate}
use lib.Seq.{slice, length-slice}
use Rattle.charts.specs.Chart.{most}
use Rattle.fractions.specs.declared.Point.{Point}
use Rattle.ported_pieces.specs.Table.{chart_in}
use Rattle.sweep.specs.Lists.{keep, pairs, adjacent}
use Rattle.sweep.specs.Chart.{Chart}
use Rattle.sweep.specs.Step.{each}
use Rattle.ported_arrays.specs.Numbers.{is_min, end_at, crossing_at}
use Rattle.ported_arrays.specs.Insertion.{front, join_all}
use Rattle.ported_arrays.specs.Ledger.{Ledger, report, examine}
use Rattle.ported_arrays.specs.Event.{Sheet, flag, halves, pieces, free_all, starting, finishing, turning, dropped, stay, enter, ranged, examined, step}
use Rattle.ported_arrays.specs.Event.{here as gathered}
use Rattle.ported_passing.specs.Passing.{Passing}
use Rattle.ported_active.specs.Roles.{stays_by, enters_by}
use Rattle.ported_gather.specs.Joined.{contains_in}
use Rattle.ported_ledger.specs.Views.{ledger}
use Rattle.ported_step.specs.Views.{sheet, ranged_of}

front_in : (f : ℕ → Bool) (l : List ℕ) {x : ℕ} → In x (front f l) → In x l
unfolding front
front_in f [] m = m
front_in f (y ∷ l) {x} m = go (f y) (λ k. front_in f l k) m
  where
    go : (b : Bool) → (In x (front f l) → In x l) → In x (cond b (y ∷ front f l) []) → In x (y ∷ l)
    go true r (here e) = here e
    go true r (there k) = there (r k)
    go false r k = elim k [ ]

-- what was passed was left before
pub passed_in : {f : ℕ → Bool} {l : List ℕ} {from to x : ℕ} → Passing f l from to → In x (slice from to l) → In x (drop from l)
passed_in {f} {l} {from} {to} {x} P m = front_in f (drop from l) (subst (λ (z : List ℕ). In x z) P.passed m)

module _ (n : ℕ) (table : List ℤ) (p : Point) (ends active marks waiting bytes : List ℕ) (passed live head end : ℕ) (last : Option Point) (steps : ℕ) where
  abbrev entry : Sheet (chart_in n table)
  entry = sheet n table ends passed active live (ledger marks waiting head bytes end) last steps

  module _ (e1 w1 : ℕ) (E : Passing (end_at (chart_in n table) p) ends passed e1) (W : Passing (crossing_at (chart_in n table) p) waiting head w1)
      (start finish turned freed hs : List ℕ)
      (start_is : start ≡ flag (halves (keep is_min (slice passed e1 ends))) (replicate most 0))
      (finish_is : finish ≡ flag (halves (keep (λ f. not (is_min f)) (slice passed e1 ends))) (replicate most 0))
      (turned_is : turned ≡ flag (pieces (slice head w1 waiting)) (replicate most 0))
      (freed_is : freed ≡ free_all (slice head w1 waiting) marks)
      (hs_are : hs ≡ join_all most (halves (slice passed e1 ends) ++ (pieces (slice head w1 waiting) ++ keep (contains_in table p) (take live active))) []) where
    abbrev C : Chart
    C = chart_in n table

    starting_is : starting C entry p ≡ start
    unfolding starting
    starting_is = sym (start_is ∙ ap (λ (l : List ℕ). flag (halves (keep is_min l)) (replicate most 0)) E.passed)

    finishing_is : finishing C entry p ≡ finish
    unfolding finishing
    finishing_is = sym (finish_is ∙ ap (λ (l : List ℕ). flag (halves (keep (λ f. not (is_min f)) l)) (replicate most 0)) E.passed)

    turning_is : turning C entry p ≡ turned
    unfolding turning
    turning_is = sym (turned_is ∙ ap (λ (l : List ℕ). flag (pieces l) (replicate most 0)) W.passed)

    here_is : gathered C entry p ≡ hs
    unfolding gathered
    here_is =
        sym (hs_are
        ∙ ap₂ (λ (x : List ℕ) (y : List ℕ). join_all most (halves x ++ (pieces y ++ keep (contains_in table p) (take live active))) []) E.passed W.passed)

    dropped_is : dropped C entry p ≡ ledger freed waiting w1 bytes end
    unfolding dropped
    dropped_is =
        let k : head + length (slice head w1 waiting) ≡ w1 = omega (arith, length-slice head w1 waiting W.within, W.onwards) in
        sym (rw (freed_is, ← W.passed, ← W.left, k) refl)

    pub stay_is : stay C entry p ≡ keep (stays_by finish turned) (take live active)
    unfolding stay
    stay_is = rw (finishing_is, turning_is) refl

    enter_is : enter C entry p ≡ keep (enters_by start finish turned) hs
    unfolding enter
    enter_is = rw (starting_is, finishing_is, turning_is, here_is) refl

    ranged_is : ranged C entry p ≡ ranged_of table p most (keep (stays_by finish turned) (take live active)) (keep (enters_by start finish turned) hs)
    unfolding ranged
    ranged_is = rw (stay_is, enter_is) refl

    pub assembled : (book1 book2 : Ledger) (act : List ℕ) (room : ℕ) → room ≡ most
        → book1 ≡ each (report C) (pairs hs) (ledger freed waiting w1 bytes end)
        → act ≡ ranged_of table p room (keep (stays_by finish turned) (take live active)) (keep (enters_by start finish turned) hs)
        → book2 ≡ each (examine C p) (adjacent act) (each (examine C p) (adjacent (keep (stays_by finish turned) (take live active))) book1)
        → ◌≡◌ {A = Sheet C} (record { ends = drop e1 ends; active = act; ledger = book2; last = some p; steps = suc steps }) (step C entry p)
    unfolding step examined
    assembled book1 book2 act room full one two three =
        rw (three, one, two, full) (rw (here_is, dropped_is, stay_is, ranged_is, E.left) refl)
