-- What holds of the count while a run goes on: it is the definition's, and small.
use mathlib.Core.Path.{◌≡◌, refl, sym, ap, ◌∙◌}
use mathlib.Core.List.{List}
use mathlib.Core.Option.{some}
use Prim.Native.Nat.{ℕ, suc, ◌+◌, ◌-◌, ◌*◌, ◌≤◌}
use native.Mathlib.Numerals.{add-one}
use native.Mathlib.Omega.{arith}
use lib.IntN.{ℤ}
use lib.ListN.{length, drop}
use Rattle.std.specs.Prelude.{Option, Some}
use Rattle.fractions.specs.declared.Point.{Point}
use Rattle.charts.specs.Chart.{most}
use Rattle.ported_arrays.specs.Event.{Sheet, stay, ranged, step}
use Rattle.ported_arrays.specs.Run.{next, onwards, start}
use Rattle.ported_pieces.specs.Table.{chart_in}
use Rattle.ported_queue.specs.Next.{next_by}
use Rattle.ported_ledger.specs.Views.{ledger}
use Rattle.ported_step.specs.Views.{Held, held}
use Rattle.ported_step.specs.Turns.{Steps}
use Rattle.examinations.specs.Examined.{examined}
use Rattle.ported_run.specs.Running.{places, Begun}
use Rattle.ported_run.proofs.Counting.{one_more}
use Rattle.ported_run.proofs.Running.{back, told, last_of, Going, next_is}

pub record Tallied (table : List ℤ) (ends active marks waiting bytes : List ℕ) (steps tally : ℕ) : Type 0 where
  pub few : tally ≤ steps * (2 * most)
  pub counted : (n : ℕ) → Begun n table ends active marks waiting bytes → tally ≡ examined (chart_in n table) steps

pub tallies_none : (table : List ℤ) (ends active marks waiting bytes : List ℕ) → Tallied table ends active marks waiting bytes 0 0
tallies_none table ends active marks waiting bytes = record { few = omega arith; counted = λ n B. unfold examined in refl }

module _ {table : List ℤ} {ends active₀ marks₀ waiting₀ bytes₀ : List ℕ} {budget : ℕ}
    {active marks waiting bytes : List ℕ} {passed live head end steps : ℕ} {last : Point}
    (G : Going table ends active₀ marks₀ waiting₀ bytes₀ budget active marks waiting bytes passed live head end steps last)
  where
    abbrev before : Held table
    before = held table ends passed active live (ledger marks waiting head bytes end)

    ranged_now : {p : Point} {after : Held table} {stays : ℕ} → Steps table p before after stays
        → (n : ℕ) → (after n (some p) (suc steps)).active ≡ ranged (chart_in n table) (before n (last_of steps last) steps) p
    unfolding step
    ranged_now S n = ap (λ (s : Sheet (chart_in n table)). s.active) (S.does n (last_of steps last) steps)

    counts : {p : Point} {after : Held table} {stays live' : ℕ} {tally tally' : ℕ} → Tallied table ends active₀ marks₀ waiting₀ bytes₀ steps tally
        → {r : Option Point} → ((n : ℕ) → r ≡ next_by n table (drop passed ends) (drop head waiting)) → r ≡ Some p
        → Steps table p before after stays
        → ((n : ℕ) → length (after n (some p) (suc steps)).active ≡ live')
        → tally' ≡ tally + ((stays - 1) + (live' - 1))
        → (n : ℕ) → Begun n table ends active₀ marks₀ waiting₀ bytes₀ → tally' ≡ examined (chart_in n table) (suc steps)
    unfolding examined
    counts {p} T at is S y e n B =
        let now : next (chart_in n table) (onwards (chart_in n table) steps (start (chart_in n table) places bytes₀)) ≡ some p = sym (next_is G n B) ∙ told n table (drop passed ends) (drop head waiting) (at n) ∙ ap back is in
        let x = S.stayed n (last_of steps last) steps ∙ ap (λ (s : Sheet (chart_in n table)). length (stay (chart_in n table) s p)) (G.held n B) in
        let z = sym (y n) ∙ ap length (ranged_now S n) ∙ ap (λ (s : Sheet (chart_in n table)). length (ranged (chart_in n table) s p)) (G.held n B) in
        omega (arith, e, T.counted n B, x, z, one_more n table bytes₀ B.few B.long B.lists steps p now)

    pub tallies : {p : Point} {after : Held table} {stays live' : ℕ} {tally tally' : ℕ} → Tallied table ends active₀ marks₀ waiting₀ bytes₀ steps tally
        → length active ≡ most → stays ≤ length active → live' ≤ length active
        → {r : Option Point} → ((n : ℕ) → r ≡ next_by n table (drop passed ends) (drop head waiting)) → r ≡ Some p
        → Steps table p before after stays
        → ((n : ℕ) → length (after n (some p) (suc steps)).active ≡ live')
        → tally' ≡ tally + ((stays - 1) + (live' - 1))
        → Tallied table ends active₀ marks₀ waiting₀ bytes₀ (steps + 1) tally'
    tallies T full a b at is S y e =
        record { few = omega (arith, T.few, e, full, a, b); counted = λ n B. rw (add-one steps) (counts T at is S y e n B) }
