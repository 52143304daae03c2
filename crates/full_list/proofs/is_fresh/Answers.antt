-- `full_list::is_fresh` meets its contract: each arm knows what the test says.
use mathlib.Core.Path.{◌≡◌, refl, sym, ap₂, ◌∙◌}
use mathlib.Core.Bool.{Bool, ◌||◌}
use Rattle.line_segment.specs.declared.Meeting.{Meeting}
use Rattle.full_list.proofs.Freshness.{by_nothing, by_crossing, by_overlap}
use Rattle.full_list.proofs.is_fresh.Goals as goal

told : {r m m' : Meeting} → r ≡ m' → r ≡ m → m' ≡ m
told d e = sym d ∙ e

pub returns-then-starts : goal.returns-then-starts
returns-then-starts c =
    λ q m.
    let s = c.args in
    ap₂ (λ (a : Bool) (b : Bool). a || b) (sym c.if-starts.true ∙ c.starts.ensures q m) refl
    ∙ by_overlap s.table.now q s.i s.j _ refl (told c.test.ensures c.in-Overlap.is)

pub returns-in-Nothing : goal.returns-in-Nothing
returns-in-Nothing c =
    λ q m. by_nothing _ q _ _ (told c.test.ensures c.in-Nothing.is)

pub returns-in-Crossing : goal.returns-in-Crossing
returns-in-Crossing c =
    λ q m. by_crossing _ q _ _ (told c.test.ensures c.in-Crossing.is)

pub returns-else-starts : goal.returns-else-starts
returns-else-starts c =
    λ q m.
    let s = c.args in
    c.starts-in-Overlap.ensures q m
    ∙ ap₂ (λ (a : Bool) (b : Bool). a || b) (sym c.if-starts.false ∙ c.starts.ensures q m) refl
    ∙ by_overlap s.table.now q s.i s.j _ refl (told c.test.ensures c.in-Overlap.is)
