-- `chart_pieces::no_upright` meets its contract: none of the numbers below n is that of an upright piece.
use Rattle.std.proofs.Common.{◌≡◌, ℕ, zero, suc, ◌+◌, Bool, ◌&&◌, not, List, ℤ, sym, ap, ◌∙◌, add-one, add-zero, zero-add, arith, tests, rules}
use Rattle.std.proofs.Math.Bool.{and-true, and_assoc}
use Rattle.std.specs.List.{list_all, range_with_len}
use Rattle.std.proofs.lemmas.Iterator.{YieldsList-from_range}
use Rattle.std.proofs.lemmas.Iterator.Search.{all_from_yields_List}
use Rattle.charts.specs.Piece.{piece_at, is_upright, no_upright}
use Rattle.charts.proofs.Upright.{upright_none}
use Rattle.chart_pieces.proofs.no_upright.Goals as goal

-- whether piece i is none
abbrev slopes : List ℤ → ℕ → Bool
slopes list i = not (is_upright (piece_at list i))

-- the pieces below a, and the n from a on
all_below : (list : List ℤ) (a n : ℕ) → (no_upright list a && list_all (slopes list) (range_with_len a n)) ≡ no_upright list (a + n)
unfolding no_upright
all_below list a zero = rw add-zero (and-true (no_upright list a))
all_below list a (suc n) =
    sym (and_assoc (no_upright list a) (slopes list a) (list_all (slopes list) (range_with_len (a + 1) n)))
    ∙ ap (λ (k : ℕ). no_upright list k && list_all (slopes list) (range_with_len (a + 1) n)) (sym (add-one a))
    ∙ all_below list (a + 1) n ∙ (let e : (a + 1) + n ≡ a + suc n = omega arith in ap (no_upright list) e)

pub returns : goal.returns
returns c =
    let list = c.args.list.now in
    let n = c.args.n in
    all_from_yields_List (slopes list) _ _ c.all.result c.all.ensures.ran (YieldsList-from_range 0 n n (cc) (omega arith)) (λ x b q k. search (rules, tests))
    ∙ rw (upright_none, zero-add) at (all_below list 0 n)
