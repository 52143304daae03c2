-- The order of two fractions, over the whole numbers.
use Rattle.std.specs.Prelude.{cond, ℕ, ℤ, pos, neg_ℤ, ◌*ℤ◌}
use Rattle.fractions.specs.Order.{order}
use Rattle.std.specs.declared.cmp.Ordering.{Ordering}
use Rattle.fractions.specs.declared.Fraction.{Fraction}

-- "Order of two fractions is exact, though the products compared outgrow 64 bits."
-- x over d against y over e, by cross-multiplication
unfoldable pub ratio_order : ℤ → ℕ → ℤ → ℕ → Ordering
ratio_order x d y e = order (x *ℤ pos e) (y *ℤ pos d)

-- what stands above the line, with its sign. "A piece's height .. has larger terms: below 2^49 under the line, below 2^64 in size above it."
unfoldable pub above : Fraction → ℤ
above f = cond f.negative (neg_ℤ (pos f.over)) (pos f.over)

unfoldable pub fraction_order : Fraction → Fraction → Ordering
fraction_order a b = ratio_order (above a) a.under (above b) b.under
