-- Less, Equal, Greater: what each says of two whole numbers.
use Rattle.std.specs.Prelude.{ℤ}
use Rattle.integers.specs.Order.{three}
use Rattle.std.specs.Ordering.{ordering_reverse, ordering_then}
use Rattle.std.specs.declared.cmp.Ordering.{Ordering}
use Rattle.std.specs.declared.cmp.Ordering.TheVariants.{Less, Equal, Greater}

-- Less where a is below b, Greater where b is below a
unfoldable pub order : ℤ → ℤ → Ordering
order a b = three Less Equal Greater a b

-- seen from the other side
abbrev pub turned : Ordering → Ordering
turned = ordering_reverse

-- the second answer where the first is Equal
abbrev pub and_then : Ordering → Ordering → Ordering
and_then = ordering_then
