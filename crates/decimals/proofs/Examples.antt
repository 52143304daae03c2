-- Numbers at the edges of a digit, and of the chart's range, computed.
-- Assumes nothing.
use mathlib.Core.Path.{◌≡◌, refl}
use lib.IntN.{pos, negsuc}
use Rattle.decimals.specs.Text.{ascii}
use Rattle.decimals.specs.Decimal.{digits, decimal, signed_decimal}

record Table : Type 0 where
  none : signed_decimal (pos 0) ≡ ascii "0"
  one_digit : signed_decimal (pos 9) ≡ ascii "9"
  two_digits : signed_decimal (pos 10) ≡ ascii "10"
  zeros_inside : signed_decimal (pos 1480) ≡ ascii "1480"
  below_zero : signed_decimal (negsuc 0) ≡ ascii "-1"
  most : signed_decimal (pos 32767) ≡ ascii "32767"
  least : signed_decimal (negsuc 32766) ≡ ascii "-32767"

table : Table
unfolding ascii digits decimal signed_decimal
table = record {
  none = refl;
  one_digit = refl;
  two_digits = refl;
  zeros_inside = refl;
  below_zero = refl;
  most = refl;
  least = refl;
}
