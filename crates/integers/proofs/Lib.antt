-- Which file to open for which goal. From another crate: `use Rattle.integers.proofs.FILE.{..}`.
--   an equation of polynomials                     Identity    by-ring
--   a linear order or equation                     Linear      ≤-goal, <-goal, ≡-goal; ≤-fact and so on for what is known
--   an order with products                         Order       ≤-cert, <-cert, over the signs of Signs
--   which of two is less; chains of orders         Order       tri, ≤-trans, <-trans, ≤-<-trans, ≤-antisym
--   a factor put in or cancelled; zero products    Factors     *-mono-<, *-cancel-<, p/p, zero-product
--   the order of fractions                         Ratios      ratio-<-trans and its kin
--   a linear function: its sign, its zero          Lines       rises, falls, stays-above, root-up, root-down
--   one of three answers, by order                 Comparison  three-less, three-neither, by-three
--   from ℕ to ℤ and back                           Naturals    pos-≤, pos-<, ≤-pos, <-pos, natural
--   a size, |z| ≤ A                                Sizes       small-of, small-lo, small-hi, small-up
--   code: it fits, it is the formula, its bound    Machine     m-fits, m-eq, m-bound, m-carry
--   code: what a branch says                       Tests       m-yes, m-no; the sets `sized` and `ranged`
--   code: a type's range as two orders             Ranges      range-lo, range-hi, range-of
--   code: casts between signed and unsigned        Unsigned    m-under, m-cast, m-size
-- `Ring` and `Polynomial` are what `Identity` stands on.
pub mod Ring
pub mod Polynomial
pub mod Identity
pub mod Signs
pub mod Order
pub mod Factors
pub mod Ratios
pub mod Lines
pub mod Linear
pub mod Comparison
pub mod Naturals
pub mod Sizes
pub mod Machine
pub mod Tests
pub mod Unsigned
pub mod Ranges
mod Examples
