-- From another crate: `use Rattle.piece_out.proofs.FILE.{..}`.
--   the statements of specs/Demand, kept                    Promises
--   numbers lowered and raised; the list without a piece    Numbers, Lists
--   pairs without those of a piece                          Pairs       without-in, without-out, without-pairwise
--   the lists in order without a piece                      Rest        order-without, all-pairs-without
--   a chart on which the ported mode hides a meeting        Examples    hides
pub mod Numbers
pub mod Lists
pub mod Pairs
pub mod Rest
pub mod Promises
pub mod Examples
