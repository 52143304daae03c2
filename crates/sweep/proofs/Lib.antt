-- Which file to open for which fact. From another crate: `use Rattle.sweep.proofs.FILE.{..}`.
--   every promise, from the facts of geometry        Promises    promises; of any run: run-promises
--   two runs say the same                            Alike       same-answers
--   what holds on every chart                        Always      always
--   the strong statement, of any walk                Theorem     walk-visits, walk-lists
--   whatever the geometry: runs add up, lists grow   Runs        runs-on, lists-on, steps-visited; Walks: of any walk
--   one step of the ported mode                      Stepped     step-inv; Marked, Next, Active, Reported, Examined
--   of whichever mode: what holds between steps      Between     Lined, Met, Soonest, no-point; Neighbours
--   .. the next point, who is there, what is listed  Queued, Soonest, Listing, Lining
--   the first common point                           First       first-on, first-least
--   points by their keys; which points occur         Ranked      less-true, same-true; Occurring: occurs-out
--   the points in order                              Ascending   points-up
--   lists                                            Lists, Sorting, Pairs, Least; Tests for Booleans
pub mod Tests
pub mod Lists
pub mod Sorting
pub mod Pairs
pub mod Rank
pub mod Active
pub mod Occurring
pub mod Ranked
pub mod Least
pub mod Neighbours
pub mod First
pub mod Between
pub mod Queued
pub mod Soonest
pub mod Listing
pub mod Lining
pub mod Walks
pub mod Ascending
pub mod Theorem
pub mod Fair
pub mod Marked
pub mod Next
pub mod Reported
pub mod Examined
pub mod Stepped
pub mod Runs
pub mod Promises
pub mod Always
pub mod Alike
