-- Which file to open for which fact. From another crate: `use Rattle.chart_file.proofs.FILE.{..}`.
--   a number and its groups                       Spelling     value-spelled, spelled-value, length-spelled, fewest
--   groups read at a place                        AtPlace      canonical-read, spelled-read; Marks groups-exactly
--   a coordinate and what it is stored as         Turned       signed-stored, stored-signed, outside-stored
--   a number of a piece at a place                OneNumber    number-row, number-back
--   how a reading goes on, and stays refused      Steps
--   what a file begins with                       Begun
--   a reading and its row                         Files        reads-exactly, by Forth and Back
--   files and charts; the longest file            Files        reads-file, file-reads, chart-ranges; Longest
--   how much of an input decides its reading      Early        decided-early
--   which numbers a file is refused with           Refusals     refused-few
--   the count of pieces that were read            Counts       read-most
--   a result is known by what it says of a place   Told         groups-named, number-named
-- `Bytes`, `Passed`, `Numbers`, `Kept` and `Whole` are what the proofs of the code stand on.
pub mod Spelling
pub mod AtPlace
pub mod Bytes
pub mod Passed
pub mod Marks
pub mod Turned
pub mod Numbers
pub mod OneNumber
pub mod Steps
pub mod Begun
pub mod Forth
pub mod Back
pub mod Files
pub mod Longest
pub mod Early
pub mod Refusals
pub mod Counts
pub mod Examples
pub mod Told
pub mod Kept
pub mod Whole
