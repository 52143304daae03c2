-- Which file to open for which fact. From another crate: `use Rattle.sorted_keys.proofs.FILE.{..}`.
--   a number put among numbers in order          Inserted  from_left, place_rising, insert_rising, all_rising, insert_length, all_append, insert_swap
--   halves put in order and put together         Merged    put_in_order, halves
--   one list in order of the same numbers        Ordered   sorted_is; for the wrong programs of must-fail/ left_out, turned
pub mod Inserted
pub mod Merged
pub mod Ordered
