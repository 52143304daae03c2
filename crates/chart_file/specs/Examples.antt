-- The examples of docs/CHART.md of numbers and files, as one table over the definitions; the starred ones are the first five rows.
use Rattle.std.specs.Prelude.{◌≡◌, [], ◌∷◌, pos, negsuc}
use Rattle.chart_file.specs.Found.{Read, Refused}
use Rattle.chart_file.specs.Format.{bytes_of, count_of}
use Rattle.chart_file.specs.Reading.{due, stopped, coordinate_at, reading_of}

pub record Examples : Type 0 where
  -- "FF FF 03 as a coordinate: 5. 80 00: 2. 80 and the end: 1."
  pub too_far : coordinate_at (0xff ∷ 0xff ∷ 0x03 ∷ []) 0 ≡ Refused 5
  pub padded : coordinate_at (0x80 ∷ 0x00 ∷ []) 0 ≡ Refused 2
  pub unended : coordinate_at (0x80 ∷ []) 0 ≡ Refused 1
  -- "Empty file: 1. File 00: zero pieces."
  pub empty : reading_of [] ≡ stopped 1 0
  pub no_pieces : reading_of (0x00 ∷ []) ≡ due [] 1
  -- "As coordinates, 32,767 is FE FF 03; -32,767 is FD FF 03; 64 is 80 01; -1 is 01."
  pub most : bytes_of 1 (pos 32767) ≡ 0xfe ∷ 0xff ∷ 0x03 ∷ []
  pub least : bytes_of 1 (negsuc 32766) ≡ 0xfd ∷ 0xff ∷ 0x03 ∷ []
  pub sixty_four : bytes_of 1 (pos 64) ≡ 0x80 ∷ 0x01 ∷ []
  pub minus_one : bytes_of 1 (negsuc 0) ≡ 0x01 ∷ []
  pub most_read : coordinate_at (0xfe ∷ 0xff ∷ 0x03 ∷ []) 0 ≡ Read (pos 32767) 3
  pub least_read : coordinate_at (0xfd ∷ 0xff ∷ 0x03 ∷ []) 0 ≡ Read (negsuc 32766) 3
  pub sixty_four_read : coordinate_at (0x80 ∷ 0x01 ∷ []) 0 ≡ Read (pos 64) 2
  pub minus_one_read : coordinate_at (0x01 ∷ []) 0 ≡ Read (negsuc 0) 1
  -- "For bytes 02 03 00 00 08 08 03 00 08 08 00": (0,0)-(4,4) and (0,4)-(4,0), kind 3
  pub crossing : reading_of (0x02 ∷ 0x03 ∷ 0x00 ∷ 0x00 ∷ 0x08 ∷ 0x08 ∷ 0x03 ∷ 0x00 ∷ 0x08 ∷ 0x08 ∷ 0x00 ∷ [])
      ≡ due (pos 3 ∷ pos 0 ∷ pos 0 ∷ pos 4 ∷ pos 4 ∷ pos 3 ∷ pos 0 ∷ pos 4 ∷ pos 4 ∷ pos 0 ∷ []) 11
  -- "a third group with its high bit set is 2 even where the file ends there"
  pub third_marked : coordinate_at (0x80 ∷ 0x80 ∷ 0x80 ∷ []) 0 ≡ Refused 2
  -- "6 after the four coordinates", "where the kind starts"
  pub no_length : reading_of (0x01 ∷ 0x03 ∷ 0x02 ∷ 0x02 ∷ 0x02 ∷ 0x02 ∷ []) ≡ stopped 6 1
  -- "Counts 200 and 201", which are C8 01 and C9 01: after the first a piece is due
  pub count_200 : reading_of (0xc8 ∷ 0x01 ∷ []) ≡ stopped 1 2
  pub count_201 : reading_of (0xc9 ∷ 0x01 ∷ []) ≡ stopped 3 0
  -- "two groups from 128 on": 127 is 7F, and 128 is 80 01
  pub count_127 : count_of 127 ≡ 0x7f ∷ []
  pub count_128 : count_of 128 ≡ 0x80 ∷ 0x01 ∷ []
  -- "1 and 2 apply" to the count; "a count of three groups is read, then refused with 3": 16,384 is 80 80 01
  pub count_cut : reading_of (0x80 ∷ []) ≡ stopped 1 0
  pub count_padded : reading_of (0x80 ∷ 0x00 ∷ []) ≡ stopped 2 0
  pub count_unended : reading_of (0x80 ∷ 0x80 ∷ 0x80 ∷ []) ≡ stopped 2 0
  pub count_16384 : reading_of (0x80 ∷ 0x80 ∷ 0x01 ∷ []) ≡ stopped 3 0
