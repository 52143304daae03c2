-- The contracts of what reads one number allow one result each.
-- Assumes nothing.
use mathlib.Core.Path.{sym, ◌∙◌}
use Rattle.charts.specs.Outcome.{OneResult}
use Rattle.chart_file.proofs.Told.{groups_named, number_named}
use Rattle.file_numbers.proofs.count_at.Reads as count_at
use Rattle.file_numbers.proofs.kind_at.Reads as kind_at
use Rattle.file_numbers.proofs.coordinate_at.Reads as coordinate_at

pub count_at_once : OneResult count_at.Post
count_at_once κ a x y s t h k = groups_named x y (h ∙ sym k)

pub kind_at_once : OneResult kind_at.Post
kind_at_once κ a x y s t h k = number_named x y (h ∙ sym k)

pub coordinate_at_once : OneResult coordinate_at.Post
coordinate_at_once κ a x y s t h k = number_named x y (h ∙ sym k)
