-- Each public function's contract allows one result, whatever the arguments: `OneResult` of the contract itself.
-- Assumes nothing.
use mathlib.Core.Path.{sym, ◌∙◌}
use Rattle.charts.specs.Outcome.{OneResult}
use Rattle.chart_pieces.proofs.number_at.Reads as number_at
use Rattle.chart_pieces.proofs.coordinate.Reads as coordinate
use Rattle.chart_pieces.proofs.piece_at.Reads as piece_at'
use Rattle.chart_pieces.proofs.is_upright.Reads as is_upright
use Rattle.chart_pieces.proofs.no_upright.Reads as no_upright

pub number_at_once : OneResult number_at.Post
number_at_once κ a x y s t h k = h ∙ sym k

pub coordinate_once : OneResult coordinate.Post
coordinate_once κ a x y s t h k = h ∙ sym k

pub piece_at_once : OneResult piece_at'.Post
piece_at_once κ a x y s t h k = h ∙ sym k

pub is_upright_once : OneResult is_upright.Post
is_upright_once κ a x y s t h k = h ∙ sym k

pub no_upright_once : OneResult no_upright.Post
no_upright_once κ a x y s t h k = h ∙ sym k
