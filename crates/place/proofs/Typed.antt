-- A piece that a call is handed has i16 ends, by its type: `typed_piece` of what is known of a parameter, `c.good.0`.
-- Assumes nothing.
use mathlib.Core.List.{List}
use Prim.Native.Nat.{◌^◌, ◌<◌}
use lib.IntN.{ℤ}
use lib.Signed.{mag}
use mir.Syntax.{w16}
use mir.Val.{Val}
use denote.Laws.{Is}
use denote.Struct.Declared.{row}
use denote.Struct.Laws.{owed}
use Rattle.integers.specs.Size.{Small}
use Rattle.integers.proofs.Machine.{m_range, m_bound}
use Rattle.line_segment.specs.declared.EndPoint.{EndPoint}
use Rattle.line_segment.specs.declared.LineSegment.{LineSegment}
use Rattle.line_segment.specs.contracts.EndPoint as end
use Rattle.line_segment.proofs.EndPoint.TheLaws as end_laws
use Rattle.line_segment.specs.contracts.LineSegment as piece
use Rattle.line_segment.proofs.LineSegment.TheLaws as piece_laws
use Rattle.place.specs.Demand.{EndInRange, InRange}

i16 : (z : ℤ) → mag z < 2 ^ 15 → Small (2 ^ 15) z
i16 z h = m_bound (m_range {w = w16} {z = z} (record { sfits = h })) tt

typed_end : (e : EndPoint) (vs : List Val) → Is (row end.the_type) e vs → EndInRange e
typed_end e vs is = let told = owed end.the_type end_laws.the_laws e vs is in record { x = i16 e.x told.0.1; y = i16 e.y told.1.0.1 }

pub typed_piece : (s : LineSegment) (vs : List Val) → Is (row piece.the_type) s vs → InRange s
typed_piece s vs is =
    let told = owed piece.the_type piece_laws.the_laws s vs is in
    record { min = typed_end s.min _ told.0; max = typed_end s.max _ told.1.0 }
