-- `full_points::shifted` meets its contract: at least 0, and 48 and 49 bits fit.
use Prim.Native.Nat.{◌^◌}
use native.Mathlib.Nat.{le_of_lt}
use lib.IntN.{pos, ◌+ℤ◌, ◌*ℤ◌}
use mir.Syntax.{w64}
use mir.Val.{to_z, of_z}
use Rattle.integers.specs.Size.{Small}
use Rattle.integers.proofs.Machine.{steps, m_small, m_fits}
use Rattle.integers.proofs.Unsigned.{m_under, m_cast, m_size, s_size}
use Rattle.full_points.proofs.Spots.{natural_of}
use Rattle.full_points.proofs.shifted.Goals as goal

pub overflow_mul-result : goal.overflow_mul-result
overflow_mul-result c = m_fits (search (steps, m_under) depth 60 fits 20000) tt

pub overflow_add-result : goal.overflow_add-result
overflow_add-result c = let s : Small (2 ^ 48) c.args.x = record { small = le_of_lt c.requires.size } in m_fits (search (steps, m_small, m_under) depth 60 fits 20000) tt

pub overflow_cast-result-2 : goal.overflow_cast-result-2
overflow_cast-result-2 c =
    let s : Small (2 ^ 48) c.args.x = record { small = le_of_lt c.requires.size } in
    m_cast w64 (to_z w64 (of_z w64 (to_z w64 (of_z w64 c.args.x) +ℤ to_z w64 (of_z w64 (pos 32768 *ℤ to_z w64 c.args.d))))) (search (steps, m_small, m_under) depth 60 fits 20000) tt c.requires.from

pub returns : goal.returns
returns c = let s : Small (2 ^ 48) c.args.x = record { small = le_of_lt c.requires.size } in natural_of (m_size (search (steps, m_small, m_under, s_size) depth 60 fits 20000) tt) c.requires.from
