-- `put_numbers`: the pieces before this one have gone out, and of this one the kind and the coordinates before v; the others
-- end where all do.
use borrow.Author.Rules.{rules}
use borrow.Rule.Slice.PartMut.{mid_of, mid_len}
use mathlib.Core.Path.{◌≡◌, ap, ◌∙◌}
use mathlib.Core.List.{List, []}
use Prim.Native.Nat.{ℕ, zero, suc, ◌+◌, ◌*◌, ◌/◌, ◌%◌, ◌≤◌, ◌<◌}
use native.Mathlib.Omega.{arith}
use lib.IntN.{ℤ, pos}
use lib.ListN.{length, get_or, drop, length-drop}
use lib.Seq.{length-take-le, get_or-take, get_or-drop}
use mir.Syntax.{w32}
use mir.Val.{of_z, to_z}
use mir.Facts.{to_z-of_z}
use Rattle.std.specs.Simd.{first_chunks}
use Rattle.chart_file.specs.Coordinate.{stored}
use Rattle.chart_writer.proofs.Numbers.{kind_small, coordinate_small, Rest, kind_room, kind_rest, coordinate_room, coordinate_rest, no_rest}
use Rattle.file_writer.proofs.put_numbers.Goals as goal
use Rattle.file_writer.proofs.put_numbers.Goals.{After-stored, At-loop-v}

-- number j of piece p, of n
number_of : (list : List ℤ) (n p j : ℕ) → p < n → j < 5 → get_or (get_or (first_chunks 5 n list) p []) j (pos 0) ≡ get_or list (5 * p + j) (pos 0)
number_of list zero p j h l = absurd (omega arith)
number_of list (suc n) zero j h l =
    let e : j ≡ 5 * 0 + j = omega arith in
    get_or-take 5 list j (pos 0) l ∙ ap (λ (i : ℕ). get_or list i (pos 0)) e
number_of list (suc n) (suc p) j h l =
    let e : 5 + (5 * p + j) ≡ 5 * suc p + j = omega arith in
    number_of (drop 5 list) n p j (omega arith) l ∙ get_or-drop 5 list (5 * p + j) (pos 0) ∙ ap (λ (i : ℕ). get_or list i (pos 0)) e

-- a piece has five
five : (list : List ℤ) (n p : ℕ) → p < n → 5 * n ≤ length list → length (get_or (first_chunks 5 n list) p []) ≡ 5
five list zero p h r = absurd (omega arith)
five list (suc n) zero h r = length-take-le 5 list (omega arith)
five list (suc n) (suc p) h r = five (drop 5 list) n p (omega arith) (omega (arith, length-drop 5 list))

-- of piece p, what the code reads
module _ (list : List ℤ) (pieces : List (List ℤ)) (p : ℕ) (e : pieces ≡ first_chunks 5 (length list / 5) list) (h : p < length list / 5) where
  kind_there : get_or (get_or pieces p []) 0 (pos 0) ≡ get_or list (5 * p) (pos 0)
  kind_there =
      let z : 5 * p + 0 ≡ 5 * p = omega arith in
      rw e (number_of list (length list / 5) p 0 h (omega arith) ∙ ap (λ (i : ℕ). get_or list i (pos 0)) z)

  four : length (mid_of 1 4 (get_or pieces p [])) ≡ 4
  four = rw e (mid_len 1 5 (get_or (first_chunks 5 (length list / 5) list) p []) (omega (arith, five list (length list / 5) p h (omega arith))))

  coordinate_there : (j : ℕ) → j < 4 → get_or (mid_of 1 4 (get_or pieces p [])) j (pos 0) ≡ get_or list (5 * p + 1 + j) (pos 0)
  coordinate_there j l =
      let z : 5 * p + (1 + j) ≡ 5 * p + 1 + j = omega arith in
      let piece = get_or pieces p [] in
      get_or-take 4 (drop 1 piece) j (pos 0) l ∙ get_or-drop 1 piece j (pos 0)
      ∙ rw e (number_of list (length list / 5) p (1 + j) h (omega arith) ∙ ap (λ (i : ℕ). get_or list i (pos 0)) z)

pub overflow_cast-out : goal.overflow_cast-out
overflow_cast-out c =
    let list = c.args.list.now in
    let p = c.loop-piece.piece-index in
    let more : p < length list / 5 = omega (arith, c.loop-piece-test.true, c.as_chunks.ensures.front_len) in
    let kept : to_z w32 (of_z w32 (get_or list (5 * p) (pos 0))) ≡ get_or list (5 * p) (pos 0) = to_z-of_z {w = w32} (search rules) in
    let k = kind_small (5 * p % 5) (get_or list (5 * p) (pos 0)) (omega arith) (c.requires.1.ranged (5 * p) (omega arith)) in
    rw (kind_there list c.as_chunks.result.0.now p c.as_chunks.ensures.front more, kept, k.0) (tt, record { fits = omega (arith, k.1) })

pub bounds-out-next : goal.bounds-out-next
bounds-out-next c =
    let l = c.loop-piece in
    let i = 5 * l.piece-index in
    let more : i < length c.args.list.now = omega (arith, c.loop-piece-test.true, c.as_chunks.ensures.front_len) in
    kind_room c.args.list.now c.args.at c.args.out.now i l.next l.out l.invariant (omega arith) more c.requires.2

-- the piece is one of the list's, and four coordinates follow its kind
more : (c : At-loop-v) → c.loop-piece.piece-index < length c.args.list.now / 5
more c = omega (arith, c.loop-piece-test.true, c.as_chunks.ensures.front_len)

all_four : (c : At-loop-v) → length (mid_of 1 4 (get_or c.as_chunks.result.0.now c.loop-piece.piece-index [])) ≡ 4
all_four c = four c.args.list.now c.as_chunks.result.0.now c.loop-piece.piece-index c.as_chunks.ensures.front (more c)

-- what is left when the coordinates before v have gone out
here : (c : At-loop-v)
    → let a = c.args in Rest a.list.now a.at a.out.now (5 * c.loop-piece.piece-index + 1 + c.loop-v.v-index) c.loop-v.next c.loop-v.out
here c =
    let a = c.args in
    let l = c.loop-piece in
    let p = l.piece-index in
    let kept : to_z w32 (of_z w32 (get_or a.list.now (5 * p) (pos 0))) ≡ get_or a.list.now (5 * p) (pos 0) = to_z-of_z {w = w32} (search rules) in
    c.loop-v.invariant a.at a.out.now
    (rw (kind_there a.list.now c.as_chunks.result.0.now p c.as_chunks.ensures.front (more c), kept)
    (kind_rest a.list.now a.at a.out.now (5 * p) l.next l.out l.invariant (omega arith) (omega (arith, more c)) (5 * p + 1) (omega arith)))

-- what the coordinate is stored as
said : (c : After-stored) → c.stored.result ≡ stored (get_or c.args.list.now (5 * c.loop-piece.piece-index + 1 + c.loop-v.v-index) (pos 0))
said c =
    let list = c.args.list.now in
    let p = c.loop-piece.piece-index in
    let j = c.loop-v.v-index in
    let kept : to_z w32 (of_z w32 (get_or list (5 * p + 1 + j) (pos 0))) ≡ get_or list (5 * p + 1 + j) (pos 0) = to_z-of_z {w = w32} (search rules) in
    c.stored.ensures ∙ ap (λ (v : ℤ). stored (to_z w32 (of_z w32 v)))
    (coordinate_there list c.as_chunks.result.0.now p c.as_chunks.ensures.front (more c.before.before.before) j (omega (arith, c.loop-v-test.true, all_four c.before.before.before)))
    ∙ ap stored kept

pub put_groups-next-requires : goal.put_groups-next-requires
put_groups-next-requires c =
    let list = c.args.list.now in
    let i = 5 * c.loop-piece.piece-index + 1 + c.loop-v.v-index in
    let b = c.before.before.before.before in
    let short : c.loop-v.v-index < 4 = omega (arith, c.loop-v-test.true, all_four b) in
    rw (said c.before) (
      coordinate_small (i % 5) (get_or list i (pos 0)) (λ e. omega arith) (c.requires.1.ranged i (omega (arith, more b))),
      coordinate_room list c.args.at c.args.out.now i c.loop-v.next c.loop-v.out (here b) (λ e. omega arith) (omega (arith, more b)) c.requires.2,
    )

pub loop-v-preserved : goal.loop-v-preserved
loop-v-preserved c =
    let list = c.args.list.now in
    let i = 5 * c.loop-piece.piece-index + 1 + c.loop-v.v-index in
    let s = c.before.before.before.before.before in
    let b = s.before.before.before in
    let short : c.loop-v.v-index < 4 = omega (arith, c.loop-v-test.true, all_four b) in
    let t = rw (said s) at c.put_groups-next.ensures in
    λ at before w. coordinate_rest list at before i c.loop-v.next c.loop-v.out (c.loop-v.invariant at before w) (λ e. omega arith) (omega (arith, more b)) _ _ _ (omega arith) t.0 t.1

pub loop-piece-preserved : goal.loop-piece-preserved
loop-piece-preserved c =
    let e : 5 * c.loop-piece.piece-index + 1 + c.loop-v.v-index ≡ 5 * (c.loop-piece.piece-index + 1) = omega (arith, c.loop-v-test.false, c.loop-v.auto.v-index-end, all_four c.before) in
    rw e at (here c.before)

pub returns : goal.returns
returns c =
    no_rest c.args.list.now c.args.at c.args.out.now (5 * c.loop-piece.piece-index) c.loop-piece.next c.loop-piece.out c.loop-piece.invariant
    (omega (arith, c.loop-piece-test.false, c.loop-piece.auto.piece-index-end, c.as_chunks.ensures.front_len, c.requires.0))
