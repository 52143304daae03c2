-- `supplied_entries::mark_entries` meets its contract: the entries below i are good, and their pairs are the marked ones.
use mathlib.Core.Path.{◌≡◌, refl, sym, ap, ap₂, ◌∙◌, subst}
use mathlib.Core.Bool.{Bool, true, false, cond}
use mathlib.Core.List.{List, []}
use Prim.Native.Nat.{ℕ, zero, suc, ◌<◌, ◌+◌, ◌*◌, ◌/◌, max, min}
use native.Mathlib.Numerals.{add-one}
use native.Mathlib.Omega.{arith}
use borrow.Author.Tests.{ltb-true, ltb-false}
use lib.Dec.{ltb}
use lib.ListN.{set, get_or, length, drop}
use Rattle.std.specs.Simd.{first_chunks}
use Rattle.std.proofs.lemmas.List.{get_or-take, get_or-drop}
use Rattle.line_segment.specs.declared.LineSegment.{LineSegment}
use Rattle.line_segment.specs.Segment.{intersect_of}
use Rattle.line_segment.specs.Demand.{says_yes}
use Rattle.charts.specs.Chart.{most}
use Rattle.charts.specs.PairList.{cell}
use Rattle.naive.specs.Decoded.{blank, meets_in}
use Rattle.supplied.specs.declared.EntryFault.TheVariants.{NoPiece, Itself, Apart, Repeated}
use Rattle.supplied.specs.Entries.{greater, lesser, one, other, top, low, named}
use Rattle.supplied.specs.Marks.{Marked, mark_of}
use Rattle.supplied.proofs.Entries.{in_order, no_piece, itself, apart, repeated, good, faults_none, faults_good, walked_fault}
use Rattle.supplied.proofs.Marks.{marked_more}
use Rattle.supplied_entries.proofs.mark_entries.Goals as goal

-- number j of entry i
byte_of : (bytes : List ℕ) (k i j : ℕ) → i < k → j < 2 → get_or (get_or (first_chunks 2 k bytes) i []) j 0 ≡ get_or bytes (2 * i + j) 0
byte_of bytes zero i j h l = absurd (omega arith)
byte_of bytes (suc k) zero j h l =
    let e : j ≡ 2 * 0 + j = omega arith in
    get_or-take 2 bytes j 0 l ∙ ap (λ (n : ℕ). get_or bytes n 0) e
byte_of bytes (suc k) (suc i) j h l =
    let e : 2 + (2 * i + j) ≡ 2 * suc i + j = omega arith in
    byte_of (drop 2 bytes) k i j (omega arith) l ∙ get_or-drop 2 bytes (2 * i + j) 0 ∙ ap (λ (n : ℕ). get_or bytes n 0) e

-- the greater is the entry's top, the lesser its low
greatest : (x y : ℕ) → max x y ≡ greater x y
unfolding greater
greatest x y = go (ltb x y) refl
  where
    go : (t : Bool) → ltb x y ≡ t → max x y ≡ cond t y x
    go true e = let h = ltb-true x y e in omega arith
    go false e = let h = ltb-false x y e in omega arith

least : (x y : ℕ) → min x y ≡ lesser x y
unfolding lesser
least x y = go (ltb x y) refl
  where
    go : (t : Bool) → ltb x y ≡ t → min x y ≡ cond t x y
    go true e = let h = ltb-true x y e in omega arith
    go false e = let h = ltb-false x y e in omega arith

-- of entry i, the numbers that the code goes by
module _ (bytes : List ℕ) (entries : List (List ℕ)) (i : ℕ) (e : entries ≡ first_chunks 2 (length bytes / 2) bytes) (h : i < length bytes / 2) where
  first_byte : get_or (get_or entries i []) 0 0 ≡ one bytes i
  first_byte = let z : 2 * i + 0 ≡ 2 * i = omega arith in rw e (byte_of bytes (length bytes / 2) i 0 h (omega arith) ∙ ap (λ (n : ℕ). get_or bytes n 0) z)

  second_byte : get_or (get_or entries i []) 1 0 ≡ other bytes i
  second_byte = rw e (byte_of bytes (length bytes / 2) i 1 h (omega arith))

  read : {a m b l : ℕ} → a ≡ m → m ≡ max (get_or (get_or entries i []) 0 0) (get_or (get_or entries i []) 1 0)
      → b ≡ l → l ≡ min (get_or (get_or entries i []) 0 0) (get_or (get_or entries i []) 1 0) → (a ≡ top bytes i) × (b ≡ low bytes i)
  read p q r s = (
    p ∙ q ∙ ap₂ max first_byte second_byte ∙ greatest (one bytes i) (other bytes i),
    r ∙ s ∙ ap₂ min first_byte second_byte ∙ least (one bytes i) (other bytes i),
  )

pub loop-i-init : goal.loop-i-init
loop-i-init c = let s = c.args in (faults_none s.bytes.now (meets_in s.pieces.all) s.n, c.requires.2)

-- of the two numbers, which are the entry's, the lesser is below the greater where they are two
smaller : (l : List ℕ) (i : ℕ) {a b : ℕ} → a ≡ top l i → b ≡ low l i → ¬ (a ≡ b) → b < a
smaller l i g h d = let k = in_order (one l i) (other l i) in omega (arith, k, g, h, d)

apart_here : (l : List ℕ) (i : ℕ) {a b : ℕ} → a ≡ top l i → b ≡ low l i → ¬ (a ≡ b) → ¬ (top l i ≡ low l i)
apart_here l i g h d e = d (g ∙ e ∙ sym h)

-- what the test says of the entry's pair
said : (all : List LineSegment) (l : List ℕ) (i : ℕ) {a b : ℕ} {r : Bool}
    → a ≡ top l i → b ≡ low l i → r ≡ says_yes (intersect_of (get_or all a blank) (get_or all b blank)) → meets_in all (top l i) (low l i) ≡ r
unfolding meets_in
said all l i g h e = sym (e ∙ ap₂ (meets_in all) g h)

-- the mark read is that of the entry's pair
marked : (marks : List Bool) (l : List ℕ) (i : ℕ) {a b : ℕ}
    → Marked marks l i → a ≡ top l i → b ≡ low l i → b < a → a < most → named l i (top l i) (low l i) ≡ mark_of marks a b
marked marks l i m g h d f = sym (ap₂ (mark_of marks) g h ∙ m.says _ _ (omega (arith, g, h, d)) (omega (arith, g, f)))

pub returns-then-n-a : goal.returns-then-n-a
returns-then-n-a c =
    let s = c.args in
    let l = c.loop-i in
    let k : l.i < length s.bytes.now / 2 = omega (arith, c.as_chunks.ensures.front_len) in
    let r = read s.bytes.now c.as_chunks.result.0.now l.i c.as_chunks.ensures.front k c.from-a.ensures c.max.ensures c.from-b.ensures c.min.ensures in
    walked_fault s.bytes.now (meets_in s.pieces.all) s.n _ l.i NoPiece l.invariant.0
    (no_piece s.bytes.now (meets_in s.pieces.all) s.n l.i (omega (arith, c.if-n-a.true, r.0))) k

pub returns-then-a-b : goal.returns-then-a-b
returns-then-a-b c =
    let s = c.args in
    let l = c.loop-i in
    let k : l.i < length s.bytes.now / 2 = omega (arith, c.as_chunks.ensures.front_len) in
    let r = read s.bytes.now c.as_chunks.result.0.now l.i c.as_chunks.ensures.front k c.from-a.ensures c.max.ensures c.from-b.ensures c.min.ensures in
    walked_fault s.bytes.now (meets_in s.pieces.all) s.n _ l.i Itself l.invariant.0
    (itself s.bytes.now (meets_in s.pieces.all) s.n l.i (omega (arith, c.if-n-a.false, r.0)) (sym r.0 ∙ c.if-a-b.true ∙ r.1)) k

pub returns-then-not-meets : goal.returns-then-not-meets
returns-then-not-meets c =
    let s = c.args in
    let l = c.loop-i in
    let k : l.i < length s.bytes.now / 2 = omega (arith, c.as_chunks.ensures.front_len) in
    let r = read s.bytes.now c.as_chunks.result.0.now l.i c.as_chunks.ensures.front k c.from-a.ensures c.max.ensures c.from-b.ensures c.min.ensures in
    walked_fault s.bytes.now (meets_in s.pieces.all) s.n _ l.i Apart l.invariant.0
    (apart s.bytes.now (meets_in s.pieces.all) s.n l.i (omega (arith, c.if-n-a.false, r.0)) (apart_here s.bytes.now l.i r.0 r.1 c.if-a-b.false)
    (said s.pieces.all s.bytes.now l.i r.0 r.1 c.meets.ensures ∙ c.if-not-meets.true)) k

pub returns-then-marks-a : goal.returns-then-marks-a
unfolding cell
returns-then-marks-a c =
    let s = c.args in
    let l = c.loop-i in
    let k : l.i < length s.bytes.now / 2 = omega (arith, c.as_chunks.ensures.front_len) in
    let r = read s.bytes.now c.as_chunks.result.0.now l.i c.as_chunks.ensures.front k c.from-a.ensures c.max.ensures c.from-b.ensures c.min.ensures in
    let d = smaller s.bytes.now l.i r.0 r.1 c.if-a-b.false in
    walked_fault s.bytes.now (meets_in s.pieces.all) s.n _ l.i Repeated l.invariant.0
    (repeated s.bytes.now (meets_in s.pieces.all) s.n l.i (omega (arith, c.if-n-a.false, r.0)) (apart_here s.bytes.now l.i r.0 r.1 c.if-a-b.false)
    (said s.pieces.all s.bytes.now l.i r.0 r.1 c.meets.ensures ∙ c.if-not-meets.false)
    (marked l.marks s.bytes.now l.i l.invariant.1 r.0 r.1 d (omega (arith, c.if-n-a.false, c.requires.0)) ∙ c.if-marks-a.true)) k

pub loop-i-preserved : goal.loop-i-preserved
unfolding cell
loop-i-preserved c =
    let s = c.args in
    let l = c.loop-i in
    let k : l.i < length s.bytes.now / 2 = omega (arith, c.as_chunks.ensures.front_len) in
    let r = read s.bytes.now c.as_chunks.result.0.now l.i c.as_chunks.ensures.front k c.from-a.ensures c.max.ensures c.from-b.ensures c.min.ensures in
    let d = smaller s.bytes.now l.i r.0 r.1 c.if-a-b.false in (
      rw add-one (faults_good s.bytes.now (meets_in s.pieces.all) s.n l.i l.invariant.0
          (good s.bytes.now (meets_in s.pieces.all) s.n l.i (omega (arith, c.if-n-a.false, r.0)) (apart_here s.bytes.now l.i r.0 r.1 c.if-a-b.false)
          (said s.pieces.all s.bytes.now l.i r.0 r.1 c.meets.ensures ∙ c.if-not-meets.false)
          (marked l.marks s.bytes.now l.i l.invariant.1 r.0 r.1 d (omega (arith, c.if-n-a.false, c.requires.0)) ∙ c.if-marks-a.false))),
      subst (λ (k : ℕ). Marked (set l.marks k true) s.bytes.now (l.i + 1)) (sym (ap₂ (λ (x y : ℕ). cell (x, y)) r.0 r.1))
          (subst (Marked (set l.marks (cell (top s.bytes.now l.i, low s.bytes.now l.i)) true) s.bytes.now) (sym (add-one l.i))
          (marked_more s.bytes.now l.i l.marks l.invariant.1 (omega (arith, d, r.0, r.1)) (omega (arith, c.if-n-a.false, c.requires.0, r.0)))),
    )
