-- A list of pairs cut in parts, whose lines one after the other are those of the list.
-- Assumes nothing.
use mathlib.Core.Path.{◌≡◌, refl, sym, ap, ◌∙◌}
use mathlib.Core.List.{List, [], ◌∷◌, ◌++◌, append_assoc, append-nil}
use Prim.Native.Nat.{ℕ, zero, suc, ◌+◌, ◌*◌, ◌/◌, ◌≤◌, ◌<◌, zero-le}
use native.Mathlib.Nat.{le_refl}
use native.Mathlib.Omega.{arith}
use lib.IntN.{ℤ}
use lib.ListN.{length, take, drop, length-drop}
use lib.Seq.{take_all, drop-drop}
use borrow.Author.Tests.{eq-eqb, ne_eqb}
use Rattle.charts.specs.Piece.{piece_at}
use Rattle.place.specs.Place.{where_of}
use Rattle.sweep.specs.Lists.{Pair}
use Rattle.bentley_ottmann.specs.declared.Swept.{Swept}
use Rattle.decimals.specs.Text.{ascii}
use Rattle.listing_lines.specs.Lines.{count_line, pair_line, pairs_in, pair_lines}
use Rattle.listing.specs.Listing.{chart_lines}
use Rattle.listing_parts.specs.Parts.{part_bytes, parts_of, head_of, foot_of, part_of}
use Rattle.listing_parts.specs.Demand.{joined}

-- ---- a cut between two pairs
pub pairs_cut : (m : ℕ) (l : List ℕ) → pairs_in (take (2 * m) l) ++ pairs_in (drop (2 * m) l) ≡ pairs_in l
unfolding pairs_in
pairs_cut zero l = refl
pairs_cut (suc m) l = let e : 2 * suc m ≡ suc (suc (2 * m)) = omega arith in rw e (go l (pairs_cut m))
  where
    go : (l : List ℕ) → ((l : List ℕ) → pairs_in (take (2 * m) l) ++ pairs_in (drop (2 * m) l) ≡ pairs_in l) → pairs_in (take (suc (suc (2 * m))) l) ++ pairs_in (drop (suc (suc (2 * m))) l) ≡ pairs_in l
    go [] h = refl
    go (a ∷ []) h = refl
    go (a ∷ b ∷ l) h = ap (λ (r : List Pair). (a, b) ∷ r) (h l)

pub pairs_few : (m : ℕ) (l : List ℕ) → length (pairs_in (take (2 * m) l)) ≤ m
unfolding pairs_in
pairs_few zero l = zero-le
pairs_few (suc m) l = let e : 2 * suc m ≡ suc (suc (2 * m)) = omega arith in rw e (go l (pairs_few m))
  where
    go : (l : List ℕ) → ((l : List ℕ) → length (pairs_in (take (2 * m) l)) ≤ m) → length (pairs_in (take (suc (suc (2 * m))) l)) ≤ suc m
    go [] h = zero-le
    go (a ∷ []) h = zero-le
    go (a ∷ b ∷ l) h = omega (arith, h l)

lines_append : (list : List ℤ) (ps qs : List Pair) → pair_lines list (ps ++ qs) ≡ pair_lines list ps ++ pair_lines list qs
unfolding pair_lines
lines_append list [] qs = refl
lines_append list (p ∷ ps) qs =
    let line = pair_line (where_of (piece_at list p.0) (piece_at list p.1)) p.0 p.1 in
    ap (λ (l : List ℕ). line ++ l) (lines_append list ps qs) ∙ sym (append_assoc line (pair_lines list ps) (pair_lines list qs))

lines_cut : (list : List ℤ) (l : List ℕ) → pair_lines list (pairs_in (take part_bytes l)) ++ pair_lines list (pairs_in (drop part_bytes l)) ≡ pair_lines list (pairs_in l)
lines_cut list l = sym (lines_append list (pairs_in (take part_bytes l)) (pairs_in (drop part_bytes l))) ∙ ap (pair_lines list) (pairs_cut (part_bytes / 2) l)

-- ---- the parts
seam : (head some more foot : List ℕ) → (head ++ some ++ []) ++ (more ++ foot) ≡ head ++ (some ++ more) ++ foot
seam head some more foot =
    ap (λ (l : List ℕ). l ++ (more ++ foot)) (append-nil (head ++ some))
    ∙ sym (append_assoc (head ++ some) more foot)
    ∙ ap (λ (l : List ℕ). l ++ foot) (append_assoc head some more)

module _ (list : List ℤ) (swept : Swept) (pairs : List ℕ) where
  abbrev last : ℕ
  last = length pairs / part_bytes

  abbrev part : ℕ → List ℕ
  part = part_of 0 list swept pairs

  -- what is left to print when the parts before k are printed
  rest : ℕ → List ℕ
  rest k = head_of list swept.complete k ++ pair_lines list (pairs_in (drop (part_bytes * k) pairs)) ++ count_line (ascii "steps ") swept.steps

  part_then : (k : ℕ) → k < last → part k ++ rest (suc k) ≡ rest k
  unfolding rest part_of head_of foot_of
  part_then k h =
      let e : part_bytes * suc k ≡ part_bytes * k + part_bytes = omega arith in
      let d : drop (part_bytes * suc k) pairs ≡ drop part_bytes (drop (part_bytes * k) pairs) = ap (λ (i : ℕ). drop i pairs) e ∙ sym (drop-drop part_bytes (part_bytes * k) pairs) in
      let head = head_of list swept.complete k in
      let foot = count_line (ascii "steps ") swept.steps in
      rw (ne_eqb k last (λ q. omega arith), ne_eqb (suc k) 0 (λ q. omega arith), d)
      (seam head (pair_lines list (pairs_in (take part_bytes (drop (part_bytes * k) pairs)))) (pair_lines list (pairs_in (drop part_bytes (drop (part_bytes * k) pairs)))) foot
      ∙ ap (λ (l : List ℕ). head ++ l ++ foot) (lines_cut list (drop (part_bytes * k) pairs)))

  part_last : part last ≡ rest last
  unfolding rest part_of foot_of
  part_last =
      rw (eq-eqb last last refl, take_all part_bytes (drop (part_bytes * last) pairs) (omega (arith, length-drop (part_bytes * last) pairs)))
      refl

  before_rest : (k : ℕ) → k ≤ last → joined part k ++ rest k ≡ rest 0
  unfolding joined
  before_rest zero h = refl
  before_rest (suc k) h =
      append_assoc (joined part k) (part k) (rest (suc k))
      ∙ ap (λ (l : List ℕ). joined part k ++ l) (part_then k (omega arith))
      ∙ before_rest k (omega arith)

  pub joined_lines : joined part (parts_of (length pairs)) ≡ chart_lines list (length list / 5) swept.complete (pairs_in pairs) swept.steps
  unfolding joined chart_lines rest head_of
  joined_lines = ap (λ (l : List ℕ). joined part last ++ l) part_last ∙ before_rest last (le_refl last)
