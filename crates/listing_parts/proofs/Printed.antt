-- The parts of a file that was read and swept are its listing, and each has room.
-- Assumes nothing.
use mathlib.Core.Path.{◌≡◌, refl, sym, ap, subst, ◌∙◌}
use mathlib.Core.Bool.{Bool, true, false, cond}
use mathlib.Core.List.{List, [], ◌++◌}
use mathlib.Core.List.{Memᴰ as In}
use mathlib.Core.List.Memᴰ
use Prim.Native.Nat.{ℕ, zero, suc, ◌+◌, ◌*◌, ◌-◌, ◌/◌, ◌≤◌}
use native.Mathlib.Omega.{arith}
use lib.Dec.{eqb}
use lib.IntN.{ℤ}
use lib.ListN.{length, take, drop, length-append}
use Rattle.charts.specs.Chart.{most, pieces, verdict_of}
use Rattle.charts.specs.Piece.{piece_at}
use Rattle.charts.specs.Answer.{room}
use Rattle.charts.specs.declared.Answer.{Answer}
use Rattle.charts.specs.Verdict.{Accepted}
use Rattle.charts.proofs.Accepted.{accepted_most}
use Rattle.charts.proofs.Room.{room_none}
use Rattle.chart_file.specs.Groups.{Bytes}
use Rattle.chart_file.specs.Reading.{due, stopped, reading_of, Reads}
use Rattle.chart_file.proofs.Refusals.{refused_few}
use Rattle.sweep.specs.Lists.{Pair}
use Rattle.full_steps.specs.Steps.{answer}
use Rattle.full_order.specs.Finer.{finer}
use Rattle.bentley_ottmann.specs.declared.Swept.{Swept}
use Rattle.listing.specs.Swept.{sweep_of, lent_after}
use Rattle.decimals.specs.Text.{ascii}
use Rattle.listing_lines.specs.Lines.{count_line, complete_line, pairs_in, pair_lines}
use Rattle.listing_lines.proofs.Widths.{count_width, complete_width}
use Rattle.listing.specs.Listing.{largest, chart_lines, chart_text, text_of, listing_of}
use Rattle.listing.proofs.Counts.{most_room, room_few, lists_only, steps_few}
use Rattle.listing.proofs.Reader.{Charted, refused, uncounted, charted}
use Rattle.listing.proofs.Room.{lines_width}
use Rattle.listing.proofs.Sweeps.{Listed, full_sweep}
use Rattle.listing_parts.specs.Parts.{part_bytes, parts_of, longest_part, head_of, foot_of, part_of}
use Rattle.listing_parts.specs.Demand.{joined, ReadList, SweptList, PrintsAll, PartFits}
use Rattle.listing_parts.proofs.Cases.{part_refused, part_charted}
use Rattle.listing_parts.proofs.Cut.{pairs_cut, pairs_few, joined_lines}

-- ---- what a caller has by the contracts of the reader and the sweep
pub of_read : (file : List ℕ) (lent : List ℤ) (read : Answer) (after : List ℤ) → Bytes file → 5 * most ≤ length lent → Reads file lent read after
    → ReadList read.number (take (5 * read.count) after)
of_read file lent read after b h w =
    record { file = file; bytes = b; lent = lent; room_lent = h; read = read; after = after; reads = w; answered = refl; front = refl }

pub of_sweep : (list : List ℤ) (lent : List ℕ) (swept : Swept) (after : List ℕ) → room most ≤ length lent
    → swept ≡ sweep_of list largest (length lent) → after ≡ lent_after list largest lent → SweptList list swept (take (2 * swept.pairs) after)
of_sweep list lent swept after h e l = record { lent = lent; room_lent = h; answered = e; front = ap (take (2 * swept.pairs)) l }

no_pieces : (list : List ℤ) → list ≡ [] → verdict_of list ≡ Accepted (length list / 5)
unfolding verdict_of pieces
no_pieces list e = rw e refl

module _ (number : ℕ) (list : List ℤ) (swept : Swept) (pairs : List ℕ) (r : ReadList number list) (s : SweptList list swept pairs) where
  abbrev n : ℕ
  n = length list / 5

  -- ---- what was read
  chart : number ≡ 0 → Charted r.file r.after r.read.count
  chart e = charted r.file r.bytes r.lent r.room_lent r.read r.after r.reads (sym r.answered ∙ e)

  reads_list : (e : number ≡ 0) → reading_of r.file ≡ due list (chart e).at
  reads_list e = subst (λ (l : List ℤ). reading_of r.file ≡ due l (chart e).at) (sym r.front) (chart e).reads

  none : (number ≡ 0 → ⊥) → list ≡ []
  none z =
      r.front
      ∙ ap (λ (k : ℕ). take (5 * k) r.after) (uncounted r.file r.bytes r.lent r.room_lent r.read r.after r.reads (λ q. z (r.answered ∙ q)))

  is_refused : (number ≡ 0 → ⊥) → reading_of r.file ≡ stopped number r.read.place
  is_refused z =
      refused r.file r.bytes r.lent r.room_lent r.read r.after r.reads (λ q. z (r.answered ∙ q))
      ∙ ap (λ (k : ℕ). stopped k r.read.place) (sym r.answered)

  accepted : verdict_of list ≡ Accepted n
  accepted = go number refl
    where
      go : (k : ℕ) → number ≡ k → verdict_of list ≡ Accepted n
      go zero e = subst (λ (l : List ℤ). verdict_of l ≡ Accepted (length l / 5)) (sym r.front) (chart e).accepted
      go (suc k) e = no_pieces list (none (λ q. omega arith))

  -- ---- what was swept
  listed_is : Listed list n swept (lent_after list largest s.lent)
  listed_is = full_sweep list n accepted s.lent s.room_lent swept (lent_after list largest s.lent) s.answered refl

  pub pairs_most : 2 * swept.pairs ≤ most * (most - 1)
  pairs_most = omega (arith, listed_is.few, room_few list n accepted, most_room)

  pairs_are : pairs_in pairs ≡ (answer (finer n (piece_at list)) largest).listed
  pairs_are = ap pairs_in s.front ∙ listed_is.pairs

  lines_are : chart_lines list n swept.complete (pairs_in pairs) swept.steps ≡ chart_text list n
  lines_are = ap (λ (l : List ℕ). chart_lines list n swept.complete (pairs_in l) swept.steps) s.front ∙ listed_is.text

  no_pairs : (number ≡ 0 → ⊥) → pairs ≡ []
  no_pairs z =
      let few : 2 * swept.pairs ≡ 0 = omega (arith, listed_is.few, ap (λ (l : List ℤ). room (length l / 5)) (none z), room_none) in
      s.front ∙ ap (λ (k : ℕ). take k (lent_after list largest s.lent)) few

  -- ---- all parts
  prints : joined (part_of number list swept pairs) (parts_of (length pairs)) ≡ listing_of r.file
  unfolding listing_of text_of joined
  prints = go number refl
    where
      go : (k : ℕ) → number ≡ k → joined (part_of number list swept pairs) (parts_of (length pairs)) ≡ listing_of r.file
      go zero e =
          ap (λ (k : ℕ). joined (part_of k list swept pairs) (parts_of (length pairs))) e
          ∙ joined_lines list swept pairs ∙ lines_are ∙ ap text_of (sym (reads_list e))
      go (suc k) e =
          let z : number ≡ 0 → ⊥ = λ q. omega arith in
          ap (λ (l : List ℕ). joined (part_of number list swept l) (parts_of (length l))) (no_pairs z)
          ∙ sym (part_refused number list swept [] 0 z) ∙ ap text_of (sym (is_refused z))

  -- ---- each part
  in_part : (k : ℕ) (q : Pair) → In q (pairs_in (take part_bytes (drop (part_bytes * k) pairs))) → In q (pairs_in pairs)
  in_part k q m =
      let e : 2 * (part_bytes / 2 * k) ≡ part_bytes * k = omega arith in
      let behind = subst (λ (l : List Pair). In q l) (pairs_cut (part_bytes / 2) (drop (part_bytes * k) pairs)) (Memᴰ.append_left _ m) in
      subst (λ (l : List Pair). In q l) (pairs_cut (part_bytes / 2 * k) pairs)
      (Memᴰ.append_right (pairs_in (take (2 * (part_bytes / 2 * k)) pairs)) (subst (λ (i : ℕ). In q (pairs_in (drop i pairs))) (sym e) behind))

  lines_fit : (k : ℕ) → length (pair_lines list (pairs_in (take part_bytes (drop (part_bytes * k) pairs)))) ≤ part_bytes / 2 * 47
  lines_fit k =
      omega (
        arith,
        lines_width list n accepted (pairs_in (take part_bytes (drop (part_bytes * k) pairs)))
            (λ q m. (lists_only list n accepted largest q (subst (λ (l : List Pair). In q l) pairs_are (in_part k q m))).0),
        pairs_few (part_bytes / 2) (drop (part_bytes * k) pairs),
      )

  head_fits : (k : ℕ) → length (head_of list swept.complete k) ≤ 10 + 13
  unfolding head_of ascii
  head_fits k = go (eqb k 0)
    where
      go : (c : Bool) → length (cond c (count_line (ascii "chart ") n ++ complete_line swept.complete) []) ≤ 10 + 13
      go true =
          omega (
            arith,
            length-append (count_line (ascii "chart ") n) (complete_line swept.complete),
            count_width (ascii "chart ") n 2 (omega (arith, accepted_most list n accepted)),
            complete_width swept.complete,
          )
      go false = omega arith

  foot_fits : (k : ℕ) → length (foot_of swept.steps (length pairs) k) ≤ 17
  unfolding foot_of ascii
  foot_fits k = go (eqb k (length pairs / part_bytes))
    where
      go : (c : Bool) → length (cond c (count_line (ascii "steps ") swept.steps) []) ≤ 17
      go true = count_width (ascii "steps ") swept.steps 9 (omega (arith, listed_is.steps, steps_few list n accepted largest, most_room))
      go false = omega arith

  part_has_room : (part : ℕ) → length (part_of number list swept pairs part) ≤ longest_part
  unfolding ascii
  part_has_room part = go number refl
    where
      go : (k : ℕ) → number ≡ k → length (part_of number list swept pairs part) ≤ longest_part
      go zero e = rw (sym (part_charted number list swept pairs part e), length-append, length-append) (omega (arith, head_fits part, lines_fit part, foot_fits part))
      go (suc k) e =
          let z : number ≡ 0 → ⊥ = λ q. omega arith in
          rw (sym (part_refused number list swept pairs part z))
          (omega (arith, count_width (ascii "refused ") number 0 (omega (arith, refused_few r.file r.bytes number r.read.place (is_refused z)))))

pub prints_all : PrintsAll
prints_all = prints

pub part_fits : PartFits
part_fits = part_has_room
