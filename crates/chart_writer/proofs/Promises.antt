-- The promises of specs/Demand.
use mathlib.Core.Path.{◌≡◌, refl, sym, ap, ◌∙◌, subst}
use mathlib.Core.List.{List, ◌++◌, append_assoc}
use Prim.Native.Nat.{ℕ, suc, ◌+◌, ◌*◌, ◌/◌, ◌%◌, ◌^◌, ◌≤◌, ◌<◌}
use native.Mathlib.Decide.{dec_lt}
use native.Mathlib.Omega.{arith}
use lib.IntN.{ℤ, pos}
use lib.ListN.{length, get_or, take, drop, length-append, take-append-drop}
use lib.Seq.{length-take-le, take_at, take-append_seam, drop-append_seam}
use Rattle.charts.specs.Chart.{most, verdict_of}
use Rattle.charts.specs.Answer.{done_with, refused_with}
use Rattle.charts.specs.Demand.{Due, nine, three, piece, RoomDue, refused, eight}
use Rattle.charts.specs.declared.Answer.{Answer}
use Rattle.charts.specs.Verdict.{Verdict}
use Rattle.charts.specs.Verdict.{Accepted, Refused}
use Rattle.charts.proofs.Lent.{room_accepted, room_refuses_exactly}
use Rattle.chart_file.specs.Groups.{spelled, Bytes}
use Rattle.chart_file.specs.Coordinate.{stored}
use Rattle.chart_file.specs.Format.{groups, bytes_of, bytes_from, count_of, file_of, longest}
use Rattle.chart_file.specs.Reading.{Reading, due, stopped, reading_of, lent_reading, answer_of, content_of, Reads}
use Rattle.chart_file.specs.Demand.{place_of}
use Rattle.chart_file.proofs.Spelling.{canonical_spelled, value_spelled, fewest}
use Rattle.chart_file.proofs.Begun.{bytes_append}
use Rattle.chart_file.proofs.Files.{reads_file, file_reads}
use Rattle.chart_file.proofs.Refusals.{refused_few}
use Rattle.chart_file.proofs.Whole.{lent_exactly}
use Rattle.chart_writer.specs.Writing.{writing_of, Writes}
use Rattle.chart_writer.specs.Demand.{WritingDue, RefusesExactly, RefusesWhole, DoneExactly, InFewest, CountsFewest, WritesFewest, ReadsWritten, WritesRead}
use Rattle.chart_writer.proofs.Numbers.{one_of, coordinate_bytes, coordinate_small}
use Rattle.chart_writer.proofs.Outcomes.{accepted_fives, goes}

-- ---- what the contract says, by the verdict

module _ (list : List ℤ) (lent : List ℕ) (r : Answer) (after : List ℕ) (w : Writes list lent r after) where
  by_refusal : (k p : ℕ) → writing_of list (length lent) ≡ Refused k p → (r ≡ refused_with k p) × (after ≡ lent)
  by_refusal k p e = (rw e at w.answer, rw e at w.content)

  by_done : (n : ℕ) → writing_of list (length lent) ≡ Accepted n → (r ≡ done_with (length (file_of list))) × (after ≡ file_of list ++ drop (length (file_of list)) lent)
  by_done n e = (rw e at w.answer, rw e at w.content)

-- what is due is given
given : (list : List ℤ) (lent : List ℕ) (v : Verdict) → WritingDue list lent v → writing_of list (length lent) ≡ v
unfolding writing_of
given list lent v d = (room_refuses_exactly list (λ n. longest) (length lent) v).1 d

pub refuses_whole : RefusesWhole
refuses_whole list lent r after w number place d = by_refusal list lent r after w number place (given list lent (Refused number place) d)

pub refuses_exactly : RefusesExactly
unfolding writing_of
refuses_exactly list lent r after w number place h = (
  λ g. go (writing_of list (length lent)) refl g,
  λ d. let t = refuses_whole list lent r after w number place d in (ap (λ (s : Answer). s.number) t.0, ap (λ (s : Answer). s.place) t.0),
)
  where
    go : (v : Verdict) → writing_of list (length lent) ≡ v → (r.number ≡ number) × (r.place ≡ place) → WritingDue list lent (Refused number place)
    go (Accepted n) e g = absurd (omega (arith, g.0, ap (λ (s : Answer). s.number) (by_done list lent r after w n e).0))
    go (Refused k p) e g =
        let t = (by_refusal list lent r after w k p e).0 in
        subst (λ (i : ℕ × ℕ). WritingDue list lent (Refused i.0 i.1))
        (λ i. ((sym (ap (λ (s : Answer). s.number) t) ∙ g.0) i, (sym (ap (λ (s : Answer). s.place) t) ∙ g.1) i))
        ((room_refuses_exactly list (λ n. longest) (length lent) (Refused k p)).0 e)

-- ---- a call that is done

-- no refusal has number 0
due_numbered : {list : List ℤ} {k p : ℕ} → Due list (Refused k p) → 0 < k
due_numbered (nine h) = omega arith
due_numbered (three n e h) = omega arith
due_numbered (piece n e h i k l s f) = omega arith

numbered : {list : List ℤ} {need : ℕ → ℕ} {lent k p : ℕ} → RoomDue list need lent (Refused k p) → 0 < k
numbered (refused k p d) = due_numbered d
numbered (eight n d h) = omega arith

-- the answer, and the bytes up to its count and beyond
record Done (list : List ℤ) (lent : List ℕ) (r : Answer) (after : List ℕ) : Type 0 where
  n : ℕ
  ahead : writing_of list (length lent) ≡ Accepted n
  answer : r ≡ done_with (length (file_of list))
  content : after ≡ file_of list ++ drop (length (file_of list)) lent
  file : take r.count after ≡ file_of list
  beyond : drop r.count after ≡ drop r.count lent

module _ (list : List ℤ) (lent : List ℕ) (r : Answer) (after : List ℕ) (w : Writes list lent r after) where
  done_by : (n : ℕ) → writing_of list (length lent) ≡ Accepted n → Done list lent r after
  done_by n e =
      let t = by_done list lent r after w n e in
      let c : r.count ≡ length (file_of list) = ap (λ (s : Answer). s.count) t.0 in
      record {
        n = n;
        ahead = e;
        answer = t.0;
        content = t.1;
        file = rw (c, t.1) (take-append_seam (file_of list) _);
        beyond = rw (c, t.1) (drop-append_seam (file_of list) _);
      }

  is_done : r.number ≡ 0 → Done list lent r after
  unfolding writing_of
  is_done z = go (writing_of list (length lent)) refl
    where
      go : (v : Verdict) → writing_of list (length lent) ≡ v → Done list lent r after
      go (Accepted n) e = done_by n e
      go (Refused k p) e =
          absurd (omega (arith, z, ap (λ (s : Answer). s.number) (by_refusal list lent r after w k p e).0, numbered ((room_refuses_exactly list (λ n. longest) (length lent) (Refused k p)).0 e)))

pub done_exactly : DoneExactly
done_exactly list lent r after w n d =
    let t = done_by list lent r after w n (given list lent (Accepted n) d) in
    (t.answer, t.file, t.beyond)

-- ---- groups

-- number i stands at its place
there : (list : List ℤ) (i : ℕ) (rest : List ℕ) → i < length list
    → drop (place_of (length list / 5) (take i list)) (file_of list ++ rest) ≡ bytes_of (i % 5) (get_or list i (pos 0)) ++ (bytes_from (suc i) (drop (suc i) list) ++ rest)
unfolding file_of
there list i rest h =
    let l : 0 + length (take i list) ≡ i = omega (arith, length-take-le i list (omega arith)) in
    let e : bytes_from 0 list ≡ bytes_from 0 (take i list) ++ (bytes_of (i % 5) (get_or list i (pos 0)) ++ bytes_from (suc i) (drop (suc i) list)) =
    ap (bytes_from 0) (sym (take-append-drop i list)) ∙ bytes_append 0 (take i list) (drop i list) ∙ rw (l, one_of list i h) in
    let front : List ℕ = count_of (length list / 5) ++ bytes_from 0 (take i list) in
    let p : place_of (length list / 5) (take i list) ≡ length front = sym (length-append (count_of (length list / 5)) (bytes_from 0 (take i list))) in
    rw (p, e, ← append_assoc) (ap (drop (length front)) (append_assoc front _ rest) ∙ drop-append_seam front _ ∙ simp append_assoc)

-- a number in its groups, whatever follows
in_fewest : (u : ℕ) (t rest : List ℕ) → u < 128 ^ groups → t ≡ spelled groups u ++ rest → InFewest u t
in_fewest u t rest b e = record {
  own = spelled groups u;
  rest = rest;
  there = e;
  canonical = canonical_spelled groups u (omega arith) b;
  stands = value_spelled groups u b;
  fewest = λ gs p q. subst (λ (x : ℕ). length (spelled groups x) ≤ length gs) q (fewest groups gs p);
}

pub counts_fewest : CountsFewest
unfolding file_of
counts_fewest list lent r after w z =
    let d = is_done list lent r after w z in
    let g = goes list lent d.n d.ahead in
    in_fewest (length list / 5) after (bytes_from 0 list ++ drop (length (file_of list)) lent) (rw g.count at g.small) (d.content ∙ simp append_assoc)

pub writes_fewest : WritesFewest
writes_fewest list lent r after w z i h c =
    let d = is_done list lent r after w z in
    let g = goes list lent d.n d.ahead in
    let v = get_or list i (pos 0) in
    let u = stored v in
    let b : u < 128 ^ groups = coordinate_small (i % 5) v c (g.ranges.ranged i h) in
    let place = place_of (length list / 5) (take i list) in
    in_fewest u (drop place after) (bytes_from (suc i) (drop (suc i) list) ++ drop (length (file_of list)) lent) b
    (ap (drop place) d.content ∙ there list i (drop (length (file_of list)) lent) h ∙ rw (coordinate_bytes (i % 5) v c))

-- ---- there and back

-- the numbers of a chart are five for each piece that is counted
fives : (list rest : List ℤ) (n c : ℕ) → verdict_of list ≡ Accepted n → c ≡ length list / 5 → take (5 * c) (list ++ rest) ≡ list
fives list rest n c e q = take_at list rest (5 * c) (omega (arith, accepted_fives list n e))

pub reads_written : ReadsWritten
unfolding answer_of content_of
reads_written list lent r after w z into q back l o =
    let d = is_done list lent r after w z in
    let g = goes list lent d.n d.ahead in
    let e : lent_reading (length into) (take r.count after) ≡ due list (length (file_of list)) = rw d.file ((lent_exactly (length into) (file_of list)).1 l ∙ (file_reads list d.n g.accepted).1) in
    let a : q ≡ done_with (length list / 5) = rw e at o.answer in
    let c : back ≡ list ++ drop (length list) into = rw e at o.content in
    (a, rw c (fives list (drop (length list) into) d.n q.count g.accepted (ap (λ (x : Answer). x.count) a)))

-- a call of the reader that is done has read a chart
was_read : (s : List ℕ) (into : List ℤ) (q : Answer) (read : List ℤ) → Bytes s → Reads s into q read → q.number ≡ 0
    → (xs : List ℤ) × (at : ℕ) × (reading_of s ≡ due xs at) × (q.count ≡ length xs / 5) × (read ≡ xs ++ drop (length xs) into)
unfolding answer_of content_of
was_read s into q read b o z = elim (dec_lt (length into) (5 * most)) [
  | yes h ↦
      let a : q ≡ refused_with 8 0 = rw ((lent_exactly (length into) s).0 h) at o.answer in
      absurd (omega (arith, z, ap (λ (x : Answer). x.number) a))
  | no h ↦ let e = (lent_exactly (length into) s).1 (omega arith) in go (reading_of s) refl (rw e at o.answer) (rw e at o.content)
]
  where
    go : (v : Reading) → reading_of s ≡ v → q ≡ answer_of (reading_of s) → read ≡ content_of (reading_of s) into
        → (xs : List ℤ) × (at : ℕ) × (reading_of s ≡ due xs at) × (q.count ≡ length xs / 5) × (read ≡ xs ++ drop (length xs) into)
    go (due xs at) e a c = (xs, at, e, ap (λ (x : Answer). x.count) (rw e at a), rw e at c)
    go (stopped f p) e a c =
        let a' : q ≡ refused_with f p = rw e at a in
        absurd (omega (arith, z, ap (λ (x : Answer). x.number) a', (refused_few s b f p e).0))

pub writes_read : WritesRead
unfolding writing_of
writes_read s into q read b o z lent r after l w =
    let t = was_read s into q read b o z in
    let xs = t.0 in
    let f = reads_file s b xs t.1 t.2 in
    let x : take (5 * q.count) read ≡ xs = ap (take (5 * q.count)) t.4 ∙ fives xs (drop (length xs) into) _ q.count f.1 t.3 in
    let w' : Writes xs lent r after = subst (λ (ys : List ℤ). Writes ys lent r after) x w in
    let d = done_by xs lent r after w' _ (room_accepted xs (λ n. longest) (length lent) _ f.1 l) in
    (d.answer ∙ ap (λ (y : List ℕ). done_with (length y)) (sym f.0), d.file ∙ sym f.0)
