-- From what a file begins with to its reading: each row of `Due` gives the reading that it names.
use mathlib.Core.Path.{◌≡◌, sym, ap, ap₂, ◌∙◌, subst}
use mathlib.Core.List.{List, [], ◌∷◌, ◌++◌, append_assoc}
use Prim.Native.Nat.{ℕ, zero, suc, ◌+◌, ◌*◌, ◌%◌, ◌≤◌, ◌<◌}
use native.Mathlib.Omega.{arith}
use native.Mathlib.Nat.{zero-add}
use borrow.Author.Tests.{lt-ltb, le-ltb}
use lib.IntN.{ℤ, pos}
use lib.ListN.{length, get_or, take, drop, length-drop, take-append-drop}
use lib.Seq.{take_all, take-suc, drop-cons, length-take-le}
use Rattle.charts.specs.Chart.{most, number_at}
use Rattle.chart_file.specs.Found.{Value, Fault, Refused}
use Rattle.chart_file.specs.Groups.{Bytes}
use Rattle.chart_file.specs.Format.{groups, bytes_of, bytes_from, count_of}
use Rattle.chart_file.specs.Reading.{Reading, due, stopped, numbers, pieces, ended, counted, reading_of}
use Rattle.chart_file.specs.Demand.{InRange, Amiss, place_of, EndsEqual, Begins, Due, count_fault, count, number, piece, extra, chart}
use Rattle.chart_file.proofs.AtPlace.{spelled_read}
use Rattle.chart_file.proofs.Marks.{groups_exactly}
use Rattle.chart_file.proofs.Numbers.{count_refused, count_many, count_few}
use Rattle.chart_file.proofs.OneNumber.{well, ill, number_back}
use Rattle.chart_file.proofs.Steps.{number_read, piece_short, piece_read, pieces_stay, refused_stays}
use Rattle.chart_file.proofs.Begun.{place_one, rest_there, begins_front, no_fault, ends_fault}

last_off : (xs : List ℤ) (m : ℕ) → length xs ≡ suc m → xs ≡ take m xs ++ (get_or xs m (pos 0) ∷ [])
last_off xs m l = sym (take_all (suc m) xs (omega arith)) ∙ take-suc xs m (pos 0) (omega arith)

-- the pieces are read from the place after the count
pub reading_pieces : (s : List ℕ) (n : ℕ) (t : List ℕ) → s ≡ count_of n ++ t → n ≤ most → reading_of s ≡ ended (length s) (pieces s (length (count_of n)) n)
unfolding reading_of counted
reading_pieces s n t e h =
    let from = length (count_of n) in
    rw (count_few s n from (spelled_read groups s 0 n t (omega arith) (omega arith) e ∙ ap (Value n) (zero-add from)) h)

module _ (s : List ℕ) (b : Bytes s) (n : ℕ) where
  -- where the pieces begin
  abbrev from : ℕ
  from = length (count_of n)

  -- fewer pieces are known to have length
  fewer : (p q : ℕ) (xs : List ℤ) (rest : List ℕ) → q ≤ p → Begins s n p xs rest → Begins s n q xs rest
  fewer p q xs rest h w = record { file = w.file; few = w.few; ranges = w.ranges; lengths = λ i l. w.lengths i (omega arith) }

  -- a front of the numbers
  front : (p m : ℕ) (xs : List ℤ) (rest : List ℕ) → 5 * p ≤ m → m ≤ length xs → Begins s n p xs rest → Begins s n p (take m xs) (bytes_from m (drop m xs) ++ rest)
  front p m xs rest h l w =
      let e : length (take m xs) ≡ m = length-take-le m xs l in
      subst (λ (k : ℕ). Begins s n p (take m xs) (bytes_from k (drop m xs) ++ rest)) e
      (begins_front s n p (take m xs) (drop m xs) rest (omega arith) (subst (λ (t : List ℤ). Begins s n p t rest) (sym (take-append-drop m xs)) w))

  -- number c of piece p stands after the numbers before it
  number_here : (p c : ℕ) (xs : List ℤ) (rest : List ℕ) → c < 5 → 5 * p + c < length xs → Begins s n p (take (5 * p + c) xs) (bytes_from (5 * p + c) (drop (5 * p + c) xs) ++ rest)
      → drop (place_of n (take (5 * p + c) xs)) s ≡ bytes_of c (get_or xs (5 * p + c) (pos 0)) ++ (bytes_from (suc (5 * p + c)) (drop (suc (5 * p + c)) xs) ++ rest)
  unfolding bytes_from
  number_here p c xs rest h l f =
      let m : ℕ = 5 * p + c in
      let q : m % 5 ≡ c = omega arith in
      rest_there s n p (take m xs) (bytes_from m (drop m xs) ++ rest) f
      ∙ ap (λ (t : List ℤ). bytes_from m t ++ rest) (drop-cons xs m (pos 0) l)
      ∙ rw (q, append_assoc)

  read_numbers : (p : ℕ) → ((xs : List ℤ) (rest : List ℕ) → length xs ≡ 5 * p → Begins s n p xs rest → pieces s from p ≡ due xs (place_of n xs))
      → (c : ℕ) → c ≤ 5 → (xs : List ℤ) (rest : List ℕ) → length xs ≡ 5 * p + c → Begins s n p xs rest → numbers s c (pieces s from p) ≡ due xs (place_of n xs)
  unfolding number_at numbers
  read_numbers p start zero h xs rest l w = start xs rest (omega arith) w
  read_numbers p start (suc c) h xs rest l w =
      let m : ℕ = 5 * p + c in
      let ys = take m xs in
      let v = get_or xs m (pos 0) in
      let k : length ys ≡ m = length-take-le m xs (omega arith) in
      let f = front p m xs rest (omega arith) (omega arith) w in
      let e = number_here p c xs rest h (omega arith) f in
      let r : InRange c v = w.ranges p c h (omega arith) in
      number_read s c (pieces s from p) ys (place_of n ys) v (place_of n ys + length (bytes_of c v)) (read_numbers p start c (omega arith) ys _ k f) (number_back s (place_of n ys) c _ b (well c v _ r e))
      ∙ ap₂ due (sym (last_off xs m (omega arith))) (sym (place_one n p c ys v k h) ∙ ap (place_of n) (sym (last_off xs m (omega arith))))

  read_pieces : (p : ℕ) (xs : List ℤ) (rest : List ℕ) → length xs ≡ 5 * p → Begins s n p xs rest → pieces s from p ≡ due xs (place_of n xs)
  unfolding pieces bytes_from
  read_pieces zero [] rest l w = ap (due []) (omega arith)
  read_pieces zero (x ∷ xs) rest l w = absurd (omega arith)
  read_pieces (suc p) xs rest l w =
      let w' = fewer (suc p) p xs rest (omega arith) w in
      let f = front p (5 * p) xs rest (omega arith) (omega arith) w' in
      let ys = take (5 * p) xs in
      piece_read s from p ys (place_of n ys) (read_pieces p ys _ (length-take-le (5 * p) xs (omega arith)) f) xs (place_of n xs)
      (read_numbers p (read_pieces p) 5 (omega arith) xs rest (omega arith) w')
      (no_fault xs p (λ c q. w.ranges p c q (omega arith)) (w.lengths p (omega arith)))

  -- ---- the whole file

  stopped_pieces : (t : List ℕ) (f q : ℕ) → s ≡ count_of n ++ t → n ≤ most → pieces s from n ≡ stopped f q → reading_of s ≡ stopped f q
  unfolding ended
  stopped_pieces t f q e h k = reading_pieces s n t e h ∙ rw k

  number_given : (p c f : ℕ) (xs : List ℤ) (rest : List ℕ) → p < n → c < 5 → length xs ≡ 5 * p + c → Begins s n p xs rest → Amiss rest (place_of n xs) c f → reading_of s ≡ stopped f (place_of n xs)
  number_given p c f xs rest h q l w a =
      let ys = take (5 * p) xs in
      let k = read_pieces p ys _ (length-take-le (5 * p) xs (omega arith)) (front p (5 * p) xs rest (omega arith) (omega arith) w) in
      let a' : Amiss (drop (place_of n xs) s) (place_of n xs) c f = subst (λ (t : List ℕ). Amiss t (place_of n xs) c f) (sym (rest_there s n p xs rest w)) a in
      stopped_pieces _ f (place_of n xs) w.file w.few
      (refused_stays s from p n c f (place_of n ys) ys (place_of n xs) xs k (read_numbers p (read_pieces p) c (omega arith) xs rest l w) (number_back s (place_of n xs) c (Refused f) b (ill c f a')) q h)

  piece_given : (p : ℕ) (xs : List ℤ) (rest : List ℕ) → p < n → length xs ≡ 5 * p + 5 → Begins s n p xs rest → EndsEqual xs p → reading_of s ≡ stopped 6 (place_of n (take (5 * p) xs))
  piece_given p xs rest h l w a =
      let ys = take (5 * p) xs in
      let k = read_pieces p ys _ (length-take-le (5 * p) xs (omega arith)) (front p (5 * p) xs rest (omega arith) (omega arith) w) in
      let r = read_numbers p (read_pieces p) 5 (omega arith) xs rest l w in
      stopped_pieces _ 6 (place_of n ys) w.file w.few
      (pieces_stay s from (suc p) n 6 (place_of n ys) (piece_short s from p ys (place_of n ys) k xs (place_of n xs) r (ends_fault xs p (λ c q. w.ranges p c q (omega arith)) a)) h)

  extra_given : (xs : List ℤ) (x : ℕ) (rest : List ℕ) → length xs ≡ 5 * n → Begins s n n xs (x ∷ rest) → reading_of s ≡ stopped 7 (place_of n xs)
  unfolding ended
  extra_given xs x rest l w =
      reading_pieces s n _ w.file w.few
      ∙ rw (read_pieces n xs (x ∷ rest) l w, lt-ltb (place_of n xs) (length s) (omega (arith, length-drop (place_of n xs) s, ap length (rest_there s n n xs (x ∷ rest) w))))

  chart_given : (xs : List ℤ) → length xs ≡ 5 * n → Begins s n n xs [] → reading_of s ≡ due xs (place_of n xs)
  unfolding ended
  chart_given xs l w =
      reading_pieces s n _ w.file w.few
      ∙ rw (read_pieces n xs [] l w, le-ltb (place_of n xs) (length s) (omega (arith, length-drop (place_of n xs) s, ap length (rest_there s n n xs [] w))))

pub due_given : (s : List ℕ) → Bytes s → (r : Reading) → Due s r → reading_of s ≡ r
unfolding reading_of counted
due_given s b r (count_fault f g) = rw (count_refused s f ((groups_exactly groups s 0 (omega arith) b (Fault f)).1 g))
due_given s b r (count n rest m e h) = rw (count_many s n _ (spelled_read groups s 0 n rest (omega arith) m e) h)
due_given s b r (number n p c f xs rest h q l w a) = number_given s b n p c f xs rest h q l w a
due_given s b r (piece n p xs rest h l w a) = piece_given s b n p xs rest h l w a
due_given s b r (extra n xs x rest l w) = extra_given s b n xs x rest l w
due_given s b r (chart n xs l w) = chart_given s b n xs l w
