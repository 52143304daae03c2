-- Where the three parts of the active list stand, by places: below the next point up to lo, through it up to hi, above it
-- from there on. So lo and hi are found by bisection, or from any place in between.
use mathlib.Core.Path.{◌≡◌, refl, sym, ap, ◌∙◌}
use mathlib.Core.Option.{some}
use mathlib.Core.List.{List, [], ◌∷◌, ◌++◌, append_assoc}
use mathlib.Core.List.Memᴰ.{head as here}
use mathlib.Core.List.Memᴰ.{tail as there}
use mathlib.Core.List.{Memᴰ as In}
use Prim.Native.Nat.{ℕ, zero, suc, ◌+◌, ◌-◌, ◌≤◌, ◌<◌}
use native.Mathlib.Omega.{arith}
use lib.ListN.{length, take, drop, get_or, length-append, get_or-append}
use lib.Seq.{take-append_seam, drop-append_seam, drop_at, get_or-append-add}
use Rattle.std.specs.declared.cmp.Ordering.TheVariants.{Less, Equal, Greater}
use Rattle.sweep.specs.Chart.{Chart}
use Rattle.sweep.specs.Geometry.{Geometry}
use Rattle.sweep.proofs.Ranked.{ranked}
use Rattle.full_steps.specs.Steps.{State, next}
use Rattle.full_steps.specs.InPlace.{Sides, InPlaceFacts, below, block, above}
use Rattle.full_steps.proofs.Step.{Inv}
use Rattle.full_steps.proofs.Sides.{parts}
use Rattle.full_steps.proofs.Replaced.{below_out, block_out, on_active, above_out}

pub get_d_in : {A : Type 0} (l : List A) (i : ℕ) (d : A) → i < length l → In (get_or l i d) l
get_d_in [] i d h = absurd (omega arith)
get_d_in (x ∷ l) zero d h = here refl
get_d_in (x ∷ l) (suc i) d h = there (get_d_in l i d (omega arith))

module _ (C : Chart) (S : Sides C) (G : Geometry C) (A : InPlaceFacts C S G) (s : State C) (I : Inv C (ranked C G) s) (p : C.Point) (hp : next C s ≡ some p) where
  open S use {aside}

  abbrev b : List ℕ
  b = below C S s.active p

  abbrev k : List ℕ
  k = block C S s.active p

  abbrev a : List ℕ
  a = above C S s.active p

  abbrev pub lo : ℕ
  lo = length b

  abbrev pub hi : ℕ
  hi = lo + length k

  -- the three parts cut out of the active list
  pub front_is : take lo s.active ≡ b
  front_is = ap (take lo) (parts C S G A s I p hp) ∙ take-append_seam b (k ++ a)

  pub middle_is : take (length k) (drop lo s.active) ≡ k
  middle_is = ap (λ (z : List ℕ). take (length k) (drop lo z)) (parts C S G A s I p hp) ∙ ap (take (length k)) (drop-append_seam b (k ++ a)) ∙ take-append_seam k a

  pub back_is : drop hi s.active ≡ a
  back_is = ap (drop hi) (parts C S G A s I p hp ∙ sym (append_assoc b k a)) ∙ drop_at (b ++ k) a hi (length-append b k)

  pub whole_length : length s.active ≡ hi + length a
  whole_length = omega (arith, ap length (parts C S G A s I p hp), length-append b (k ++ a), length-append k a)

  -- the side of p, place by place
  at_parts : (i : ℕ) → get_or s.active i 0 ≡ get_or (b ++ (k ++ a)) i 0
  at_parts i = ap (λ (z : List ℕ). get_or z i 0) (parts C S G A s I p hp)

  pub side_below : (i : ℕ) → i < lo → aside p (get_or s.active i 0) ≡ Greater
  side_below i h = rw (at_parts i ∙ get_or-append b (k ++ a) 0 i h) (below_out C S G A s I p hp (get_or b i 0) (get_d_in b i 0 h)).1

  past : (i : ℕ) → lo ≤ i → get_or s.active i 0 ≡ get_or (k ++ a) (i - lo) 0
  past i h = let e : i ≡ lo + (i - lo) = omega arith in at_parts i ∙ ap (λ (z : ℕ). get_or (b ++ (k ++ a)) z 0) e ∙ get_or-append-add b (k ++ a) (i - lo) 0

  pub side_through : (i : ℕ) → lo ≤ i → i < hi → aside p (get_or s.active i 0) ≡ Equal
  side_through i h g =
      let m = block_out C S G A s I p hp (get_or k (i - lo) 0) (get_d_in k (i - lo) 0 (omega arith)) in
      rw (past i h ∙ get_or-append k a 0 (i - lo) (omega arith)) (on_active C S G A s I p hp (get_or k (i - lo) 0) m.0 m.1)

  pub side_above : (i : ℕ) → hi ≤ i → i < length s.active → aside p (get_or s.active i 0) ≡ Less
  side_above i h g =
      let e : i - lo ≡ length k + (i - hi) = omega arith in
      rw (past i (omega arith) ∙ ap (λ (z : ℕ). get_or (k ++ a) z 0) e ∙ get_or-append-add k a (i - hi) 0)
      (above_out C S G A s I p hp (get_or a (i - hi) 0) (get_d_in a (i - hi) 0 (omega (arith, whole_length)))).1
