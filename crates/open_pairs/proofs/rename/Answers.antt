-- `open_pairs::rename` meets its contract: the bytes in front have their names.
use mathlib.Core.List.{List, map, append-nil}
use mathlib.Core.Path.{◌≡◌, sym, ◌∙◌, subst}
use Prim.Native.Nat.{ℕ, ◌<◌}
use native.Mathlib.Omega.{arith}
use lib.ListN.{length, get_or}
use lib.Seq.{take-length, drop-length}
use Rattle.open_chart.specs.Listing.{named, renamed}
use Rattle.open_chart.proofs.Renames.{renamed_none, renamed_reads, renamed_more}
use Rattle.open_pairs.proofs.rename.Goals as goal

pub loop-number-init : goal.loop-number-init
loop-number-init c = renamed_none c.args.names.now c.args.numbers.now

-- the byte at i is the one that was lent
old : (names now numbers : List ℕ) (i : ℕ) → numbers ≡ renamed names i now → i < length now → get_or numbers i 0 ≡ get_or now i 0
old names now numbers i e h = rw e (renamed_reads names now i h)

-- all of them
renamed_all : (names now : List ℕ) (i : ℕ) → i ≡ length now → renamed names i now ≡ map (named names) now
unfolding renamed
renamed_all names now i e = rw (e, take-length, drop-length, append-nil)

pub bounds-names-number : goal.bounds-names-number
bounds-names-number c =
    let l = c.loop-number in
    subst (λ (k : ℕ). k < length c.args.names.now) (sym (old c.args.names.now c.args.numbers.now l.numbers l.number-index l.invariant (omega arith))) (c.requires l.number-index (omega arith))

pub loop-number-preserved : goal.loop-number-preserved
loop-number-preserved c =
    let l = c.loop-number in
    let h : l.number-index < length c.args.numbers.now = omega arith in
    rw (old c.args.names.now c.args.numbers.now l.numbers l.number-index l.invariant h, l.invariant) (renamed_more c.args.names.now c.args.numbers.now l.number-index h)

pub returns : goal.returns
returns c =
    c.loop-number.invariant ∙ renamed_all c.args.names.now c.args.numbers.now c.loop-number.number-index (omega arith)
