-- What the call leaves, with too little lent and with enough.
-- Assumes nothing.
use mathlib.Core.Path.{◌≡◌, refl, ap, ◌∙◌}
use mathlib.Core.List.{List}
use Prim.Native.Nat.{ℕ, ◌≤◌, ◌<◌}
use native.Mathlib.Nat.{le_trans}
use lib.ListN.{length}
use borrow.Author.Tests.{lt-ltb, le-ltb}
use Rattle.charts.specs.Answer.{done_with, refused_with}
use Rattle.chart_file.specs.Groups.{Bytes}
use Rattle.decimals.specs.Text.{Text, text, put}
use Rattle.decimals.proofs.Puts.{put_front}
use Rattle.listing.specs.Listing.{listing_of, listing_answer, lent_after, longest_text}
use Rattle.listing.proofs.Room.{fits}

module _ (file lent : List ℕ) where
  pub too_little : length lent < longest_text → (refused_with 8 0 ≡ listing_answer file (length lent)) × (lent ≡ lent_after file lent)
  unfolding listing_answer lent_after
  too_little h = rw (lt-ltb (length lent) longest_text h) (refl, refl)

  pub listed : {after : List ℕ} {end : ℕ} → Bytes file → longest_text ≤ length lent → text after end ≡ put (listing_of file) (text lent 0)
      → (done_with end ≡ listing_answer file (length lent)) × (after ≡ lent_after file lent)
  unfolding listing_answer lent_after
  listed b h p =
      let e = p ∙ put_front (listing_of file) lent (le_trans (fits file b) h) in
      rw (le-ltb (length lent) longest_text h) (ap (λ (t : Text). done_with t.end) e, ap (λ (t : Text). t.bytes) e)
