-- As many bytes as the longest file has, and one more, decide a listing.
-- Assumes nothing.
use mathlib.Core.Path.{ap}
use Rattle.chart_file.proofs.Early.{decided_early as reading_decided}
use Rattle.listing.specs.Listing.{text_of, listing_of}
use Rattle.listing.specs.Demand.{DecidedEarly}

pub decided_early : DecidedEarly
unfolding listing_of
decided_early file k h = ap text_of (reading_decided file k h)
