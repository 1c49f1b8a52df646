-- The worked chunks, found by computing.
use Rattle.std.proofs.Common.{refl}
use Rattle.chunk_examples.specs.Cuts.{BoundsAreInOneChunk, PairsInTwos, SevenInThrees, SignedInOnes, SixInThrees}

pub pairs_cut : PairsInTwos
pairs_cut = record { rise = refl; bounds = refl; chunks = refl; held = refl }

pub signed_cut : SignedInOnes
signed_cut = record { rise = refl; bounds = refl; chunks = refl; held = refl }

pub seven_cut : SevenInThrees
seven_cut = record { rise = refl; bounds = refl; held = refl }

pub six_cut : SixInThrees
six_cut = record { rise = refl; bounds = refl; held = refl }

pub bounds_held : BoundsAreInOneChunk
bounds_held = record {
  end = refl;
  begin = refl;
  wide_end = refl;
  wide_begin = refl;
  first_column = refl;
  second_column = refl;
}
