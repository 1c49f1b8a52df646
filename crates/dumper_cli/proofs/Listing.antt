-- Folders that list nothing.
use Rattle.std.proofs.Common.{◌≡◌, ◌<◌, ℕ, List, [], ◌∷◌, length, refl, arith}
use Rattle.std.proofs.lemmas.List.Sorted.{length_permutation}
use Rattle.link_traits.specs.Contents.{File, file_names, IsListing}

none_named : (files : List File) → length (file_names files) ≡ 0 → files ≡ []
none_named [] none = refl
none_named (file ∷ files) none = let wrong = none in cc

pub IsListing-nothing : (files : List File) → IsListing [] files → files ≡ []
IsListing-nothing files listing = none_named files (length_permutation [] (file_names files) listing.same)

pub IsListing-short : (found : List (List ℕ)) (files : List File) → length found < 1 → IsListing found files → files ≡ []
IsListing-short [] files short listing = IsListing-nothing files listing
IsListing-short (name ∷ file_names) files short listing = absurd (omega arith)
