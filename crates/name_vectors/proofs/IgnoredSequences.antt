-- There are sixteen ignored characters, and no other bytes are ignored.
use Rattle.gix_validate.proofs.Common.{◌≡◌, refl, ℕ, List, [], ◌∷◌, IsTrue, arith, bytes_eq}
use Rattle.gix_validate.proofs.Common.{list_any, nat_tests}
use Rattle.gix_validate.specs.Hfs.{is_ignored, is_ignored_unit}
use Rattle.name_vectors.specs.IgnoredCharacters.{ignored_sequences, are_distinct}

pub sequences_are_distinct : IsTrue (are_distinct ignored_sequences)
unfolding lib.Utf8.encode
sequences_are_distinct = refl

pub sequences_are_ignored : (x : List ℕ) → is_ignored_unit x ≡ list_any (bytes_eq x) ignored_sequences
unfolding is_ignored lib.Utf8.encode
sequences_are_ignored [] = refl
sequences_are_ignored (a ∷ []) = grind (arith, nat_tests)
sequences_are_ignored (a ∷ b ∷ []) = grind (arith, nat_tests)
sequences_are_ignored (a ∷ b ∷ c ∷ []) = grind (arith, nat_tests)
sequences_are_ignored (a ∷ b ∷ c ∷ d ∷ x) = grind (arith, nat_tests)
