-- What is said of names that are arguments, from the first, and whether a line has a NUL.
use Rattle.gix_validate.proofs.Common.{◌≡◌, ℕ, List, [], ◌∷◌, refl, arith, nat_tests, append_assoc}
use Rattle.gix_validate.proofs.Common.{append-nil, common_steps}
use Rattle.std.specs.Option.{is_some}
use Rattle.gix_validate.specs.Bytes.{is_among}
use Rattle.programs.specs.Texts.{split_once}

pub ruleset given_names = (common_steps, append_assoc, append-nil)

pub nul_found : (name : List ℕ) → is_among name 0 ≡ is_some (split_once 0 name)
nul_found [] = refl
nul_found (b ∷ name) = grind (arith, nat_tests, nul_found name)
