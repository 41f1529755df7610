-- A path, piece by piece.
use Rattle.gix_validate.proofs.Common.{◌≡◌, ℕ, List, [], ◌∷◌, ◌++◌, Option, None, Some, refl, arith}
use Rattle.gix_validate.proofs.Common.{codes, append_assoc, flat_map}
use Rattle.std.proofs.lemmas.Grind.{flat_map-append}
use Rattle.gix_validate.specs.Quoted.{escape_of}
use Rattle.check_push.specs.Trees.Report.{path_of, shown_directory}
use Rattle.check_push.specs.Trees.Private.{before_name}

path_parts : (directory : Option (List ℕ)) (name : List ℕ)
    → path_of directory name ≡ before_name directory ++ name
path_parts None name = refl
path_parts (Some []) name = refl
path_parts (Some (b ∷ directory)) name =
    grind (arith, append_assoc (shown_directory (b ∷ directory)) (codes "/") name)

pub escaped_parts : (directory : Option (List ℕ)) (name : List ℕ)
    → flat_map escape_of (path_of directory name)
    ≡ flat_map escape_of (before_name directory) ++ flat_map escape_of name
escaped_parts directory name =
    rw path_parts (flat_map-append escape_of (before_name directory) name)
