-- The names that a reference name stands for. Git stores the references of a namespace NS
-- under `refs/namespaces/NS/`, and shows them without that to those who work in the namespace.
use Rattle.std.specs.Prelude.{ℕ, zero, suc, ◌≡◌, ◌⊎◌, ◌++◌, if◌then◌else◌, List, [], ◌∷◌, length, drop}
use Rattle.std.specs.Prelude.{codes, flat_map, Option, None, option_and_then, IsTrue}
use Rattle.std.specs.List.{AllByRecursion}
use Rattle.std.specs.Option.{option_map_or}
use Rattle.std.specs.Str.{byte}
use Rattle.gix_validate.specs.Bytes.{begins}
use Rattle.gix_validate.specs.Faults.{when}
use Rattle.gix_validate.specs.Pieces.{has_no_slash}
use Rattle.programs.specs.Texts.{split_once}

-- where the references of namespaces are
abbrev pub namespaces : List ℕ
namespaces = codes "refs/namespaces/"

-- the name that `refs/namespaces/NS/INNER` has in the namespace NS: INNER, if that begins with `refs/`
abbrev pub inner_of : List ℕ → Option (List ℕ)
inner_of name =
    option_and_then (λ (parts : List ℕ × List ℕ). when (begins parts.1 (codes "refs/")) parts.1)
    (if begins name namespaces then split_once (byte "/") (drop (length namespaces) name) else None)

abbrev pub names_within : ℕ → List ℕ → List (List ℕ)
names_within zero name = name ∷ []
names_within (suc fuel) name = name ∷ option_map_or (names_within fuel) (inner_of name) []

-- The names that a name stands for: itself, the name that it has in its namespace, and so on inwards.
-- (Each is shorter than the one before it.)
unfoldable pub names_of : List ℕ → List (List ℕ)
names_of name = names_within (length name) name

-- The same without the list: so many namespaces, one inside of the other, and then the name in the last one.
abbrev pub StandsFor : List ℕ → List ℕ → Type 0
StandsFor name inner =
    (spaces : List (List ℕ)) × AllByRecursion (λ space. IsTrue (has_no_slash space)) spaces
    × (name ≡ flat_map (λ space. namespaces ++ space ++ codes "/") spaces ++ inner)
    × ((spaces ≡ []) ⊎ IsTrue (begins inner (codes "refs/")))
