-- Joined texts, one text after the other, and how long they are.
use Rattle.gix_validate.proofs.Common.{◌≡◌, ℕ, zero, suc, ◌+◌, ◌-◌, ◌<◌, ◌≤◌, List, [], ◌∷◌, ◌++◌}
use Rattle.gix_validate.proofs.Common.{length, take, get_or, map, cond, eqb, ap, append_assoc}
use Rattle.gix_validate.proofs.Common.{length-append, arith, None, All, sum_by, byte, take_more}
use Rattle.gix_validate.proofs.Common.{get_or-map, length-map, All-map, list_all-from_AllPass}
use Rattle.gix_validate.proofs.Common.{common_steps}
use Rattle.gix_validate.proofs.Texts.Pieces.{pieces-joined, joined-push}
use Rattle.gix_validate.proofs.Components.Laws.{basic_law}
use Rattle.gix_validate.specs.Pieces.{pieces, joined, has_no_slash}
use Rattle.gix_validate.specs.Component.{fault_of}
use Rattle.gix_validate.specs.ComponentLaws.{no_protections, IsBasicName}

-- The first texts joined are no longer than all.
pub joined-take-le : (texts : List (List ℕ)) (i : ℕ) → length (joined (take i texts)) ≤ length (joined texts)
joined-take-le (text ∷ next ∷ texts) (suc (suc i)) =
    grind (arith, length-append, joined-take-le (next ∷ texts) (suc i))
joined-take-le _ _ = grind (arith, common_steps, length-append)

-- The texts and a slash between each two.
pub length_joined : {X : Type 0} (f : X → List ℕ) (xs : List X) → 0 < length xs
    → length (joined (map f xs)) ≡ (length xs - 1) + sum_by (λ x. length (f x)) xs
length_joined f [] some = grind arith
length_joined f (x ∷ []) some = grind arith
length_joined f (x ∷ y ∷ xs) some = grind (arith, common_steps, length_joined f (y ∷ xs))

-- What a text holds once an item is written to it, after a slash if it is not the first.
pub written : {X : Type 0} (f : X → List ℕ) (xs : List X) (i : ℕ) (d : X) (start text : List ℕ)
    → i < length xs → text ≡ start ++ joined (take i (map f xs))
    → (text ++ cond (eqb i 0) [] (byte "/" ∷ [])) ++ f (get_or xs i d)
    ≡ start ++ joined (take (i + 1) (map f xs))
written f xs zero d start text within same = grind (arith, common_steps)
written f [] (suc i) d start text within same = absurd (omega arith)
written f (x ∷ xs) (suc i) d start text within same =
    let more = take_more (map f (x ∷ xs)) (suc i) [] (omega (arith, length-map xs f)) in
    rw (
      more,
      joined-push (f x) (take i (map f xs)) (get_or (map f xs) i []),
      get_or-map f xs i d [] (omega arith),
      same,
    ) (grind (arith, append_assoc))

-- The room that is needed for all is enough at each item.
pub fits : {X : Type 0} (f : X → List ℕ) (xs : List X) (i : ℕ) (d : X) (start text : List ℕ) → i < length xs
    → text ≡ start ++ joined (take i (map f xs))
    → length text + cond (eqb i 0) 0 1 + length (f (get_or xs i d))
    ≤ length start + length (joined (map f xs))
fits f xs i d start text within same =
    let after = ap length (written f xs i d start text within same) in
    grind (arith, joined-take-le (map f xs) (i + 1), length-append)

-- Parts that are accepted under no switch are basic names.
pub basic_parts : {X : Type 0} (f : X → List ℕ) (xs : List X)
    → All (λ x. fault_of no_protections None (f x) ≡ None) xs → All IsBasicName (map f xs)
basic_parts f xs accepted = All-map IsBasicName f xs (λ k d within.
    basic_law no_protections None (f (get_or xs k d)) (accepted k d within))

-- The pieces of what they join to are the parts.
pub pieces_joined_parts : {X : Type 0} (f : X → List ℕ) (xs : List X) → 0 < length xs
    → All (λ x. fault_of no_protections None (f x) ≡ None) xs → pieces (joined (map f xs)) ≡ map f xs
pieces_joined_parts f xs some accepted = grind (
  arith,
  common_steps,
  pieces-joined,
  list_all-from_AllPass has_no_slash (map f xs) (λ k d within.
      (basic_parts f xs accepted k d within).no_slash),
)

pub ruleset joined_path_laws = (pieces_joined_parts, basic_parts)
