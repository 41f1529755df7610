-- Components that are joined by slashes.
use Rattle.gix_validate.proofs.Common.{◌≡◌, ◌∙◌, sym, ℕ, List, [], ◌∷◌, ◌++◌, get_or, map, refl, ap}
use Rattle.gix_validate.proofs.Common.{Bor, YieldsList-from_slice, items_from_drains, append-nil}
use Rattle.gix_validate.proofs.Common.{map-map, None, All, byte}
use Rattle.std.proofs.iter.Yields.{fronts}
use Rattle.std.specs.Iterator.{Drains}
use Rattle.std.specs.Slice.Iter.{iter_rest}
use Rattle.bstr.specs.Owned.{joined as joined_by}
use Rattle.gix_validate.specs.Component.{fault_of}
use Rattle.gix_validate.specs.ComponentLaws.{no_protections}
use Rattle.gix_validate.specs.Pieces.{joined}
use Rattle.typed_names.specs.declared.component.Component.{Component}
use Rattle.typed_names.specs.Names.{component_bytes}

-- what the library joins by a slash
joined_by_slash : (texts : List (List ℕ)) → joined_by (byte "/" ∷ []) texts ≡ joined texts
joined_by_slash [] = refl
joined_by_slash (text ∷ []) = append-nil text
joined_by_slash (text ∷ next ∷ texts) = ap (λ rest. text ++ byte "/" ∷ rest) (joined_by_slash (next ∷ texts))

-- it joins the components of a slice
pub components_joined : (it : _) (parts : List Component) (xs : List (Bor Component))
    → iter_rest it ≡ parts → Drains fronts it xs
    → joined_by (byte "/" ∷ []) (map (λ x. component_bytes x.now) xs) ≡ joined (map component_bytes parts)
components_joined it parts xs rest ran =
    let given =
    items_from_drains xs (ran.1.0, ran.1.1, λ _. (ran.0, ran.1.2)) (YieldsList-from_slice parts rest) in
    joined_by_slash _
    ∙ ap joined (sym (map-map component_bytes (λ x. x.now) xs) ∙ ap (map component_bytes) given)

-- each component is valid with no switch and without a mode
pub all_valid : (parts : List Component)
    → All (λ part. fault_of no_protections None (component_bytes part) ≡ None) parts
all_valid parts k d within = (get_or parts k d).valid
