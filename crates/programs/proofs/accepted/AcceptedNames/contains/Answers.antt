use Rattle.gix_validate.proofs.Common.{◌≡◌, ◌∙◌, ◌||◌, ℕ, List, [], ◌∷◌, Bool, Bor, refl, ap, sym}
use Rattle.gix_validate.proofs.Common.{bytes_eq, flat_map, list_any, list_any-append, rules, take, tests}
use Rattle.gix_validate.proofs.Common.{any_from_yields_List, YieldsList-from_slice}
use Rattle.std.proofs.lemmas.Iterator.{YieldsList-from_take}
use Rattle.std.proofs.lemmas.Iterator.Consumers.{YieldsList-at}
use Rattle.gix_validate.specs.Pieces.{pieces}
use Rattle.programs.proofs.accepted.AcceptedNames.contains.Goals as goal

abbrev names_of : Bor (List ℕ) → List (List ℕ)
names_of list = pieces list.now

any_within : (test : List ℕ → Bool) (lists : List (Bor (List ℕ)))
    → list_any (λ list. list_any test (names_of list)) lists ≡ list_any test (flat_map names_of lists)
any_within test [] = refl
any_within test (list ∷ lists) =
    ap (λ any. list_any test (names_of list) || any) (any_within test lists)
    ∙ sym (list_any-append test (names_of list) (flat_map names_of lists))

pub returns : goal.returns
returns c =
    let test : List ℕ → Bool = λ name. bytes_eq name c.args.name.now in
    let source = YieldsList-at c.take-lists.ensures.source
    (YieldsList-from_slice c.args.self.now.lists c.iter.ensures.rest) in
    let given = YieldsList-from_take c.args.self.now.len source c.take-lists.ensures.count in
    any_from_yields_List (λ list. list_any test (names_of list)) _ _ c.any.result c.any.ensures.ran given
    (search (rules, tests))
    ∙ any_within test (take c.args.self.now.len c.args.self.now.lists)
