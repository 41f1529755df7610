-- The names that a name stands for: what they are, and which of them can be refused.
use Rattle.gix_validate.proofs.Common.{◌≡◌, ◌≢◌, ◌↔◌, ◌⊎◌, inl, inr, ℕ, zero, suc, ◌<◌, ◌≤◌, Bool}
use Rattle.gix_validate.proofs.Common.{true, false, IsTrue, List, [], ◌∷◌, ◌++◌, Option, Some, None}
use Rattle.gix_validate.proofs.Common.{All, IfSome, length, drop, flat_map, codes, byte, refl, ap}
use Rattle.gix_validate.proofs.Common.{sym, ◌∙◌, arith, nat_tests, append_assoc, length-append}
use Rattle.gix_validate.proofs.Common.{take-append-drop, bytes_eq-Decides, AllByRecursion, IfSome_then}
use Rattle.gix_validate.proofs.Common.{All-from_recursion, option_and_then, if◌then◌else◌}
use Rattle.std.specs.Option.{option_map_or}
use Rattle.gix_validate.proofs.Texts.Pieces.{pieces_front}
use Rattle.gix_validate.proofs.Texts.Endings.{ends_cons}
use Rattle.gix_validate.specs.Bytes.{begins, ends}
use Rattle.gix_validate.specs.Faults.{when}
use Rattle.gix_validate.specs.Pieces.{pieces, has_no_slash}
use Rattle.gix_validate.specs.Reference.{is_partial_name, is_full_name}
use Rattle.gix_validate.specs.Tag.{is_tag_name}
use Rattle.programs.specs.Texts.{split_once}
use Rattle.programs.proofs.CutTexts.{IsCut, split_found, split_cuts}
use Rattle.check_push.specs.Refs.Namespaces.{namespaces, inner_of, names_within, names_of, StandsFor}

-- ---- the name inside of a namespace

pub begins_true : (x word : List ℕ) → begins x word ≡ true → x ≡ word ++ drop (length word) x
begins_true x word h = grind (arith, bytes_eq-Decides, take-append-drop)

no_slash : (space : List ℕ) → AllByRecursion (λ b. b ≢ byte "/") space → has_no_slash space ≡ true
no_slash [] none = refl
no_slash (b ∷ space) none = grind (arith, nat_tests, no_slash space)

slash_free : (space : List ℕ) → has_no_slash space ≡ true → AllByRecursion (λ b. b ≢ byte "/") space
slash_free [] none = tt
slash_free (b ∷ space) none = grind (arith, nat_tests, slash_free space)

abbrev IsInside : List ℕ → List ℕ → Type 0
IsInside name inner =
    (space : List ℕ) × (has_no_slash space ≡ true) × (name ≡ namespaces ++ (space ++ byte "/" ∷ inner))
    × (begins inner (codes "refs/") ≡ true)

-- what a test lets through
if_when : {A : Type 0} (test : Bool) (x : A) (P : A → Type 0) → (test ≡ true → P x) → IfSome (when test x) P
if_when true x P holds = holds refl
if_when false x P holds = tt

inside_parts : (name : List ℕ) (parts : Option (List ℕ × List ℕ)) → begins name namespaces ≡ true
    → IfSome parts (IsCut (byte "/") (drop (length namespaces) name))
    → IfSome (option_and_then (λ (parts : List ℕ × List ℕ). when (begins parts.1 (codes "refs/")) parts.1) parts)
    (IsInside name)
inside_parts name None begun cut = tt
inside_parts name (Some (space, inner)) begun (is, none) =
    if_when (begins inner (codes "refs/")) inner (IsInside name) (λ under. (
      space,
      no_slash space none,
      begins_true name namespaces begun ∙ ap (λ rest. namespaces ++ rest) is,
      under,
    ))

inside_begun : (name : List ℕ) (begun : Bool) → begins name namespaces ≡ begun
    → IfSome (option_and_then (λ (parts : List ℕ × List ℕ). when (begins parts.1 (codes "refs/")) parts.1)
    (if begun then split_once (byte "/") (drop (length namespaces) name) else None)) (IsInside name)
inside_begun name true begun =
    inside_parts name (split_once (byte "/") (drop (length namespaces) name)) begun
    (split_cuts (byte "/") (drop (length namespaces) name))
inside_begun name false begun = tt

inside : (name : List ℕ) → IfSome (inner_of name) (IsInside name)
inside name = inside_begun name (begins name namespaces) refl

inner_found : (space inner : List ℕ) → has_no_slash space ≡ true → begins inner (codes "refs/") ≡ true
    → inner_of (namespaces ++ (space ++ byte "/" ∷ inner)) ≡ Some inner
inner_found space inner none under =
    let free : All (λ b. b ≢ byte "/") space =
    All-from_recursion (λ b. b ≢ byte "/") space (slash_free space none) in
    grind (arith, split_found (byte "/") space inner free)

pub in_namespaces : (name inner : List ℕ) → inner_of name ≡ Some inner
    → (rest : List ℕ) × (name ≡ namespaces ++ rest)
in_namespaces name inner e =
    let (space, none, is, under) = rw e at (inside name) in
    (space ++ byte "/" ∷ inner, is)

pub inner_shorter : (name : List ℕ) → IfSome (inner_of name) (λ inner. length inner < length name)
inner_shorter name = IfSome_then (inner_of name) (inside name) (λ inner is. grind (arith, length-append))

-- ---- the names, from the outermost

names_enough : (f g : ℕ) (name : List ℕ) → length name ≤ f → length name ≤ g
    → names_within f name ≡ names_within g name
names_enough zero zero name p q = refl
names_enough zero (suc g) name p q = grind (arith, inner_shorter name)
names_enough (suc f) zero name p q = grind (arith, inner_shorter name)
names_enough (suc f) (suc g) name p q = grind (arith, inner_shorter name, names_enough f g)

pub names_first : (name : List ℕ) → names_of name ≡ name ∷ option_map_or names_of (inner_of name) []
unfolding names_of
names_first [] = refl
names_first (b ∷ name) = grind (arith, inner_shorter (b ∷ name), names_enough)

-- ---- each name that a name stands for is on the list, and no other

abbrev fronts : List (List ℕ) → List ℕ
fronts spaces = flat_map (λ space. namespaces ++ space ++ codes "/") spaces

last_under : (spaces : List (List ℕ)) (inner last : List ℕ) → inner ≡ fronts spaces ++ last
    → (spaces ≡ []) ⊎ IsTrue (begins last (codes "refs/")) → begins inner (codes "refs/") ≡ true
    → IsTrue (begins last (codes "refs/"))
last_under [] inner last is end under = grind arith
last_under (space ∷ spaces) inner last is end under = grind arith

inner_under : (spaces : List (List ℕ)) (last : List ℕ)
    → (spaces ≡ []) ⊎ IsTrue (begins last (codes "refs/")) → IsTrue (begins last (codes "refs/"))
    → begins (fronts spaces ++ last) (codes "refs/") ≡ true
inner_under [] last end under = grind arith
inner_under (space ∷ spaces) last end under = refl

module _ (P : List ℕ → Type 0) where
  listed_in : (name : List ℕ) (inner : Option (List ℕ)) → IfSome inner (IsInside name)
      → ((inner : List ℕ) → length inner < length name → ((last : List ℕ) → StandsFor inner last → P last)
      → AllByRecursion P (names_of inner))
      → ((last : List ℕ) → StandsFor name last → P last) → AllByRecursion P (option_map_or names_of inner [])
  listed_in name None is more each = tt
  listed_in name (Some inner) (space, none, cut, under) more each =
      more inner (grind (arith, length-append)) (λ last (spaces, apart, is, end). each last (
        space ∷ spaces,
        (grind arith, apart),
        grind (arith, append_assoc),
        inr (last_under spaces inner last is end under),
      ))

  listed_within : (fuel : ℕ) (name : List ℕ) → length name < fuel
      → ((last : List ℕ) → StandsFor name last → P last) → AllByRecursion P (names_of name)
  listed_within zero name few each = absurd (omega arith)
  listed_within (suc fuel) name few each =
      rw (names_first name) (
        each name ([], tt, refl, inl refl),
        listed_in name (inner_of name) (inside name)
            (λ inner less more. listed_within fuel inner (omega arith) more) each,
      )

  stands_at : (spaces : List (List ℕ)) (name last : List ℕ)
      → AllByRecursion (λ space. IsTrue (has_no_slash space)) spaces → name ≡ fronts spaces ++ last
      → (spaces ≡ []) ⊎ IsTrue (begins last (codes "refs/")) → AllByRecursion P (names_of name) → P last
  stands_at [] name last apart is end all = grind (arith, names_first name)
  stands_at (space ∷ spaces) name last (none, apart) is end all =
      let inner = fronts spaces ++ last in
      let cut : name ≡ namespaces ++ (space ++ byte "/" ∷ inner) = grind (arith, append_assoc) in
      let under : IsTrue (begins last (codes "refs/")) = grind arith in
      let found : inner_of name ≡ Some inner =
      rw cut (inner_found space inner (grind arith) (inner_under spaces last (inr under) under)) in
      let first : AllByRecursion P (name ∷ names_of inner) = grind (arith, names_first name) in
      stands_at spaces inner last apart refl (inr under) first.1

  pub listed : (name : List ℕ)
      → AllByRecursion P (names_of name) ↔ ((last : List ℕ) → StandsFor name last → P last)
  listed name = (
    λ all last (spaces, apart, is, end). stands_at spaces name last apart is end all,
    λ each. listed_within (suc (length name)) name (omega arith) each,
  )

-- ---- a name that is valid: what is inside is valid too

ends_past : (front x : List ℕ) → 0 < length x → ends (front ++ x) (codes ".") ≡ ends x (codes ".")
ends_past [] x some = refl
ends_past (b ∷ front) x some =
    ends_cons (codes ".") b (front ++ x) (grind (arith, length-append)) ∙ ends_past front x some

inner_pieces : (space inner : List ℕ) → has_no_slash space ≡ true
    → pieces (namespaces ++ (space ++ byte "/" ∷ inner))
    ≡ codes "refs" ∷ codes "namespaces" ∷ space ∷ pieces inner
inner_pieces space inner none =
    pieces_front (codes "refs") (codes "namespaces/" ++ (space ++ byte "/" ∷ inner)) refl
    ∙ ap (λ ps. codes "refs" ∷ ps) (pieces_front (codes "namespaces") (space ++ byte "/" ∷ inner) refl)
    ∙ ap (λ ps. codes "refs" ∷ codes "namespaces" ∷ ps) (pieces_front space inner none)

inner_tag_name : (space inner : List ℕ) → has_no_slash space ≡ true → 0 < length inner
    → is_tag_name (namespaces ++ (space ++ byte "/" ∷ inner)) ≡ true → is_tag_name inner ≡ true
unfolding is_tag_name
inner_tag_name space inner none some valid =
    let same : ends (namespaces ++ (space ++ byte "/" ∷ inner)) (codes ".") ≡ ends inner (codes ".") =
    ap (λ x. ends x (codes ".")) (sym (append_assoc namespaces space (byte "/" ∷ inner)))
    ∙ ap (λ x. ends x (codes ".")) (sym (append_assoc (namespaces ++ space) (codes "/") inner))
    ∙ ends_past ((namespaces ++ space) ++ codes "/") inner some in
    grind (arith, inner_pieces space inner none)

inner_full : (space rest : List ℕ) → has_no_slash space ≡ true
    → is_full_name (namespaces ++ (space ++ byte "/" ∷ (codes "refs/" ++ rest))) ≡ true
    → is_full_name (codes "refs/" ++ rest) ≡ true
unfolding is_full_name is_partial_name
inner_full space rest none valid =
    grind (arith, inner_tag_name space (codes "refs/" ++ rest) none)

pub full_inside : (name inner : List ℕ) → inner_of name ≡ Some inner → is_full_name name ≡ true
    → is_full_name inner ≡ true
full_inside name inner e valid =
    let (space, none, cut, under) = rw e at (inside name) in
    let is = begins_true inner (codes "refs/") under in
    rw is (inner_full space (drop 5 inner) none (rw (cut, is) at valid))
