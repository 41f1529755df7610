-- The first of the reasons why a name is refused: that of the name itself, or of the innermost one.
use Rattle.gix_validate.proofs.Common.{◌≡◌, ℕ, zero, suc, ◌<◌, not, Bool, true, false, List, []}
use Rattle.gix_validate.proofs.Common.{◌∷◌, Option, Some, None, length, map, codes, refl}
use Rattle.gix_validate.proofs.Common.{sym, ap, ◌∙◌, arith, list_any, is_none, ◌++◌, if◌then◌else◌}
use Rattle.std.specs.List.{last_or}
use Rattle.std.specs.Option.{option_map_or}
use Rattle.gix_validate.proofs.TagNames.Grammar.{tag_grammar_law}
use Rattle.gix_validate.specs.Bytes.{begins}
use Rattle.gix_validate.specs.Faults.{first_of, ◌orelse◌}
use Rattle.gix_validate.specs.Quoted.{quoted}
use Rattle.gix_validate.specs.Reference.{is_partial_name, is_full_name}
use Rattle.gix_validate.specs.Reference.{partial_fault_of, full_fault_of}
use Rattle.check_push.specs.declared.refs.refusal.Refusal.{Refusal}
use Rattle.check_push.specs.Refs.Namespaces.{inner_of, names_of}
use Rattle.check_push.specs.Refs.Private.{innermost}
use Rattle.check_push.specs.Refs.Refs.{is_replacement, own_refusal_of, refusal_of, shown_name}
use Rattle.check_push.proofs.refs.InnerNames.{inner_shorter, in_namespaces, names_first}
use Rattle.check_push.proofs.refs.InnerNames.{full_inside}

-- ---- full names

partial_law : (x : List ℕ) → is_partial_name x ≡ is_none (partial_fault_of x)
unfolding is_partial_name partial_fault_of
partial_law x = grind (arith, tag_grammar_law x)

pub full_law : (x : List ℕ) → is_full_name x ≡ is_none (full_fault_of x)
unfolding is_full_name full_fault_of
full_law x = grind (arith, partial_law x)

-- ---- the names, and the innermost

names_alone : (name : List ℕ) → inner_of name ≡ None → names_of name ≡ name ∷ []
names_alone name e = names_first name ∙ ap (λ inner. name ∷ option_map_or names_of inner []) e

names_inside : (name inner : List ℕ) → inner_of name ≡ Some inner → names_of name ≡ name ∷ names_of inner
names_inside name inner e = names_first name ∙ ap (λ inner. name ∷ option_map_or names_of inner []) e

pub last_alone : (name : List ℕ) → inner_of name ≡ None → innermost name ≡ Some name
last_alone name e = ap (last_or None) (names_alone name e)

last_or_first : (first : Option (List ℕ)) (name : List ℕ) → last_or first (names_of name) ≡ innermost name
last_or_first first name = rw (names_first name) refl

pub last_inside : (name inner : List ℕ) → inner_of name ≡ Some inner → innermost name ≡ innermost inner
last_inside name inner e = ap (last_or None) (names_inside name inner e) ∙ last_or_first (Some name) inner

same_some : (a b : List ℕ) → Some a ≡ Some b → a ≡ b
same_some a b e = grind arith

-- ---- what is refused

or_none : {A : Type 0} (o : Option A) → (o orelse None) ≡ o
or_none None = refl
or_none (Some a) = refl

or_itself : {A : Type 0} (o : Option A) → o ≡ (o orelse o)
or_itself None = refl
or_itself (Some a) = refl

or_same : {A : Type 0} (o a b : Option A) → (o ≡ None → a ≡ b) → (o orelse a) ≡ (o orelse b)
or_same None a b same = same refl
or_same (Some r) a b same = refl

-- what is in a namespace is neither a branch nor a replacement
elsewhere : (name inner : List ℕ) → inner_of name ≡ Some inner
    → (begins name (codes "refs/heads/") ≡ false) × (is_replacement name ≡ false)
elsewhere name inner e =
    let (rest, is) = in_namespaces name inner e in
    (ap (λ x. begins x (codes "refs/heads/")) is, ap is_replacement is)

module _ (allows : Bool) where
  own_none : (name inner : List ℕ) → inner_of name ≡ Some inner → is_full_name name ≡ true
      → own_refusal_of allows name ≡ None
  own_none name inner e valid = grind (arith, elsewhere name inner e, full_law name)

  own_valid : (name inner : List ℕ) → inner_of name ≡ Some inner → own_refusal_of allows name ≡ None
      → is_full_name name ≡ true
  own_valid name inner e none = grind (arith, elsewhere name inner e, full_law name)

  alone : (name : List ℕ) → inner_of name ≡ None → refusal_of allows name ≡ own_refusal_of allows name
  unfolding refusal_of
  alone name e =
      ap (λ names. first_of (map (own_refusal_of allows) names)) (names_alone name e)
      ∙ or_none (own_refusal_of allows name)

  inwards : (name inner : List ℕ) → inner_of name ≡ Some inner
      → refusal_of allows name ≡ (own_refusal_of allows name orelse refusal_of allows inner)
  unfolding refusal_of
  inwards name inner e =
      ap (λ names. first_of (map (own_refusal_of allows) names)) (names_inside name inner e)

  of_valid : (fuel : ℕ) (name last : List ℕ) (inner : Option (List ℕ)) → length name < fuel
      → inner_of name ≡ inner → is_full_name name ≡ true → Some last ≡ innermost name
      → refusal_of allows name ≡ own_refusal_of allows last
  of_valid zero name last inner few e valid is = absurd (omega arith)
  of_valid (suc fuel) name last None few e valid is =
      alone name e ∙ ap (own_refusal_of allows) (sym (same_some last name (is ∙ last_alone name e)))
  of_valid (suc fuel) name last (Some inner) few e valid is =
      let less : length inner < length name = rw e at (inner_shorter name) in
      inwards name inner e
      ∙ ap (λ own. own orelse refusal_of allows inner) (own_none name inner e valid)
      ∙ of_valid fuel inner last (inner_of inner) (omega arith) refl (full_inside name inner e valid)
      (is ∙ last_inside name inner e)

  first_by : (name last : List ℕ) (inner : Option (List ℕ)) → inner_of name ≡ inner
      → Some last ≡ innermost name
      → refusal_of allows name ≡ (own_refusal_of allows name orelse own_refusal_of allows last)
  first_by name last None e is =
      alone name e ∙ or_itself (own_refusal_of allows name)
      ∙ ap (λ x. own_refusal_of allows name orelse own_refusal_of allows x)
      (sym (same_some last name (is ∙ last_alone name e)))
  first_by name last (Some inner) e is =
      inwards name inner e
      ∙ or_same (own_refusal_of allows name) (refusal_of allows inner) (own_refusal_of allows last) (λ none.
      of_valid (suc (length inner)) inner last (inner_of inner) (omega arith) refl
      (full_inside name inner e (own_valid name inner e none)) (is ∙ last_inside name inner e))

pub own_first : (allows : Bool) (name : List ℕ) (refusal : Refusal)
    → own_refusal_of allows name ≡ Some refusal → refusal_of allows name ≡ Some refusal
unfolding refusal_of
own_first allows name refusal e =
    ap (λ names. first_of (map (own_refusal_of allows) names)) (names_first name)
    ∙ ap (λ own. own orelse first_of (map (own_refusal_of allows)
    (option_map_or names_of (inner_of name) []))) e

pub first_refusal : (allows : Bool) (name last : List ℕ) → Some last ≡ innermost name
    → refusal_of allows name ≡ (own_refusal_of allows name orelse own_refusal_of allows last)
first_refusal allows name last is = first_by allows name last (inner_of name) refl is

-- ---- a replacement is the innermost name

any_alone : (p : List ℕ → Bool) (names : List (List ℕ)) (name last : List ℕ)
    → names ≡ name ∷ [] → last ≡ name → list_any p names ≡ p last
any_alone p names name last is same = grind arith

any_after : (p : List ℕ → Bool) (names others : List (List ℕ)) (name : List ℕ) (any : Bool)
    → names ≡ name ∷ others → p name ≡ false → list_any p others ≡ any → list_any p names ≡ any
any_after p names others name any is not more = grind arith

any_by : (fuel : ℕ) (name last : List ℕ) (inner : Option (List ℕ)) → length name < fuel
    → inner_of name ≡ inner → Some last ≡ innermost name
    → list_any is_replacement (names_of name) ≡ is_replacement last
any_by zero name last inner few e is = absurd (omega arith)
any_by (suc fuel) name last None few e is =
    any_alone is_replacement (names_of name) name last (names_alone name e)
    (same_some last name (is ∙ last_alone name e))
any_by (suc fuel) name last (Some inner) few e is =
    let less : length inner < length name = rw e at (inner_shorter name) in
    any_after is_replacement (names_of name) (names_of inner) name (is_replacement last)
    (names_inside name inner e) (elsewhere name inner e).1
    (any_by fuel inner last (inner_of inner) (omega arith) refl (is ∙ last_inside name inner e))

any_replacement : (name last : List ℕ) → Some last ≡ innermost name
    → list_any is_replacement (names_of name) ≡ is_replacement last
any_replacement name last is = any_by (suc (length name)) name last (inner_of name) (omega arith) refl is

pub shown_by : (name last : List ℕ) (test : Bool) → Some last ≡ innermost name → test ≡ is_replacement last
    → shown_name name ≡ (if test then codes " " ++ quoted name else [])
unfolding shown_name
shown_by name last test is same =
    ap (λ test. if test then codes " " ++ quoted name else []) (any_replacement name last is ∙ sym same)

-- what `innermost` needs
pub ruleset inner_names = (last_alone, last_inside)
