-- What is found where a byte stands alone between the word and the name.
use Rattle.std.proofs.Common.{◌≡◌, ℕ, ◌==◌, true, false, inl, inr, List, [], ◌∷◌, ◌++◌, Some, codes}
use Rattle.std.proofs.Common.{arith}
use Rattle.std.proofs.lemmas.Bool.{cases_Bool}
use Rattle.std.proofs.lemmas.Bool.Decides.{nat_tests}
use Rattle.std.specs.Prelude.{Contains}
use Rattle.std.specs.List.{list_any}
use Rattle.gitmodules.specs.Sections.{is_blank, header_after_bracket, sections}
use Rattle.gitmodules.specs.Spelled.{blanks, IsNamedAfterEachBlank}

-- the file
abbrev file : ℕ → List ℕ
file b = codes "[submodule" ++ b ∷ codes "\"x\"]"

named_after : (b : ℕ) → is_blank b ≡ true → sections 0 (file b) ≡ (0, Some (codes "x")) ∷ []
unfolding header_after_bracket
named_after b blank = grind (arith, nat_tests)

not_named : (b : ℕ) → is_blank b ≡ false → Contains (sections 0 (file b)) (0, Some (codes "x")) → ⊥
unfolding header_after_bracket
not_named b other there = grind (arith, nat_tests)

listed : (b : ℕ) → list_any (λ c. b == c) blanks ≡ is_blank b
listed b = grind (arith, nat_tests)

pub named_after_each_blank : IsNamedAfterEachBlank
named_after_each_blank b =
    elim (cases_Bool (is_blank b)) [
      | inl blank ↦ (λ there. grind (arith, listed b), λ any. grind (arith, named_after b blank))
      | inr other ↦ (λ there. absurd (not_named b other there), λ any. absurd (grind (arith, listed b)))
    ]
