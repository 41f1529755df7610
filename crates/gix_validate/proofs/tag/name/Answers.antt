-- A clear name has no fault. What the walk says of any other is, by the grammar's law, its grammar.
use Rattle.gix_validate.proofs.Common.{◌≡◌, ◌↔◌, ℕ, List, Result, Ok, Err, None, IsTrue, true}
use Rattle.gix_validate.proofs.Common.{is_none, refl, sym, ap, ◌∙◌, false≢true, rules}
use Rattle.std.specs.Result.{IsOk}
use Rattle.bstr.specs.declared.bstr.BStr.{BStr}
use Rattle.gix_validate.proofs.TagNames.ClearTexts.{clear_has_no_fault}
use Rattle.gix_validate.proofs.TagNames.Grammar.{tag_grammar_law}
use Rattle.gix_validate.proofs.TagNames.Laws.{one_fault_law, only_split_law}
use Rattle.gix_validate.specs.declared.tag.NameError.{NameError}
use Rattle.gix_validate.specs.Private.Adjacent.{IsClear}
use Rattle.gix_validate.specs.Faults.{Validates}
use Rattle.gix_validate.specs.Tag.{fault_of, is_tag_name}
use Rattle.gix_validate.proofs.tag.name.Goals as goal

no_fault : (x y : List ℕ) → y ≡ x → IsClear y → fault_of x ≡ None
no_fault x y same clear = ap fault_of (sym same) ∙ clear_has_no_fault y clear

named : (x : List ℕ) → fault_of x ≡ None → is_tag_name x ≡ true
named x none = tag_grammar_law x ∙ ap is_none none

named_by : (x : List ℕ) (r : Result BStr NameError) → Validates fault_of x r → IsOk r ↔ IsTrue (is_tag_name x)
named_by x (Ok name) valid = (λ ok. named x valid.0, λ is. refl)
named_by x (Err e) valid =
    let invalid = sym (tag_grammar_law x ∙ ap is_none valid) in
    (λ ok. absurd (false≢true ok), λ is. absurd (false≢true (invalid ∙ is)))

pub returns-then-is_clear-clause-answer : goal.returns-then-is_clear-clause-answer
returns-then-is_clear-clause-answer c = (no_fault _ _ (cc) (c.is_clear.ensures.0 c.if-is_clear.true), refl)

pub returns-then-is_clear-clause-grammar : goal.returns-then-is_clear-clause-grammar
returns-then-is_clear-clause-grammar c =
    (λ ok. named _ (returns-then-is_clear-clause-answer c).0, λ is. refl)

pub returns-then-is_clear-clause-one_fault : goal.returns-then-is_clear-clause-one_fault
returns-then-is_clear-clause-one_fault c = one_fault_law _

pub returns-then-is_clear-clause-pieces : goal.returns-then-is_clear-clause-pieces
returns-then-is_clear-clause-pieces c = only_split_law _

pub returns-else-is_clear-clause-answer : goal.returns-else-is_clear-clause-answer
returns-else-is_clear-clause-answer c = search rules

pub returns-else-is_clear-clause-grammar : goal.returns-else-is_clear-clause-grammar
returns-else-is_clear-clause-grammar c = named_by _ _ (returns-else-is_clear-clause-answer c)

pub returns-else-is_clear-clause-one_fault : goal.returns-else-is_clear-clause-one_fault
returns-else-is_clear-clause-one_fault c = one_fault_law _

pub returns-else-is_clear-clause-pieces : goal.returns-else-is_clear-clause-pieces
returns-else-is_clear-clause-pieces c = only_split_law _
