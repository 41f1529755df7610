-- The walk's fault, of the bytes of the name.
use Rattle.gix_validate.proofs.Common.{◌≡◌, ℕ, ◌-◌, ◌<◌, ◌≤◌, ◌↔◌, List, length, Option, None, Some}
use Rattle.gix_validate.proofs.Common.{option_map, is_none, IfSome, IsTrue, eqb, eqb-true, true}
use Rattle.gix_validate.proofs.Common.{false, refl, sym, ap, ◌∙◌, arith, nat_tests}
use Rattle.std.specs.Prelude.{IsNone}
use Rattle.gix_validate.proofs.TagNames.ClearTexts.{first_fault_within, first_fault_of_empty}
use Rattle.gix_validate.proofs.TagNames.Grammar.{first_fault_law}
use Rattle.gix_validate.specs.declared.tag.NameError.{NameError}
use Rattle.gix_validate.specs.declared.tag.NameError.TheVariants.{Empty}
use Rattle.gix_validate.specs.Tag.{Fault, first_fault, is_tag_name}
use Rattle.gix_validate.proofs.tag.first_fault.Goals as goal

abbrev as_pair : Option Fault → Option (NameError × ℕ)
as_pair o = option_map (λ fault. (fault.error, fault.offset)) o

of_empty : (x y : List ℕ) → x ≡ y → eqb (length x) 0 ≡ true → Some (Empty, 0) ≡ as_pair (first_fault y)
of_empty x y same empty =
    sym (ap as_pair (first_fault_of_empty y (ap length (sym same) ∙ eqb-true (length x) 0 empty)))

some_left : (x : List ℕ) → eqb (length x) 0 ≡ false → 0 < length x
some_left x some = grind (arith, nat_tests)

none_of_pair : (o : Option Fault) → IsNone (as_pair o) ↔ IsTrue (is_none o)
none_of_pair o = grind arith

by_grammar : (x : List ℕ) (r : Option (NameError × ℕ)) → r ≡ as_pair (first_fault x)
    → IsNone r ↔ IsTrue (is_tag_name x)
by_grammar x r is = rw (is, first_fault_law x) (none_of_pair (first_fault x))

pair_within : (o : Option Fault) (n : ℕ) → ((fault : Fault) → o ≡ Some fault → fault.offset ≤ n)
    → IfSome (as_pair o) (λ fault. fault.1 ≤ n)
pair_within None n within = tt
pair_within (Some fault) n within = within fault refl

by_offset : (x : List ℕ) (r : Option (NameError × ℕ)) → r ≡ as_pair (first_fault x)
    → IfSome r (λ fault. fault.1 ≤ length x - 1)
by_offset x r is = rw is (pair_within (first_fault x) (length x - 1) (first_fault_within x))

pub returns-then-is_empty-clause-fault : goal.returns-then-is_empty-clause-fault
returns-then-is_empty-clause-fault c =
    of_empty _ _ c.as_bytes-bytes.ensures (sym c.is_empty.ensures ∙ c.if-is_empty.true)

pub returns-then-is_empty-clause-grammar : goal.returns-then-is_empty-clause-grammar
returns-then-is_empty-clause-grammar c =
    by_grammar _ (Some (Empty, 0))
    (of_empty _ _ c.as_bytes-bytes.ensures (sym c.is_empty.ensures ∙ c.if-is_empty.true))

pub returns-then-is_empty-clause-within : goal.returns-then-is_empty-clause-within
returns-then-is_empty-clause-within c = omega arith

pub clear_front-front-requires : goal.clear_front-front-requires
clear_front-front-requires c = some_left _ (sym c.is_empty.ensures ∙ c.if-is_empty.false)

pub fault_past-requires-clause-some : goal.fault_past-requires-clause-some
fault_past-requires-clause-some c = some_left _ (sym c.is_empty.ensures ∙ c.if-is_empty.false)

pub fault_past-requires-clause-within : goal.fault_past-requires-clause-within
fault_past-requires-clause-within c = c.clear_front-front.ensures.within

pub fault_past-requires-clause-quiet : goal.fault_past-requires-clause-quiet
fault_past-requires-clause-quiet c = c.clear_front-front.ensures.quiet

pub returns-clause-fault : goal.returns-clause-fault
returns-clause-fault c = c.fault_past.ensures ∙ ap (λ v. as_pair (first_fault v)) c.as_bytes-bytes.ensures

pub returns-clause-grammar : goal.returns-clause-grammar
returns-clause-grammar c =
    by_grammar _ _ (c.fault_past.ensures ∙ ap (λ v. as_pair (first_fault v)) c.as_bytes-bytes.ensures)

pub returns-clause-within : goal.returns-clause-within
returns-clause-within c =
    by_offset _ _ (c.fault_past.ensures ∙ ap (λ v. as_pair (first_fault v)) c.as_bytes-bytes.ensures)
