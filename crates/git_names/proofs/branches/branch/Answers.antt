-- A dash, or no fault.
use Rattle.gix_validate.proofs.Common.{◌≡◌, None, true, false, arith, bytes_eq, codes, refl}
use Rattle.bstr.specs.BStr.{bstr_bytes}
use Rattle.gix_validate.specs.Bytes.{begins}
use Rattle.gix_validate.specs.Tag.{fault_of as tag_fault_of}
use Rattle.git_names.proofs.ShortNameLemmas.{fault_of_dash, fault_of_none}
use Rattle.git_names.proofs.branches.branch.Goals as goal

pub returns-clause-answer : goal.returns-clause-answer
returns-clause-answer c =
    let x = bstr_bytes c.args.name in
    let none : tag_fault_of x ≡ None = grind (arith, c.in_default.ensures.answer) in
    let head : bytes_eq x (codes "HEAD") ≡ false = grind (arith, c.if-eq.false, c.eq.ensures) in
    let dash : begins x (codes "-") ≡ false =
    grind (arith, c.if-starts_with.false, c.starts_with.ensures.value) in
    (fault_of_none x none head dash, refl)

pub returns-clause-same : goal.returns-clause-same
returns-clause-same c = refl

pub returns-then-starts_with-clause-answer : goal.returns-then-starts_with-clause-answer
returns-then-starts_with-clause-answer c =
    let x = bstr_bytes c.args.name in
    let none : tag_fault_of x ≡ None = grind (arith, c.in_default.ensures.answer) in
    let head : bytes_eq x (codes "HEAD") ≡ false = grind (arith, c.if-eq.false, c.eq.ensures) in
    let dash : begins x (codes "-") ≡ true =
    grind (arith, c.if-starts_with.true, c.starts_with.ensures.value) in
    fault_of_dash x none head dash
