-- The last part.
use Rattle.gix_validate.proofs.Common.{◌≡◌, ◌-◌, ◌∙◌, true, false, ap, arith, drop, length, sym, take}
use Rattle.gix_validate.specs.Faults.{when}
use Rattle.git_names.proofs.SubmoduleLemmas.{DisguisedFrom-last}
use Rattle.git_names.specs.Submodules.{is_disguised}
use Rattle.git_names.proofs.submodules.first_disguised.Goals as goal

pub returns-then-is_disguised-2 : goal.returns-then-is_disguised-2
returns-then-is_disguised-2 c =
    let options = c.args.options in
    let x = c.args.name.now in
    let start = c.loop-end.start in
    let found : is_disguised options (take (length x - start) (drop start x)) ≡ true =
    grind (arith, c.is_disguised-2.ensures, c.if-is_disguised-2.true) in
    sym (
    DisguisedFrom-last options x start c.loop-end.invariant c.in_default.ensures
    ∙ ap (λ t. when t start) found
    )

pub returns : goal.returns
returns c =
    let options = c.args.options in
    let x = c.args.name.now in
    let start = c.loop-end.start in
    let none : is_disguised options (take (length x - start) (drop start x)) ≡ false =
    grind (arith, c.is_disguised-2.ensures, c.if-is_disguised-2.false) in
    sym (
    DisguisedFrom-last options x start c.loop-end.invariant c.in_default.ensures ∙ ap (λ t. when t start) none
    )
