use Rattle.gix_validate.proofs.Common.{◌≡◌, ◌-◌, ◌∙◌, true, false, None, arith, drop}
use Rattle.gix_validate.proofs.Common.{length, sym, take}
use Rattle.gix_validate.specs.Component.{is_component}
use Rattle.git_names.proofs.PathLemmas.{LeftOf-start, LeftOf-after, LeftOf-fault, LeftOf-last}
use Rattle.git_names.proofs.PathLemmas.{LeftOf-none}
use Rattle.git_names.proofs.paths.first_fault.Goals as goal

pub loop-end-init : goal.loop-end-init
loop-end-init c = LeftOf-start c.args.options c.args.mode c.args.path.now

pub returns-then-not-is_component : goal.returns-then-not-is_component
returns-then-not-is_component c =
    let options = c.args.options in
    let x = c.args.path.now in
    let start = c.loop-end.start in
    let invalid : is_component options None (take (c.in-Some.end - start) (drop start x)) ≡ false =
    grind (arith, c.is_component.ensures, c.if-not-is_component.true) in
    c.fault_of_part.ensures
    ∙ sym (
    LeftOf-fault options c.args.mode x start c.in-Some.end c.loop-end.invariant c.in-Some.ensures invalid
    )

pub loop-end-preserved : goal.loop-end-preserved
loop-end-preserved c =
    let options = c.args.options in
    let x = c.args.path.now in
    let start = c.loop-end.start in
    let valid : is_component options None (take (c.in-Some.end - start) (drop start x)) ≡ true =
    grind (arith, c.is_component.ensures, c.if-not-is_component.false) in
    LeftOf-after options c.args.mode x start c.in-Some.end c.loop-end.invariant c.in-Some.ensures valid

pub returns-then-is_component : goal.returns-then-is_component
returns-then-is_component c =
    let options = c.args.options in
    let x = c.args.path.now in
    let start = c.loop-end.start in
    let valid : is_component options c.args.mode (take (length x - start) (drop start x)) ≡ true =
    grind (arith, c.is_component-2.ensures, c.if-is_component.true) in
    sym (LeftOf-none options c.args.mode x start c.loop-end.invariant c.in_default.ensures valid)

pub returns : goal.returns
returns c =
    let options = c.args.options in
    c.fault_of_part-2.ensures
    ∙ sym (
    LeftOf-last options c.args.mode c.args.path.now c.loop-end.start c.loop-end.invariant c.in_default.ensures
    )
