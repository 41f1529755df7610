use Rattle.gix_validate.proofs.Common.{◌≡◌, ◌+◌, ◌-◌, ◌&&◌, ◌∙◌, true, false, None, ap, arith, drop}
use Rattle.gix_validate.proofs.Common.{length, sym, take}
use Rattle.gix_validate.specs.Component.{is_component}
use Rattle.git_names.specs.Paths.{has_valid_parts}
use Rattle.git_names.proofs.PathLemmas.{path_by_first_part, path_of_one_part}
use Rattle.git_names.proofs.SlashLemmas.{first_marked, marks_after, none_marked}
use Rattle.git_names.proofs.paths.has_valid_parts.Goals as goal

pub returns-then-not-is_component : goal.returns-then-not-is_component
returns-then-not-is_component c =
    let options = c.args.options in
    let rest = c.loop-slashes.rest.now in
    let end = c.first_lane-end.result in
    let lane = c.first_lane-end.ensures in
    let marks = c.loop-slashes.invariant.marks in
    let first = first_marked rest c.loop-slashes.slashes end marks lane.set lane.below in
    let after = take (length rest - (end + 1)) (drop (end + 1) rest) in
    let invalid : is_component options None (take end rest) ≡ false =
    grind (arith, c.is_component.ensures, c.if-not-is_component.true) in
    sym (
    c.loop-slashes.invariant.same ∙ path_by_first_part options c.args.mode rest end first
    ∙ ap (λ t. t && has_valid_parts options c.args.mode after) invalid
    )

pub loop-slashes-preserved : goal.loop-slashes-preserved
loop-slashes-preserved c =
    let options = c.args.options in
    let rest = c.loop-slashes.rest.now in
    let end = c.first_lane-end.result in
    let lane = c.first_lane-end.ensures in
    let marks = c.loop-slashes.invariant.marks in
    let first = first_marked rest c.loop-slashes.slashes end marks lane.set lane.below in
    let after = take (length rest - (end + 1)) (drop (end + 1) rest) in
    let valid : is_component options None (take end rest) ≡ true =
    grind (arith, c.is_component.ensures, c.if-not-is_component.false) in
    record {
      marks = marks_after rest c.loop-slashes.slashes end marks;
      same =
          c.loop-slashes.invariant.same ∙ path_by_first_part options c.args.mode rest end first
          ∙ ap (λ t. t && has_valid_parts options c.args.mode after) valid;
    }

pub returns : goal.returns
returns c =
    let options = c.args.options in
    let rest = c.loop-slashes.rest.now in
    let none = none_marked rest c.loop-slashes.slashes c.loop-slashes.invariant.marks
    (omega (arith, c.loop-slashes-test.false)) in
    c.is_last_part.ensures
    ∙ sym (c.loop-slashes.invariant.same ∙ path_of_one_part options c.args.mode rest none)
