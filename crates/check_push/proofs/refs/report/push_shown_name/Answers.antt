use Rattle.gix_validate.proofs.Common.{◌≡◌, ◌++◌, [], ap, sym, ◌∙◌, arith, append-nil, append_assoc}
use Rattle.gix_validate.proofs.Common.{true, false, if◌then◌else◌, codes}
use Rattle.gix_validate.specs.Quoted.{quoted}
use Rattle.check_push.specs.Refs.Refs.{shown_name}
use Rattle.check_push.proofs.refs.FirstRefusals.{shown_by}
use Rattle.check_push.proofs.refs.report.push_shown_name.Goals as goal

pub returns-then-not-is_replacement : goal.returns-then-not-is_replacement
returns-then-not-is_replacement c =
    let shown = shown_by c.args.name.now c.innermost.result.now c.is_replacement.result
    c.innermost.ensures c.is_replacement.ensures in
    let no : c.is_replacement.result ≡ false = grind (arith, c.if-not-is_replacement.true) in
    let none : shown_name c.args.name.now ≡ [] =
    shown ∙ ap (λ test. if test then codes " " ++ quoted c.args.name.now else []) no in
    rw none (sym (append-nil c.args.lines.now.items))

pub returns : goal.returns
returns c =
    let shown = shown_by c.args.name.now c.innermost.result.now c.is_replacement.result
    c.innermost.ensures c.is_replacement.ensures in
    let is : c.is_replacement.result ≡ true = grind (arith, c.if-not-is_replacement.false) in
    let some : shown_name c.args.name.now ≡ codes " " ++ quoted c.args.name.now =
    shown ∙ ap (λ test. if test then codes " " ++ quoted c.args.name.now else []) is in
    rw some (grind (arith, append_assoc))
