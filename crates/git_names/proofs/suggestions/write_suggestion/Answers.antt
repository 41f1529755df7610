-- A valid name is copied.
use Rattle.gix_validate.proofs.Common.{◌≡◌, ◌∙◌, ap, arith, drop, length, sym, true, Some, common_steps}
use Rattle.std.proofs.lemmas.List.{take_at}
use Rattle.bstr.specs.BStr.{bstr_bytes}
use Rattle.git_names.proofs.SuggestionLaws.{suggestion_own}
use Rattle.git_names.specs.ShortNames.{is_short_name}
use Rattle.git_names.proofs.suggestions.write_suggestion.Goals as goal

pub returns-then-is_ok-clause-text : goal.returns-then-is_ok-clause-text
returns-then-is_ok-clause-text c =
    let x = bstr_bytes c.args.name in
    let valid : is_short_name x ≡ true =
    grind (arith, common_steps, c.branch-name.ensures, c.if-is_ok.ensures, c.if-is_ok.true) in
    let copied = c.copy_from_slice.ensures.after in
    let len = length c.as_bytes-bytes.result.now in
    let taken = take_at c.copy_from_slice.new.self (drop len c.args.buffer.now) len (ap length copied) in
    suggestion_own x valid ∙ ap Some (sym (taken ∙ copied ∙ c.as_bytes-bytes.ensures))
