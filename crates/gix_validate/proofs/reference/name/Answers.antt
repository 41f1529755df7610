use Rattle.gix_validate.proofs.Common.{sym, ap, ◌∙◌}
use Rattle.gix_validate.proofs.References.{full_name_parts}
use Rattle.gix_validate.proofs.TagNames.ClearTexts.{clear_has_no_fault}
use Rattle.bstr.specs.BStr.{bstr_bytes}
use Rattle.gix_validate.specs.Tag.{fault_of}
use Rattle.gix_validate.proofs.reference.name.Goals as goal

pub full_name-requires : goal.full_name-requires
full_name-requires c =
    ap fault_of (sym c.as_bytes.ensures) ∙ clear_has_no_fault _ (c.is_clear.ensures.0 c.if-is_clear.true)

pub returns-then-is_clear-clause-partial_name : goal.returns-then-is_clear-clause-partial_name
returns-then-is_clear-clause-partial_name c =
    let parts = full_name_parts (bstr_bytes c.args.path) in
    (λ ok. parts.0 (c.full_name.ensures.grammar.0 ok), λ both. c.full_name.ensures.grammar.1 (parts.1 both))

pub returns-in-Ok-clause-partial_name : goal.returns-in-Ok-clause-partial_name
returns-in-Ok-clause-partial_name c =
    let parts = full_name_parts (bstr_bytes c.args.path) in
    (λ ok. parts.0 (c.in-Ok.ensures.grammar.0 ok), λ both. c.in-Ok.ensures.grammar.1 (parts.1 both))

pub returns-in-Err-clause-partial_name : goal.returns-in-Err-clause-partial_name
returns-in-Err-clause-partial_name c =
    let parts = full_name_parts (bstr_bytes c.args.path) in
    (λ ok. parts.0 (c.in-Err.ensures.grammar.0 ok), λ both. c.in-Err.ensures.grammar.1 (parts.1 both))
