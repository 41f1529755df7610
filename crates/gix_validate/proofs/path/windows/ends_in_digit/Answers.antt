-- The byte is one of the digits, and what follows it adds nothing.
use Rattle.gix_validate.proofs.Common.{◌≡◌, true, false, byte, sym, ◌∙◌, arith}
use Rattle.gix_validate.proofs.Components.Devices.{ends_in_digit}
use Rattle.gix_validate.proofs.Components.OneDigit.{digit_then, no_digit_below, no_digit_above}
use Rattle.gix_validate.proofs.Components.OneDigit.{no_digit_past}
use Rattle.gix_validate.proofs.path.windows.ends_in_digit.Goals as goal

pub returns-in-48-to-57 : goal.returns-in-48-to-57
returns-in-48-to-57 c =
    let x = c.args.rest.now in
    let ends : true ≡ c.ends_device_form.result = cc in
    ends ∙ digit_then (byte "0") x _ (omega arith) (omega arith) c.ends_device_form.ensures
    ∙ sym (ends_in_digit x)

pub returns-in_default : goal.returns-in_default
returns-in_default c =
    let x = c.args.rest.now in
    sym (ends_in_digit x ∙ no_digit_past (byte "0") x (omega arith) c.in_default.len_below)

pub returns-in_default-2 : goal.returns-in_default-2
returns-in_default-2 c =
    let x = c.args.rest.now in
    sym (ends_in_digit x ∙ no_digit_below (byte "0") x (omega arith))

pub returns-in_default-3 : goal.returns-in_default-3
returns-in_default-3 c =
    let x = c.args.rest.now in
    let other : false ≡ c.ends_device_form.result = cc in
    other ∙ digit_then (byte "0") x _ (omega arith) (omega arith) c.ends_device_form.ensures
    ∙ sym (ends_in_digit x)

pub returns-in_default-4 : goal.returns-in_default-4
returns-in_default-4 c =
    let x = c.args.rest.now in
    sym (ends_in_digit x ∙ no_digit_above (byte "0") x (omega arith))
