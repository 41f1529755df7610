use Rattle.std.proofs.Common.{◌≡◌, ◌==◌, ◌&&◌, ◌∙◌, not, false, get_or, arith}
use Rattle.std.proofs.lemmas.Bool.Decides.{nat_tests}
use Rattle.std.specs.Str.{byte}
use Rattle.gitmodules.specs.Sections.{is_never_in_name}
use Rattle.gitmodules.proofs.ReadNames.{byte_passed}
use Rattle.gitmodules.proofs.escaped.EscapedName.after_quote.Goals as goal

pub loop-offset-preserved : goal.loop-offset-preserved
loop-offset-preserved c =
    let bytes = c.args.bytes.now in
    let never : is_never_in_name (get_or bytes c.loop-offset.offset 0) ≡ false = grind (arith, nat_tests) in
    let quote : (not c.loop-offset.escaped && get_or bytes c.loop-offset.offset 0 == byte "\"") ≡ false =
    grind (arith, nat_tests) in
    let escape : (not c.loop-offset.escaped && get_or bytes c.loop-offset.offset 0 == byte "\\")
    ≡ c.if-not-escaped-2.escaped =
    grind (arith, nat_tests) in
    rw (← escape) (c.loop-offset.invariant
    ∙ byte_passed c.loop-offset.escaped c.loop-offset.offset bytes c.loop-offset-test.true never quote)
