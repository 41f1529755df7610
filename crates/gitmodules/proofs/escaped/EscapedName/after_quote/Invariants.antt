-- the bytes so far, and then those that are left of the name, are the name
use Rattle.std.proofs.Common.{◌≡◌, ◌++◌, false, take, drop}
use Rattle.std.specs.Prelude.{option_map}
use Rattle.gitmodules.specs.Sections.{escaped_name}
use Rattle.gitmodules.proofs.escaped.EscapedName.after_quote.Given as goal

abbrev pub invariant-loop-offset : goal.invariant-loop-offset
invariant-loop-offset l =
    escaped_name false l.fn.bytes
    ≡ option_map (λ more. take l.offset l.bytes ++ more) (escaped_name l.escaped (drop l.offset l.bytes))
