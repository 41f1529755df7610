-- the quote and the escapes of the bytes so far are appended
use Rattle.gix_validate.proofs.Common.{◌≡◌, ◌++◌, take, codes, flat_map}
use Rattle.git_check_names.specs.GitQuoted.{git_escape_of}
use Rattle.git_check_names.proofs.quote.push_git_quoted.Given as goal

abbrev pub invariant-loop-byte : goal.invariant-loop-byte
invariant-loop-byte l =
    l.line.items ≡ l.fn.line.items ++ codes "\"" ++ flat_map git_escape_of (take l.byte-index l.name)
