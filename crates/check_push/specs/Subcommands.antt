-- The subcommands of the program.
use Rattle.std.specs.Prelude.{ℕ, if◌then◌else◌, List, codes, Option, Some, None}
use Rattle.std.specs.Str.{bytes_eq}
use Rattle.check_push.specs.declared.options.Subcommand.{Subcommand}
use Rattle.check_push.specs.declared.options.Subcommand.TheVariants.{Refs, Trees, Submodules}

-- the subcommand that a word names
abbrev pub subcommand_of : List ℕ → Option Subcommand
subcommand_of word =
    if bytes_eq word (codes "refs") then Some Refs
    else if bytes_eq word (codes "trees") then Some Trees
    else if bytes_eq word (codes "submodules") then Some Submodules
    else None
