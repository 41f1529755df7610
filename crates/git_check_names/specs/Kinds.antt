-- The words for the kinds of names.
use Rattle.std.specs.Prelude.{ℕ, Bool, true, false, if◌then◌else◌, List, codes, Option, Some, None}
use Rattle.std.specs.Str.{bytes_eq}
use Rattle.git_names.specs.declared.faults.Kind.{Kind}
use Rattle.git_names.specs.declared.faults.Kind.TheVariants.{Branch, BranchRef, Tag, Reference, SafeRef}
use Rattle.git_names.specs.declared.faults.Kind.TheVariants.{Path, Component, Submodule}

-- the kind that a word names
abbrev pub kind_of : List ℕ → Option Kind
kind_of word =
    if bytes_eq word (codes "branch") then Some Branch
    else if bytes_eq word (codes "branch-ref") then Some BranchRef
    else if bytes_eq word (codes "tag") then Some Tag
    else if bytes_eq word (codes "ref") then Some Reference
    else if bytes_eq word (codes "safe-ref") then Some SafeRef
    else if bytes_eq word (codes "path") then Some Path
    else if bytes_eq word (codes "component") then Some Component
    else if bytes_eq word (codes "submodule") then Some Submodule
    else None

-- there is a repair of names of this kind
abbrev pub is_repairable : Kind → Bool
is_repairable Branch = true
is_repairable Reference = true
is_repairable kind = false
