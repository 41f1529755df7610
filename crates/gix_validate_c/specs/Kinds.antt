-- The kinds of names by their numbers, and what the calls on a name return.
use Rattle.std.specs.Prelude.{ℕ, Bool, List, [], Option, Some, None, false, option_map, length, ◌==◌}
use Rattle.std.specs.Prelude.{if◌then◌else◌}
use Rattle.git_names.specs.Kinds.{is_name, fault_of, reason_of, text_of}
use Rattle.git_names.specs.declared.faults.Fault.{Fault}
use Rattle.git_names.specs.declared.faults.Kind.{Kind}
use Rattle.git_names.specs.declared.faults.Kind.TheVariants as kind
use Rattle.gix_validate_c.specs.Flags.{options_of}
use Rattle.gix_validate_c.specs.Numbers.{code_by, reason_number}
use Rattle.gix_validate_c.specs.Texts.{text_by}

-- the kind with this number, if there is one
abbrev pub kind_of : ℕ → Option Kind
kind_of n =
    if n == 0 then Some kind.Branch
    else if n == 1 then Some kind.BranchRef
    else if n == 2 then Some kind.Tag
    else if n == 3 then Some kind.Reference
    else if n == 4 then Some kind.Partial
    else if n == 5 then Some kind.TagName
    else if n == 6 then Some kind.SafeRef
    else if n == 7 then Some kind.Path
    else if n == 8 then Some kind.SymlinkPath
    else if n == 9 then Some kind.Component
    else if n == 10 then Some kind.Symlink
    else if n == 11 then Some kind.Submodule
    else None

-- an offset in a text of n bytes, and n where there is none
abbrev pub offset_or : ℕ → Option ℕ → ℕ
offset_or n None = n
offset_or n (Some i) = i

-- the text is a name of the kind with this number, under these flags
abbrev pub is_of_kind : Option Kind → ℕ → List ℕ → Bool
is_of_kind None flags x = false
is_of_kind (Some kind) flags x = is_name (options_of flags) kind x

-- the number of its fault, and 255 where there is no such kind
abbrev pub number_by : Option Kind → ℕ → List ℕ → ℕ
number_by None flags x = 255
number_by (Some kind) flags x = code_by reason_number (reason_of (options_of flags) kind x)

-- the offset of its fault; the length where there is none, and 0 where there is no such kind
abbrev pub offset_by : Option Kind → ℕ → List ℕ → ℕ
offset_by None flags x = 0
offset_by (Some kind) flags x =
    offset_or (length x) (option_map (λ e. e.offset) (fault_of (options_of flags) kind x))

-- the printed text of its fault; nothing where there is no fault or no such kind
abbrev pub printed_by : Option Kind → ℕ → List ℕ → List ℕ
printed_by None flags x = []
printed_by (Some kind) flags x = text_by text_of (reason_of (options_of flags) kind x)
