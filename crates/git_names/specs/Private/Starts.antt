-- Where the part begins that a reason names.
use Rattle.std.specs.Prelude.{ℕ}
use Rattle.git_names.specs.Paths.{offset_of}
use Rattle.git_names.specs.declared.faults.Reason.{Reason}
use Rattle.git_names.specs.declared.faults.Reason.TheVariants as reason
use Rattle.git_names.specs.declared.references.SafeRefError.TheVariants as safe
use Rattle.git_names.specs.declared.submodules.SubmoduleError.TheVariants as submodule

-- the offset in the error of a path or of a disguised part, and 0 for other errors
abbrev pub path_start : Reason → ℕ
path_start (reason.SafeRef (safe.Piece e)) = offset_of e
path_start (reason.Path e) = offset_of e
path_start (reason.Submodule (submodule.Part e)) = offset_of e
path_start (reason.Submodule (submodule.Disguised at)) = at
path_start _ = 0
