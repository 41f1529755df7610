-- Short names of branches and tags: what follows `refs/heads/` or `refs/tags/` in the full name.
use Rattle.std.specs.Prelude.{ℕ, Bool, ◌&&◌, not, List, ◌++◌, codes, Option, option_map}
use Rattle.std.specs.Str.{bytes_eq}
use Rattle.gix_validate.specs.Bytes.{begins}
use Rattle.gix_validate.specs.Faults.{when, ◌orelse◌}
use Rattle.gix_validate.specs.Reference.{carried, is_branch_name, is_full_name, reserved}
use Rattle.gix_validate.specs.Reference.{text_of as name_text_of}
use Rattle.gix_validate.specs.Tag.{fault_of as tag_fault_of}
use Rattle.git_names.specs.declared.branches.ShortNameError.{ShortNameError}
use Rattle.git_names.specs.declared.branches.ShortNameError.TheVariants.{Name, StartsWithDash}

-- the full name of the branch with this short name
unfoldable pub full_name : List ℕ → List ℕ
full_name x = codes "refs/heads/" ++ x

-- The text is the short name of a branch: its full name is the name of a branch (so it isn't `HEAD`), and it
-- doesn't begin with a dash.
unfoldable pub is_short_name : List ℕ → Bool
is_short_name x = is_branch_name (full_name x) && not (begins x (codes "-"))

-- the full name of the tag with this short name
unfoldable pub full_tag_name : List ℕ → List ℕ
full_tag_name x = codes "refs/tags/" ++ x

-- The text is the short name of a tag: its full name is a valid one, it isn't `HEAD`, and it doesn't begin
-- with a dash.
unfoldable pub is_short_tag : List ℕ → Bool
is_short_tag x =
    is_full_name (full_tag_name x) && not (bytes_eq x (codes "HEAD")) && not (begins x (codes "-"))

-- The fault of a text as either: that of the tag name, as one of a reference name; or else that it is `HEAD`,
-- or begins with a dash.
unfoldable pub fault_of : List ℕ → Option ShortNameError
fault_of x =
    option_map (λ e. Name (carried e)) (tag_fault_of x)
    orelse when (bytes_eq x (codes "HEAD")) (Name (reserved (codes "HEAD")))
    orelse when (begins x (codes "-")) StartsWithDash

-- What an error prints.
abbrev pub text_of : ShortNameError → List ℕ
text_of (Name e) = name_text_of e
text_of StartsWithDash = codes "Branch or tag name cannot start with a dash, as it may be mistaken for an option"
