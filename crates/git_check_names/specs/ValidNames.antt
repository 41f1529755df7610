-- The runs that find all names valid: by the grammar of their kind, and without the report.
use Rattle.std.specs.Prelude.{◌≡◌, ◌≢◌, ◌↔◌, ℕ, Bool, true, ◌&&◌, ◌||◌, not, nat_lt, if◌then◌else◌}
use Rattle.std.specs.Prelude.{IsTrue, List, [], length, Ok}
use Rattle.std.specs.List.{list_all}
use Rattle.gix_validate.specs.Pieces.{names_in}
use Rattle.std.specs.Option.{is_some}
use Rattle.programs.specs.Reports.{max_line}
use Rattle.git_names.specs.declared.faults.Kind.{Kind}
use Rattle.git_check_names.specs.declared.problem.Verdict.{Verdict}
use Rattle.git_check_names.specs.declared.problem.Ended.TheVariants.{Valid}
use Rattle.git_check_names.specs.Faults.{is_name}
use Rattle.git_check_names.specs.Names.{asked_of, has_nul, name_end, repair_of}
use Rattle.git_check_names.specs.Options.{Options}

-- the name is one of this kind, or has a repair, if that is asked for
abbrev pub is_valid : Options → Kind → List ℕ → Bool
is_valid options kind name =
    is_name options kind name || options.repair && is_some (repair_of options kind name)

-- a name of the input isn't too long, and has no NUL that no `-z` explains
abbrev pub is_readable : Options → List ℕ → Bool
is_readable options name = nat_lt (length name) max_line && not (has_nul options name)

-- the names that come: those of the input, or those that are arguments
abbrev pub names_of : Options → (given : List (List ℕ)) → (text : List ℕ) → List (List ℕ)
names_of options given text = if options.reads then names_in (name_end options) text else given

-- The arguments ask for something, at least one name comes, and all that come are valid.
pub record AreAllValid (options : Options) (text : List ℕ) : Type 0 where
  pub kind : Kind
  pub given : List (List ℕ)
  pub asked : asked_of options ≡ Ok (kind, given)
  pub some : names_of options given text ≢ []
  pub readable : options.reads ≡ true
      → IsTrue (list_all (is_readable options) (names_in (name_end options) text))
  pub valid : IsTrue (list_all (is_valid options kind) (names_of options given text))

-- The status is 0 if and only if all names are valid.
abbrev pub IsValidIff : Options → Verdict → List ℕ → Type 0
IsValidIff options verdict text = (verdict.ended ≡ Valid) ↔ AreAllValid options text
