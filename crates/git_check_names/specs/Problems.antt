-- What ends a run early, what is said of it, and how the program ends.
use Rattle.std.specs.Prelude.{ℕ, nat_lt, if◌then◌else◌, List, ◌++◌, drop, length, codes, Option, None, Some}
use Rattle.std.specs.Prelude.{Ok, Err}
use Rattle.std.specs.Fmt.{decimal}
use Rattle.programs.specs.Command.{End, Ran}
use Rattle.programs.specs.Messages.{stop_text_of}
use Rattle.git_check_names.specs.declared.problem.Problem.{Problem}
use Rattle.git_check_names.specs.declared.problem.Problem.TheVariants.{NoKind, NoName, EmptyInput}
use Rattle.git_check_names.specs.declared.problem.Problem.TheVariants.{TwoSources, NoRepair, TooLong, Nul}
use Rattle.git_check_names.specs.declared.problem.Verdict.{Verdict}
use Rattle.git_check_names.specs.declared.problem.Ended.{Ended}
use Rattle.git_check_names.specs.declared.problem.Ended.TheVariants.{Valid, Invalid, Failed}

abbrev pub problem_text_of : Problem → List ℕ
problem_text_of NoKind =
    codes "the first argument has to be branch, branch-ref, tag, ref, safe-ref, path, component or submodule, "
    ++ codes "see git-check-names -h"
problem_text_of NoName = codes "no name is given: give names, or --stdin to read them"
problem_text_of EmptyInput = codes "there is no name in the input"
problem_text_of TwoSources = codes "give names, or --stdin or -z to read them, but not both"
problem_text_of NoRepair = codes "--repair is for the kinds branch and ref alone"
problem_text_of (TooLong number) =
    codes "malformed input: name " ++ decimal number ++ codes " is longer than 65535 bytes, and isn't checked"
problem_text_of (Nul number) =
    codes "malformed input: line " ++ decimal number ++ codes " has a NUL: give -z if each name ends with one"

-- what is before each message of a run, since the program's name is before the first one
abbrev pub message_start : List ℕ
message_start = codes "\ngit-check-names: "

-- what is said of messages, each of which has its start
abbrev pub said_of : List ℕ → Option (List ℕ)
said_of messages =
    if nat_lt (length messages) (length message_start) then None
    else Some (drop (length message_start) messages)

abbrev pub status_of : Ended → ℕ
status_of Valid = 0
status_of Invalid = 1
status_of Failed = 2

-- How the program ends after a run: with 0 if all names are valid, with 1 if one isn't, or with 2 if the
-- arguments or the input are wrong, and with the messages; or with 2, and why the run failed.
abbrev pub end_of : Ran Verdict → End
end_of (Ok verdict) = record { status = status_of verdict.ended; said = said_of verdict.messages.items }
end_of (Err stop) = record { status = 2; said = Some (stop_text_of stop) }
