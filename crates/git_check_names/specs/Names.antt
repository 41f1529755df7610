-- What is said of names: a line for each that is invalid, or each name, repaired. Texts are lists of bytes.
use Rattle.std.specs.Prelude.{◌≡◌, ◌≢◌, ℕ, ◌+◌, Bool, true, false, ◌==◌, ◌&&◌, ◌||◌, not, nat_le}
use Rattle.std.specs.Prelude.{if◌then◌else◌, List, [], ◌∷◌, ◌++◌, length, map, codes, Option, None, Some}
use Rattle.std.specs.Prelude.{Result, Ok, Err, IfOk, IfSome, OnErr, is_none}
use Rattle.std.specs.Fmt.{decimal}
use Rattle.std.specs.Io.KnownBytes.{Appends}
use Rattle.std.specs.List.{list_all}
use Rattle.std.specs.Str.{byte}
use Rattle.gix_validate.specs.Bytes.{begins, ends, holds, is_among, is_empty}
use Rattle.gix_validate.specs.Faults.{when}
use Rattle.gix_validate.specs.Pieces.{names_in}
use Rattle.gix_validate.specs.Sanitized.{sanitized}
use Rattle.programs.specs.Command.{Ran}
use Rattle.programs.specs.Lines.{line_end}
use Rattle.programs.specs.Messages.{AppendsPrefixOf}
use Rattle.programs.specs.declared.error.RunError.TheVariants.{Write}
use Rattle.programs.specs.Reports.{max_line}
use Rattle.git_names.specs.Suggestions.{suggestion}
use Rattle.git_names.specs.Messages.{message_of}
use Rattle.git_names.specs.declared.faults.Fault.{Fault}
use Rattle.git_names.specs.declared.faults.Kind.{Kind}
use Rattle.git_names.specs.declared.faults.Kind.TheVariants as kind
use Rattle.git_check_names.specs.declared.problem.Problem.{Problem}
use Rattle.git_check_names.specs.declared.problem.Problem.TheVariants.{NoKind, NoName, EmptyInput}
use Rattle.git_check_names.specs.declared.problem.Problem.TheVariants.{TwoSources, NoRepair, TooLong, Nul}
use Rattle.git_check_names.specs.declared.problem.Verdict.{Verdict}
use Rattle.git_check_names.specs.declared.problem.Ended.{Ended}
use Rattle.git_check_names.specs.declared.problem.Ended.TheVariants.{Valid, Invalid, Failed}
use Rattle.git_check_names.specs.Faults.{fault_of, reason_word}
use Rattle.git_check_names.specs.GitQuoted.{git_quoted}
use Rattle.git_check_names.specs.Kinds.{is_repairable, kind_of}
use Rattle.git_check_names.specs.Problems.{message_start, problem_text_of}
use Rattle.git_check_names.specs.Options.{Options}

-- ---- one name

-- printable ASCII, but no double quote and no backslash
abbrev pub is_plain_byte : ℕ → Bool
is_plain_byte b = nat_le 0x20 b && nat_le b 0x7E && not (b == byte "\"" || b == byte "\\")

-- where a line would not say where the name ends: at a blank, or by what is in the name
abbrev pub is_unclear : List ℕ → Bool
is_unclear name = begins name (codes " ") || ends name (codes " ") || holds name (codes ": ")

-- how a name is shown: as it is, or as Git quotes it, if it is empty, a byte has an escape, or it is unclear
abbrev pub shown : List ℕ → List ℕ
shown name =
    if not (is_empty name) && list_all is_plain_byte name && not (is_unclear name) then name
    else git_quoted name

-- the byte that ends what is printed: the repairs that are printed end as the names that are read do
abbrev pub print_end : Options → ℕ
print_end options = if options.repair && options.nul then 0 else line_end

-- what is added if it is asked for: the name of the error, and the offset
abbrev pub details : Options → Fault → List ℕ
details options fault =
    if options.verbose
    then codes " (" ++ reason_word fault.reason ++ codes " at " ++ decimal fault.offset ++ codes ")"
    else []

-- what is said of a name with this fault
abbrev pub fault_text : Options → List ℕ → Fault → List ℕ
fault_text options name fault =
    shown name ++ codes ": " ++ message_of name fault ++ details options fault

-- the repair of a name, if there is one: the suggestion for a branch, and else the sanitised name, if that is
-- valid. A valid name is its own.
abbrev pub repair_of : Options → Kind → List ℕ → Option (List ℕ)
repair_of options kind.Branch name = suggestion name
repair_of options kind name =
    if is_none (fault_of options kind name) then Some name
    else when (is_none (fault_of options kind (sanitized name))) (sanitized name)

-- ---- a report

-- the lines that are printed, the messages on standard error, whether a name is refused, and whether the
-- arguments or the input are wrong
pub record Report : Type 0 where
  pub lines : List ℕ
  pub messages : List ℕ
  pub refused : Bool
  pub failed : Bool

abbrev pub nothing : Report
nothing = record { lines = []; messages = []; refused = false; failed = false }

-- first this, then that
abbrev pub then_reported : Report → Report → Report
then_reported first more = record {
  lines = first.lines ++ more.lines;
  messages = first.messages ++ more.messages;
  refused = first.refused || more.refused;
  failed = first.failed || more.failed;
}

abbrev pub all_reported : List Report → Report
all_reported [] = nothing
all_reported (first ∷ more) = then_reported first (all_reported more)

abbrev pub printed : List ℕ → Report
printed lines = record { lines = lines; messages = []; refused = false; failed = false }

-- a line of an invalid name is printed
abbrev pub refused_by : List ℕ → Report
refused_by text = record { lines = text ++ line_end ∷ []; messages = []; refused = true; failed = false }

-- a message says that an invalid name has no repair
abbrev pub unrepaired_by : List ℕ → Report
unrepaired_by text = record {
  lines = [];
  messages = message_start ++ codes "can't repair " ++ text;
  refused = true;
  failed = false;
}

-- a message says what is wrong with the input
abbrev pub failed_by : Problem → Report
failed_by problem =
    record { lines = []; messages = message_start ++ problem_text_of problem; refused = false; failed = true }

-- which word is said not to be a kind, of these operands
abbrev pub unknown_in : List (List ℕ) → Problem → List ℕ
unknown_in (word ∷ names) NoKind = codes "unknown kind " ++ shown word ++ codes ": "
unknown_in operands problem = []

-- a message says what is wrong with the arguments, which have these operands
abbrev pub wrong_by : List (List ℕ) → Problem → Report
wrong_by operands problem = record {
  lines = [];
  messages = message_start ++ unknown_in operands problem ++ problem_text_of problem;
  refused = false;
  failed = true;
}

-- ---- one name

abbrev pub checked_report : Options → List ℕ → Option Fault → Report
checked_report options name None = nothing
checked_report options name (Some fault) = refused_by (fault_text options name fault)

abbrev pub repair_report : Options → List ℕ → Option Fault → Option (List ℕ) → Report
repair_report options name fault (Some repair) = printed (repair ++ print_end options ∷ [])
repair_report options name (Some fault) None = unrepaired_by (fault_text options name fault)
repair_report options name None None = nothing

-- what is said of a name
abbrev pub name_report : Options → Kind → List ℕ → Report
name_report options kind name =
    if options.repair
    then repair_report options name (fault_of options kind name) (repair_of options kind name)
    else checked_report options name (fault_of options kind name)

-- ---- names in order

-- the byte that ends a name in the input
abbrev pub name_end : Options → ℕ
name_end options = if options.nul then 0 else line_end

-- a line with a NUL is taken for names that end with one
abbrev pub has_nul : Options → List ℕ → Bool
has_nul options name = not options.nul && is_among name 0

-- the name of this number in the input, and what follows it: one that is too long isn't checked, and after a
-- line with a NUL nothing is
abbrev pub read_then : Options → Kind → ℕ → List ℕ → Report → Report
read_then options kind number name more =
    if nat_le max_line (length name) then then_reported (failed_by (TooLong number)) more
    else if has_nul options name then failed_by (Nul number)
    else then_reported (name_report options kind name) more

-- names of the input, the first of which has this number
abbrev pub read_from : Options → Kind → ℕ → List (List ℕ) → Report
read_from options kind number [] = if number == 1 then failed_by EmptyInput else nothing
read_from options kind number (name ∷ names) =
    read_then options kind number name (read_from options kind (number + 1) names)

-- an input: the names that an end of a name ends, and what follows the last one, if that isn't empty
unfoldable pub input_report : Options → Kind → ℕ → List ℕ → Report
input_report options kind number text = read_from options kind number (names_in (name_end options) text)

-- names that are arguments
abbrev pub given_report : Options → Kind → List (List ℕ) → Report
given_report options kind names = all_reported (map (λ name. name_report options kind name) names)

-- ---- a run

abbrev pub is_none_of : List (List ℕ) → Bool
is_none_of [] = true
is_none_of (name ∷ names) = false

-- what the operands ask for, a kind and names, or what is wrong with them
abbrev pub asked_by : Options → List (List ℕ) → Option Kind → Result (Kind × List (List ℕ)) Problem
asked_by options names None = Err NoKind
asked_by options names (Some kind) =
    if options.repair && not (is_repairable kind) then Err NoRepair
    else if options.reads then if is_none_of names then Ok (kind, names) else Err TwoSources
    else if is_none_of names then Err NoName else Ok (kind, names)

abbrev pub asked_in : Options → List (List ℕ) → Result (Kind × List (List ℕ)) Problem
asked_in options [] = Err NoKind
asked_in options (word ∷ names) = asked_by options names (kind_of word)

abbrev pub asked_of : Options → Result (Kind × List (List ℕ)) Problem
asked_of options = asked_in options options.operands

abbrev pub report_by : Options → List ℕ → Result (Kind × List (List ℕ)) Problem → Report
report_by options text (Err problem) = wrong_by options.operands problem
report_by options text (Ok asked) =
    if options.reads then input_report options asked.0 1 text else given_report options asked.0 asked.1

-- the report of a run, whose input is this text
abbrev pub report_of : Options → List ℕ → Report
report_of options text = report_by options text (asked_of options)

-- how a run ended, and what it has to say
pub record Outcome : Type 0 where
  pub ended : Ended
  pub messages : List ℕ

-- the outcome as the code has it
abbrev pub as_outcome : Verdict → Outcome
as_outcome verdict = record { ended = verdict.ended; messages = verdict.messages.items }

abbrev pub ended_of : (failed refused : Bool) → Ended
ended_of failed refused = if failed then Failed else if refused then Invalid else Valid

abbrev pub outcome_of : Report → Outcome
outcome_of report = record { ended = ended_of report.failed report.refused; messages = report.messages }

-- the text of the input, which need not be known if nothing is read
abbrev pub text_for : Options → Option (List ℕ) → Option (List ℕ)
text_for options input = if options.reads then input else Some []

-- What a run does, where the bytes that it reads and writes are known.
pub record Runs (options : Options) (input rest output written : Option (List ℕ)) (ran : Ran Verdict)
    : Type 0 where
  -- just the report is written, and decides the verdict
  pub verdict : IfOk ran (λ verdict. IfSome (text_for options input) (λ text.
      Appends output written (report_of options text).lines
      × (as_outcome verdict ≡ outcome_of (report_of options text))))
  -- nothing is read if the names are arguments
  pub unread : options.reads ≡ false → rest ≡ input
  -- an input without a problem is read to its end
  pub spent : IfOk ran (λ verdict. options.reads ≡ true → verdict.ended ≢ Failed
      → IfSome input (λ _. rest ≡ Some []))
  -- where reading or memory fails, a front of the report was written; of a failed write nothing is said
  pub stopped : ran ≢ Err Write → OnErr ran (IfSome (text_for options input) (λ text.
      AppendsPrefixOf output written (report_of options text).lines))
