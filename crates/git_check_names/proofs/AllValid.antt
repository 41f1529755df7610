-- The verdict is that all names are valid if and only if they are, by the grammar.
use Rattle.gix_validate.proofs.Common.{◌≡◌, ◌≢◌, ℕ, ◌+◌, ◌≤◌, ◌==◌, nat_le, Bool, true, false, not, ◌&&◌}
use Rattle.gix_validate.proofs.Common.{if◌then◌else◌, length}
use Rattle.gix_validate.proofs.Common.{◌||◌, List, [], ◌∷◌, Option, None, Some, Result, Ok, Err}
use Rattle.gix_validate.proofs.Common.{refl, arith, nat_tests, IfOk-weaker, IfSome_then, is_none}
use Rattle.gix_validate.proofs.Common.{ap, sym, ◌∙◌, IfOk, IfSome}
use Rattle.std.specs.List.{list_all}
use Rattle.gix_validate.proofs.TagNames.Grammar.{tag_grammar_law}
use Rattle.gix_validate.proofs.Components.Laws.{component_grammar_law}
use Rattle.gix_validate.specs.Reference.{branch_fault_of, full_fault_of, partial_fault_of}
use Rattle.gix_validate.specs.Reference.{is_branch_name, is_full_name, is_partial_name}
use Rattle.gix_validate.specs.declared.path.ComponentMode.TheVariants.{Symlink}
use Rattle.gix_validate.specs.Pieces.{names_in}
use Rattle.gix_validate.specs.declared.path.ComponentOptions.{ComponentOptions}
use Rattle.git_names.proofs.NulLemmas.{path_grammar_law}
use Rattle.git_names.proofs.SafeRefLemmas.{safe_grammar_law}
use Rattle.git_names.proofs.ShortNameLemmas.{short_grammar_law, tag_is_branch}
use Rattle.git_names.proofs.SubmoduleLemmas.{submodule_grammar_law}
use Rattle.git_names.specs.Kinds
use Rattle.git_check_names.proofs.AcceptedPaths.{accepting_path_law}
use Rattle.programs.specs.Command.{Ran}
use Rattle.git_check_names.specs.Kinds.{kind_of}
use Rattle.git_names.specs.declared.faults.Kind.{Kind}
use Rattle.git_names.specs.declared.faults.Kind.TheVariants as kind
use Rattle.git_check_names.specs.declared.problem.Problem.{Problem}
use Rattle.git_check_names.specs.declared.problem.Problem.TheVariants.{Nul, TooLong}
use Rattle.programs.specs.Reports.{max_line}
use Rattle.git_check_names.specs.declared.problem.Verdict.{Verdict}
use Rattle.git_check_names.specs.declared.problem.Ended.TheVariants.{Valid}
use Rattle.git_check_names.specs.Faults.{fault_of, is_name, protections_for}
use Rattle.git_check_names.specs.Names.{Outcome, Report, Runs, as_outcome, asked_by, asked_in, asked_of}
use Rattle.git_check_names.specs.Names.{failed_by, given_report, has_nul, input_report, is_none_of}
use Rattle.git_check_names.specs.Names.{name_end, name_report, then_reported}
use Rattle.git_check_names.specs.Names.{outcome_of, read_from, read_then, report_of, text_for}
use Rattle.git_check_names.specs.Options.{Options}
use Rattle.git_check_names.specs.ValidNames.{AreAllValid, IsValidIff, is_readable, is_valid}
use Rattle.git_check_names.specs.ValidNames.{names_of}

-- ---- a name

partial_law : (x : List ℕ) → is_partial_name x ≡ is_none (partial_fault_of x)
unfolding is_partial_name partial_fault_of
partial_law x = grind (arith, tag_grammar_law x)

full_law : (x : List ℕ) → is_full_name x ≡ is_none (full_fault_of x)
unfolding is_full_name full_fault_of
full_law x = grind (arith, partial_law x)

branch_law : (x : List ℕ) → is_branch_name x ≡ is_none (branch_fault_of x)
unfolding is_branch_name branch_fault_of
branch_law x = grind (arith, full_law x)

-- a text is a name of a kind if and only if it has no fault
kind_law : (protections : ComponentOptions) (kind : Kind) (name : List ℕ)
    → Kinds.is_name protections kind name ≡ is_none (Kinds.fault_of protections kind name)
kind_law protections kind.Branch name = grind (arith, short_grammar_law name)
kind_law protections kind.BranchRef name = grind (arith, branch_law name)
kind_law protections kind.Tag name = grind (arith, short_grammar_law name, tag_is_branch name)
kind_law protections kind.Reference name = grind (arith, full_law name)
kind_law protections kind.Partial name = grind (arith, partial_law name)
kind_law protections kind.TagName name = grind (arith, tag_grammar_law name)
kind_law protections kind.SafeRef name = grind (arith, safe_grammar_law protections name)
kind_law protections kind.Path name = grind (arith, path_grammar_law protections None name)
kind_law protections kind.SymlinkPath name = grind (arith, path_grammar_law protections (Some Symlink) name)
kind_law protections kind.Component name = grind (arith, component_grammar_law protections None name)
kind_law protections kind.Symlink name = grind (arith, component_grammar_law protections (Some Symlink) name)
kind_law protections kind.Submodule name = grind (arith, submodule_grammar_law protections name)

pub name_law : (options : Options) (kind : Kind) (name : List ℕ)
    → is_name options kind name ≡ is_none (fault_of options kind name)
name_law options kind.Branch name = kind_law options.protections kind.Branch name
name_law options kind.BranchRef name = kind_law options.protections kind.BranchRef name
name_law options kind.Tag name = kind_law options.protections kind.Tag name
name_law options kind.Reference name = kind_law options.protections kind.Reference name
name_law options kind.Partial name = kind_law options.protections kind.Partial name
name_law options kind.TagName name = kind_law options.protections kind.TagName name
name_law options kind.SafeRef name = kind_law options.protections kind.SafeRef name
name_law options kind.Path name =
    grind (arith, kind_law options.protections kind.Path name, accepting_path_law options name)
name_law options kind.SymlinkPath name = kind_law options.protections kind.SymlinkPath name
name_law options kind.Component name = kind_law (protections_for options name) kind.Component name
name_law options kind.Symlink name = kind_law options.protections kind.Symlink name
name_law options kind.Submodule name = kind_law options.protections kind.Submodule name

and_same : (a b c d : Bool) → a ≡ b → c ≡ d → (a && c) ≡ (b && d)
and_same a b c d first second = rw (first, second) refl

none_of_both : (f r g s : Bool) → (not (f || g) && not (r || s)) ≡ ((not f && not r) && (not g && not s))
none_of_both true r g s = refl
none_of_both false true true s = refl
none_of_both false true false s = refl
none_of_both false false g s = refl

neither : (f r v : Bool) → f ≡ false → r ≡ not v → (not f && not r) ≡ v
neither f r true f_is r_is = rw (f_is, r_is) refl
neither f r false f_is r_is = rw (f_is, r_is) refl

-- a first name, and those after it
with_first : (clean r v rs vs none first : Bool) → clean ≡ ((none || not first) && rs && vs) → first ≡ false
    → (r && (v && clean)) ≡ ((r && rs) && (v && vs))
with_first clean r v rs vs none first is later = grind arith

later : (number : ℕ) → 1 ≤ number → (number + 1 == 1) ≡ false
later number some = grind (arith, nat_tests)

module _ (options : Options) (kind : Kind) where
  -- a name is refused if and only if it isn't valid
  refused_law : (name : List ℕ) → (name_report options kind name).refused ≡ not (is_valid options kind name)
  refused_law name = grind (arith, name_law options kind name)

  passed_law : (name : List ℕ) → (name_report options kind name).failed ≡ false
  passed_law name = grind arith

  -- ---- names in order

  -- nothing is wrong with the input, and no name is refused
  abbrev is_clean : Report → Bool
  is_clean report = not report.failed && not report.refused

  clean_both : (a b : Report) → is_clean (then_reported a b) ≡ (is_clean a && is_clean b)
  clean_both a b = none_of_both a.failed a.refused b.failed b.refused

  one_clean : (name : List ℕ) → is_clean (name_report options kind name) ≡ is_valid options kind name
  one_clean name = neither (name_report options kind name).failed (name_report options kind name).refused
      (is_valid options kind name) (passed_law name) (refused_law name)

  given_law : (names : List (List ℕ))
      → is_clean (given_report options kind names) ≡ list_all (is_valid options kind) names
  given_law [] = refl
  given_law (name ∷ names) =
      clean_both (name_report options kind name) (given_report options kind names)
      ∙ and_same _ _ _ _ (one_clean name) (given_law names)

  readable_law : (name : List ℕ)
      → (not (nat_le max_line (length name)) && not (has_nul options name)) ≡ is_readable options name
  readable_law name = grind (arith, nat_tests)

  read_clean : (long nul : Bool) (a b c more : Report) → is_clean a ≡ false → is_clean b ≡ false
      → is_clean (if long then then_reported a more else if nul then b else then_reported c more)
      ≡ ((not long && not nul) && (is_clean c && is_clean more))
  read_clean true nul a b c more a_no b_no = clean_both a more ∙ and_same _ _ _ _ a_no refl
  read_clean false true a b c more a_no b_no = b_no
  read_clean false false a b c more a_no b_no = clean_both c more

  then_clean : (number : ℕ) (name : List ℕ) (more : Report)
      → is_clean (read_then options kind number name more)
      ≡ (is_readable options name && (is_valid options kind name && is_clean more))
  then_clean number name more =
      read_clean (nat_le max_line (length name)) (has_nul options name) (failed_by (TooLong number))
      (failed_by (Nul number)) (name_report options kind name) more refl refl
      ∙ and_same _ _ _ _ (readable_law name) (and_same _ _ _ _ (one_clean name) refl)

  read_law : (number : ℕ) (names : List (List ℕ)) → 1 ≤ number
      → is_clean (read_from options kind number names)
      ≡ ((not (is_none_of names) || not (number == 1))
      && list_all (is_readable options) names && list_all (is_valid options kind) names)
  read_law number [] some = grind (arith, nat_tests)
  read_law number (name ∷ names) some =
      then_clean number name (read_from options kind (number + 1) names)
      ∙ with_first (is_clean (read_from options kind (number + 1) names)) (is_readable options name)
      (is_valid options kind name) (list_all (is_readable options) names)
      (list_all (is_valid options kind) names) (not (is_none_of names)) (number + 1 == 1)
      (read_law (number + 1) names (omega (arith, some))) (later number some)

-- ---- a run

names_some : (names : List (List ℕ)) → is_none_of names ≡ false → names ≢ []
names_some [] some none = grind (arith, some)
names_some (name ∷ names) some none = grind (arith, none)

some_names : (names : List (List ℕ)) → names ≢ [] → is_none_of names ≡ false
some_names [] some = absurd (some refl)
some_names (name ∷ names) some = refl

-- what is asked for, if it's right: of the three tests two fail
choice : {A E : Type 0} (wrong reads none : Bool) (is given : A) (e f h : E)
    → ◌≡◌ {A = Result A E} (if wrong then Err e else if reads then if none then Ok is else Err f
    else if none then Err h else Ok is) (Ok given)
    → reads ≡ false → (none ≡ false) × (is ≡ given)
choice true reads none is given e f h asked gives = absurd (grind (arith, asked))
choice false true none is given e f h asked gives = absurd (grind (arith, gives))
choice false false true is given e f h asked gives = absurd (grind (arith, asked))
choice false false false is given e f h asked gives = (refl, grind (arith, asked))

module _ (options : Options) (kind : Kind) (given : List (List ℕ)) where
  some_by : (names : List (List ℕ)) (found : Option Kind) → asked_by options names found ≡ Ok (kind, given)
      → options.reads ≡ false → is_none_of given ≡ false
  some_by names None asked gives = grind (arith, asked)
  some_by names (Some found) asked gives =
      let (none, same) = choice _ _ _ _ _ _ _ _ asked gives in
      sym (ap (λ (asked : Kind × List (List ℕ)). is_none_of asked.1) same) ∙ none

  some_in : (operands : List (List ℕ)) → asked_in options operands ≡ Ok (kind, given)
      → options.reads ≡ false → is_none_of given ≡ false
  some_in [] asked gives = grind (arith, asked)
  some_in (word ∷ names) asked gives = some_by names (kind_of word) asked gives

module _ (options : Options) (text : List ℕ) where
  abbrev are_readable : Bool
  are_readable = not options.reads || list_all (is_readable options) (names_in (name_end options) text)

  report_law : (kind : Kind) (given : List (List ℕ)) → asked_of options ≡ Ok (kind, given)
      → is_clean options kind (report_of options text)
      ≡ (not (is_none_of (names_of options given text)) && are_readable
      && list_all (is_valid options kind) (names_of options given text))
  unfolding input_report
  report_law kind given asked = grind (
    arith,
    nat_tests,
    asked,
    some_in options kind given options.operands asked,
    given_law options kind given,
    read_law options kind 1 (names_in (name_end options) text) (omega arith),
  )

  valid_by : (asked : Result (Kind × List (List ℕ)) Problem) → asked_of options ≡ asked
      → (outcome_of (report_of options text)).ended ≡ Valid → AreAllValid options text
  valid_by (Err problem) is e = absurd (grind (arith, is, e))
  valid_by (Ok (kind, given)) is e =
      let law = report_law kind given is in
      let clean : is_clean options kind (report_of options text) ≡ true = grind (arith, e) in
      record {
        kind = kind;
        given = given;
        asked = is;
        some = names_some (names_of options given text) (grind (arith, law, clean));
        readable = λ reads. grind (arith, law, clean, reads);
        valid = grind (arith, law, clean);
      }

  valid_if : AreAllValid options text → (outcome_of (report_of options text)).ended ≡ Valid
  valid_if all =
      let law = report_law all.kind all.given all.asked in
      grind (arith, law, all.readable, all.valid, some_names (names_of options all.given text) all.some)

  -- the verdict on the report is that all are valid if and only if they are
  valid_iff : (verdict : Verdict) → as_outcome verdict ≡ outcome_of (report_of options text)
      → IsValidIff options verdict text
  valid_iff verdict is = (
    λ e. valid_by (asked_of options) refl (sym (ap (λ (o : Outcome). o.ended) is) ∙ e),
    λ all. ap (λ (o : Outcome). o.ended) is ∙ valid_if all,
  )

-- what a run does decides whether all are valid
pub valid_run : (options : Options) (input rest output written : Option (List ℕ)) (ran : Ran Verdict)
    → Runs options input rest output written ran
    → IfOk ran (λ verdict. IfSome (text_for options input) (IsValidIff options verdict))
valid_run options input rest output written ran runs =
    IfOk-weaker ran _ _ (λ verdict known.
    IfSome_then (text_for options input) known (λ text so. valid_iff options text verdict so.1))
    runs.verdict
