-- The report of an input while it is read.
use Rattle.gix_validate.proofs.Common.{◌≡◌, ℕ, ◌+◌, ◌==◌, ◌||◌, Bool, false, true, List, [], ◌++◌}
use Rattle.gix_validate.proofs.Common.{Option, Some, refl, arith, nat_tests, append_assoc, ⊤}
use Rattle.gix_validate.proofs.Common.{IfSome, IfSome_then, Appends, Appends-nil, append-nil, sym, ◌∙◌}
use Rattle.gix_validate.proofs.Common.{Appends-trans, MatchOption-at_some}
use Rattle.programs.specs.Messages.{AppendsPrefixOf}
use Rattle.programs.proofs.ReportSoFar.{Begins_more, when_known}
use Rattle.git_names.specs.declared.faults.Kind.{Kind}
use Rattle.git_check_names.specs.declared.input.Next.{Next}
use Rattle.git_check_names.specs.declared.input.Next.TheVariants.{Name, TooLong, End}
use Rattle.git_check_names.specs.declared.problem.Ended.{Ended}
use Rattle.git_check_names.specs.declared.problem.Ended.TheVariants.{Failed}
use Rattle.git_check_names.specs.declared.problem.Problem.TheVariants as problem
use Rattle.git_check_names.specs.Names.{Outcome, Report, ended_of, failed_by, has_nul, input_report}
use Rattle.git_check_names.specs.Names.{name_end, name_report, nothing, outcome_of, then_reported}
use Rattle.git_check_names.specs.Options.{Options}
use Rattle.git_check_names.specs.Private.{IsNext}

-- ---- a text of which a part is read

then_assoc : (a b c : Report) → then_reported a (then_reported b c) ≡ then_reported (then_reported a b) c
then_assoc a b c = grind (arith, append_assoc)

-- The report of a text is what was said so far, whose lines are appended, and then the report of what is
-- left.
pub record SoFar (all now : List ℕ → Report) (a b old new : Option (List ℕ))
    (messages : List ℕ) (refused failed : Bool) : Type 0 where
  pub known : IfSome a (λ text. (rest : List ℕ) × (said : Report)
      × (b ≡ Some rest) × Appends old new said.lines × (messages ≡ said.messages)
      × (refused ≡ said.refused) × (failed ≡ said.failed)
      × (all text ≡ then_reported said (now rest)))

pub starts : (all : List ℕ → Report) (a old : Option (List ℕ)) (messages : List ℕ) → messages ≡ []
    → SoFar all all a a old old messages false false
starts all a old messages none =
    record { known = when_known a _ (λ text e. (text, nothing, e, Appends-nil old, none, refl, refl, refl)) }

module _ {all now : List ℕ → Report} {a b old mid : Option (List ℕ)} {messages : List ℕ}
    {refused failed : Bool} (sofar : SoFar all now a b old mid messages refused failed) where
  -- what the next step says is said too
  goes : (next : List ℕ → Report) (c new : Option (List ℕ)) (m : List ℕ) (r f : Bool)
      → IfSome b (λ rest. (more : Report) × (after : List ℕ) × (c ≡ Some after)
      × (now rest ≡ then_reported more (next after))
      × Appends mid new more.lines × (m ≡ messages ++ more.messages)
      × (r ≡ (refused || more.refused)) × (f ≡ (failed || more.failed)))
      → SoFar all next a c old new m r f
  goes next c new m r f step = record {
    known = IfSome_then a sofar.known (λ text (rest, said, there, done, m_was, r_was, f_was, is).
        let (more, after, left, first, appends, m_is, r_is, f_is) =
        MatchOption-at_some ⊤ _ rest there step in (
          after,
          then_reported said more,
          left,
          Appends-trans old mid new said.lines more.lines done appends,
          grind arith,
          grind arith,
          grind arith,
          grind (arith, then_assoc),
        ));
  }

  ends : (new : Option (List ℕ)) (last : Report)
      → IfSome b (λ rest. (now rest ≡ last) × Appends mid new last.lines)
      → IfSome a (λ text. Appends old new (all text).lines
      × (outcome_of (all text) ≡ record {
        ended = ended_of (failed || last.failed) (refused || last.refused);
        messages = messages ++ last.messages;
      }))
  ends new last step = IfSome_then a sofar.known (λ text so. grind (arith, Appends-trans))

  -- a front of that is
  stops : (new : Option (List ℕ)) → IfSome b (λ rest. AppendsPrefixOf mid new (now rest).lines)
      → IfSome a (λ text. AppendsPrefixOf old new (all text).lines)
  stops new begun =
      IfSome_then a sofar.known (λ text (rest, said, there, done, m_was, r_was, f_was, is).
      rw is (Begins_more old mid new said.lines (now rest).lines done
      (MatchOption-at_some ⊤ _ rest there begun)))

-- ---- the first name of a text

module _ (options : Options) (kind : Kind) (number : ℕ) (text name : List ℕ) (left : Option (List ℕ)) where
  abbrev now : Report
  now = input_report options kind number text

  abbrev later : List ℕ → Report
  later rest = input_report options kind (number + 1) rest

  name_first : (rest : List ℕ) → IsNext (name_end options) text left name Name → left ≡ Some rest
      → has_nul options name ≡ false → now ≡ then_reported (name_report options kind name) (later rest)
  unfolding input_report
  name_first rest read there none = grind (arith, nat_tests)

  nul_first : IsNext (name_end options) text left name Name → has_nul options name ≡ true
      → now ≡ failed_by (problem.Nul number)
  unfolding input_report
  nul_first read some = grind (arith, nat_tests)

  long_first : (rest : List ℕ) → IsNext (name_end options) text left name TooLong → left ≡ Some rest
      → now ≡ then_reported (failed_by (problem.TooLong number)) (later rest)
  unfolding input_report
  long_first rest read there = grind (arith, nat_tests)

  none_first : IsNext (name_end options) text left name End → (number == 1) ≡ false → now ≡ nothing
  unfolding input_report
  none_first read later = grind (arith, nat_tests)

  empty_first : IsNext (name_end options) text left name End → (number == 1) ≡ true
      → now ≡ failed_by problem.EmptyInput
  unfolding input_report
  empty_first read first = grind (arith, nat_tests)

-- what is read, where its end and what it is are other terms
pub next_as : (b c : Option (List ℕ)) (name : List ℕ) {end byte : ℕ} {next is : Next} → end ≡ byte → next ≡ is
    → IfSome b (λ text. IsNext end text c name next) → IfSome b (λ text. IsNext byte text c name is)
next_as b c name end_is next_is read = rw (end_is, next_is) at read

-- ---- an input while it is read

module _ (options : Options) (kind : Kind) (number : ℕ) (name : List ℕ)
    {a b old mid : Option (List ℕ)} {messages : List ℕ} {refused failed : Bool}
    (sofar : SoFar (input_report options kind 1) (input_report options kind number) a b old mid messages
    refused failed) where
  -- the run ends with this outcome
  abbrev EndsWith : Outcome → Type 0
  EndsWith outcome = IfSome a (λ text. Appends old mid (input_report options kind 1 text).lines
      × (outcome ≡ outcome_of (input_report options kind 1 text)))

  name_goes : {c : Option (List ℕ)} (new : Option (List ℕ)) (m : List ℕ) (found : Bool)
      → IfSome b (λ text. IsNext (name_end options) text c name Name) → has_nul options name ≡ false
      → Appends mid new (name_report options kind name).lines
      → m ≡ messages ++ (name_report options kind name).messages
      → found ≡ (name_report options kind name).refused → (name_report options kind name).failed ≡ false
      → SoFar (input_report options kind 1) (input_report options kind (number + 1)) a c old new
      m (refused || found) failed
  name_goes {c = c} new m found read none appends m_is r_is f_is =
      goes sofar _ c new m (refused || found) failed (IfSome_then b read (λ text next. (
        name_report options kind name,
        next.1.0,
        next.1.1,
        name_first options kind number text name c next.1.0 next next.1.1 none,
        appends,
        m_is,
        grind arith,
        grind arith,
      )))

  -- the same of what is equal to the name
  pub name_told : {c : Option (List ℕ)} (new : Option (List ℕ)) (m : List ℕ) (found : Bool)
      (line told : List ℕ) → line ≡ name → told ≡ name
      → IfSome b (λ text. IsNext (name_end options) text c name Name) → has_nul options line ≡ false
      → Appends mid new (name_report options kind told).lines
      → m ≡ messages ++ (name_report options kind told).messages
      → found ≡ (name_report options kind told).refused → (name_report options kind told).failed ≡ false
      → SoFar (input_report options kind 1) (input_report options kind (number + 1)) a c old new
      m (refused || found) failed
  name_told new m found line told line_is told_is read none appends m_is r_is f_is =
      name_goes new m found read (rw line_is at none) (rw told_is at appends) (rw told_is at m_is)
      (rw told_is at r_is) (rw told_is at f_is)

  pub long_goes : {c : Option (List ℕ)} (m : List ℕ)
      → IfSome b (λ text. IsNext (name_end options) text c name TooLong)
      → m ≡ messages ++ (failed_by (problem.TooLong number)).messages
      → SoFar (input_report options kind 1) (input_report options kind (number + 1)) a c old mid
      m refused true
  long_goes {c = c} m read m_is =
      goes sofar _ c mid m refused true (IfSome_then b read (λ text next. (
        failed_by (problem.TooLong number),
        next.1,
        next.2,
        long_first options kind number text name c next.1 next next.2,
        Appends-nil mid,
        m_is,
        grind arith,
        grind arith,
      )))

  ended_by : (last : Report) (outcome : Outcome) → last.lines ≡ []
      → outcome ≡ record {
        ended = ended_of (failed || last.failed) (refused || last.refused);
        messages = messages ++ last.messages;
      }
      → IfSome b (λ text. input_report options kind number text ≡ last) → EndsWith outcome
  ended_by last outcome none is ends_so =
      IfSome_then a (ends sofar mid last (IfSome_then b ends_so (λ text now_is.
      (now_is, rw none (Appends-nil mid))))) (λ text so. (so.0, is ∙ sym so.1))

  failed_first : (last : Report) → last.failed ≡ true
      → ended_of (failed || last.failed) (refused || last.refused) ≡ Failed
  failed_first last some = grind (arith, some)

  pub nul_stops : (c : Option (List ℕ)) (outcome : Outcome)
      → outcome ≡ record { ended = Failed; messages = messages ++ (failed_by (problem.Nul number)).messages }
      → IfSome b (λ text. IsNext (name_end options) text c name Name) → has_nul options name ≡ true
      → EndsWith outcome
  nul_stops c outcome is read some =
      ended_by (failed_by (problem.Nul number)) outcome refl
      (grind (arith, is, failed_first (failed_by (problem.Nul number)) refl))
      (IfSome_then b read (λ text next. nul_first options kind number text name c next some))

  pub empty_stops : (c : Option (List ℕ)) (outcome : Outcome)
      → outcome ≡ record { ended = Failed; messages = messages ++ (failed_by problem.EmptyInput).messages }
      → IfSome b (λ text. IsNext (name_end options) text c name End) → (number == 1) ≡ true → EndsWith outcome
  empty_stops c outcome is read first =
      ended_by (failed_by problem.EmptyInput) outcome refl
      (grind (arith, is, failed_first (failed_by problem.EmptyInput) refl))
      (IfSome_then b read (λ text next. empty_first options kind number text name c next first))

  pub names_end : (c : Option (List ℕ)) (ended : Ended) → ended ≡ ended_of failed refused
      → IfSome b (λ text. IsNext (name_end options) text c name End) → (number == 1) ≡ false
      → EndsWith (record { ended = ended; messages = messages })
  names_end c ended is read later =
      ended_by nothing _ refl (grind (arith, is, append-nil))
      (IfSome_then b read (λ text next. none_first options kind number text name c next later))

  -- nothing is left
  pub names_spent : (c : Option (List ℕ)) → IfSome b (λ text. IsNext (name_end options) text c name End)
      → IfSome a (λ _. c ≡ Some [])
  names_spent c read = IfSome_then a sofar.known (λ text so. grind arith)

  pub names_pause : IfSome a (λ text. AppendsPrefixOf old mid (input_report options kind 1 text).lines)
  names_pause = stops sofar mid (when_known b _ (λ rest e. ([], Appends-nil mid, refl)))
