use Rattle.gix_validate.proofs.Common.{◌≡◌, ◌≤◌, ◌++◌, [], ◌∷◌, ℕ, List, codes, length, arith}
use Rattle.gix_validate.proofs.Common.{common_steps, subst}
use Rattle.std.specs.Prelude.{OnOk, map, slice_index_or}
use Rattle.git_check_names.specs.Names.{shown, unknown_in}
use Rattle.git_check_names.specs.declared.problem.Problem.{Problem}
use Rattle.git_check_names.specs.declared.problem.Problem.TheVariants.{NoKind}
use Rattle.git_check_names.proofs.check.push_unknown.Goals as goal

-- the word is the first operand
unknown_word : {A : Type 0} (f : A → List ℕ) (operands : List A) (word : A) (problem : Problem)
    (bytes : List ℕ) → 1 ≤ length operands → word ≡ slice_index_or operands 0 word
    → problem ≡ NoKind → bytes ≡ f word
    → codes "unknown kind " ++ shown bytes ++ codes ": " ≡ unknown_in (map f operands) problem
unknown_word f [] word problem bytes some is none same = absurd (grind (arith, some))
unknown_word f (first ∷ rest) word problem bytes some is none same = grind (arith, is, none, same)

pub returns-in-NoKind : goal.returns-in-NoKind
returns-in-NoKind c =
    subst (λ text. OnOk c.push_unknown_word.result
    (c.push_unknown_word.new.messages.items ≡ c.args.messages.now.items ++ text))
    (unknown_word _ c.args.operands.now c.word-item.result _ _ c.in-len1-up.len_at_least c.word-item.is
    c.in-NoKind.is c.as_bytes.ensures.value)
    c.push_unknown_word.ensures

pub bounds-operands-0 : goal.bounds-operands-0
bounds-operands-0 c = omega arith

pub slice_bounds-names-start : goal.slice_bounds-names-start
slice_bounds-names-start c = omega arith

pub slice_bounds-names-count : goal.slice_bounds-names-count
slice_bounds-names-count c = omega arith

pub returns-in_default : goal.returns-in_default
returns-in_default c = grind (arith, common_steps)
