-- Safe reference names: a text is one if and only if it has no fault.
use Rattle.gix_validate.proofs.Common.{◌≡◌, ℕ, List, None, arith, is_none}
use Rattle.gix_validate.proofs.TagNames.Grammar.{tag_grammar_law}
use Rattle.gix_validate.specs.Reference.{full_fault_of, is_full_name, is_partial_name, partial_fault_of}
use Rattle.gix_validate.specs.declared.path.ComponentOptions.{ComponentOptions}
use Rattle.git_names.proofs.NulLemmas.{path_grammar_law}
use Rattle.git_names.specs.SafeRefs.{fault_of, is_safe_ref}

-- a text is a full name if and only if it has no fault
full_grammar_law : (x : List ℕ) → is_full_name x ≡ is_none (full_fault_of x)
unfolding is_full_name is_partial_name full_fault_of partial_fault_of
full_grammar_law x = grind (arith, tag_grammar_law x)

-- A text is a safe reference name if and only if it has no fault.
pub safe_grammar_law : (options : ComponentOptions) (x : List ℕ)
    → is_safe_ref options x ≡ is_none (fault_of options x)
unfolding is_safe_ref fault_of
safe_grammar_law options x = grind (arith, full_grammar_law x, path_grammar_law options None x)

-- what `safe_ref` takes from here
pub ruleset safe_ref_laws = (safe_grammar_law, path_grammar_law)
