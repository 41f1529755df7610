-- Short names of branches: the grammar is that of a tag name, and agrees with the faults.
use Rattle.gix_validate.proofs.Common.{◌≡◌, ℕ, ◌≤◌, ◌&&◌, Bool, true, false, not, None, Some}
use Rattle.gix_validate.proofs.Common.{Option}
use Rattle.gix_validate.proofs.Common.{List, [], ◌∷◌, ◌++◌, length, length-append, refl, sym, arith}
use Rattle.gix_validate.proofs.Common.{IfOk, IsTrue, Result, Ok, Err, is_none, codes, byte}
use Rattle.gix_validate.proofs.Common.{bytes_eq, bytes_eq-Decides}
use Rattle.gix_validate.proofs.Common.{nat_tests}
use Rattle.gix_validate.proofs.TagNames.Grammar.{tag_grammar_law}
use Rattle.gix_validate.proofs.Texts.Endings.{ends_cons}
use Rattle.gix_validate.specs.Bytes.{begins, ends, is_bad}
use Rattle.gix_validate.specs.Pieces.{joined}
use Rattle.gix_validate.specs.Reference.{is_branch_name, is_full_name, is_partial_name}
use Rattle.gix_validate.specs.Reference.{has_slash_or_stands_alone}
use Rattle.gix_validate.specs.Tag.{fault_of as tag_fault_of, is_good_piece, is_tag_name}
use Rattle.git_names.specs.declared.branches.ShortNameError.TheVariants.{StartsWithDash}
use Rattle.git_names.specs.ShortNames.{fault_of, full_name, full_tag_name, is_short_name, is_short_tag}

-- where the text is long enough, what is before it has no say in how it ends
ends_front : (front y f : List ℕ) → length f ≤ length y → ends (front ++ y) f ≡ ends y f
ends_front [] y f long = refl
ends_front (b ∷ front) y f long =
    grind (arith, ends_cons f b (front ++ y), ends_front front y f long, length-append)

-- the full name is a tag name if and only if the short one is
tag_full : (x : List ℕ) → is_tag_name (full_name x) ≡ is_tag_name x
unfolding full_name is_tag_name is_good_piece is_bad
tag_full [] = refl
tag_full (b ∷ x) = grind (arith, ends_front (codes "refs/heads/") (b ∷ x) (codes ".") (omega arith))

slashed : (x : List ℕ) → has_slash_or_stands_alone (full_name x) ≡ true
unfolding full_name
slashed x = refl

not_at : (x : List ℕ) → bytes_eq (full_name x) (codes "@") ≡ false
unfolding full_name
not_at x = refl

head_full : (x : List ℕ) → bytes_eq (full_name x) (codes "refs/heads/HEAD") ≡ bytes_eq x (codes "HEAD")
unfolding full_name
head_full x = refl

-- the full name has a slash, so it is the name of a branch if it isn't that of `HEAD`
branch_full : (x : List ℕ) → is_branch_name (full_name x) ≡ (is_tag_name x && not (bytes_eq x (codes "HEAD")))
unfolding is_branch_name is_full_name is_partial_name
branch_full x = grind (arith, tag_full x, slashed x, not_at x, head_full x)

-- the full name of a tag is a tag name if and only if the short one is
tag_full_tag : (x : List ℕ) → is_tag_name (full_tag_name x) ≡ is_tag_name x
unfolding full_tag_name is_tag_name is_good_piece is_bad
tag_full_tag [] = refl
tag_full_tag (b ∷ x) = grind (arith, ends_front (codes "refs/tags/") (b ∷ x) (codes ".") (omega arith))

slashed_tag : (x : List ℕ) → has_slash_or_stands_alone (full_tag_name x) ≡ true
unfolding full_tag_name
slashed_tag x = refl

not_at_tag : (x : List ℕ) → bytes_eq (full_tag_name x) (codes "@") ≡ false
unfolding full_tag_name
not_at_tag x = refl

-- A tag and a branch may have the same short names.
pub tag_is_branch : (x : List ℕ) → is_short_tag x ≡ is_short_name x
unfolding is_short_tag is_short_name is_full_name is_partial_name
tag_is_branch x = grind (arith, branch_full x, tag_full_tag x, slashed_tag x, not_at_tag x)

-- a short name is a tag name other than `HEAD` that doesn't begin with a dash
pub short_parts : (x : List ℕ)
    → is_short_name x ≡ (is_tag_name x && not (bytes_eq x (codes "HEAD")) && not (begins x (codes "-")))
unfolding is_short_name
short_parts x = grind (arith, branch_full x)

-- A text is the short name of a branch if and only if it has no fault.
pub short_grammar_law : (x : List ℕ) → is_short_name x ≡ is_none (fault_of x)
unfolding is_short_name fault_of
short_grammar_law x = grind (arith, branch_full x, tag_grammar_law x)

-- the fault of a name that is a tag name, and isn't `HEAD`
pub fault_of_dash : (x : List ℕ) → tag_fault_of x ≡ None → bytes_eq x (codes "HEAD") ≡ false
    → begins x (codes "-") ≡ true → fault_of x ≡ Some StartsWithDash
unfolding fault_of
fault_of_dash x none head dash = rw (none, head, dash) refl

pub fault_of_none : (x : List ℕ) → tag_fault_of x ≡ None → bytes_eq x (codes "HEAD") ≡ false
    → begins x (codes "-") ≡ false → fault_of x ≡ None
unfolding fault_of
fault_of_none x none head dash = rw (none, head, dash) refl

-- what `branch::short_name` takes from here
pub ruleset short_names = (short_grammar_law, bytes_eq-Decides)

-- a short name is a tag name
pub short_is_tag : (x : List ℕ) → IsTrue (is_short_name x) → IsTrue (is_tag_name x)
unfolding is_short_name
short_is_tag x valid = grind (arith, branch_full x)

-- the folder is a tag name, too
pub folder_is_tag : IsTrue (is_tag_name (codes "refs/heads"))
unfolding is_tag_name is_good_piece is_bad
folder_is_tag = refl

-- what the two parts are joined to
pub full_is_joined : (x : List ℕ) → joined (codes "refs/heads" ∷ x ∷ []) ≡ full_name x
unfolding full_name
full_is_joined x = refl

-- the full name of a short name is the name of a branch
pub full_is_branch : (x : List ℕ) → IsTrue (is_short_name x) → IsTrue (is_branch_name (full_name x))
unfolding is_short_name
full_is_branch x valid = grind (arith, valid)

-- the same of a result
pub IfOk-full_is_branch : {F E : Type 0} (bytes : F → List ℕ) (x : List ℕ) (r : Result F E)
    → IsTrue (is_short_name x) → IfOk r (λ full. bytes full ≡ joined (codes "refs/heads" ∷ x ∷ []))
    → IfOk r (λ full. IsTrue (is_branch_name (bytes full)))
IfOk-full_is_branch bytes x (Ok full) valid e = rw (e, full_is_joined x) (full_is_branch x valid)
IfOk-full_is_branch bytes x (Err fault) valid e = tt

-- what `branch::full_name` takes from here
pub ruleset full_names = (short_is_tag, folder_is_tag, full_is_joined)
