-- The answer of a line from what it asks for, and the answers of a text from its first line.
use Rattle.gix_validate.proofs.Common.{◌≡◌, ◌≢◌, ℕ, List, [], ◌∷◌, ◌++◌, false, Option, Some, None}
use Rattle.gix_validate.proofs.Common.{IfSome, Result, MatchResult, codes, refl, sym, ap, ◌∙◌}
use Rattle.gix_validate.proofs.Common.{append_assoc, append-nil, arith, AllByRecursion, byte}
use Rattle.gix_validate.proofs.Common.{bytes_eq, cond-false, false_from_ne_true, bytes_eq-Decides}
use Rattle.gix_validate.proofs.Common.{nat_tests, common_steps, take_rest, Ok, Err, OnOk, is_ok}
use Rattle.gix_validate.proofs.Common.{if◌then◌else◌}
use Rattle.gix_validate.proofs.Texts.NamesIn.{names_in-cut, names_in-last}
use Rattle.gix_validate.specs.Pieces.{names_in}
use Rattle.check_names.specs.Answers.{answer_by, answer_of, answer_to, answers, kinds, lines}
use Rattle.check_names.specs.Answers.{line_end, request_of, unknown_kind, verdict}

-- ---- one line

-- a line that asks for something is a kind, a space and a name
kind_and_name : (line : List ℕ)
    → IfSome (request_of line) (λ request. line ≡ request.0 ++ byte " " ∷ request.1)
kind_and_name [] = tt
kind_and_name (b ∷ line) = grind (arith, nat_tests, kind_and_name line)

abbrev Lacks : List ℕ → List ℕ → Type 0
Lacks line front = (rest : List ℕ) → line ≢ front ++ rest

-- a line that doesn't begin with a word and a space asks for another kind
another-kind : (line word kind name : List ℕ) → Lacks line (word ++ byte " " ∷ [])
    → line ≡ kind ++ byte " " ∷ name → bytes_eq kind word ≡ false
another-kind line word kind name lacks is =
    false_from_ne_true _ (λ same.
    lacks name (is ∙ ap (λ front. front ++ byte " " ∷ name) ((bytes_eq-Decides kind word).0 same)
    ∙ sym (append_assoc word (byte " " ∷ []) name)))

no-kind : (rows : List (List ℕ × (List ℕ → List ℕ))) (line kind name : List ℕ)
    → AllByRecursion (λ row. Lacks line (row.0 ++ byte " " ∷ [])) rows
    → line ≡ kind ++ byte " " ∷ name → answer_by rows kind name ≡ unknown_kind
no-kind [] line kind name lacks is = refl
no-kind (row ∷ rows) line kind name (lacks, more) is =
    cond-false _ _ _ (another-kind line row.0 kind name lacks is) ∙ no-kind rows line kind name more is

asks_none : (line : List ℕ) (request : Option (List ℕ × List ℕ))
    → AllByRecursion (λ row. Lacks line (row.0 ++ byte " " ∷ [])) kinds
    → IfSome request (λ request. line ≡ request.0 ++ byte " " ∷ request.1) → answer_to request ≡ unknown_kind
asks_none line None lacks is = refl
asks_none line (Some (kind, name)) lacks is = no-kind kinds line kind name lacks is

-- A line that begins with no kind and a space has the answer `unknown kind`.
pub asked_otherwise : (line : List ℕ) → Lacks line (codes "ref ") → Lacks line (codes "tag ")
    → Lacks line (codes "partial ") → Lacks line (codes "branch ") → Lacks line (codes "submodule ")
    → Lacks line (codes "path ") → Lacks line (codes "symlink ") → Lacks line (codes "device ")
    → Lacks line (codes "sanitize ") → answer_of line ≡ unknown_kind
unfolding answer_of kinds
asked_otherwise line n1 n2 n3 n4 n5 n6 n7 n8 n9 =
    asks_none line (request_of line)
    (n2, (n3, (n1, (n4, (n5, (n6, (n7, (n8, (n9, tt))))))))) (kind_and_name line)

-- bytes that are appended, if memory for them was found
pub appended : {T E : Type 0} (r : Result T E) (new old bytes : List ℕ)
    → new ≡ (if is_ok r then old ++ bytes else old) → OnOk r (new ≡ old ++ bytes)
appended (Ok done) new old bytes e = e
appended (Err error) new old bytes e = tt

-- If a result is that of a rule of faults, and it is printed, the verdict of the rule was printed.
pub verdict-of_checked : {Name E : Type 0} (P : Name → Type 0) (fault : List ℕ → Option E)
    (text_of : E → List ℕ) (x : List ℕ) (result : Result Name E) (old new : List ℕ)
    → MatchResult result (λ name. (fault x ≡ None) × P name) (λ e. fault x ≡ Some e)
    → MatchResult result (λ _. new ≡ old ++ codes "ok") (λ e. new ≡ old ++ codes "error: " ++ text_of e)
    → new ≡ old ++ verdict (fault x) text_of
verdict-of_checked P fault text_of x result old new checks printed = grind (arith, nat_tests, append_assoc)

-- ---- all lines

-- The empty text has no answers.
pub answers_nil : answers [] ≡ []
unfolding answers names_in
answers_nil = refl

-- The answers of a text are the answer of its first line with an end,
-- and then the answers of what follows that line.
pub answers-first : (text line rest : List ℕ) → lines text ≡ line ∷ lines rest
    → answers text ≡ (answer_of line ++ line_end ∷ []) ++ answers rest
unfolding answers
answers-first text line rest first = rw first

-- what `first_line` and `answer_all` take from here
pub ruleset first_of_lines = (take_rest, names_in-cut, names_in-last)

pub ruleset all_answered = (common_steps, append_assoc, append-nil, answers-first, answers_nil)
