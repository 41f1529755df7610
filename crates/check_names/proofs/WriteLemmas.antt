-- What a writer of text has after some writes, if each appends its text.
use Rattle.gix_validate.proofs.Common.{◌≡◌, ℕ, List, [], ◌∷◌, ◌++◌, append_assoc, append-nil, subst}
use Rattle.gix_validate.proofs.Common.{arith, Option, Some, None, IfSome, FoldsTo, concat}
use Rattle.gix_validate.proofs.Common.{WritesInCalls, WritesText, option_append}

module _ {W N : Type 0} (name : W → N) (contents : W → List ℕ) where
  -- the writer keeps its name, and the text follows what it had
  abbrev Took : W → List ℕ → W → Type 0
  Took before text after = (name after ≡ name before) × (contents after ≡ contents before ++ text)

  took_calls : (before : W) (texts : List (List ℕ)) (after : W) → FoldsTo Took before texts after
      → Took before (concat texts) after
  took_calls before [] after same = grind (arith, append-nil)
  took_calls before (text ∷ texts) after (next, one, more) =
      grind (arith, append_assoc, one, took_calls next texts after more)

  pub took_writes : (before : W) (text : List ℕ) (after : W)
      → WritesInCalls (λ s xs t. (name t ≡ name s) × (contents t ≡ contents s ++ xs)) before text after
      → (name after ≡ name before) × (contents after ≡ contents before ++ text)
  took_writes before text after written =
      subst (λ all. Took before all after) written.whole (took_calls before written.parts after written.calls)

  -- the same of a format with some text in front of a value that may not say what it prints
  pub took_format : (before : W) (front : List ℕ) (text : Option (List ℕ)) (after : W)
      → WritesText (λ s xs t. (name t ≡ name s) × (contents t ≡ contents s ++ xs)) before
      (option_append (Some front) text) after
      → IfSome text (λ printed.
      (name after ≡ name before) × (contents after ≡ contents before ++ front ++ printed))
  took_format before front None after written = tt
  took_format before front (Some printed) after written =
      grind (arith, append_assoc, took_writes before (front ++ printed) after written)
