-- What an error prints.
use Rattle.std.specs.Prelude.{ℕ, List, [], ◌++◌, Option, Some, None, option_map}
use Rattle.gix_validate.specs.declared.text.Text.{Text}
use Rattle.gix_validate.specs.Quoted.{quoted}

-- bytes in quotes, if there are any
abbrev pub quoted_if_any : Option (List ℕ) → List ℕ
quoted_if_any None = []
quoted_if_any (Some x) = quoted x

-- what a text prints: its words, and then its bytes in quotes, if it has any
abbrev pub printed : Text → List ℕ
printed text = text.words.now ++ quoted_if_any (option_map (λ bytes. bytes.now) text.quoted)
