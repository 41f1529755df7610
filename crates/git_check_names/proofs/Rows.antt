-- The definitions computed on names: what is said of each, what arguments ask for, and what is read.
use Rattle.gix_validate.proofs.Common.{ℕ, Bool, true, false, refl, List, [], ◌∷◌}
use Rattle.gix_validate.proofs.Common.{Ok, Err, codes}
use Rattle.gix_validate.proofs.Rows.Tables.{Gives}
use Rattle.gix_validate.specs.Component.{all_protections}
use Rattle.programs.specs.Operands.{split_words}
use Rattle.git_names.specs.declared.faults.Kind.TheVariants.{Branch, Reference, Tag}
use Rattle.git_check_names.specs.declared.problem.Problem.TheVariants.{NoKind, NoName, TwoSources, NoRepair}
use Rattle.git_check_names.specs.Names.{asked_of, shown, unknown_in}
use Rattle.git_check_names.specs.Options.{Options, rule, without_options}

-- the words of a command line, split into options and operands
split : Gives (λ words. split_words rule (without_options []) words)
    ((
      codes "tag" ∷ codes "-v" ∷ codes "a" ∷ [],
      record { options = codes "-v" ∷ []; operands = codes "tag" ∷ codes "a" ∷ [] },
    )
    ∷ (
      codes "path" ∷ codes "--protect" ∷ codes "hfs" ∷ codes "-" ∷ [],
      record { options = codes "--protect" ∷ codes "hfs" ∷ []; operands = codes "path" ∷ codes "-" ∷ [] },
    )
    ∷ (
      codes "tag" ∷ codes "--" ∷ codes "-v" ∷ codes "--" ∷ [],
      record { options = []; operands = codes "tag" ∷ codes "-v" ∷ codes "--" ∷ [] },
    )
    ∷ [])
split = refl

-- names, and how they are shown
shown_names : Gives shown
    ((codes "a b", codes "a b")
    ∷ (codes "a:b", codes "a:b")
    ∷ (codes "a: b", codes "\"a: b\"")
    ∷ (codes " a", codes "\" a\"")
    ∷ (codes "a ", codes "\"a \"")
    ∷ ([], codes "\"\"")  -- empty
    ∷ (codes "a\"b", codes "\"a\\\"b\"")
    ∷ (codes "a\\b", codes "\"a\\\\b\"")
    ∷ (0xC3 ∷ 0xA9 ∷ [], codes "\"\\303\\251\"")  -- é
    ∷ (0x07 ∷ 0x08 ∷ 0x09 ∷ 0x0A ∷ 0x0B ∷ 0x0C ∷ 0x0D ∷ [], codes "\"\\a\\b\\t\\n\\v\\f\\r\"")
    ∷ (0x00 ∷ codes "7", codes "\"\\0007\"")  -- NUL
    ∷ (0x1B ∷ codes "[m", codes "\"\\033[m\"")  -- ESC
    ∷ (0x7F ∷ [], codes "\"\\177\"")  -- DEL
    ∷ (0xFF ∷ [], codes "\"\\377\"")
    ∷ [])
shown_names = refl

abbrev reading : Bool → Bool → List (List ℕ) → Options
reading reads repair operands = record {
  protections = all_protections;
  reads = reads;
  nul = false;
  repair = repair;
  verbose = false;
  operands = operands;
  accepted = [];
  lists = 0;
}

-- what operands ask for
asked : Gives asked_of
    ((reading false false (codes "tag" ∷ codes "a" ∷ []), Ok (Tag, codes "a" ∷ []))
    ∷ (reading true false (codes "branch" ∷ []), Ok (Branch, []))
    ∷ (reading true true (codes "ref" ∷ []), Ok (Reference, []))
    ∷ (reading false false [], Err NoKind)
    ∷ (reading false false (codes "Tag" ∷ codes "a" ∷ []), Err NoKind)
    ∷ (reading false false (codes "tag" ∷ []), Err NoName)
    ∷ (reading true false (codes "tag" ∷ codes "a" ∷ []), Err TwoSources)
    ∷ (reading false true (codes "tag" ∷ codes "a" ∷ []), Err NoRepair)
    ∷ [])
asked = refl

-- which word is said not to be a kind
unknown_words : Gives (λ operands. unknown_in operands NoKind)
    (([], [])
    ∷ (codes "banch" ∷ codes "main" ∷ [], codes "unknown kind banch: ")
    ∷ (codes "a b: c" ∷ [], codes "unknown kind \"a b: c\": ")
    ∷ [])
unknown_words = refl
