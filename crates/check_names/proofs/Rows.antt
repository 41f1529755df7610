-- The lines of a text and their answers, computed on literals.
use Rattle.gix_validate.proofs.Common.{refl, [], ◌∷◌, ◌++◌, Some, None, codes}
use Rattle.gix_validate.proofs.OnLiterals.{names_on_literals, components_on_literals}
use Rattle.gix_validate.proofs.Rows.Tables.{Gives}
use Rattle.gix_validate.specs.Pieces.{names_in}
use Rattle.check_names.specs.Answers.{answer_of, answers, kinds, lines, request_of}

-- texts, and their lines: a newline ends each but a last one
lines_of_texts : Gives lines
    ((codes "tag a\ntag b\n", codes "tag a" ∷ codes "tag b" ∷ [])
    ∷ (codes "tag a\r\ntag b", codes "tag a\r" ∷ codes "tag b" ∷ [])
    ∷ (codes "\n\ntag", [] ∷ [] ∷ codes "tag" ∷ [])
    ∷ ([], [])
    ∷ [])
unfolding names_in
lines_of_texts = refl

-- lines, and what they ask for
requests : Gives request_of
    ((codes "tag v1", Some (codes "tag", codes "v1"))  -- kind and name
    ∷ (codes "tag  x y", Some (codes "tag", codes " x y"))  -- second space
    ∷ (codes " tag x", Some ([], codes "tag x"))  -- space in front
    ∷ (codes "tag ", Some (codes "tag", []))  -- empty name
    ∷ (codes "tag", None)  -- no space
    ∷ [])
requests = refl

-- lines, and their answers
answers_on_tags : Gives answer_of
    ((
      codes "tag a\r",
      codes "error: A ref must not contain invalid bytes or ascii control characters: \"\\r\"",
    )  -- tag with carriage return
    ∷ (codes "tag ", codes "error: A ref must not be empty")  -- tag without name
    ∷ [])
unfolding kinds answer_of names_on_literals
answers_on_tags = refl

answers_of_other_kinds : Gives answer_of
    ((
      codes "partial @",
      codes "error: Reference name is reserved and cannot be used: \"@\"",
    )  -- reserved name
    ∷ (
      codes "ref V1",
      codes "error: Standalone references must be all uppercased, like 'HEAD'",
    )  -- standalone name
    ∷ (codes "branch refs/heads/main", codes "ok")  -- branch
    ∷ (codes "submodule a/..", codes "error: Submodules names must not contains '..'")  -- parent part
    ∷ (codes "device nul.txt", codes "yes")  -- device
    ∷ (codes "sanitize a b.lock", codes "a-b")  -- repaired
    ∷ [])
unfolding kinds answer_of names_on_literals components_on_literals
answers_of_other_kinds = refl

-- lines that another kind of name would answer otherwise
answers_of_own_kind : Gives answer_of
    ((codes "tag @", codes "ok")  -- no partial name
    ∷ (codes "tag a/../b", codes "error: A ref must not start with a '.'")
    ∷ (codes "partial main", codes "ok")  -- no full name
    ∷ (codes "partial a/../b", codes "error: Reference name cannot start with a dot")
    ∷ (codes "ref refs/heads/HEAD", codes "ok")  -- no branch
    ∷ (codes "ref main", codes "error: Standalone references must be all uppercased, like 'HEAD'")
    ∷ (
      codes "branch refs/heads/HEAD",
      codes "error: Reference name is reserved and cannot be used: \"refs/heads/HEAD\"",
    )
    ∷ (codes "branch main", codes "error: Standalone references must be all uppercased, like 'HEAD'")
    ∷ (codes "submodule a\\b", codes "ok")  -- no component
    ∷ (codes "submodule a/../b", codes "error: Submodules names must not contains '..'")
    ∷ (codes "device main", codes "no")
    ∷ (codes "sanitize a/../b", codes "a/-/b")
    ∷ [])
unfolding kinds answer_of names_on_literals components_on_literals
answers_of_own_kind = refl

-- lines that would be answered otherwise without one of the protections
answers_of_paths : Gives answer_of
    ((codes "path a\\b", codes "error: Path separators like / or \\ are not allowed")  -- Windows
    ∷ (
      codes "path .g" ++ 0xE2 ∷ 0x80 ∷ 0x8C ∷ codes "it",
      codes "error: The .git name may never be used",
    )  -- HFS
    ∷ (codes "path git~1", codes "error: The .git name may never be used")  -- NTFS
    ∷ (
      codes "path nul",
      codes "error: Windows device-names may have side-effects and are not allowed",
    )  -- Windows and NTFS
    ∷ (codes "path .gitmodules", codes "ok")  -- no symlink
    ∷ [])
unfolding kinds answer_of components_on_literals
answers_of_paths = refl

answers_of_symlinks : Gives answer_of
    ((codes "symlink a\\b", codes "error: Path separators like / or \\ are not allowed")  -- Windows
    ∷ (
      codes "symlink .g" ++ 0xE2 ∷ 0x80 ∷ 0x8C ∷ codes "it",
      codes "error: The .git name may never be used",
    )  -- HFS
    ∷ (
      codes "symlink .gitmodules" ++ 0xE2 ∷ 0x80 ∷ 0x8D ∷ [],
      codes "error: The .gitmodules file must not be a symlink",
    )  -- HFS and mode
    ∷ (codes "symlink git~1", codes "error: The .git name may never be used")  -- NTFS
    ∷ (codes "symlink gitmod~1", codes "error: The .gitmodules file must not be a symlink")  -- NTFS and mode
    ∷ (
      codes "symlink nul",
      codes "error: Windows device-names may have side-effects and are not allowed",
    )  -- Windows and NTFS
    ∷ (codes "symlink .gitmodules", codes "error: The .gitmodules file must not be a symlink")  -- mode
    ∷ [])
unfolding kinds answer_of components_on_literals
answers_of_symlinks = refl

unknown_kinds : Gives answer_of
    ((codes "tag", codes "unknown kind")  -- tag without space
    ∷ (codes " tag x", codes "unknown kind")  -- kind after space
    ∷ (codes "bogus x", codes "unknown kind")  -- unknown word
    ∷ ([], codes "unknown kind")  -- empty line
    ∷ [])
unfolding kinds answer_of
unknown_kinds = refl

-- texts, and the answers to their lines
answers_to_texts : Gives answers
    ((
      codes "tag v1.2.3\ntag a b\ntag refs/heads/",  -- stored run
      codes "ok\nerror: A ref must not contain invalid bytes or ascii control characters: \" \"\nerror: A ref must not end with a '/'\n",
    )
    ∷ ([], [])  -- no answers
    ∷ (codes "\n", codes "unknown kind\n")  -- answer of empty line
    ∷ [])
unfolding answers names_in kinds answer_of names_on_literals
answers_to_texts = refl
