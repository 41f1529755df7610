use Rattle.gix_validate.proofs.Components.JoinedParts.{pieces_joined_parts, basic_parts}
use Rattle.typed_names.specs.Names.{component_bytes}
use Rattle.git_names.proofs.JoinLemmas.{all_valid, components_joined}
use Rattle.git_names.proofs.paths.joining.join.Goals as goal

pub returns-clause-bytes : goal.returns-clause-bytes
returns-clause-bytes c =
    let made = c.in_ok-join.ensures in
    rw (c.new.ensures, made.4) (components_joined made.0 c.args.parts.now made.1 made.2.0 made.3)

pub returns-clause-pieces : goal.returns-clause-pieces
returns-clause-pieces c =
    rw (returns-clause-bytes c)
    (pieces_joined_parts component_bytes c.args.parts.now c.requires.some (all_valid c.args.parts.now))

pub returns-clause-basic : goal.returns-clause-basic
returns-clause-basic c =
    rw (returns-clause-pieces c) (basic_parts component_bytes c.args.parts.now (all_valid c.args.parts.now))
