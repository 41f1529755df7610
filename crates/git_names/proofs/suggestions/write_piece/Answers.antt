use Rattle.git_names.proofs.SuggestionLemmas.{written_piece}
use Rattle.git_names.proofs.suggestions.write_piece.Goals as goal

pub returns-clause-text : goal.returns-clause-text
returns-clause-text c =
    written_piece c.args.piece.now c.write_thinned-len.new.buffer c.write_thinned-len.result
    c.length_of_trimmed.result c.write_thinned-len.ensures.text c.length_of_trimmed.ensures.within
    c.length_of_trimmed.ensures.front
