use Rattle.name_vectors.proofs.IgnoredSequences.{sequences_are_distinct, sequences_are_ignored}
use Rattle.name_vectors.proofs.laws.ignored_characters.Goals as goal

pub returns-clause-distinct : goal.returns-clause-distinct
returns-clause-distinct c = sequences_are_distinct

pub returns-clause-exactly : goal.returns-clause-exactly
returns-clause-exactly c = sequences_are_ignored
