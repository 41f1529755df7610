-- What is printed of the error of a run.
use Rattle.std.specs.Prelude.{ℕ, List, codes}
use Rattle.check_names.specs.declared.check.RunError.{RunError}
use Rattle.check_names.specs.declared.check.RunError.TheVariants.{Read, Memory, Write}

abbrev pub text_of : RunError → List ℕ
text_of Read = codes "read failed"
text_of Memory = codes "out of memory"
text_of Write = codes "write failed"
