-- A program's output, which may be a pipe that nobody reads any more.
use Rattle.std.specs.Prelude.{ℕ, Bool, true, false, List, Option, Result, Ok, Err}
use Rattle.std.specs.Io.Buffered.{writer_contents}
use Rattle.std.specs.IoError.{error_kind}
use Rattle.std.specs.declared.io.buffered.BufWriter.{BufWriter}
use Rattle.std.specs.declared.io.Error.{Error}
use Rattle.std.specs.declared.io.ErrorKind.{ErrorKind}
use Rattle.std.specs.declared.io.ErrorKind.TheVariants.{BrokenPipe}
use Rattle.programs.specs.declared.pipe.Pipe.{Pipe}

-- where the bytes go
abbrev pub pipe_writer : {W : Type 0} → Pipe W → W
pipe_writer pipe = pipe.writer

-- whether a write has failed because the reader has gone
abbrev pub is_closed : {W : Type 0} → Pipe W → Bool
is_closed pipe = pipe.closed

-- the bytes that were written, where they are known
abbrev pub pipe_contents : {W : Type 0} → (W → Option (List ℕ)) → Pipe W → Option (List ℕ)
pipe_contents contents pipe = contents pipe.writer

-- the same through a buffer
abbrev pub output_contents : {W A : Type 0} → (W → Option (List ℕ)) → BufWriter (Pipe W) A → Option (List ℕ)
output_contents contents output = writer_contents (pipe_contents contents) output

abbrev pub is_gone : ErrorKind → Bool
is_gone BrokenPipe = true
is_gone kind = false

-- whether writing failed because the reader has gone
abbrev pub is_broken_pipe : {T : Type 0} → Result T Error → Bool
is_broken_pipe (Ok done) = false
is_broken_pipe (Err error) = is_gone (error_kind error)
