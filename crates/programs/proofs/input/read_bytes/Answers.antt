use Rattle.gix_validate.proofs.Common.{◌≡◌, ◌+◌, ◌≤◌, ◌++◌, refl, length, take, subst, arith}
use Rattle.std.specs.Io.BufRead.{FillKeeps}
use Rattle.std.proofs.BufReadLemmas.{Consumes_shown}
use Rattle.programs.proofs.ShownReads.{few_shown, grows_shown, fits_shown}
use Rattle.std.proofs.lemmas.Grind.{common_steps}
use Rattle.programs.proofs.input.read_bytes.Goals as goal

pub loop-preserved : goal.loop-preserved
loop-preserved g c =
    let shown = c.in-Ok.available.now in
    let front = c.loop.bytes.items in
    let m = c.min.result in
    let n = length (take m shown) in
    let room : m + length front ≤ c.args.count = omega arith in
    let rested = c.fill_buf.follows.lender-at-none in
    let filled = subst (FillKeeps _ (g.R.Read.remaining rested) (g.R.BufRead.consumable_len rested))
    c.in-Ok.is c.fill_buf.follows.holds-at-none in
    let moved = Consumes_shown _ _ _ _ shown n (few_shown m n shown (omega arith))
    c.in-Ok.ensures.front c.in-Ok.ensures.end filled.0 filled.1 c.consume.ensures.bytes in
    let joined : c.extend_from_slice.new.self.items ≡ front ++ take m shown = grind arith in
    record {
      bytes = grows_shown _ _ _ front _ shown m n c.loop.invariant.bytes refl moved.0 joined;
      room = omega arith;
      within = fits_shown front _ shown m c.args.count room joined;
    }

pub returns-then-len-count-clause-read : goal.returns-then-len-count-clause-read
returns-then-len-count-clause-read g c = grind (arith, common_steps)

pub loop-preserved-in-Err : goal.loop-preserved-in-Err
loop-preserved-in-Err g c = grind (arith, common_steps)

pub returns-then-is_empty-clause-read : goal.returns-then-is_empty-clause-read
returns-then-is_empty-clause-read g c = grind (arith, common_steps)

pub returns-in_err-map_err-clause-full : goal.returns-in_err-map_err-clause-full
returns-in_err-map_err-clause-full g c = grind (arith, common_steps)
