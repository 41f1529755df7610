use Rattle.gix_validate.proofs.Common.{◌≡◌, ◌+◌, ◌≤◌, ◌++◌, ◌∙◌, length, subst, ap, arith}
use Rattle.std.specs.Io.BufRead.{FillKeeps}
use Rattle.std.proofs.BufReadLemmas.{Consumes_shown}
use Rattle.programs.proofs.ShownReads.{few_shown, grows_shown, fits_shown, none_shown, found_shown}
use Rattle.std.proofs.lemmas.Grind.{common_steps}
use Rattle.programs.proofs.input.read_before.Goals as goal

pub loop-preserved : goal.loop-preserved
loop-preserved g c =
    let shown = c.in-Ok.available.now in
    let front = c.loop.front.items in
    let m = c.min.result in
    let n = c.cut_at-used.result.1 in
    let (none, part, used) = rw c.in_default.is at c.cut_at-used.ensures in
    let room : m + length front ≤ c.args.limit = omega arith in
    let rested = c.fill_buf.follows.lender-at-none in
    let filled = subst (FillKeeps _ (g.R.Read.remaining rested) (g.R.BufRead.consumable_len rested))
    c.in-Ok.is c.fill_buf.follows.holds-at-none in
    let moved = Consumes_shown _ _ _ _ shown n (few_shown m n shown (omega arith))
    c.in-Ok.ensures.front c.in-Ok.ensures.end filled.0 filled.1 c.consume.ensures.bytes in
    let joined : c.extend_from_slice.new.self.items ≡ front ++ c.cut_at-used.result.0.now =
    grind arith in
    let all = joined ∙ ap (λ l. front ++ l) part in
    record {
      bytes = grows_shown _ _ _ front _ shown m n c.loop.invariant.bytes used moved.0 all;
      none = none_shown c.args.byte front _ _ c.loop.invariant.none none joined;
      room = omega arith;
      within = fits_shown front _ shown m c.args.limit room all;
    }

pub returns-in-Some-clause-read : goal.returns-in-Some-clause-read
returns-in-Some-clause-read g c =
    let shown = c.in-Ok.available.now in
    let front = c.loop.front.items in
    let m = c.min.result in
    let n = c.cut_at-used.result.1 in
    let cut = rw c.in-Some.is at c.cut_at-used.ensures in
    let room : m + length front ≤ c.args.limit = omega arith in
    let rested = c.fill_buf.follows.lender-at-none in
    let filled = subst (FillKeeps _ (g.R.Read.remaining rested) (g.R.BufRead.consumable_len rested))
    c.in-Ok.is c.fill_buf.follows.holds-at-none in
    let moved = Consumes_shown _ _ _ _ shown n (few_shown m n shown cut.3)
    c.in-Ok.ensures.front c.in-Ok.ensures.end filled.0 filled.1 c.consume.ensures.bytes in
    let joined : c.extend_from_slice.new.self.items ≡ front ++ c.cut_at-used.result.0.now =
    grind arith in
    found_shown c.args.byte c.args.limit m n _ _ _ front _ shown _ _
    c.loop.invariant.bytes c.loop.invariant.none room cut moved.0 joined

pub loop-preserved-in-Err : goal.loop-preserved-in-Err
loop-preserved-in-Err g c = grind (arith, common_steps)

pub returns-then-is_empty-clause-read : goal.returns-then-is_empty-clause-read
returns-then-is_empty-clause-read g c = grind (arith, common_steps)

pub returns-in_err-map_err-clause-full : goal.returns-in_err-map_err-clause-full
returns-in_err-map_err-clause-full g c = grind (arith, common_steps)

pub returns-in-Some-clause-full : goal.returns-in-Some-clause-full
returns-in-Some-clause-full g c = grind (arith, common_steps)
