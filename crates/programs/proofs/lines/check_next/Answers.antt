use Rattle.gix_validate.proofs.Common.{arith, common_steps}
use Rattle.programs.proofs.LinesRead.{long_gives, cut_gives, next_malformed}
use Rattle.programs.proofs.LinesRead.{next_ends, next_breaks, next_marked}
use Rattle.programs.proofs.LinesStop.{next_line, long_within, cut_within}
use Rattle.programs.proofs.lines.check_next.Goals as goal

pub returns-in-Byte : goal.returns-in-Byte
returns-in-Byte g c =
    next_marked _ (rw c.in-Byte.is at c.in_ok-read_before.ensures.read)
    (rw (c.if-branch.true, c.deref.ensures.value) at c.in_ok-is_last.ensures.known)
    c.in_ok-is_last.ensures.kept

pub returns-in-Byte-2 : goal.returns-in-Byte-2
returns-in-Byte-2 g c =
    next_line (g.met.C.LineCheck.leaves _) _ _ _ _ (rw c.in-Byte-2.is at c.in_ok-read_before.ensures.read)
    (rw (c.if-branch.false, c.deref.ensures.value) at c.in_ok-is_last.ensures.known)
    c.in_ok-is_last.ensures.kept
    (rw (c.deref-in-Byte-2.ensures.value) at c.check_line.ensures.gives)
    (rw (c.deref-in-Byte-2.ensures.value) at c.check_line.ensures.within)
    c.map.ensures.cases

pub returns-in-Limit : goal.returns-in-Limit
returns-in-Limit g c =
    let read = rw c.in-Limit.is at c.in_ok-read_before.ensures.read in
    next_malformed (g.met.C.LineCheck.leaves _) _ (long_gives read) (long_within _ _ _ _ read)

pub returns-in-End : goal.returns-in-End
returns-in-End g c =
    let read = rw c.in-End.is at c.in_ok-read_before.ensures.read in
    next_malformed (g.met.C.LineCheck.leaves _) _ (cut_gives read (grind (arith, common_steps)))
    (cut_within _ _ _ _ read)

pub returns-in-Some : goal.returns-in-Some
returns-in-Some g c =
    next_breaks _ (rw c.in-End-2.is at c.in_ok-read_before.ensures.read)
    (grind (arith, common_steps)) (grind (arith, common_steps))

pub returns-in-None : goal.returns-in-None
returns-in-None g c =
    next_ends _ (rw c.in-End-2.is at c.in_ok-read_before.ensures.read)
    (grind (arith, common_steps)) (grind (arith, common_steps))
