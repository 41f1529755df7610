use Rattle.gix_validate.proofs.Common.{◌-◌, arith, drop, length-drop, length-take-le}
use Rattle.git_names.proofs.SuggestionLemmas.{WrittenUpTo-last, WrittenUpTo-slash, WrittenUpTo-start}
use Rattle.git_names.proofs.suggestions.write_repaired.Goals as goal

pub loop-slash-init : goal.loop-slash-init
loop-slash-init c = WrittenUpTo-start c.args.name.now c.args.buffer.now

pub loop-slash-preserved : goal.loop-slash-preserved
loop-slash-preserved c =
    let x = c.args.name.now in
    let start = c.loop-slash.start in
    let slash = c.in-Some.slash in
    let long = length-take-le (slash - start) (drop start x)
    (omega (arith, c.in-Some.ensures.within, length-drop start x)) in
    WrittenUpTo-slash x c.loop-slash.buffer c.append_piece-end.new.buffer c.loop-slash.end start slash
    c.append_piece-end.result c.loop-slash.invariant c.in-Some.ensures c.append_piece-end.ensures.text
    (grind (
      arith,
      long,
      c.loop-slash.invariant.near,
      c.in-Some.ensures.ordered,
      c.append_piece-end.ensures.within,
      c.append_piece-end.ensures.first,
    ))

pub returns-clause-text : goal.returns-clause-text
returns-clause-text c =
    WrittenUpTo-last c.args.name.now c.loop-slash.buffer c.append_piece.new.buffer c.loop-slash.end
    c.loop-slash.start c.append_piece.result c.loop-slash.invariant c.in_default.ensures
    c.append_piece.ensures.text
