use Rattle.gix_validate.proofs.Common.{◌≤◌, ◌<◌, ◌+◌, ◌-◌, arith, length, length-drop, length-take}
use Rattle.git_names.proofs.SuggestionLemmas.{appended_first, appended_next, some_taken}
use Rattle.git_names.specs.Suggestions.{suggested_piece}
use Rattle.git_names.proofs.suggestions.append_piece.Goals as goal
use Rattle.git_names.proofs.suggestions.append_piece.Goals.{then-end-eq0, else-end-eq0}
use Rattle.git_names.proofs.suggestions.append_piece.Goals.{then-end-gt0, else-end-gt0}

pub returns-clause-text : goal.returns-clause-text
returns-clause-text c =
    let old = c.args.buffer.now in
    let sub = c.write_piece-len.new.buffer in
    let p = suggested_piece c.args.piece.now in
    let end = c.args.end in
    let len = c.write_piece-len.result in
    let text = c.write_piece-len.ensures.text in
    elim c.if-end-eq0.branch [
      | then-end-eq0 w ↦ elim c.if-end-gt0.branch [
        | then-end-gt0 v ↦ absurd (omega arith)
        | else-end-gt0 v ↦
            let within : len ≤ length sub =
            grind (
              arith,
              c.write_piece-len.ensures.within,
              c.write_piece-len.auto.buffer,
              length-drop,
              length-take,
              c.requires.room,
              w.start-is,
            ) in
            rw (v.buffer-is, w.start-is, w.if-end-eq0.true)
            (appended_first old sub p (length old - 0) len text within)
      ]
      | else-end-eq0 w ↦ elim c.if-end-gt0.branch [
        | then-end-gt0 v ↦
            let room : end + 1 + length c.args.piece.now ≤ length old =
            grind (arith, c.requires.room, w.if-end-eq0.false) in
            let within : len ≤ length sub =
            grind (
              arith,
              c.write_piece-len.ensures.within,
              c.write_piece-len.auto.buffer,
              length-drop,
              length-take,
              room,
              w.start-is,
            ) in
            let some : 0 < len = omega (arith, c.if-len-eq0.false) in
            rw (v.buffer-is, w.start-is)
            (appended_next old sub p end (length old - (end + 1)) len text
            (some_taken sub p len text some within) v.if-end-gt0.true (omega (arith, room)) within)
        | else-end-gt0 v ↦ absurd (omega arith)
      ]
    ]
