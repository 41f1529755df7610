use Rattle.gix_validate.proofs.Common.{◌≡◌, ◌≤◌, ℕ, List, Some, arith, common_steps, length}
use Rattle.std.specs.List.{slice_range}
use Rattle.git_check_names.specs.Problems.{message_start, said_of}
use Rattle.git_check_names.proofs.check.say_messages.Goals as goal

-- what is after the first start, if there is a message
said_after : (messages said : List ℕ) → length message_start ≤ length messages
    → said ≡ slice_range messages (length message_start) (length messages) → said_of messages ≡ Some said
said_after messages said some is = grind (arith, common_steps, is)

pub returns-in-Some : goal.returns-in-Some
returns-in-Some g c =
    let (some, within, is, rest) = c.in-Some.ensures.lookup.0 in
    rw (said_after c.args.messages.now c.in-Some.said.now some is) c.say_bytes.ensures.said
