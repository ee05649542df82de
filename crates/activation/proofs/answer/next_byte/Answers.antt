use Rattle.activation.proofs.Parts.{rest_of}
use Rattle.activation.proofs.answer.next_byte.Goals as goal

pub returns-in-len1-up : goal.returns-in-len1-up
returns-in-len1-up c =
    let there = c.if-there.true in
    let rest = rest_of c.args.rest.now in
    record { byte = rw there; behind = rw (there, rest) }
