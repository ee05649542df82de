use Rattle.std.proofs.Common.{drop-drop, rules}
use Rattle.std.proofs.lemmas.List.{take_rest}
use Rattle.applications.proofs.yarn.request.Request.read.Goals as goal

pub returns-in-UpdateBinary-len1-up : goal.returns-in-UpdateBinary-len1-up
returns-in-UpdateBinary-len1-up c =
    let bytes = take_rest c.in_ok-command.command.body.now 1 in
    let behind = drop-drop 1 4 c.args.command.now in
    search rules
