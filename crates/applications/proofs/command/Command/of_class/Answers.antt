use Rattle.std.proofs.Common.{rules}
use Rattle.std.proofs.lemmas.List.{take_rest}
use Rattle.applications.proofs.command.Command.of_class.Goals as goal

pub returns : goal.returns
returns c = let body = take_rest c.args.bytes.now 4 in search rules
