use Rattle.std.proofs.Common.{length, ap}
use Rattle.protocol.specs.Reader.{Move, heard}
use Rattle.reader.specs.Sessions.{session_seen, settings_of}
use Rattle.pair.proofs.Kept.{can_keep}
use Rattle.pair.proofs.hearing.hear_noise.Goals as goal

pub kept-requires-in-Err : goal.kept-requires-in-Err
kept-requires-in-Err c =
    can_keep (settings_of c.args.reader.now) (session_seen c.args.reader.now) (heard c.args.bytes.now (length c.args.out.now))
    c.heard.result c.heard.new.out (ap (λ (x : Move). x.outcome) c.heard.ensures.move)
