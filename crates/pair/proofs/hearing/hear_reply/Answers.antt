use Rattle.std.proofs.Common.{◌≤◌, length, sym, ap, ◌∙◌, subst}
use Rattle.exchange.specs.Listening.{event_seen}
use Rattle.protocol.specs.Reader.{Move}
use Rattle.reader.specs.Sessions.{session_seen, settings_of}
use Rattle.pair.specs.Airs.{reply_seen}
use Rattle.pair.specs.Deeds.{hearing}
use Rattle.pair.specs.Readings.{Reads}
use Rattle.pair.proofs.Heard.{reply_heard}
use Rattle.pair.proofs.Kept.{can_keep}
use Rattle.pair.proofs.hearing.hear_reply.Goals as goal

pub kept-requires : goal.kept-requires
kept-requires c =
    let s = settings_of c.args.reader.now in
    let r = session_seen c.args.reader.now in
    let a = reply_seen c.args.air.now in
    let room = length c.args.out.now in
    can_keep s r (hearing a room) c.listen.result c.listen.new.out
    (ap (λ (x : Move). x.outcome) (c.listen.ensures.move ∙ reply_heard s r a (event_seen c.heard.result) room c.heard.ensures))

pub returns : goal.returns
returns c =
    let s = settings_of c.args.reader.now in
    let r = session_seen c.args.reader.now in
    let same = reply_heard s r (reply_seen c.args.air.now) (event_seen c.heard.result) (length c.args.out.now) c.heard.ensures in
    let told = c.listen.ensures in
    subst (λ m. Reads s m c.listen.new.self c.kept.result c.args.out.now c.listen.new.out) same
    (record {
      settings = told.settings;
      reader = ap (λ (x : Move). x.reader) told.move;
      outcome = c.kept.ensures.seen c.listen.new.out ∙ ap (λ (x : Move). x.outcome) told.move;
      bytes = told.buffer;
      within = subst (λ n. n ≤ length c.listen.new.out) (sym (c.kept.ensures.size c.listen.new.out)) told.within;
    })
