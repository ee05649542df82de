use Rattle.std.proofs.Common.{ap, ◌∙◌}
use Rattle.frames.specs.Check.{open_frame}
use Rattle.frames.specs.Reading.{read_frame}
use Rattle.frames.specs.Sizes.{size_of}
use Rattle.protocol.specs.Card.{on_reading, pps_in, card_agreed}
use Rattle.card.specs.Held.{awake_of, settings_of}
use Rattle.card.specs.Told.{told_of}
use Rattle.card.proofs.Choosing.{unchosen, chosen_told}
use Rattle.card.proofs.awake.AwakeCard.take.Goals as goal

pub returns-in-Some : goal.returns-in-Some
returns-in-Some g c =
    let w = awake_of c.args.self.now in
    let s = c.args.application.now in
    let f = c.args.frame.now in
    let set = settings_of c.args.settings.now in
    let limit = size_of set.fsci in
    let block = on_reading g.A.Application.model w s (read_frame limit (card_agreed set w.cid) f) in
    chosen_told set w s block (pps_in set w (open_frame limit f)) c.in-Some.pps.dsi c.in-Some.pps.dri c.change.new.self c.alone.result
    c.in-Some.ensures c.change.ensures c.alone.ensures.sends c.alone.ensures.given

pub returns-in-Ok : goal.returns-in-Ok
returns-in-Ok g c =
    let w = awake_of c.args.self.now in
    let s = c.args.application.now in
    let f = c.args.frame.now in
    let set = settings_of c.args.settings.now in
    let limit = size_of set.fsci in
    let model = g.A.Application.model in
    let block = on_reading model w s (read_frame limit (card_agreed set w.cid) f) in
    c.take_block.ensures set
    ∙ ap (λ r. told_of (on_reading model w s r)) (c.in-Ok.ensures.value ∙ (λ i. read_frame (c.frame_size.ensures i) (c.agreed.ensures i) f))
    ∙ ap (λ m. told_of m) (unchosen set w s block (pps_in set w (open_frame limit f)) c.in_default.ensures)
