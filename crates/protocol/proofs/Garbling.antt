-- A card takes noise as a spoilt frame.
use Rattle.std.proofs.Common.{◌≡◌, ℕ, List, refl, ap, ◌∙◌}
use Rattle.frames.specs.Check.{Opened}
use Rattle.frames.specs.Laws.{Noise}
use Rattle.frames.specs.Reading.{Reading, read_frame}
use Rattle.frames.specs.Sizes.{size_of}
use Rattle.applications.specs.App.{App}
use Rattle.protocol.specs.Settings.{CardSettings}
use Rattle.protocol.specs.Card.{
  Card,
  asleep,
  awake,
  halted,
  takes,
  remains,
  garbled,
  quiet,
  on_rats,
  rats_in,
  on_pps,
  pps_in,
  on_reading,
  card_agreed,
}
use Rattle.protocol.proofs.Hearing.{noise_invalid}
use Rattle.protocol.proofs.Rests.{Laws}
use Rattle.protocol.proofs.Waking.{noise_unopened}

pub noise_is_garbled_lem : Laws → {S : Type 0} (app : App S) (set : CardSettings) (c : Card) (s : S) (f : List ℕ) → Noise f → takes app set c s f ≡ remains (garbled c) s quiet
noise_is_garbled_lem laws app set asleep s f n =
    ap (λ (o : Opened). on_rats set s (rats_in o)) (noise_unopened laws (size_of set.fsci) f n).1
noise_is_garbled_lem laws app set (awake w) s f n =
    ap (λ (o : Opened). on_pps set w s (pps_in set w o) (on_reading app w s (read_frame (size_of set.fsci) (card_agreed set w.cid) f))) (noise_unopened laws (size_of set.fsci) f n).1
    ∙ ap (λ (r : Reading). on_reading app w s r) (noise_invalid laws (size_of set.fsci) (card_agreed set w.cid) f n).1
noise_is_garbled_lem laws app set halted s f n = refl
