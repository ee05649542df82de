-- What each stage stands for: the reader as the model has it.
use Rattle.std.specs.Prelude.{◌≡◌, ℕ, Some, None, Option}
use Rattle.exchange.specs.Exchanges.{exchange_seen}
use Rattle.exchange.specs.Links.{link_seen}
use Rattle.exchange.specs.Runs.{run_seen, run_link}
use Rattle.exchange.specs.Views.{says_seen, why_seen}
use Rattle.exchange.specs.declared.exchange.Exchange as coded
use Rattle.exchange.specs.declared.link.Link as held
use Rattle.frames.specs.declared.fault.Cause as found
use Rattle.protocol.specs.Reader.{Reader, at, unwoken, asking, woken, failed, idle, busy, ended, closing, closed, Link, blank_link, Exchange, blank_exchange, tried, no_cause, says}
use Rattle.stages.specs.declared.stage.Unwoken.{Unwoken}
use Rattle.stages.specs.declared.stage.Asking.{Asking}
use Rattle.stages.specs.declared.stage.Woken.{Woken}
use Rattle.stages.specs.declared.stage.Failed.{Failed}
use Rattle.stages.specs.declared.stage.Idle.{Idle}
use Rattle.stages.specs.declared.stage.Ended.{Ended}
use Rattle.stages.specs.declared.stage.Closing.{Closing}
use Rattle.stages.specs.declared.stage.Closed.{Closed}
use Rattle.stages.specs.declared.stage.Busy.{Busy}
use Rattle.stages.specs.declared.view.View.{View}

abbrev pub unwoken_seen : Unwoken → Reader
unwoken_seen s = at unwoken blank_link blank_exchange

-- no command was begun; RATS was repeated so often
abbrev pub awaited : ℕ → Option found.Cause → Exchange
awaited n why = tried n (why_seen why) blank_exchange

abbrev pub asking_seen : Asking → Reader
asking_seen s = at asking blank_link (awaited s.tries s.why)

abbrev pub woken_seen : Woken → Reader
woken_seen s = at woken (link_seen s.exchange.link) blank_exchange

abbrev pub failed_seen : Failed → Reader
failed_seen s = at failed blank_link (awaited s.asking.tries s.asking.why)

abbrev pub idle_seen : Idle → Reader
idle_seen s = at idle (link_seen s.exchange.link) (exchange_seen s.exchange)

abbrev pub busy_seen : Busy → Reader
busy_seen s = at busy (run_link s.running) (run_seen s.running)

abbrev pub ended_seen : Ended → Reader
ended_seen s = at ended (link_seen s.exchange.link) (exchange_seen s.exchange)

-- the latest exchange and its link, blank where no card was woken
abbrev pub latest_link : Option coded.Exchange → Link
latest_link (Some x) = link_seen x.link
latest_link None = blank_link

abbrev pub latest_seen : Option coded.Exchange → Exchange
latest_seen (Some x) = exchange_seen x
latest_seen None = blank_exchange

abbrev pub closing_seen : Closing → Reader
closing_seen s = at closing (latest_link s.latest) (tried s.tries no_cause (latest_seen s.latest))

abbrev pub closed_seen : Closed → Reader
closed_seen s =
    at closed (latest_link s.closing.latest) (tried s.closing.tries no_cause (latest_seen s.closing.latest))

-- what is held of a card, blank where none was woken
abbrev pub link_held : Option held.Link → Link
link_held (Some l) = link_seen l
link_held None = blank_link

-- a view shows what a reader holds of the card, and what it says of its command
pub record Shows (v : View) (r : Reader) : Type 0 where
  pub link : link_held v.link ≡ r.link
  pub says : says_seen v.says ≡ says r
