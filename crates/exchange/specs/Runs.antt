-- What an exchange in which a command runs stands for.
use Rattle.protocol.specs.Reader.{Link, Exchange}
use Rattle.exchange.specs.declared.exchange.running.Running.{Running}
use Rattle.exchange.specs.Exchanges.{exchange_seen}
use Rattle.exchange.specs.Links.{link_seen}

abbrev pub run_seen : Running → Exchange
run_seen r = exchange_seen r.exchange

-- the link that it goes over
abbrev pub run_link : Running → Link
run_link r = link_seen r.exchange.link
