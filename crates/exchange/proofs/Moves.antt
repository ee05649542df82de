-- What a turn does in a part of a buffer, and which rules no limit bears on.
use Rattle.std.proofs.Common.{◌≡◌, ℕ, ◌≤◌, Bool, true, false, List, ◌++◌, length, take, drop, sym, refl, ap, ◌∙◌, subst, arith, length-append}
use Rattle.std.specs.Array.{IsFirstChunk}
use Rattle.std.proofs.lemmas.Bool.Decides.{nat_tests}
use Rattle.std.proofs.lemmas.List.{length-take, take-append-drop, take-append-le}
use Rattle.buffers.proofs.Overs.{over_front}
use Rattle.buffers.specs.Over.{over}
use Rattle.frames.specs.Refusals.{length_refused}
use Rattle.frames.specs.Sizes.{greatest_frame}
use Rattle.protocol.specs.Reader.{Link, Exchange as Talk, Progress, no_command, finished, Event, Move, at, begins, idle, is_command, refuse, running, busy, to, wrote, on_information, on_reading, read_as, agreed_of}
use Rattle.exchange.specs.declared.exchange.Exchange.{Exchange}
use Rattle.exchange.specs.Exchanges.{exchange_seen}
use Rattle.exchange.specs.Lent.{Going, GoesOn, Rules, Within, turn_seen}
use Rattle.exchange.specs.Links.{link_seen}
use Rattle.exchange.specs.Moves.{beginning, buffer_after, hearing, is_running}
use Rattle.exchange.specs.declared.turn.Limits.{Limits}
use Rattle.exchange.specs.declared.turn.Turn.{Turn}
use Rattle.exchange.specs.declared.turn.Turn.TheVariants.{Refused, Wrote, Answered, Over}

-- no limit bears on what an I-block does
pub no_limit : (repeats waits : ℕ) (l : Link) (x : Talk) (awaited chaining : Bool) (info : List ℕ) → on_information 0 0 l x awaited chaining info ≡ on_information repeats waits l x awaited chaining info
no_limit repeats waits l x true true info = refl
no_limit repeats waits l x true false info = refl
no_limit repeats waits l x false chaining info = refl

module _ (n : ℕ) (old front new : List ℕ) (first : IsFirstChunk old front n) (whole : length new ≡ n) where
  pub kept : new ≡ front → new ++ drop n old ≡ old
  kept e = ap (λ l. l ++ drop n old) (e ∙ first.same) ∙ take-append-drop n old

  wider : (x : Exchange) (t : Turn) → new ≡ buffer_after (turn_seen x t new).outcome front → Within t new → Rules (turn_seen x t new) x t old (new ++ drop n old)
  wider x (Refused why) bytes within = record { moves = refl; bytes = kept bytes; within = tt }
  wider x (Wrote s) bytes within =
      let f = take s.len new in
      let few = length-take s.len new in
      let long = first.enough in
      record {
        moves =
            ap (λ f. to busy (link_seen x.link) (exchange_seen x) (wrote f s.cycles))
            (take-append-le s.len new (drop n old) within);
        bytes =
            ap (λ l. l ++ drop n old) (bytes ∙ ap (over f) first.same)
            ∙ over_front n f old first.enough (omega arith);
        within = omega (arith, length-append new (drop n old));
      }
  wider x (Answered len report) bytes within = record { moves = refl; bytes = kept bytes; within = tt }
  wider x (Over ending report) bytes within = record { moves = refl; bytes = kept bytes; within = tt }

  -- what a rule does in a buffer's first n bytes it does in the buffer
  pub widened : {m : Move} {x : Exchange} {t : Turn} → Rules m x t front new → Rules m x t old (new ++ drop n old)
  widened {m} {x} {t} d =
      subst (λ (m : Move). Rules m x t old (new ++ drop n old)) d.moves
      (wider x t (d.bytes ∙ ap (λ (m : Move). buffer_after m.outcome front) (sym d.moves)) d.within)

-- what goes on, and is not refused, goes on
pub goes_on : (t : Turn) (x : Talk) → Going t x → GoesOn t x
goes_on (Refused why) x g = tt
goes_on (Wrote s) x g = g
goes_on (Answered len report) x g = tt
goes_on (Over ending report) x g = tt

-- the only progress at which a command runs
pub runs : (p : Progress) → is_running p ≡ true → p ≡ running
runs no_command e = cc
runs running e = refl
runs finished e = cc

-- a running exchange hears in a buffer with room
pub hearing_goes : (s : Limits) (l : Link) (x : Talk) (e : Event) (room : ℕ) → x.progress ≡ running → greatest_frame ≤ room → on_reading s.repeats s.waits l x (read_as s.fsd (agreed_of l.cid) e) ≡ hearing s l x e room
hearing_goes s l x e room runs long = grind (arith, nat_tests)

-- an idle reader is handed a command in a buffer with room
pub beginning_refuses : (l : Link) (x : Talk) (command : List ℕ) (room : ℕ) → is_command command ≡ false → greatest_frame ≤ room → refuse length_refused (at idle l x) ≡ beginning l x command room
beginning_refuses l x command room e long = grind (arith, nat_tests)

pub beginning_goes : (l : Link) (x : Talk) (command : List ℕ) (room : ℕ) → is_command command ≡ true → greatest_frame ≤ room → begins (at idle l x) command ≡ beginning l x command room
beginning_goes l x command room e long = grind (arith, nat_tests)
