-- What the reader says in a row is true at the card.
use Rattle.std.proofs.Common.{◌≡◌, ℕ, zero, suc, Bool, true, false, cond, List, [], ◌∷◌, sym, refl, ap, ◌∙◌, subst, inl, inr, arith}
use Rattle.applications.specs.App.{Keeps}
use Rattle.card.specs.Told.{was_given}
use Rattle.frames.specs.Check.{Opened, opened, unopened, open_frame}
use Rattle.frames.specs.Sizes.{greatest_frame}
use Rattle.pair.specs.Deeds.{ask, start, hear, Act, hearing, unless_opened, call_for, step_for}
use Rattle.pair.specs.Runs.{acted}
use Rattle.pair.proofs.Ordered.{can_come}
use Rattle.protocol.specs.Agreement.{Agreement, Once}
use Rattle.protocol.specs.Card.{Reply, quiet, reply, Given, not_given, given}
use Rattle.protocol.specs.Field.{Setup, World, Step, outset, step_from, after, IsRun, CanCome, accepted, command_in, noted, begun_in, given_in, move_of}
use Rattle.protocol.specs.Reader.{begin as begin_call, Says, none, done, taken, not_taken, doubt, says, Outcome, refused, wrote, wakes, active, answered, over, stopped, off, unanswered, fetched}
use Rattle.protocol.specs.Settings.{reader_in_range, card_in_range}
use Rattle.protocol.proofs.Agreed.{agreement}
use Rattle.protocol.proofs.Ground.{ground}
use Rattle.protocol.proofs.Rested.{laws}
use Rattle.std.proofs.lemmas.Bool.{false≢true}
use Rattle.sweeping.specs.Laws.{RowsAreTrue}
use Rattle.sweeping.specs.Plans.{loss_in, fate_under, deed_under, turn_of, plan_after}
use Rattle.sweeping.specs.Rows.{most_turns, disagrees}
use Rattle.sweeping.specs.Trails.{Trail, trail, unharmed, and_then, woken_from, begun, driven, writes, onwards}
use Rattle.sweeping.specs.declared.plan.Loss.{Loss}
use Rattle.sweeping.specs.declared.plan.Loss.TheVariants.{Whole, Lost, Spoilt, Muted, Noisy}
use Rattle.sweeping.specs.declared.plan.Plan.{Plan}
use Rattle.sweeping.specs.declared.told.Times.{Times}
use Rattle.sweeping.specs.declared.told.Told.{Told}
use Rattle.sweeping.specs.declared.told.Times.TheVariants as times

-- the count of a list
abbrev times_of : List (List ℕ) → Times
times_of [] = times.Never
times_of (c ∷ []) = times.Once
times_of (c ∷ d ∷ cs) = times.Oftener

one_more_given : (g : Given) (log : List (List ℕ)) → onwards (times_of log) (was_given g) ≡ times_of (noted g log)
one_more_given not_given log = refl
one_more_given (given c) [] = refl
one_more_given (given c) (d ∷ []) = refl
one_more_given (given c) (d ∷ e ∷ log) = refl

-- none, one, or more
abbrev size : List (List ℕ) → ℕ
size [] = 0
size (c ∷ []) = 1
size (c ∷ d ∷ cs) = 2

none_given : (g : List (List ℕ)) → Once [] g → g ≡ []
none_given g (inl e) = sym e
none_given [] (inr more) = refl
none_given (c ∷ []) (inr more) = let z : ◌≡◌ {A = ℕ} 0 2 = ap size more.1 in absurd (omega (arith, z))
none_given (c ∷ d ∷ g) (inr more) = let z : ◌≡◌ {A = ℕ} 0 2 = ap size more.1 in absurd (omega (arith, z))

written_accepted : (o : Outcome) → writes o ≡ true → accepted o ≡ true
written_accepted (refused n) e = absurd (false≢true e)
written_accepted (wrote f t) e = refl
written_accepted (wakes a) e = refl
written_accepted active e = refl
written_accepted (answered n y t) e = refl
written_accepted (over n y t) e = refl
written_accepted (stopped y t) e = refl
written_accepted off e = refl
written_accepted unanswered e = refl
written_accepted (fetched a) e = refl

-- one command was begun, and the agreement holds
no_lie : (command : List ℕ) (y : Says) (g : List (List ℕ)) → Once (command ∷ []) g → (y ≡ done → command ∷ [] ≡ g) → (y ≡ taken → command ∷ [] ≡ g) → (y ≡ not_taken → (latest : List ℕ) × (command ∷ [] ≡ latest ∷ g)) → disagrees y (times_of g) ≡ false
no_lie command y (c ∷ d ∷ g) (inl e) d' t n = let z : ◌≡◌ {A = ℕ} 1 2 = ap size e in absurd (omega (arith, z))
no_lie command y (c ∷ d ∷ g) (inr more) d' t n = let z : ◌≡◌ {A = ℕ} 1 2 = ap size more.1 in absurd (omega (arith, z))
no_lie command none [] once d t n = refl
no_lie command done [] once d t n = let z : ◌≡◌ {A = ℕ} 1 0 = ap size (d refl) in absurd (omega (arith, z))
no_lie command taken [] once d t n = let z : ◌≡◌ {A = ℕ} 1 0 = ap size (t refl) in absurd (omega (arith, z))
no_lie command not_taken [] once d t n = refl
no_lie command doubt [] once d t n = refl
no_lie command none (c ∷ []) once d t n = refl
no_lie command done (c ∷ []) once d t n = refl
no_lie command taken (c ∷ []) once d t n = refl
no_lie command not_taken (c ∷ []) once d t n = let z : ◌≡◌ {A = ℕ} 1 2 = ap size (n refl).1 in absurd (omega (arith, z))
no_lie command doubt (c ∷ []) once d t n = refl

-- what is heard begins no command
heard_begins_none : (a : Reply) (room : ℕ) → command_in (hearing a room) ≡ not_given
heard_begins_none quiet room = refl
heard_begins_none (reply f) room = refl

noise_begins_none : (o : Opened) (f : List ℕ) (room : ℕ) → command_in (unless_opened o f room) ≡ not_given
noise_begins_none (opened body) f room = refl
noise_begins_none (unopened why) f room = refl

turn_begins_none : {S : Type 0} (w : World S) (room : ℕ) (l : Loss) → command_in (call_for w room (deed_under l)) ≡ not_given
turn_begins_none w room Whole = heard_begins_none w.answer room
turn_begins_none w room Lost = heard_begins_none w.answer room
turn_begins_none w room Spoilt = heard_begins_none w.answer room
turn_begins_none w room Muted = refl
turn_begins_none w room Noisy = noise_begins_none (open_frame 3 (0 ∷ 0 ∷ 0 ∷ [])) (0 ∷ 0 ∷ 0 ∷ []) room

either_way : (b : Bool) (g : Given) (log : List (List ℕ)) → g ≡ not_given → cond b (noted g log) log ≡ log
either_way true g log e = ap (λ x. noted x log) e
either_way false g log e = refl

-- A trail after a run in which these commands were begun.
record At {S : Type 0} (u : Setup S) (s : S) (begun : List (List ℕ)) (t : Trail S) : Type 0 where
  run : List Step
  is_run : IsRun u s run
  world : t.world ≡ after u s run
  begun_so : begun_in u s run ≡ begun
  given_so : t.times ≡ times_of (given_in u s run)

module _ {S : Type 0} (u : Setup S) (s : S) where
  -- one act more, which begins no command
  act_more : (log : List (List ℕ)) (t : Trail S) (a : Act) → command_in (call_for t.world greatest_frame a.deed) ≡ not_given → At u s log t → At u s log (and_then u t.world t.times a)
  act_more log t a e at =
      let st = step_for t.world greatest_frame a in
      record {
        run = st ∷ at.run;
        is_run = (subst (λ v. CanCome v (call_for t.world greatest_frame a.deed)) at.world (can_come t.world greatest_frame a.deed), at.is_run);
        world = ap (λ v. (step_from u v st).after) at.world;
        begun_so = either_way (accepted (move_of u (after u s at.run) st.call).outcome) (command_in st.call) (begun_in u s at.run) e ∙ at.begun_so;
        given_so =
            ap (λ n. onwards n (was_given (step_from u t.world st).command)) at.given_so
            ∙ ap (λ v. onwards (times_of (given_in u s at.run)) (was_given (step_from u v st).command)) at.world
            ∙ one_more_given (step_from u (after u s at.run) st).command (given_in u s at.run);
      }

  if_on : (log : List (List ℕ)) (t next : Trail S) (b : Bool) → At u s log t → At u s log next → At u s log (cond b next t)
  if_on log t next true at then = then
  if_on log t next false at then = at

  drive_more : (log : List (List ℕ)) (n : ℕ) (p : Plan) (t : Trail S) → At u s log t → At u s log (driven n u p t)
  unfolding driven
  drive_more log zero p t at = at
  drive_more log (suc n) p t at =
      if_on log t (driven n u (plan_after p) (and_then u t.world t.times (turn_of p))) t.told.goes_on at
      (drive_more log n (plan_after p) (and_then u t.world t.times (turn_of p)) (act_more log t (turn_of p) (turn_begins_none t.world greatest_frame (loss_in p)) at))

  agreed : reader_in_range u.reader ≡ true → card_in_range u.card ≡ true → Keeps u.app → (run : List Step) → IsRun u s run → Agreement u s run
  agreed reader card keeps run r = agreement laws u s (ground u.reader u.card reader card) keeps run r

  -- a session that is woken; no command was begun, and so none was given
  outset_at : At u s [] (trail (outset s) (record { result = 0; frames = 0; goes_on = false }) times.Never)
  outset_at = record { run = []; is_run = tt; world = refl; begun_so = refl; given_so = refl }

  woken_at : (t : Told) → ((run : List Step) → IsRun u s run → Agreement u s run) → At u s [] (trail (woken_from u (outset s)) t times.Never)
  woken_at t holds =
      let asked = act_more [] _ (unharmed ask) refl outset_at in
      let heard = act_more [] _ (unharmed hear) (heard_begins_none (acted u greatest_frame (outset s) (unharmed ask)).answer greatest_frame) asked in
      let woken = act_more [] _ (unharmed start) refl heard in
      let nothing = none_given (given_in u s woken.run) (subst (λ b. Once b (given_in u s woken.run)) woken.begun_so (holds woken.run woken.is_run).commands) in
      record {
        run = woken.run;
        is_run = woken.is_run;
        world = woken.world;
        begun_so = woken.begun_so;
        given_so = sym (ap times_of nothing);
      }

  -- a command whose first frame is written is begun
  begun_at : (command : List ℕ) (p : Plan) (t : Told) → (begun u (woken_from u (outset s)) command p).told.goes_on ≡ true → At u s [] (trail (woken_from u (outset s)) t times.Never) → At u s (command ∷ []) (begun u (woken_from u (outset s)) command p)
  begun_at command p t on at =
      let w = woken_from u (outset s) in
      let st : Step = record { call = begin_call command greatest_frame; fate = fate_under (loss_in p) } in
      let went : accepted (move_of u (after u s at.run) st.call).outcome ≡ true =
      subst (λ v. accepted (move_of u v st.call).outcome ≡ true) at.world (written_accepted (move_of u w st.call).outcome on) in
      record {
        run = st ∷ at.run;
        is_run = (tt, at.is_run);
        world = ap (λ v. (step_from u v st).after) at.world;
        begun_so = ap (λ b. cond b (command ∷ begun_in u s at.run) (begun_in u s at.run)) went ∙ ap (λ l. command ∷ l) at.begun_so;
        given_so =
            ap (λ n. onwards n (was_given (step_from u w st).command)) at.given_so
            ∙ ap (λ v. onwards (times_of (given_in u s at.run)) (was_given (step_from u v st).command)) at.world
            ∙ one_more_given (step_from u (after u s at.run) st).command (given_in u s at.run);
      }

  true_at : (command : List ℕ) (t : Trail S) → ((run : List Step) → IsRun u s run → Agreement u s run) → At u s (command ∷ []) t → disagrees (says t.world.reader) t.times ≡ false
  true_at command t holds at =
      let g = given_in u s at.run in
      let a = holds at.run at.is_run in
      (λ i. disagrees (says (at.world i).reader) (at.given_so i))
      ∙ no_lie command (says (after u s at.run).reader) g (subst (λ b. Once b g) at.begun_so a.commands)
      (λ e. sym at.begun_so ∙ a.when_done e) (λ e. sym at.begun_so ∙ a.when_taken e)
      (λ e. subst (λ b. (latest : List ℕ) × (b ≡ latest ∷ g)) at.begun_so (a.when_not_taken e))

pub rows_are_true_lem : (S : Type 0) → RowsAreTrue S
rows_are_true_lem S u s command p reader card keeps on =
    let holds = agreed u s reader card keeps in
    let blank : Told = record { result = 0; frames = 0; goes_on = false } in
    true_at u s command (driven most_turns u p (begun u (woken_from u (outset s)) command p)) holds
    (drive_more u s (command ∷ []) most_turns p (begun u (woken_from u (outset s)) command p) (begun_at u s command p blank on (woken_at u s blank holds)))
