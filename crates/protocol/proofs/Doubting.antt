-- How the doubt stands after each turn of an exchange: it opens, stays or is over.
use Rattle.std.proofs.Common.{◌≡◌, ℕ, suc, Bool, true, false, not, eqb, List, ◌∷◌, ◌++◌, length, take, drop, sym, refl, ap, ◌∙◌}
use Rattle.std.proofs.lemmas.List.{take-append-drop}
use Rattle.std.proofs.lemmas.Bool.{true≢false}
use Rattle.applications.specs.App.{Keeps}
use Rattle.frames.specs.Blocks.{i_block, frame_of}
use Rattle.protocol.specs.Card.{awake, sent, not_given, Awake, Reply, Given, given}
use Rattle.protocol.specs.Field.{arrives, Setup, Fate, whole, lost, noted, moved}
use Rattle.protocol.specs.Reader.{Exchange, Event, Move, Call, more, say_of, doubt, running, is_at, closing, or_else}
use Rattle.protocol.specs.Turns.{Turn}
use Rattle.protocol.proofs.Basics.{fits_command, eqb_self, take_pos, take_few, more_pos}
use Rattle.protocol.proofs.Doubt.{given_of, suc_apart, part_given}
use Rattle.protocol.proofs.Exchanging.{busy_past}
use Rattle.protocol.proofs.Ground.{Ground}
use Rattle.protocol.proofs.Hearing.{NoGood}
use Rattle.protocol.proofs.Past.{Past, past_of}
use Rattle.protocol.proofs.Phases.{cid, ack_of, Phase, behind, part_taken, waiting, answering, ack_missed, room_to}
use Rattle.protocol.proofs.Rests.{Laws}
use Rattle.protocol.proofs.Saying.{doubt_parts, done-doubt}
use Rattle.protocol.proofs.Steps.{Takes, turn_past}
use Rattle.protocol.proofs.Turning.{Turned, again, spends, rewrites, leaves, advances, grants, tires, appends, completes}

or_else_true : (b : Bool) → or_else b true ≡ true
or_else_true true = refl
or_else_true false = refl

module _ {S : Type 0} (u : Setup S) (s₀ : S) where
  phase_running : {dsi dri : ℕ} {x : Exchange} {w : Awake} {a : Reply} {fate : Fate} {q : Bool} {bad : ℕ} {b g : List (List ℕ)} → Phase u s₀ dsi dri x w a fate q bad b g → x.progress ≡ running
  phase_running (behind cut ok lo hi b) = refl
  phase_running (part_taken cut ok mr ec) = refl
  phase_running (waiting ok nr lo one₁ top few ec) = refl
  phase_running (answering ahead ok nr cut pos ec) = refl
  phase_running (ack_missed ok nr cut pos ma m) = refl

  -- no turn leads to closing
  pub turn_elsewhere : {dsi dri : ℕ} {ts : List Turn} {f : List ℕ} {x : Exchange} {w : Awake} {a : Reply} {fate : Fate} {q : Bool} {b g : List (List ℕ)} {e : Event} {m : Move} → Turned u s₀ dsi dri ts f x w a fate q b g e m → is_at closing m.reader ≡ false
  turn_elsewhere (again ph c ng bad room) = refl
  turn_elsewhere (spends ph c ng bad room) = refl
  turn_elsewhere (rewrites cut ok lo hi room) = refl
  turn_elsewhere (leaves room) = refl
  turn_elsewhere (advances cut ok mr) = refl
  turn_elsewhere (grants ok nr lo one₁ top few room) = refl
  turn_elsewhere (tires nr lo few room) = refl
  turn_elsewhere (appends ahead ok nr cut mr) = refl
  turn_elsewhere (completes ahead ok cut mr) = refl

  -- the doubt after a turn: it was there and nothing good was heard, or it opens with the last part
  pub data After (p : Past S) (c : Call) (e : Event) (m : Move) : Type 0 where
    stays : NoGood e → say_of p.now.reader.exchange.progress p.now.reader.exchange ≡ doubt → After p c e m
    opens_now : given_of (past_of u p (record { call = c; fate = lost }) m) ≡ false → given_of (past_of u p (record { call = c; fate = whole }) m) ≡ true → After p c e m

  was_doubt : {dsi dri : ℕ} {x : Exchange} {w : Awake} {a : Reply} {fate : Fate} {q : Bool} {bad : ℕ} {b g : List (List ℕ)} → Phase u s₀ dsi dri x w a fate q bad b g → say_of running x ≡ doubt → say_of x.progress x ≡ doubt
  was_doubt {x = x} ph d = ap (λ k. say_of k x) (phase_running ph) ∙ d

  module _ (laws : Laws) (G : Ground u.reader u.card) (keeps : Keeps u.app) (dsi dri : ℕ) where
    -- a part that is the last one
    opening : (p : Past S) (c : Call) (e : Event) (m : Move) (cmd : List ℕ) (cs : List (List ℕ)) (k : List ℕ)
        → (y : Fate → Given)
        → ((fate : Fate) → given_of (past_of u p (record { call = c; fate = fate }) m) ≡ eqb (length (cmd ∷ cs)) (length (noted (y fate) cs)))
        → y lost ≡ not_given
        → y whole ≡ given k
        → After p c e m
    opening p c e m cmd cs k y is l w =
        opens_now (is lost ∙ (ap (λ (v : Given). eqb (length (cmd ∷ cs)) (length (noted v cs))) l ∙ suc_apart (length cs)))
        (is whole ∙ (ap (λ (v : Given). eqb (length (cmd ∷ cs)) (length (noted v cs))) w ∙ eqb_self (suc (length cs))))

    pub turn_doubt : {x : Exchange} {w : Awake} {a : Reply} {fate : Fate} {q : Bool} {b g : List (List ℕ)} {c : Call} {e : Event} {m : Move} (ts : List Turn) (f : List ℕ) → Turned u s₀ dsi dri ts f x w a fate q b g e m → Takes c e → say_of m.reader.exchange.progress m.reader.exchange ≡ doubt → After (busy_past laws u s₀ G keeps dsi dri x w a fate ts f b g) c e m
    turn_doubt ts f (again ph c ng bad room) t d = stays ng (was_doubt ph d)
    turn_doubt ts f (spends ph c ng bad room) t d = stays ng d
    turn_doubt {x} {w} {a} {fate} {c = call} {e = e} {m = mv} ts f (rewrites {win} {m} {g} {p} {r} {l} {fr} {rp} {i} {st} {y} {c} {cs} cut ok lo hi room) t d =
        opening (busy_past laws u s₀ G keeps dsi dri x w a fate ts f (c ∷ cs) cs) call e mv c cs (g ++ p)
        (λ next. (arrives u mv.reader (awake w) (moved u.app s₀ cs) (frame_of (i_block (more r) (not m) (cid u s₀) p)) next).command)
        (λ next. ap given_of (turn_past u t (busy_past laws u s₀ G keeps dsi dri x w a fate ts f (c ∷ cs) cs) next mv refl refl)) refl
        (part_given laws u s₀ G mv.reader.exchange win dsi dri m g p r l (moved u.app s₀ cs) lo hi (fits_command g p r c cut ok) (doubt_parts (more r) false false d).0)
    turn_doubt ts f (leaves room) t d = absurd (true≢false (doubt_parts _ true false d).1)
    turn_doubt {x} {w} {a} {fate} {c = call} {e = e} {m = mv} ts f (advances {win} {m} {g} {p} {r} {fr} {rp} {i} {st} {y} {q} {c} {cs} cut ok mr) t d =
        opening (busy_past laws u s₀ G keeps dsi dri x w a fate ts f (c ∷ cs) cs) call e mv c cs (g ++ take (room_to u s₀) r)
        (λ next. (arrives u mv.reader (awake w) (moved u.app s₀ cs) (frame_of (i_block (more (drop (room_to u s₀) r)) (not m) (cid u s₀) (take (room_to u s₀) r))) next).command)
        (λ next. ap given_of (turn_past u t (busy_past laws u s₀ G keeps dsi dri x w a fate ts f (c ∷ cs) cs) next mv refl refl)) refl
        (part_given laws u s₀ G mv.reader.exchange win dsi dri m g (take (room_to u s₀) r) (drop (room_to u s₀) r) (sent (ack_of u s₀ m)) (moved u.app s₀ cs)
        (take_pos (room_to u s₀) r (G.fitting.room_pos _ G.fsc_least) (more_pos r mr)) (take_few (room_to u s₀) r)
        (fits_command g (take (room_to u s₀) r) (drop (room_to u s₀) r) c (ap (λ (k : List ℕ). g ++ k) (take-append-drop (room_to u s₀) r) ∙ cut) ok)
        (doubt_parts (more (drop (room_to u s₀) r)) false false d).0)
    turn_doubt ts f (grants {r = r} {came = came} ok nr lo one₁ top few room) t d =
        absurd
        (true≢false
        (sym (ap (λ b. or_else came (not b)) nr ∙ or_else_true came) ∙ (doubt_parts (more r) false (or_else came (not (more r))) d).2))
    turn_doubt ts f (tires {r = r} {came = came} nr lo few room) t d =
        absurd
        (true≢false (sym (ap (λ b. or_else (not b) came) nr) ∙ (doubt_parts (more r) false (or_else (not (more r)) came) d).2))
    turn_doubt ts f (appends ahead ok nr cut mr) t d = absurd (true≢false (doubt_parts _ false true d).2)
    turn_doubt ts f (completes ahead ok cut mr) t d = absurd (done-doubt d)
