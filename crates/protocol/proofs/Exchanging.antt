-- What holds after an event of an open exchange.
use Rattle.std.proofs.Common.{◌≡◌, ℕ, ◌+◌, ◌-◌, ◌/◌, ◌<◌, ◌≤◌, Bool, true, false, cond, not, List, [], ◌∷◌, ◌++◌, length, take, drop, sym, refl, ap, ◌∙◌, subst, ⊎_elim, arith}
use native.Mathlib.Nat.{div-eq-sub-div, div-eq_of_lt}
use Rattle.std.proofs.lemmas.List.{append_assoc, append-nil, take-append-drop, length-append, length-take, length-drop}
use Rattle.std.proofs.lemmas.Bool.{cases_lt}
use Rattle.applications.specs.App.{Keeps}
use Rattle.frames.specs.Blocks.{i_block, wait, frame_of}
use Rattle.frames.specs.Causes.{Cause}
use Rattle.protocol.specs.Card.{Awake, awake, Owed, owes_nothing, owes_rest, Sent, sent, Reply, quiet, answer_block}
use Rattle.protocol.specs.Field.{Setup, world, crosses, Fate, moved}
use Rattle.protocol.specs.Reader.{idle, ended, Exchange, Event, Move, more, at, busy, no_cause, next_part, appended, completed, rewritten, granted}
use Rattle.protocol.specs.Turns.{no_frame, Turn, log_of, out, frames_of, same_bytes, bad_turns, blocks_for}
use Rattle.protocol.proofs.Arrival.{past_at}
use Rattle.protocol.proofs.Basics.{more_pos, more_nil, pos_more, take_pos, take_few}
use Rattle.protocol.proofs.Counting.{count-repeat, count-wait, count_fresh, stale_same, stale_wait, fresh_since}
use Rattle.protocol.proofs.Ground.{Ground}
use Rattle.protocol.proofs.Hearing.{turn}
use Rattle.protocol.proofs.Invariant.{Inv, EndedInv, is_ended, IdleInv, rests, log_ok, busy_inv, past}
use Rattle.protocol.proofs.Naming.{wait_i, nak_i, wait_r, nak_is, wait_is, next_part_differs, first_ack_differs, next_ack_differs}
use Rattle.protocol.proofs.Onward.{again_goes, part_goes, wait_goes, ack_goes, Goes}
use Rattle.protocol.proofs.Past.{Past}
use Rattle.protocol.proofs.Phases.{ex, cid, room_to, room_from, link_at, up, answer_to, ack_of, Phase, behind, part_taken, waiting, answering, ack_missed, Count}
use Rattle.protocol.proofs.Rests.{Laws}
use Rattle.protocol.proofs.Saying.{Told, not_given_lem, was_given_lem, was_answered}
use Rattle.protocol.proofs.Turning.{Turned, again, spends, rewrites, leaves, advances, grants, tires, appends, completes}

-- a full block is one block less
pub blocks_less : (room n : ℕ) → 0 < room → 0 < n → 1 + blocks_for room (n - room) ≤ blocks_for room n
blocks_less room n p q =
    ⊎_elim
    (λ l.
    let e : n - room ≡ 0 = omega arith in
    rw e
    (let a : (0 + room - 1) / room ≡ 0 = div-eq_of_lt (omega arith) in
    let b = div-eq-sub-div {m = room} {n = n + room - 1} p (omega arith) in
    omega arith))
    (λ l.
    let a = div-eq-sub-div {m = room} {n = n + room - 1} p (omega arith) in
    let e : n + room - 1 - room ≡ n - room + room - 1 = omega arith in
    let f : (n + room - 1 - room) / room ≡ (n - room + room - 1) / room = ap (λ k. k / room) e in
    omega arith)
    (cases_lt n room)

module _ (laws : Laws) {S : Type 0} (u : Setup S) (s₀ : S) (G : Ground u.reader u.card) (keeps : Keeps u.app) (dsi dri : ℕ) where
  -- the past of an open exchange
  abbrev pub busy_past : Exchange → Awake → Reply → Fate → List Turn → List ℕ → List (List ℕ) → List (List ℕ) → Past S
  busy_past x w a fate ts f begun given =
      past (world (at busy (link_at u s₀ dsi dri) x) (awake w) (moved u.app s₀ given) a) begun given (log_of ts (out f fate))

  -- it after an event
  abbrev pub turned_past : Past S → Event → Move → Fate → Past S
  turned_past p e m next = past_at p e m.outcome next (crosses u p.now m.reader m.outcome next)

  room_pos : 0 < room_to u s₀
  room_pos = G.fitting.room_pos _ G.fsc_least

  from_pos : 0 < room_from u s₀
  from_pos = G.fitting.room_pos _ G.fsd_least

  -- the next part is fresh
  advance_count : (ts : List Turn) (t : Turn) (m : Bool) (p r : List ℕ) (fr rp i st : ℕ) (y : Cause) (q : Bool) (c : List ℕ) (cs : List (List ℕ))
      → more r ≡ true
      → Count u s₀ (ex m p r [] fr rp 0 i y st false) ts t.frame q (c ∷ cs)
      → Count u s₀ (next_part (room_to u s₀) (ex m p r [] fr rp 0 i y st false)) (t ∷ ts) (frame_of (i_block (more (drop (room_to u s₀) r)) (not m) (cid u s₀) (take (room_to u s₀) r))) false (c ∷ cs)
  advance_count ts t m p r fr rp i st y q c cs mr C =
      count_fresh u s₀ (ex m p r [] fr rp 0 i y st false) (next_part (room_to u s₀) (ex m p r [] fr rp 0 i y st false)) ts t _ q (c ∷ cs) C refl refl refl
      (wait_i laws _ (not m) (cid u s₀) _)
      (fresh_since _ t.frame (frames_of ts) (wait_i laws _ (not m) (cid u s₀) _) (nak_i laws _ (not m) (cid u s₀) _)
      (ap (same_bytes _) C.fresh_is ∙ next_part_differs laws _ (more r) m (cid u s₀) _ p))
      (let b = blocks_less (room_to u s₀) (length r) room_pos (more_pos r mr) in
      let e : blocks_for (room_to u s₀) (length (drop (room_to u s₀) r)) ≡ blocks_for (room_to u s₀) (length r - room_to u s₀) = ap (blocks_for (room_to u s₀)) (length-drop (room_to u s₀) r) in
      omega arith)

  -- an acknowledgement of a block of the answer is fresh
  append_count : (ts : List Turn) (t : Turn) (m : Bool) (p r ga ahead : List ℕ) (fr rp wt i st : ℕ) (y : Cause) (came q : Bool) (c : List ℕ) (cs : List (List ℕ))
      → ga ++ ahead ≡ answer_to u s₀ c cs
      → more (drop (room_from u s₀) ahead) ≡ true
      → more (ga ++ take (room_from u s₀) ahead) ≡ true
      → Count u s₀ (ex m p r ga fr rp wt i y st came) ts t.frame q (c ∷ cs)
      → Count u s₀ (appended (take (room_from u s₀) ahead) (ex m p r ga fr rp wt i y st came)) (t ∷ ts) (frame_of (ack_of u s₀ (not m))) false (c ∷ cs)
  append_count ts t m p r ga ahead fr rp wt i st y came q c cs cut mr mg C =
      count_fresh u s₀ (ex m p r ga fr rp wt i y st came) (appended (take (room_from u s₀) ahead) (ex m p r ga fr rp wt i y st came)) ts t _ q (c ∷ cs) C refl refl
      (ap (λ b. frame_of (cond b (ack_of u s₀ (not m)) (i_block (more r) (not m) (cid u s₀) p))) (sym mg))
      (wait_r laws false (not m) (cid u s₀))
      (fresh_since _ t.frame (frames_of ts) (wait_r laws false (not m) (cid u s₀)) (nak_is laws false (not m) (cid u s₀))
      (ap (same_bytes _) C.fresh_is ∙ apart (more ga)))
      (let l = ap length cut in
      let a = length-append ga ahead in
      let b = length-append ga (take (room_from u s₀) ahead) in
      let d = length-take (room_from u s₀) ahead in
      let h = more_pos (drop (room_from u s₀) ahead) mr in
      let k = length-drop (room_from u s₀) ahead in
      let left : length (answer_to u s₀ c cs) - length (ga ++ take (room_from u s₀) ahead) ≡ length ahead - room_from u s₀ = omega arith in
      let all : length (answer_to u s₀ c cs) - length ga ≡ length ahead = omega arith in
      let less = blocks_less (room_from u s₀) (length ahead) from_pos (omega arith) in
      rw (left, all) (omega arith))
    where
      apart : (b : Bool) → same_bytes (frame_of (ack_of u s₀ (not m))) (frame_of (cond b (ack_of u s₀ m) (i_block (more r) m (cid u s₀) p))) ≡ false
      apart true = next_ack_differs laws m (cid u s₀)
      apart false = first_ack_differs laws (more r) (not m) m (cid u s₀) p

  -- an ended exchange
  over_inv : (x y : Exchange) (w : Awake) (a : Reply) (fate : Fate) (q : Bool) (ts : List Turn) (f : List ℕ) (begun given : List (List ℕ)) (e : Event) (win m : Bool) (g : List ℕ) (o : Owed) (l : Sent)
      → w ≡ up u s₀ win dsi dri m g o l
      → Count u s₀ x ts f q begun
      → Told u s₀ y begun given
      → Inv u s₀ (past (world (at ended (link_at u s₀ dsi dri) y) (awake w) (moved u.app s₀ given) quiet) begun given (log_of (turn f fate a e ∷ ts) no_frame))
  over_inv x y w a fate q ts f begun given e win m g o l ew C T =
      record {
        stage = subst (λ (v : Awake). EndedInv u s₀ (past (world (at ended (link_at u s₀ dsi dri) y) (awake v) (moved u.app s₀ given) quiet) begun given (log_of (turn f fate a e ∷ ts) no_frame))) (sym ew) is_ended;
        told = T;
        log = log_ok u s₀ x ts f q begun (log_of (turn f fate a e ∷ ts) no_frame) refl C;
      }

  spends_inv : {x : Exchange} {w : Awake} {a : Reply} {fate : Fate} {q : Bool} {begun given : List (List ℕ)} (ts : List Turn) (f : List ℕ) (e : Event)
      → Phase u s₀ dsi dri x w a fate q (bad_turns ts) begun given
      → Count u s₀ x ts f q begun
      → Told u s₀ x begun given
      → Inv u s₀ (past (world (at ended (link_at u s₀ dsi dri) x) (awake w) (moved u.app s₀ given) quiet) begun given (log_of (turn f fate a e ∷ ts) no_frame))
  spends_inv {x} {w} {a} {fate} {q} {begun} {given} ts f e (behind {win} {m} {g} {l = l} cut ok lo hi b) C T = over_inv x x w a fate q ts f begun given e win m g owes_nothing l refl C T
  spends_inv {x} {w} {a} {fate} {q} {begun} {given} ts f e (part_taken {win} {m} {g} cut ok mr ec) C T = over_inv x x w a fate q ts f begun given e win m g owes_nothing _ refl C T
  spends_inv {x} {w} {a} {fate} {q} {begun} {given} ts f e (waiting {win} {m} ok nr lo one₁ top few ec) C T = over_inv x x w a fate q ts f begun given e win m [] _ _ refl C T
  spends_inv {x} {w} {a} {fate} {q} {begun} {given} ts f e (answering {win} {m} ahead ok nr cut pos ec) C T = over_inv x x w a fate q ts f begun given e win m [] _ _ refl C T
  spends_inv {x} {w} {a} {fate} {q} {begun} {given} ts f e (ack_missed {win} {m} ok nr cut pos ma ms) C T = over_inv x x w a fate q ts f begun given e win m [] _ _ refl C T

  -- the answer is all there
  all_there : (ga ahead : List ℕ) → more (drop (room_from u s₀) ahead) ≡ false → ga ++ take (room_from u s₀) ahead ≡ ga ++ ahead
  all_there ga ahead e =
      ap (λ (k : List ℕ). ga ++ k)
      (sym (append-nil (take (room_from u s₀) ahead))
      ∙ (ap (λ (k : List ℕ). take (room_from u s₀) ahead ++ k) (sym (more_nil (drop (room_from u s₀) ahead) e))
      ∙ take-append-drop (room_from u s₀) ahead))

  -- the information of an answer's block is not empty
  gathered_more : (ga ahead : List ℕ) → more (drop (room_from u s₀) ahead) ≡ true → more (ga ++ take (room_from u s₀) ahead) ≡ true
  gathered_more ga ahead mr =
      pos_more _
      (let b = length-append ga (take (room_from u s₀) ahead) in
      let h = more_pos (drop (room_from u s₀) ahead) mr in
      let k = length-drop (room_from u s₀) ahead in
      let t = take_pos (room_from u s₀) ahead from_pos (omega arith) in
      omega arith)

  -- after every turn
  pub turn_inv : {x : Exchange} {w : Awake} {a : Reply} {fate : Fate} {q : Bool} {begun given : List (List ℕ)} {e : Event} {mv : Move} (ts : List Turn) (f : List ℕ)
      → Turned u s₀ dsi dri ts f x w a fate q begun given e mv
      → Count u s₀ x ts f q begun
      → Told u s₀ x begun given
      → (next : Fate)
      → Inv u s₀ (turned_past (busy_past x w a fate ts f begun given) e mv next)
  turn_inv {e = e} ts f (again ph c ng bad room) C T next = busy_inv u s₀ _ (again_goes laws u s₀ G keeps dsi dri ts f e c ph C bad room next)
  turn_inv {e = e} ts f (spends ph c ng bad room) C T next = spends_inv ts f e ph C T
  turn_inv {a = a} {fate} {q} {e = e} ts f (rewrites {win} {m} {g} {p} {r} {l} {fr} {rp} {i} {st} {y} {c} {cs} cut ok lo hi room) C T next =
      busy_inv u s₀ _
      (part_goes laws u s₀ G keeps dsi dri win m g p r l fr (rp + 1) (i + 1) 0 y c cs (turn f fate a e ∷ ts) cut ok lo hi
      (count-repeat u s₀ (ex (not m) p r [] fr rp 0 i y st false) (rewritten (ex (not m) p r [] fr rp 0 i y st false)) ts (turn f fate a e) _ true false (c ∷ cs) C refl refl refl refl refl
      (wait_i laws (more r) (not m) (cid u s₀) p)
      (stale_same _ f (frames_of ts) (sym C.fresh_is)) room (let h = C.since_bad in omega arith))
      next)
  turn_inv {a = a} {fate} {q} {e = e} ts f (leaves {win} {m} {g} {p} {r} {l} {fr} {rp} {i} {st} {y} {c} {cs} room) C T next =
      over_inv _ _ _ a fate q ts f (c ∷ cs) cs e win m g owes_nothing l refl C (not_given_lem u s₀ _ c cs refl refl refl)
  turn_inv {a = a} {fate} {q} {e = e} ts f (advances {win} {m} {g} {p} {r} {fr} {rp} {i} {st} {y} {q = q'} {c} {cs} cut ok mr) C T next =
      busy_inv u s₀ _
      (part_goes laws u s₀ G keeps dsi dri win m g (take (room_to u s₀) r) (drop (room_to u s₀) r) (sent (ack_of u s₀ m)) (fr + 1) rp 0 0 no_cause c cs (turn f fate a e ∷ ts)
      (ap (λ (k : List ℕ). g ++ k) (take-append-drop (room_to u s₀) r) ∙ cut) ok
      (take_pos (room_to u s₀) r room_pos (more_pos r mr)) (take_few (room_to u s₀) r)
      (advance_count ts (turn f fate a e) m p r fr rp i st y q c cs mr C) next)
  turn_inv {a = a} {fate} {q} {e = e} ts f (grants {win} {m} {p} {r} {fr} {rp} {wt} {i} {st} {k} {mu} {y} {came} {q = q'} {c} {cs} ok nr lo one₁ top few room) C T next =
      busy_inv u s₀ _
      (wait_goes laws u s₀ G keeps dsi dri win m p r fr rp wt i st y came k mu c cs (turn f fate a e ∷ ts) ok nr lo one₁ top (omega arith)
      (count-wait u s₀ (ex m p r [] fr rp wt i y st came) (granted mu (ex m p r [] fr rp wt i y st came)) ts (turn f fate a e) (frame_of (wait mu 0 (cid u s₀))) q false (c ∷ cs) C refl refl refl refl refl
      (wait_is laws mu 0 (cid u s₀)) (stale_wait (frame_of (wait mu 0 (cid u s₀))) f (frames_of ts) (wait_is laws mu 0 (cid u s₀))) room)
      next)
  turn_inv {a = a} {fate} {q} {e = e} ts f (tires {win} {m} {p} {r} {fr} {rp} {wt} {i} {st} {k} {mu} {y} {came} {q = q'} {c} {cs} nr lo few room) C T next =
      over_inv _ _ _ a fate q ts f (c ∷ cs) (c ∷ cs) e win m [] _ _ refl C (was_given_lem u s₀ _ c cs _ refl nr refl refl)
  turn_inv {a = a} {fate} {q} {e = e} ts f (appends {win} {m} {p} {r} {ga} {fr} {rp} {wt} {i} {st} {y} {came} {q = q'} {c} {cs} ahead ok nr cut mr) C T next =
      busy_inv u s₀ _
      (subst (λ (k : Bool). Goes laws u s₀ G keeps dsi dri (appended (take (room_from u s₀) ahead) (ex m p r ga fr rp wt i y st came)) (up u s₀ win dsi dri m [] (cond k (owes_rest (drop (room_from u s₀) ahead)) owes_nothing) (sent (answer_block (room_from u s₀) m (cid u s₀) ahead))) (ack_of u s₀ (not m)) (c ∷ cs) (c ∷ cs) (turn f fate a e ∷ ts) next) (sym mr)
      (ack_goes laws u s₀ G keeps dsi dri win m p r ga (sent (answer_block (room_from u s₀) m (cid u s₀) ahead)) (fr + 1) rp wt (take (room_from u s₀) ahead) (drop (room_from u s₀) ahead) c cs (turn f fate a e ∷ ts) ok nr
      (append_assoc ga (take (room_from u s₀) ahead) (drop (room_from u s₀) ahead) ∙ (ap (λ (k : List ℕ). ga ++ k) (take-append-drop (room_from u s₀) ahead) ∙ cut))
      (more_pos (drop (room_from u s₀) ahead) mr) (gathered_more ga ahead mr)
      (append_count ts (turn f fate a e) m p r ga ahead fr rp wt i st y came q c cs cut mr (gathered_more ga ahead mr) C) next))
  turn_inv {a = a} {fate} {q} {e = e} ts f (completes {win} {m} {p} {r} {ga} {fr} {rp} {wt} {i} {st} {y} {came} {q = q'} {c} {cs} ahead ok cut mr) C T next =
      record {
        stage =
            subst (λ (k : Bool). IdleInv u s₀ (past (world (at idle (link_at u s₀ dsi dri) (completed (take (room_from u s₀) ahead) (ex m p r ga fr rp wt i y st came))) (awake (up u s₀ win dsi dri m [] (cond k (owes_rest (drop (room_from u s₀) ahead)) owes_nothing) (sent (answer_block (room_from u s₀) m (cid u s₀) ahead)))) (moved u.app s₀ (c ∷ cs)) quiet) (c ∷ cs) (c ∷ cs) (log_of (turn f fate a e ∷ ts) no_frame))) (sym mr)
            (rests refl);
        told = was_answered u s₀ _ c cs refl (all_there ga ahead mr ∙ cut);
        log = log_ok u s₀ _ ts f q (c ∷ cs) (log_of (turn f fate a e ∷ ts) no_frame) refl C;
      }
