-- An open exchange stays in its phases, whatever frame goes out and whatever becomes of it.
use Rattle.std.proofs.Common.{◌≡◌, ℕ, ◌+◌, ◌-◌, ◌<◌, ◌≤◌, Bool, true, false, cond, not, eqb, List, [], ◌∷◌, ◌++◌, length, sym, refl, ap, ◌∙◌, subst, arith}
use Rattle.std.proofs.lemmas.List.{append-nil, append_assoc}
use Rattle.std.proofs.lemmas.Bool.{eqb-false}
use Rattle.applications.specs.App.{Keeps, IsCommand, longest_command}
use Rattle.frames.specs.Blocks.{Cid, Block, i_block, r_block, wait, frame_of}
use Rattle.frames.specs.Causes.{Cause}
use Rattle.protocol.specs.Card.{not_given, Awake, awake, Owed, owes_nothing, owes_waits, owes_rest, Sent, sent, Reply, CardMove, on_block, answer_block, owed_after, sends, sends_answer, asks_or_answers, gives}
use Rattle.protocol.specs.Field.{Setup, world, Crossing, crossing, arrives, Fate, whole, lost, spoilt, moved, noted}
use Rattle.protocol.specs.Reader.{no_cause, Exchange, Event, more, at, busy, repeated, ask_again, granted}
use Rattle.protocol.specs.Turns.{Turn, log_of, out, is_bad, badness, bad_turns}
use Rattle.protocol.proofs.Arrival.{ToCard, crossed, to_r, to_i, to_wait, arrive_whole}
use Rattle.protocol.proofs.Asking.{missing_most, again_count, keeps_lost, keeps_spoilt, bad_one}
use Rattle.protocol.proofs.Basics.{fits_command, more_nil}
use Rattle.protocol.proofs.Ground.{Ground}
use Rattle.protocol.proofs.Hearing.{turn}
use Rattle.protocol.proofs.Past.{Past}
use Rattle.protocol.proofs.Phases.{by_loss, by_spoiling, sounds, misses, missing, ex, cid, room_to, room_from, link_at, up, answer_to, waits_for, ack_of, unheard, acked, Phase, behind, part_taken, waiting, answering, ack_missed, Count, BusyInv, in_phase}
use Rattle.protocol.proofs.Reactions.{at_nak, at_equal, at_next, at_chaining, at_last, at_granted}
use Rattle.protocol.proofs.Rests.{Laws}

-- the past after a frame of an exchange crossed
abbrev pub past_by : {S : Type 0} → List (List ℕ) → List (List ℕ) → List Turn → List ℕ → Fate → Crossing S → Past S
past_by begun given ts f fate x =
    record { now = x.after; begun = begun; given = noted x.command given; log = log_of ts (out f fate) }

-- an answer to a wait gives no command
asks_nothing : {S : Type 0} (w : Awake) (s : S) (n : Bool) (a : Cid) (k mu : ℕ) (ans : List ℕ)
    → asks_or_answers w s n a k mu ans
    ≡ record {
      card = (asks_or_answers w s n a k mu ans).card;
      state = (asks_or_answers w s n a k mu ans).state;
      answer = (asks_or_answers w s n a k mu ans).answer;
      command = not_given;
    }
asks_nothing {S} w s n a k mu ans =
    λ i. record {
      card = (asks_or_answers w s n a k mu ans).card;
      state = (asks_or_answers w s n a k mu ans).state;
      answer = (asks_or_answers w s n a k mu ans).answer;
      command = none_given (eqb k 0) i;
    }
  where
    none_given : (b : Bool) → (cond b (sends_answer w s n a ans) (sends w s n [] (owes_waits k mu ans) (wait mu 0 a))).command ≡ not_given
    none_given true = refl
    none_given false = refl

module _ (laws : Laws) {S : Type 0} (u : Setup S) (s₀ : S) (G : Ground u.reader u.card) (keeps : Keeps u.app) (dsi dri : ℕ) where
  -- the frame of this block goes out in an exchange that then is x, to the card w
  abbrev pub Goes : Exchange → Awake → Block → List (List ℕ) → List (List ℕ) → List Turn → Fate → Type 0
  Goes x w b begun given ts fate =
      BusyInv u s₀
      (past_by begun given ts (frame_of b) fate
      (arrives u (at busy (link_at u s₀ dsi dri) x) (awake w) (moved u.app s₀ given) (frame_of b) fate))

  -- it is enough to know what the card does at the block
  on_whole : (x : Exchange) (win m : Bool) (g : List ℕ) (o : Owed) (l : Sent) (b : Block) (begun given : List (List ℕ)) (ts : List Turn) (v : CardMove S)
      → ToCard laws u s₀ G b
      → on_block u.app (up u s₀ win dsi dri m g o l) (moved u.app s₀ given) b ≡ v
      → BusyInv u s₀ (past_by begun given ts (frame_of b) whole (crossed (at busy (link_at u s₀ dsi dri) x) v))
      → Goes x (up u s₀ win dsi dri m g o l) b begun given ts whole
  on_whole x win m g o l b begun given ts v t e i =
      subst (λ (y : Crossing S). BusyInv u s₀ (past_by begun given ts (frame_of b) whole y))
      (sym (arrive_whole laws u s₀ G busy x win dsi dri m g o l (moved u.app s₀ given) b t ∙ ap (crossed (at busy (link_at u s₀ dsi dri) x)) e)) i

  -- R for silence or noise, that arrives
  again_whole : {x : Exchange} {w : Awake} {a : Reply} {fate : Fate} {q : Bool} {bad : ℕ} {begun given : List (List ℕ)} (c : Cause) (ts : List Turn)
      → bad + missing fate ≤ bad_turns ts
      → Phase u s₀ dsi dri x w a fate q bad begun given
      → Count u s₀ (repeated c x) ts (frame_of (ask_again (link_at u s₀ dsi dri) x)) true begun
      → Goes (repeated c x) w (ask_again (link_at u s₀ dsi dri) x) begun given ts whole
  again_whole c ts grown (behind {win} {m} {g} {l = l} {cs = cs} cut ok lo hi b) C =
      on_whole _ win m g owes_nothing l (r_block true (not m) (cid u s₀)) _ cs ts _ (to_r laws u s₀ G true (not m))
      (at_nak u s₀ G win dsi dri m (moved u.app s₀ cs) g owes_nothing l) (in_phase (behind cut ok lo hi acked) C)
  again_whole c ts grown (part_taken {win} {m} {g} {cs = cs} cut ok mr ec) C =
      on_whole _ win m g owes_nothing (sent (ack_of u s₀ m)) (r_block true m (cid u s₀)) _ cs ts _ (to_r laws u s₀ G true m)
      (at_equal u s₀ G win dsi dri m (moved u.app s₀ cs) g owes_nothing (ack_of u s₀ m) true)
      (in_phase (part_taken cut ok mr sounds) C)
  again_whole ch ts grown (waiting {win} {m} {k = k} {mu = mu} {c = c} {cs = cs} ok nr lo one₁ top few ec) C =
      on_whole _ win m [] (owes_waits k mu (answer_to u s₀ c cs)) (sent (wait mu 0 (cid u s₀))) (r_block true m (cid u s₀)) _ (c ∷ cs) ts _
      (to_r laws u s₀ G true m)
      (at_equal u s₀ G win dsi dri m (moved u.app s₀ (c ∷ cs)) [] (owes_waits k mu (answer_to u s₀ c cs)) (wait mu 0 (cid u s₀)) true)
      (in_phase (waiting ok nr lo one₁ top (omega arith) sounds) C)
  again_whole ch ts grown (answering {win} {m} {ga = ga} {c = c} {cs = cs} ahead ok nr cut pos ec) C =
      on_whole _ win m [] (owed_after (room_from u s₀) ahead) (sent (answer_block (room_from u s₀) m (cid u s₀) ahead)) (r_block (not (more ga)) m (cid u s₀)) _ (c ∷ cs) ts _
      (to_r laws u s₀ G (not (more ga)) m)
      (at_equal u s₀ G win dsi dri m (moved u.app s₀ (c ∷ cs)) [] (owed_after (room_from u s₀) ahead) (answer_block (room_from u s₀) m (cid u s₀) ahead) (not (more ga)))
      (in_phase (answering ahead ok nr cut pos sounds) C)
  again_whole ch ts grown (ack_missed {win} {m} {ga = ga} {ahead} {l = l} {c = c} {cs = cs} ok nr cut pos ma ms) C =
      on_whole _ win m [] (owes_rest ahead) l (r_block (not (more ga)) (not m) (cid u s₀)) _ (c ∷ cs) ts _ (to_r laws u s₀ G (not (more ga)) (not m))
      (ap (λ k. on_block u.app (up u s₀ win dsi dri m [] (owes_rest ahead) l) (moved u.app s₀ (c ∷ cs)) (r_block (not k) (not m) (cid u s₀))) ma
      ∙ at_next u s₀ G win dsi dri m (moved u.app s₀ (c ∷ cs)) [] ahead l)
      (in_phase (answering ahead ok nr cut pos sounds) C)

  -- R for silence or noise
  pub again_goes : {x : Exchange} {w : Awake} {a : Reply} {fate : Fate} {q : Bool} {begun given : List (List ℕ)} (ts : List Turn) (f : List ℕ) (e : Event) (c : Cause)
      → Phase u s₀ dsi dri x w a fate q (bad_turns ts) begun given
      → Count u s₀ x ts f q begun
      → is_bad (turn f fate a e) ≡ true
      → x.since < u.reader.repeats
      → (next : Fate)
      → Goes (repeated c x) w (ask_again (link_at u s₀ dsi dri) x) begun given (turn f fate a e ∷ ts) next
  again_goes {x} {w} {a} {fate} {q} {begun} {given} ts f e c ph C bad room lost =
      in_phase (keeps_lost u s₀ dsi dri c (badness (turn f fate a e)) (bad_one (turn f fate a e) bad) ph)
      (again_count laws u s₀ dsi dri x ts (turn f fate a e) q begun c C bad room)
  again_goes {x} {w} {a} {fate} {q} {begun} {given} ts f e c ph C bad room spoilt =
      in_phase (keeps_spoilt u s₀ dsi dri c (badness (turn f fate a e)) (bad_one (turn f fate a e) bad) ph)
      (again_count laws u s₀ dsi dri x ts (turn f fate a e) q begun c C bad room)
  again_goes {x} {w} {a} {fate} {q} {begun} {given} ts f e c ph C bad room whole =
      again_whole c (turn f fate a e ∷ ts)
      (let h = missing_most fate in let b = bad_one (turn f fate a e) bad in omega arith) ph
      (again_count laws u s₀ dsi dri x ts (turn f fate a e) q begun c C bad room)

  -- the card asks for a wait, or answers
  asks_goes : (win m : Bool) (g : List ℕ) (o : Owed) (l : Sent) (n : Bool) (p r : List ℕ) (fr rp wt i st : ℕ) (y : Cause) (came : Bool) (k mu : ℕ) (f : List ℕ) (q : Bool) (c : List ℕ) (cs : List (List ℕ)) (ts : List Turn)
      → IsCommand c
      → more r ≡ false
      → 1 ≤ mu
      → mu ≤ 59
      → wt + k ≤ waits_for u s₀ c cs + bad_turns ts
      → Count u s₀ (ex n p r [] fr rp wt i y st came) ts f q (c ∷ cs)
      → BusyInv u s₀ (past_by (c ∷ cs) (c ∷ cs) ts f whole (crossing (world (at busy (link_at u s₀ dsi dri) (ex n p r [] fr rp wt i y st came))
      (asks_or_answers (up u s₀ win dsi dri m g o l) (moved u.app s₀ (c ∷ cs)) n (cid u s₀) k mu (answer_to u s₀ c cs)).card
      (asks_or_answers (up u s₀ win dsi dri m g o l) (moved u.app s₀ (c ∷ cs)) n (cid u s₀) k mu (answer_to u s₀ c cs)).state
      (asks_or_answers (up u s₀ win dsi dri m g o l) (moved u.app s₀ (c ∷ cs)) n (cid u s₀) k mu (answer_to u s₀ c cs)).answer) not_given))
  asks_goes win m g o l n p r fr rp wt i st y came k mu f q c cs ts ok nr lo hi few C = go (eqb k 0) refl
    where
      asked : Bool → CardMove S
      asked b =
          cond b (sends_answer (up u s₀ win dsi dri m g o l) (moved u.app s₀ (c ∷ cs)) n (cid u s₀) (answer_to u s₀ c cs))
          (sends (up u s₀ win dsi dri m g o l) (moved u.app s₀ (c ∷ cs)) n [] (owes_waits k mu (answer_to u s₀ c cs)) (wait mu 0 (cid u s₀)))

      go : (b : Bool) → eqb k 0 ≡ b
          → BusyInv u s₀ (past_by (c ∷ cs) (c ∷ cs) ts f whole (crossing (world (at busy (link_at u s₀ dsi dri) (ex n p r [] fr rp wt i y st came)) (asked b).card (asked b).state (asked b).answer) not_given))
      go true e =
          in_phase (answering (answer_to u s₀ c cs) ok nr refl (let h = keeps.answer_low (moved u.app s₀ cs) c ok in omega arith) sounds) C
      go false e =
          in_phase (waiting ok nr (let h = eqb-false k 0 e in omega arith) lo hi (omega arith) sounds) C

  -- the application is given a command
  gives_goes : (win m : Bool) (p r g : List ℕ) (l : Sent) (fr rp i st : ℕ) (y : Cause) (f : List ℕ) (q : Bool) (c : List ℕ) (cs : List (List ℕ)) (ts : List Turn)
      → IsCommand c
      → more r ≡ false
      → Count u s₀ (ex (not m) p r [] fr rp 0 i y st false) ts f q (c ∷ cs)
      → BusyInv u s₀ (past_by (c ∷ cs) cs ts f whole (crossed (at busy (link_at u s₀ dsi dri) (ex (not m) p r [] fr rp 0 i y st false)) (gives u.app (up u s₀ win dsi dri m g owes_nothing l) (moved u.app s₀ cs) (not m) (cid u s₀) c)))
  gives_goes win m p r g l fr rp i st y f q c cs ts ok nr C =
      asks_goes win m g owes_nothing l (not m) p r fr rp 0 i st y false (u.app.waits (moved u.app s₀ cs) c)
      (u.app.multiplier (moved u.app s₀ cs) c) f q c cs ts ok nr (keeps.multiplier_low (moved u.app s₀ cs) c ok)
      (keeps.multiplier_high (moved u.app s₀ cs) c ok) (omega arith) C

  -- a part of the command
  pub part_goes : (win m : Bool) (g p r : List ℕ) (l : Sent) (fr rp i st : ℕ) (y : Cause) (c : List ℕ) (cs : List (List ℕ)) (ts : List Turn)
      → g ++ (p ++ r) ≡ c
      → IsCommand c
      → 0 < length p
      → length p ≤ room_to u s₀
      → Count u s₀ (ex (not m) p r [] fr rp 0 i y st false) ts (frame_of (i_block (more r) (not m) (cid u s₀) p)) false (c ∷ cs)
      → (fate : Fate)
      → Goes (ex (not m) p r [] fr rp 0 i y st false) (up u s₀ win dsi dri m g owes_nothing l) (i_block (more r) (not m) (cid u s₀) p) (c ∷ cs) cs ts fate
  part_goes win m g p r l fr rp i st y c cs ts cut ok lo hi C lost = in_phase (behind cut ok lo hi (unheard by_loss)) C
  part_goes win m g p r l fr rp i st y c cs ts cut ok lo hi C spoilt = in_phase (behind cut ok lo hi (unheard by_spoiling)) C
  part_goes win m g p r l fr rp i st y c cs ts cut ok lo hi C whole = go (more r) refl
    where
      few : length (g ++ p) ≤ longest_command
      few = fits_command g p r c cut ok

      go : (b : Bool) → more r ≡ b → Goes (ex (not m) p r [] fr rp 0 i y st false) (up u s₀ win dsi dri m g owes_nothing l) (i_block (more r) (not m) (cid u s₀) p) (c ∷ cs) cs ts whole
      go true e =
          on_whole _ win m g owes_nothing l (i_block (more r) (not m) (cid u s₀) p) (c ∷ cs) cs ts _
          (to_i laws u s₀ G (more r) (not m) p lo hi)
          (ap (λ k. on_block u.app (up u s₀ win dsi dri m g owes_nothing l) (moved u.app s₀ cs) (i_block k (not m) (cid u s₀) p)) e
          ∙ at_chaining u s₀ G win dsi dri m (moved u.app s₀ cs) g p l (not m) few)
          (in_phase (part_taken (append_assoc g p r ∙ cut) ok e sounds) C)
      go false e =
          on_whole _ win m g owes_nothing l (i_block (more r) (not m) (cid u s₀) p) (c ∷ cs) cs ts _
          (to_i laws u s₀ G (more r) (not m) p lo hi)
          (ap (λ k. on_block u.app (up u s₀ win dsi dri m g owes_nothing l) (moved u.app s₀ cs) (i_block k (not m) (cid u s₀) p)) e
          ∙ (at_last u s₀ G win dsi dri m (moved u.app s₀ cs) g p l (not m) few
          ∙ ap (λ (k : List ℕ). gives u.app (up u s₀ win dsi dri m g owes_nothing l) (moved u.app s₀ cs) (not m) (cid u s₀) k) all))
          (gives_goes win m p r g l fr rp i st y _ false c cs ts ok e C)
        where
          all : g ++ p ≡ c
          all = ap (λ (k : List ℕ). g ++ k) (sym (append-nil p) ∙ ap (λ (k : List ℕ). p ++ k) (sym (more_nil r e))) ∙ cut

  -- a wait that is granted
  pub wait_goes : (win m : Bool) (p r : List ℕ) (fr rp wt i st : ℕ) (y : Cause) (came : Bool) (k mu : ℕ) (c : List ℕ) (cs : List (List ℕ)) (ts : List Turn)
      → IsCommand c
      → more r ≡ false
      → 1 ≤ k
      → 1 ≤ mu
      → mu ≤ 59
      → wt + k ≤ waits_for u s₀ c cs + bad_turns ts
      → Count u s₀ (granted mu (ex m p r [] fr rp wt i y st came)) ts (frame_of (wait mu 0 (cid u s₀))) false (c ∷ cs)
      → (fate : Fate)
      → Goes (granted mu (ex m p r [] fr rp wt i y st came)) (up u s₀ win dsi dri m [] (owes_waits k mu (answer_to u s₀ c cs)) (sent (wait mu 0 (cid u s₀)))) (wait mu 0 (cid u s₀)) (c ∷ cs) (c ∷ cs) ts fate
  wait_goes win m p r fr rp wt i st y came k mu c cs ts ok nr lo one₁ top few C lost =
      in_phase (waiting ok nr lo one₁ top (omega arith) (misses by_loss)) C
  wait_goes win m p r fr rp wt i st y came k mu c cs ts ok nr lo one₁ top few C spoilt =
      in_phase (waiting ok nr lo one₁ top (omega arith) (misses by_spoiling)) C
  wait_goes win m p r fr rp wt i st y came k mu c cs ts ok nr lo one₁ top few C whole =
      on_whole _ win m [] (owes_waits k mu (answer_to u s₀ c cs)) (sent (wait mu 0 (cid u s₀))) (wait mu 0 (cid u s₀)) (c ∷ cs) (c ∷ cs) ts _
      (to_wait laws u s₀ G mu one₁ top)
      (at_granted u s₀ G win dsi dri m (moved u.app s₀ (c ∷ cs)) k mu (answer_to u s₀ c cs) (sent (wait mu 0 (cid u s₀)))
      ∙ asks_nothing (up u s₀ win dsi dri m [] (owes_waits k mu (answer_to u s₀ c cs)) (sent (wait mu 0 (cid u s₀)))) (moved u.app s₀ (c ∷ cs)) m (cid u s₀) (k - 1) mu (answer_to u s₀ c cs))
      (asks_goes win m [] (owes_waits k mu (answer_to u s₀ c cs)) (sent (wait mu 0 (cid u s₀))) m p r fr rp (wt + 1) i mu y _ (k - 1) mu _ false c cs ts ok nr one₁ top (omega arith) C)

  -- R(ACK) to a block of the answer
  pub ack_goes : (win m : Bool) (p r ga : List ℕ) (l : Sent) (fr rp wt : ℕ) (info ahead : List ℕ) (c : List ℕ) (cs : List (List ℕ)) (ts : List Turn)
      → IsCommand c
      → more r ≡ false
      → (ga ++ info) ++ ahead ≡ answer_to u s₀ c cs
      → 0 < length ahead
      → more (ga ++ info) ≡ true
      → Count u s₀ (ex (not m) p r (ga ++ info) fr rp wt 0 no_cause 0 true) ts (frame_of (ack_of u s₀ (not m))) false (c ∷ cs)
      → (fate : Fate)
      → Goes (ex (not m) p r (ga ++ info) fr rp wt 0 no_cause 0 true) (up u s₀ win dsi dri m [] (owes_rest ahead) l) (ack_of u s₀ (not m)) (c ∷ cs) (c ∷ cs) ts fate
  ack_goes win m p r ga l fr rp wt info ahead c cs ts ok nr cut pos mg C lost = in_phase (ack_missed ok nr cut pos mg by_loss) C
  ack_goes win m p r ga l fr rp wt info ahead c cs ts ok nr cut pos mg C spoilt = in_phase (ack_missed ok nr cut pos mg by_spoiling) C
  ack_goes win m p r ga l fr rp wt info ahead c cs ts ok nr cut pos mg C whole =
      on_whole _ win m [] (owes_rest ahead) l (ack_of u s₀ (not m)) (c ∷ cs) (c ∷ cs) ts _ (to_r laws u s₀ G false (not m))
      (at_next u s₀ G win dsi dri m (moved u.app s₀ (c ∷ cs)) [] ahead l) (in_phase (answering ahead ok nr cut pos sounds) C)
