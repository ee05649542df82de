-- What an event does to an open exchange: nine ways, and no other.
use Rattle.std.proofs.Common.{◌≡◌, ℕ, ◌+◌, ◌<◌, ◌≤◌, Bool, true, false, cond, not, ltb, leb, List, [], ◌∷◌, ◌++◌, length, take, drop, refl, ap, arith}
use Rattle.std.proofs.lemmas.List.{length-append, length-take}
use Rattle.std.proofs.lemmas.Bool.{ltb-true, ltb-false, le-leb}
use Rattle.applications.specs.App.{IsCommand, Keeps, longest_answer}
use Rattle.frames.specs.Blocks.{Block, wait, frame_of}
use Rattle.frames.specs.Causes.{Cause}
use Rattle.frames.specs.Laws.{Takes}
use Rattle.frames.specs.Reading.{Agreed, Reading, valid, invalid}
use Rattle.frames.specs.Sizes.{size_of}
use Rattle.protocol.specs.Card.{Awake, owes_nothing, owes_waits, Sent, sent, Reply, reply, answer_block, owed_after}
use Rattle.protocol.specs.Field.{Setup, Fate, whole, moved}
use Rattle.protocol.specs.Reader.{Exchange, Event, bytes, Move, more, read_as, agreed_of, on_reading, on_answer, writes, ends, to, idle, answered, done, repeated, rewritten, next_part, granted, appended, completed, shown, ask_again, part_block, wait_block, ack_block, spent, waits_spent}
use Rattle.protocol.specs.Turns.{Turn, is_bad, bad_turns}
use Rattle.protocol.proofs.Basics.{same_self, same_not, take_pos, take_few}
use Rattle.protocol.proofs.Ends.{takes_r, takes_wait, takes_i_lem}
use Rattle.protocol.proofs.Ground.{Ground}
use Rattle.protocol.proofs.Hearing.{NoGood, CanHear, turn, Heard, amiss, well, hear_echo, hear_nothing}
use Rattle.protocol.proofs.Phases.{by_loss, by_spoiling, Missed, sounds, misses, missing, ex, cid, room_to, room_from, link_at, up, answer_to, waits_for, ack_of, unheard, acked, Phase, behind, part_taken, waiting, answering, ack_missed}
use Rattle.protocol.proofs.Rests.{Laws}

module _ {S : Type 0} (u : Setup S) (s₀ : S) where
  pub data Turned (dsi dri : ℕ) (ts : List Turn) (f : List ℕ) : Exchange → Awake → Reply → Fate → Bool → List (List ℕ) → List (List ℕ) → Event → Move → Type 0 where
    -- nothing good was heard: ask again
    again : {x : Exchange} {w : Awake} {a : Reply} {fate : Fate} {q : Bool} {begun given : List (List ℕ)} {e : Event}
        → Phase u s₀ dsi dri x w a fate q (bad_turns ts) begun given
        → (c : Cause)
        → NoGood e
        → is_bad (turn f fate a e) ≡ true
        → x.since < u.reader.repeats
        → Turned dsi dri ts f x w a fate q begun given e (writes (link_at u s₀ dsi dri) (repeated c x) (ask_again (link_at u s₀ dsi dri) x))
    -- nothing good was heard, and no repeat is left
    spends : {x : Exchange} {w : Awake} {a : Reply} {fate : Fate} {q : Bool} {begun given : List (List ℕ)} {e : Event}
        → Phase u s₀ dsi dri x w a fate q (bad_turns ts) begun given
        → (c : Cause)
        → NoGood e
        → is_bad (turn f fate a e) ≡ true
        → u.reader.repeats ≤ x.since
        → Turned dsi dri ts f x w a fate q begun given e (ends (link_at u s₀ dsi dri) x (spent c))
    -- the card is behind: the part again
    rewrites : {win m : Bool} {g p r : List ℕ} {l : Sent} {fr rp i st : ℕ} {y : Cause} {c : List ℕ} {cs : List (List ℕ)}
        → g ++ (p ++ r) ≡ c
        → IsCommand c
        → 0 < length p
        → length p ≤ room_to u s₀
        → i < u.reader.repeats
        → Turned dsi dri ts f (ex (not m) p r [] fr rp 0 i y st false) (up u s₀ win dsi dri m g owes_nothing l) (reply (frame_of (ack_of u s₀ m))) whole true (c ∷ cs) cs (bytes (frame_of (ack_of u s₀ m)))
        (writes (link_at u s₀ dsi dri) (rewritten (ex (not m) p r [] fr rp 0 i y st false)) (part_block (link_at u s₀ dsi dri) (ex (not m) p r [] fr rp 0 i y st false)))
    -- the card is behind, and no repeat is left
    leaves : {win m : Bool} {g p r : List ℕ} {l : Sent} {fr rp i st : ℕ} {y : Cause} {c : List ℕ} {cs : List (List ℕ)}
        → u.reader.repeats ≤ i
        → Turned dsi dri ts f (ex (not m) p r [] fr rp 0 i y st false) (up u s₀ win dsi dri m g owes_nothing l) (reply (frame_of (ack_of u s₀ m))) whole true (c ∷ cs) cs (bytes (frame_of (ack_of u s₀ m)))
        (ends (link_at u s₀ dsi dri) (shown true false (ex (not m) p r [] fr rp 0 i y st false)) (spent y))
    -- the part was taken: the next one
    advances : {win m : Bool} {g p r : List ℕ} {fr rp i st : ℕ} {y : Cause} {q : Bool} {c : List ℕ} {cs : List (List ℕ)}
        → g ++ r ≡ c
        → IsCommand c
        → more r ≡ true
        → Turned dsi dri ts f (ex m p r [] fr rp 0 i y st false) (up u s₀ win dsi dri m g owes_nothing (sent (ack_of u s₀ m))) (reply (frame_of (ack_of u s₀ m))) whole q (c ∷ cs) cs (bytes (frame_of (ack_of u s₀ m)))
        (writes (link_at u s₀ dsi dri) (next_part (room_to u s₀) (ex m p r [] fr rp 0 i y st false))
        (part_block (link_at u s₀ dsi dri) (next_part (room_to u s₀) (ex m p r [] fr rp 0 i y st false))))
    -- a wait is granted
    grants : {win m : Bool} {p r : List ℕ} {fr rp wt i st k mu : ℕ} {y : Cause} {came : Bool} {q : Bool} {c : List ℕ} {cs : List (List ℕ)}
        → IsCommand c
        → more r ≡ false
        → 1 ≤ k
        → 1 ≤ mu
        → mu ≤ 59
        → wt + k ≤ waits_for u s₀ c cs + bad_turns ts + missing whole
        → wt < u.reader.waits
        → Turned dsi dri ts f (ex m p r [] fr rp wt i y st came) (up u s₀ win dsi dri m [] (owes_waits k mu (answer_to u s₀ c cs)) (sent (wait mu 0 (cid u s₀)))) (reply (frame_of (wait mu 0 (cid u s₀)))) whole q (c ∷ cs) (c ∷ cs) (bytes (frame_of (wait mu 0 (cid u s₀))))
        (writes (link_at u s₀ dsi dri) (granted mu (ex m p r [] fr rp wt i y st came)) (wait_block (link_at u s₀ dsi dri) mu))
    -- one wait too many
    tires : {win m : Bool} {p r : List ℕ} {fr rp wt i st k mu : ℕ} {y : Cause} {came : Bool} {q : Bool} {c : List ℕ} {cs : List (List ℕ)}
        → more r ≡ false
        → 1 ≤ k
        → wt + k ≤ waits_for u s₀ c cs + bad_turns ts + missing whole
        → u.reader.waits ≤ wt
        → Turned dsi dri ts f (ex m p r [] fr rp wt i y st came) (up u s₀ win dsi dri m [] (owes_waits k mu (answer_to u s₀ c cs)) (sent (wait mu 0 (cid u s₀)))) (reply (frame_of (wait mu 0 (cid u s₀)))) whole q (c ∷ cs) (c ∷ cs) (bytes (frame_of (wait mu 0 (cid u s₀))))
        (ends (link_at u s₀ dsi dri) (shown false (not (more r)) (ex m p r [] fr rp wt i y st came)) waits_spent)
    -- a block of the answer, with more to come
    appends : {win m : Bool} {p r ga : List ℕ} {fr rp wt i st : ℕ} {y : Cause} {came : Bool} {q : Bool} {c : List ℕ} {cs : List (List ℕ)}
        → (ahead : List ℕ)
        → IsCommand c
        → more r ≡ false
        → ga ++ ahead ≡ answer_to u s₀ c cs
        → more (drop (room_from u s₀) ahead) ≡ true
        → Turned dsi dri ts f (ex m p r ga fr rp wt i y st came) (up u s₀ win dsi dri m [] (owed_after (room_from u s₀) ahead) (sent (answer_block (room_from u s₀) m (cid u s₀) ahead))) (reply (frame_of (answer_block (room_from u s₀) m (cid u s₀) ahead))) whole q (c ∷ cs) (c ∷ cs) (bytes (frame_of (answer_block (room_from u s₀) m (cid u s₀) ahead)))
        (writes (link_at u s₀ dsi dri) (appended (take (room_from u s₀) ahead) (ex m p r ga fr rp wt i y st came))
        (ack_block (link_at u s₀ dsi dri) (appended (take (room_from u s₀) ahead) (ex m p r ga fr rp wt i y st came))))
    -- the last block of the answer
    completes : {win m : Bool} {p r ga : List ℕ} {fr rp wt i st : ℕ} {y : Cause} {came : Bool} {q : Bool} {c : List ℕ} {cs : List (List ℕ)}
        → (ahead : List ℕ)
        → IsCommand c
        → ga ++ ahead ≡ answer_to u s₀ c cs
        → more (drop (room_from u s₀) ahead) ≡ false
        → Turned dsi dri ts f (ex m p r ga fr rp wt i y st came) (up u s₀ win dsi dri m [] (owed_after (room_from u s₀) ahead) (sent (answer_block (room_from u s₀) m (cid u s₀) ahead))) (reply (frame_of (answer_block (room_from u s₀) m (cid u s₀) ahead))) whole q (c ∷ cs) (c ∷ cs) (bytes (frame_of (answer_block (room_from u s₀) m (cid u s₀) ahead)))
        (to idle (link_at u s₀ dsi dri) (completed (take (room_from u s₀) ahead) (ex m p r ga fr rp wt i y st came))
        (answered (length (ga ++ take (room_from u s₀) ahead)) done (ex m p r ga fr rp wt i y st came).totals))

  module _ (laws : Laws) (G : Ground u.reader u.card) (keeps : Keeps u.app) (dsi dri : ℕ) (ts : List Turn) (f : List ℕ) where
    -- what the exchange does at this reading
    abbrev reacts : Exchange → Reading → Move
    reacts x r = on_reading u.reader.repeats u.reader.waits (link_at u s₀ dsi dri) x r

    abbrev reading : Event → Reading
    reading e = read_as (size_of u.reader.fsdi) (agreed_of (cid u s₀)) e

    bad_event : {x : Exchange} {w : Awake} {a : Reply} {fate : Fate} {q : Bool} {begun given : List (List ℕ)} {e : Event}
        → Phase u s₀ dsi dri x w a fate q (bad_turns ts) begun given
        → (c : Cause)
        → NoGood e
        → is_bad (turn f fate a e) ≡ true
        → Turned dsi dri ts f x w a fate q begun given e (reacts x (invalid c))
    bad_event {x} {w} {a} {fate} {q} {begun} {given} {e} ph c ng bad = go (ltb x.since u.reader.repeats) refl
      where
        go : (b : Bool) → ltb x.since u.reader.repeats ≡ b
            → Turned dsi dri ts f x w a fate q begun given e
            (cond b (writes (link_at u s₀ dsi dri) (repeated c x) (ask_again (link_at u s₀ dsi dri) x)) (ends (link_at u s₀ dsi dri) x (spent c)))
        go true t = again ph c ng bad (ltb-true _ _ t)
        go false t = spends ph c ng bad (ltb-false _ _ t)

    big : 16 ≤ size_of u.reader.fsdi
    big = G.fsd_least

    ack_taken : (m : Bool) → Takes (size_of u.reader.fsdi) (agreed_of (cid u s₀)) (ack_of u s₀ m)
    ack_taken m =
        takes_r laws u.card u.reader.cid (cid u s₀) G.fitting (size_of u.reader.fsdi) big (agreed_of (cid u s₀))
        G.fitting.reader_agrees false m

    wait_taken : (mu : ℕ) → 1 ≤ mu → mu ≤ 59 → Takes (size_of u.reader.fsdi) (agreed_of (cid u s₀)) (wait mu 0 (cid u s₀))
    wait_taken mu lo hi =
        takes_wait laws u.card u.reader.cid (cid u s₀) G.fitting (size_of u.reader.fsdi) big
        (agreed_of (cid u s₀)) G.fitting.reader_agrees mu lo hi

    answer_taken : (m : Bool) (ahead : List ℕ) → 0 < length ahead → Takes (size_of u.reader.fsdi) (agreed_of (cid u s₀)) (answer_block (room_from u s₀) m (cid u s₀) ahead)
    answer_taken m ahead pos =
        takes_i_lem laws u.card u.reader.cid (cid u s₀) G.fitting (size_of u.reader.fsdi) big (agreed_of (cid u s₀))
        G.fitting.reader_agrees (more (drop (room_from u s₀) ahead)) m (take (room_from u s₀) ahead)
        (take_pos (room_from u s₀) ahead (G.fitting.room_pos (size_of u.reader.fsdi) big) pos)
        (take_few (room_from u s₀) ahead)

    -- R(ACK) of the other number
    at_other : {win m : Bool} {g p r : List ℕ} {l : Sent} {fr rp i st : ℕ} {y : Cause} {c : List ℕ} {cs : List (List ℕ)}
        → g ++ (p ++ r) ≡ c
        → IsCommand c
        → 0 < length p
        → length p ≤ room_to u s₀
        → Turned dsi dri ts f (ex (not m) p r [] fr rp 0 i y st false) (up u s₀ win dsi dri m g owes_nothing l) (reply (frame_of (ack_of u s₀ m))) whole true (c ∷ cs) cs (bytes (frame_of (ack_of u s₀ m)))
        (reacts (ex (not m) p r [] fr rp 0 i y st false) (valid (ack_of u s₀ m)))
    at_other {win} {m} {g} {p} {r} {l} {fr} {rp} {i} {st} {y} {c} {cs} cut ok lo hi =
        rw (same_not m) (go (ltb i u.reader.repeats) refl)
      where
        go : (b : Bool) → ltb i u.reader.repeats ≡ b
            → Turned dsi dri ts f (ex (not m) p r [] fr rp 0 i y st false) (up u s₀ win dsi dri m g owes_nothing l) (reply (frame_of (ack_of u s₀ m))) whole true (c ∷ cs) cs (bytes (frame_of (ack_of u s₀ m)))
            (cond b (writes (link_at u s₀ dsi dri) (rewritten (ex (not m) p r [] fr rp 0 i y st false)) (part_block (link_at u s₀ dsi dri) (ex (not m) p r [] fr rp 0 i y st false)))
            (ends (link_at u s₀ dsi dri) (shown true false (ex (not m) p r [] fr rp 0 i y st false)) (spent y)))
        go true t = rewrites cut ok lo hi (ltb-true _ _ t)
        go false t = leaves (ltb-false _ _ t)

    -- a wait
    at_wait : {win m : Bool} {p r : List ℕ} {fr rp wt i st k mu : ℕ} {y : Cause} {came : Bool} {q : Bool} {c : List ℕ} {cs : List (List ℕ)}
        → IsCommand c
        → more r ≡ false
        → 1 ≤ k
        → 1 ≤ mu
        → mu ≤ 59
        → wt + k ≤ waits_for u s₀ c cs + bad_turns ts + missing whole
        → Turned dsi dri ts f (ex m p r [] fr rp wt i y st came) (up u s₀ win dsi dri m [] (owes_waits k mu (answer_to u s₀ c cs)) (sent (wait mu 0 (cid u s₀)))) (reply (frame_of (wait mu 0 (cid u s₀)))) whole q (c ∷ cs) (c ∷ cs) (bytes (frame_of (wait mu 0 (cid u s₀))))
        (reacts (ex m p r [] fr rp wt i y st came) (valid (wait mu 0 (cid u s₀))))
    at_wait {win} {m} {p} {r} {fr} {rp} {wt} {i} {st} {k} {mu} {y} {came} {q} {c} {cs} ok nr lo one₁ top few = go (ltb wt u.reader.waits) refl
      where
        go : (b : Bool) → ltb wt u.reader.waits ≡ b
            → Turned dsi dri ts f (ex m p r [] fr rp wt i y st came) (up u s₀ win dsi dri m [] (owes_waits k mu (answer_to u s₀ c cs)) (sent (wait mu 0 (cid u s₀)))) (reply (frame_of (wait mu 0 (cid u s₀)))) whole q (c ∷ cs) (c ∷ cs) (bytes (frame_of (wait mu 0 (cid u s₀))))
            (cond b (writes (link_at u s₀ dsi dri) (granted mu (ex m p r [] fr rp wt i y st came)) (wait_block (link_at u s₀ dsi dri) mu))
            (ends (link_at u s₀ dsi dri) (shown false (not (more r)) (ex m p r [] fr rp wt i y st came)) waits_spent))
        go true t = grants ok nr lo one₁ top few (ltb-true _ _ t)
        go false t = tires nr lo few (ltb-false _ _ t)

    -- a block of the answer is never too long
    not_long : (ga ahead c : List ℕ) (cs : List (List ℕ)) → IsCommand c → ga ++ ahead ≡ answer_to u s₀ c cs → leb (length (ga ++ take (room_from u s₀) ahead)) longest_answer ≡ true
    not_long ga ahead c cs ok cut =
        le-leb _ _
        (let high = keeps.answer_high (moved u.app s₀ cs) c ok in
        let e = ap length cut in
        let a = length-append ga ahead in
        let b = length-append ga (take (room_from u s₀) ahead) in
        let t = length-take (room_from u s₀) ahead in
        omega arith)

    at_answer : {win m : Bool} {p r ga : List ℕ} {fr rp wt i st : ℕ} {y : Cause} {came : Bool} {q : Bool} {c : List ℕ} {cs : List (List ℕ)}
        → (ahead : List ℕ)
        → IsCommand c
        → more r ≡ false
        → ga ++ ahead ≡ answer_to u s₀ c cs
        → Turned dsi dri ts f (ex m p r ga fr rp wt i y st came) (up u s₀ win dsi dri m [] (owed_after (room_from u s₀) ahead) (sent (answer_block (room_from u s₀) m (cid u s₀) ahead))) (reply (frame_of (answer_block (room_from u s₀) m (cid u s₀) ahead))) whole q (c ∷ cs) (c ∷ cs) (bytes (frame_of (answer_block (room_from u s₀) m (cid u s₀) ahead)))
        (reacts (ex m p r ga fr rp wt i y st came) (valid (answer_block (room_from u s₀) m (cid u s₀) ahead)))
    at_answer {win} {m} {p} {r} {ga} {fr} {rp} {wt} {i} {st} {y} {came} {q} {c} {cs} ahead ok nr cut =
        rw (same_self m, nr, not_long ga ahead c cs ok cut) (go (more (drop (room_from u s₀) ahead)) refl)
      where
        go : (b : Bool) → more (drop (room_from u s₀) ahead) ≡ b
            → Turned dsi dri ts f (ex m p r ga fr rp wt i y st came) (up u s₀ win dsi dri m [] (owed_after (room_from u s₀) ahead) (sent (answer_block (room_from u s₀) m (cid u s₀) ahead))) (reply (frame_of (answer_block (room_from u s₀) m (cid u s₀) ahead))) whole q (c ∷ cs) (c ∷ cs) (bytes (frame_of (answer_block (room_from u s₀) m (cid u s₀) ahead)))
            (on_answer u.reader.repeats u.reader.waits (link_at u s₀ dsi dri) (ex m p r ga fr rp wt i y st came) b (take (room_from u s₀) ahead))
        go true t = appends ahead ok nr cut t
        go false t = completes ahead ok cut t

    from_missed : {x : Exchange} {w : Awake} {a : Reply} {fate : Fate} {q : Bool} {begun given : List (List ℕ)} {b : Block} {e : Event} {r : Reading}
        → Missed fate a
        → Phase u s₀ dsi dri x w a fate q (bad_turns ts) begun given
        → Heard b f fate a e r
        → Turned dsi dri ts f x w a fate q begun given e (reacts x r)
    from_missed by_loss ph (amiss c ng bad) = bad_event ph c ng bad
    from_missed by_spoiling ph (amiss c ng bad) = bad_event ph c ng bad

    from_sounds : {x : Exchange} {w : Awake} {q : Bool} {begun given : List (List ℕ)} {b : Block} {h : List ℕ} {e : Event} {r : Reading}
        → Phase u s₀ dsi dri x w (reply h) whole q (bad_turns ts) begun given
        → Turned dsi dri ts f x w (reply h) whole q begun given (bytes h) (reacts x (valid b))
        → Heard b f whole (reply h) e r
        → Turned dsi dri ts f x w (reply h) whole q begun given e (reacts x r)
    from_sounds ph good (amiss c ng bad) = bad_event ph c ng bad
    from_sounds ph good well = good

    abbrev fsd : ℕ
    fsd = size_of u.reader.fsdi

    abbrev agreed : Agreed
    agreed = agreed_of (cid u s₀)

    -- every event in every phase
    pub turns : {x : Exchange} {w : Awake} {a : Reply} {fate : Fate} {q : Bool} {begun given : List (List ℕ)}
        → Phase u s₀ dsi dri x w a fate q (bad_turns ts) begun given
        → (e : Event)
        → CanHear a e
        → Turned dsi dri ts f x w a fate q begun given e (reacts x (reading e))
    turns (behind {m = n} cut ok lo hi (unheard m)) e can =
        from_missed m (behind cut ok lo hi (unheard m)) (hear_nothing laws fsd agreed (ack_of u s₀ n) f m e can)
    turns (behind {m = n} cut ok lo hi acked) e can =
        from_sounds (behind cut ok lo hi acked) (at_other cut ok lo hi)
        (hear_echo laws fsd agreed (ack_of u s₀ n) f (ack_taken n) sounds e can)
    turns (part_taken {m = n} cut ok mr sounds) e can =
        from_sounds (part_taken cut ok mr sounds) (rw (same_self n, mr) (advances cut ok mr))
        (hear_echo laws fsd agreed (ack_of u s₀ n) f (ack_taken n) sounds e can)
    turns (part_taken {m = n} cut ok mr (misses m)) e can =
        from_missed m (part_taken cut ok mr (misses m)) (hear_nothing laws fsd agreed (ack_of u s₀ n) f m e can)
    turns (waiting {mu = v} ok nr lo one₁ top few sounds) e can =
        from_sounds (waiting ok nr lo one₁ top few sounds) (at_wait ok nr lo one₁ top few)
        (hear_echo laws fsd agreed (wait v 0 (cid u s₀)) f (wait_taken v one₁ top) sounds e can)
    turns (waiting {mu = v} ok nr lo one₁ top few (misses m)) e can =
        from_missed m (waiting ok nr lo one₁ top few (misses m)) (hear_nothing laws fsd agreed (wait v 0 (cid u s₀)) f m e can)
    turns (answering {m = n} ahead ok nr cut pos sounds) e can =
        from_sounds (answering ahead ok nr cut pos sounds) (at_answer ahead ok nr cut)
        (hear_echo laws fsd agreed (answer_block (room_from u s₀) n (cid u s₀) ahead) f (answer_taken n ahead pos) sounds e can)
    turns (answering {m = n} ahead ok nr cut pos (misses m)) e can =
        from_missed m (answering ahead ok nr cut pos (misses m))
        (hear_nothing laws fsd agreed (answer_block (room_from u s₀) n (cid u s₀) ahead) f m e can)
    turns (ack_missed {m = n} ok nr cut pos ma m) e can =
        from_missed m (ack_missed ok nr cut pos ma m) (hear_nothing laws fsd agreed (ack_of u s₀ n) f m e can)
