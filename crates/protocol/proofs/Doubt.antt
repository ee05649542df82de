-- Where the reader is in doubt there are two runs of its view, one with the command given and one without.
use Rattle.std.proofs.Common.{◌≡◌, ℕ, suc, ◌<◌, ◌≤◌, Bool, true, false, cond, not, eqb, ltb, List, [], ◌∷◌, ◌++◌, length, sym, refl, ap, ◌∙◌, subst, inr, arith}
use Rattle.std.proofs.lemmas.Bool.{false≢true, true≢false, ne_eqb}
use Rattle.applications.specs.App.{longest_command}
use Rattle.frames.specs.Blocks.{Cid, i_block, deselect, frame_of}
use Rattle.frames.specs.Laws.{Noise}
use Rattle.frames.specs.Refusals.{stage_refused, buffer_refused}
use Rattle.frames.specs.Sizes.{greatest_frame}
use Rattle.protocol.specs.Card.{on_block, Card, asleep, awake, halted, owes_nothing, Sent, Reply, quiet, reply, Given, not_given, given, CardMove, remains}
use Rattle.protocol.specs.Field.{turned_down, made, call_number, Setup, World, world, Crossing, crossing, crosses, arrives, taken, Fate, whole, lost, spoilt, Step, after, accepted, move_of, noted, command_in, CanCome, IsRun, seen_of, view_of}
use Rattle.protocol.specs.Reader.{Reader, closing, busy, at, Exchange, Call, ask, rate, start, begin, heard, silent, give_up, close, fetch, bytes, Outcome, refused, wrote, wakes, active, answered, over, stopped, off, unanswered, fetched, Move, refuse, guarded, do_call, hear, is_at, listens, more}
use Rattle.protocol.specs.Settings.{ReaderSettings}
use Rattle.protocol.proofs.Arrival.{arrive_whole, to_i, to_deselect}
use Rattle.protocol.proofs.Ground.{Ground}
use Rattle.protocol.proofs.Invariant.{Up, stands, is_off}
use Rattle.protocol.proofs.Past.{Past, past_of, past_step, past_in, refused_same}
use Rattle.protocol.proofs.Phases.{cid, room_to, link_at, up}
use Rattle.protocol.proofs.Reactions.{at_last}
use Rattle.protocol.proofs.Rests.{Laws}
use Rattle.protocol.proofs.Steps.{cond_same}
use Rattle.protocol.proofs.Views.{taken_hear, kept_call, same_reader, crosses-reader}

-- the latest command was given
abbrev pub given_of : {S : Type 0} → Past S → Bool
given_of p = eqb (length p.begun) (length p.given)

abbrev pub is_halted : Card → Bool
is_halted asleep = false
is_halted (awake w) = false
is_halted halted = true

-- while a session closes, its card answers in both runs alike
abbrev pub Alike : {S : Type 0} → Past S → Past S → Type 0
Alike p q = is_at closing p.now.reader ≡ true → (p.now.answer ≡ q.now.answer) × (is_halted p.now.card ≡ is_halted q.now.card)

-- a run of the same view in which the latest command was given, or not
pub record Twin {S : Type 0} (u : Setup S) (s₀ : S) (run : List Step) (truth : Bool) : Type 0 where
  pub other : List Step
  pub is_run : IsRun u s₀ other
  pub view : view_of u s₀ other ≡ view_of u s₀ run
  pub truth_is : given_of (past_in u s₀ other) ≡ truth
  pub alike : Alike (past_in u s₀ run) (past_in u s₀ other)

abbrev pub Twins : {S : Type 0} → Setup S → S → List Step → Type 0
Twins u s₀ run = Twin u s₀ run false × Twin u s₀ run true

pub suc_apart : (n : ℕ) → eqb (suc n) n ≡ false
suc_apart n = ne_eqb (suc n) n (λ e. omega arith)

-- a lost frame gives no command, nor does a call that writes none
lost_gives : {S : Type 0} (u : Setup S) (w : World S) (r : Reader) (o : Outcome) → (crosses u w r o lost).command ≡ not_given
lost_gives u w r (refused n) = refl
lost_gives u w r (wrote f t) = refl
lost_gives u w r (wakes a) = refl
lost_gives u w r active = refl
lost_gives u w r (answered n s t) = refl
lost_gives u w r (over e s t) = refl
lost_gives u w r (stopped s t) = refl
lost_gives u w r off = refl
lost_gives u w r unanswered = refl
lost_gives u w r (fetched a) = refl

-- a call that gives nothing and begins nothing leaves the truth
pub truth_kept : {S : Type 0} (u : Setup S) (p : Past S) (st : Step) → command_in st.call ≡ not_given → (crosses u p.now (move_of u p.now st.call).reader (move_of u p.now st.call).outcome st.fate).command ≡ not_given → given_of (past_step u p st) ≡ given_of p
truth_kept u p st nb ng =
    ap (λ (k : List (List ℕ)). eqb (length k) (length (past_step u p st).given))
    (ap (λ (c : Given). cond (accepted (move_of u p.now st.call).outcome) (noted c p.begun) p.begun) nb ∙ cond_same (accepted (move_of u p.now st.call).outcome) p.begun)
    ∙ ap (λ (c : Given). eqb (length p.begun) (length (noted c p.given))) ng

-- what a test lets through
pub guarded_taken : (b : Bool) (room least : ℕ) (r : Reader) (m : Move) → accepted (guarded b room least r m).outcome ≡ true → (b ≡ true) × (guarded b room least r m ≡ m)
guarded_taken true room least r m = go (ltb room least)
  where
    go : (b : Bool) → accepted (cond b (refuse buffer_refused r) m).outcome ≡ true → (true ≡ true) × (cond b (refuse buffer_refused r) m ≡ m)
    go true e = absurd (false≢true e)
    go false e = (refl, refl)
guarded_taken false room least r m = λ e. absurd (false≢true e)

pub test_taken : (b : Bool) (n : ℕ) (r : Reader) (m : Move) → accepted (cond b m (refuse n r)).outcome ≡ true → (b ≡ true) × (cond b m (refuse n r) ≡ m)
test_taken true n r m e = (refl, refl)
test_taken false n r m e = absurd (false≢true e)

refusal : (o : Outcome) → accepted o ≡ false → (n : ℕ) × (o ≡ refused n)
refusal (refused n) e = (n, refl)
refusal (wrote f t) e = absurd (true≢false e)
refusal (wakes a) e = absurd (true≢false e)
refusal active e = absurd (true≢false e)
refusal (answered n s t) e = absurd (true≢false e)
refusal (over x s t) e = absurd (true≢false e)
refusal (stopped s t) e = absurd (true≢false e)
refusal off e = absurd (true≢false e)
refusal unanswered e = absurd (true≢false e)
refusal (fetched a) e = absurd (true≢false e)

-- a refused call leaves the past
pub refused_past : {S : Type 0} (u : Setup S) (p : Past S) (st : Step) → accepted (move_of u p.now st.call).outcome ≡ false → past_step u p st ≡ p
refused_past u p st e =
    let n = refusal (move_of u p.now st.call).outcome e in
    ap (past_of u p st) (λ i. record { reader = kept_call u.reader p.now.reader st.call e i; outcome = n.1 i })
    ∙ refused_same u p st n.0

-- a refused call could have been handed any bytes
abbrev relaxed : Call → Call
relaxed (ask room) = ask room
relaxed (rate dsi dri room) = rate dsi dri room
relaxed start = start
relaxed (begin c room) = begin c room
relaxed (heard f room) = heard [] room
relaxed (silent room) = silent room
relaxed give_up = give_up
relaxed (close room) = close room
relaxed (fetch room) = fetch room

relaxed_move : (s : ReaderSettings) (r : Reader) (c : Call) → accepted (do_call s r c).outcome ≡ false → do_call s r (relaxed c) ≡ do_call s r c
relaxed_move s r (ask room) e = refl
relaxed_move s r (rate dsi dri room) e = refl
relaxed_move s r start e = refl
relaxed_move s r (begin c room) e = refl
relaxed_move s r (heard f room) e = go (listens r) refl (ltb room greatest_frame) e
  where
    go : (b : Bool) → listens r ≡ b → (t : Bool)
        → accepted (cond b (cond t (refuse buffer_refused r) (hear s r.stage r (bytes f))) (refuse stage_refused r)).outcome ≡ false
        → cond b (cond t (refuse buffer_refused r) (hear s r.stage r (bytes []))) (refuse stage_refused r) ≡ cond b (cond t (refuse buffer_refused r) (hear s r.stage r (bytes f))) (refuse stage_refused r)
    go true l true h = refl
    go true l false h = absurd (true≢false (sym (taken_hear s r.stage r (bytes f) l) ∙ h))
    go false l t h = refl
relaxed_move s r (silent room) e = refl
relaxed_move s r give_up e = refl
relaxed_move s r (close room) e = refl
relaxed_move s r (fetch room) e = refl

relaxed_number : (c : Call) → call_number (relaxed c) ≡ call_number c
relaxed_number (ask room) = refl
relaxed_number (rate dsi dri room) = refl
relaxed_number start = refl
relaxed_number (begin c room) = refl
relaxed_number (heard f room) = refl
relaxed_number (silent room) = refl
relaxed_number give_up = refl
relaxed_number (close room) = refl
relaxed_number (fetch room) = refl

-- nothing at all is noise
noise_nil : Laws → Noise []
noise_nil laws body lo e = let h = laws.two_more body in let l = ap length e in omega arith

relaxed_comes : {S : Type 0} → Laws → (w : World S) (c : Call) → CanCome w (relaxed c)
relaxed_comes laws w (ask room) = tt
relaxed_comes laws w (rate dsi dri room) = tt
relaxed_comes laws w start = tt
relaxed_comes laws w (begin c room) = tt
relaxed_comes laws w (heard f room) = inr (noise_nil laws)
relaxed_comes laws w (silent room) = tt
relaxed_comes laws w give_up = tt
relaxed_comes laws w (close room) = tt
relaxed_comes laws w (fetch room) = tt

seen_refused : (c d : Call) (o : Outcome) → call_number c ≡ call_number d → accepted o ≡ false → seen_of c o ≡ seen_of d o
seen_refused c d o n e =
    λ i. record { asked = (ap (λ b. cond b (made c) (turned_down (call_number c))) e ∙ (ap turned_down n ∙ sym (ap (λ b. cond b (made d) (turned_down (call_number d))) e))) i; outcome = o }

pub alike_along : {S : Type 0} (p p' q q' : Past S) → p ≡ p' → q ≡ q' → Alike p q → Alike p' q'
alike_along {S} p p' q q' e d al = subst (λ (k : Past S). Alike k q') e (subst (λ (k : Past S). Alike p k) d al)

module _ (laws : Laws) {S : Type 0} (u : Setup S) (s₀ : S) where
  -- a twin goes on with one more step
  pub extend : {run : List Step} {truth : Bool} (st : Step) (T : Twin u s₀ run truth) (c : Call) (fate : Fate)
      → CanCome (after u s₀ T.other) c
      → seen_of c (move_of u (after u s₀ T.other) c).outcome ≡ seen_of st.call (move_of u (after u s₀ run) st.call).outcome
      → given_of (past_step u (past_in u s₀ T.other) (record { call = c; fate = fate })) ≡ given_of (past_in u s₀ T.other)
      → Alike (past_step u (past_in u s₀ run) st) (past_step u (past_in u s₀ T.other) (record { call = c; fate = fate }))
      → Twin u s₀ (st ∷ run) truth
  extend st T c fate can seen same_truth al =
      record {
        other = record { call = c; fate = fate } ∷ T.other;
        is_run = (can, T.is_run);
        view = λ i. seen i ∷ T.view i;
        truth_is = same_truth ∙ T.truth_is;
        alike = al;
      }

  -- a step that does not lead to closing owes nothing more
  elsewhere : (run : List Step) (st : Step) → is_at closing (move_of u (after u s₀ run) st.call).reader ≡ false → (q : Past S) → Alike (past_step u (past_in u s₀ run) st) q
  elsewhere run st nc q h =
      absurd
      (true≢false
      (sym h
      ∙ (ap (is_at closing) (crosses-reader u (after u s₀ run) (move_of u (after u s₀ run) st.call).reader (move_of u (after u s₀ run) st.call).outcome st.fate)
      ∙ nc)))

  -- the same call, its frame lost
  pub extend_lost : {run : List Step} {truth : Bool} (st : Step) (T : Twin u s₀ run truth)
      → CanCome (after u s₀ T.other) st.call
      → command_in st.call ≡ not_given
      → is_at closing (move_of u (after u s₀ run) st.call).reader ≡ false
      → Twin u s₀ (st ∷ run) truth
  extend_lost {run} st T can nb nc =
      extend st T st.call lost can
      (ap (λ (r : Reader). seen_of st.call (do_call u.reader r st.call).outcome) (same_reader u s₀ run T.other T.view))
      (truth_kept u (past_in u s₀ T.other) (record { call = st.call; fate = lost }) nb (lost_gives u (after u s₀ T.other) _ _))
      (elsewhere run st nc (past_step u (past_in u s₀ T.other) (record { call = st.call; fate = lost })))

  -- a refused call
  pub extend_refused : {run : List Step} {truth : Bool} (st : Step) (T : Twin u s₀ run truth) → accepted (move_of u (after u s₀ run) st.call).outcome ≡ false → Twin u s₀ (st ∷ run) truth
  extend_refused {run} st T e =
      let r = same_reader u s₀ run T.other T.view in
      let e' : accepted (do_call u.reader (after u s₀ T.other).reader st.call).outcome ≡ false = ap (λ (k : Reader). accepted (do_call u.reader k st.call).outcome) r ∙ e in
      let m : do_call u.reader (after u s₀ T.other).reader (relaxed st.call) ≡ do_call u.reader (after u s₀ T.other).reader st.call = relaxed_move u.reader (after u s₀ T.other).reader st.call e' in
      let e'' : accepted (do_call u.reader (after u s₀ T.other).reader (relaxed st.call)).outcome ≡ false = ap (λ (k : Move). accepted k.outcome) m ∙ e' in
      let same-other = refused_past u (past_in u s₀ T.other) (record { call = relaxed st.call; fate = lost }) e'' in
      let same-run = refused_past u (past_in u s₀ run) st e in
      extend st T (relaxed st.call) lost (relaxed_comes laws (after u s₀ T.other) st.call)
      (ap (λ (k : Move). seen_of (relaxed st.call) k.outcome) m
      ∙ (ap (λ (k : Reader). seen_of (relaxed st.call) (do_call u.reader k st.call).outcome) r
      ∙ seen_refused (relaxed st.call) st.call (move_of u (after u s₀ run) st.call).outcome (relaxed_number st.call) e))
      (ap given_of same-other) (alike_along (past_in u s₀ run) (past_step u (past_in u s₀ run) st) (past_in u s₀ T.other) (past_step u (past_in u s₀ T.other) (record { call = relaxed st.call; fate = lost })) (sym same-run) (sym same-other) T.alike)

  -- the doubt opens where the last part is written: lost, or whole
  pub opens : {run : List Step} (st : Step)
      → IsRun u s₀ run
      → CanCome (after u s₀ run) st.call
      → is_at closing (move_of u (after u s₀ run) st.call).reader ≡ false
      → given_of (past_step u (past_in u s₀ run) (record { call = st.call; fate = lost })) ≡ false
      → given_of (past_step u (past_in u s₀ run) (record { call = st.call; fate = whole })) ≡ true
      → Twins u s₀ (st ∷ run)
  opens {run} st r can nc not_given_lem was_given_lem = (
    record { other = record { call = st.call; fate = lost } ∷ run; is_run = (can, r); view = refl; truth_is = not_given_lem; alike = elsewhere run st nc (past_in u s₀ (record { call = st.call; fate = lost } ∷ run)) },
    record { other = record { call = st.call; fate = whole } ∷ run; is_run = (can, r); view = refl; truth_is = was_given_lem; alike = elsewhere run st nc (past_in u s₀ (record { call = st.call; fate = whole } ∷ run)) },
  )

  module _ (G : Ground u.reader u.card) where
    -- a last part that arrives whole is given
    pub part_given : (x : Exchange) (win : Bool) (dsi dri : ℕ) (m : Bool) (g p r : List ℕ) (l : Sent) (s : S)
        → 0 < length p
        → length p ≤ room_to u s₀
        → length (g ++ p) ≤ longest_command
        → more r ≡ false
        → (arrives u (at busy (link_at u s₀ dsi dri) x) (awake (up u s₀ win dsi dri m g owes_nothing l)) s (frame_of (i_block (more r) (not m) (cid u s₀) p)) whole).command ≡ given (g ++ p)
    part_given x win dsi dri m g p r l s lo hi few nr =
        ap (λ (y : Crossing S). y.command) (arrive_whole laws u s₀ G busy x win dsi dri m g owes_nothing l s (i_block (more r) (not m) (cid u s₀) p) (to_i laws u s₀ G (more r) (not m) p lo hi))
        ∙ (ap (λ b. (on_block u.app (up u s₀ win dsi dri m g owes_nothing l) s (i_block b (not m) (cid u s₀) p)).command) nr
        ∙ ap (λ (v : CardMove S). v.command) (at_last u s₀ G win dsi dri m s g p l (not m) few))

    -- deselect is answered alike by cards that stand alike
    abbrev pub bye_answer : Bool → Fate → Reply
    bye_answer true fate = quiet
    bye_answer false whole = reply (frame_of (deselect (cid u s₀)))
    bye_answer false lost = quiet
    bye_answer false spoilt = quiet

    abbrev pub bye_halted : Bool → Fate → Bool
    bye_halted true fate = true
    bye_halted false whole = true
    bye_halted false lost = false
    bye_halted false spoilt = false

    pub record Bye (k : Card) (fate : Fate) (y : Crossing S) : Type 0 where
      pub answer_is : y.after.answer ≡ bye_answer (is_halted k) fate
      pub halted_is : is_halted y.after.card ≡ bye_halted (is_halted k) fate
      pub gives_none : y.command ≡ not_given

    pub byes : (dsi dri : ℕ) (x : Exchange) (k : Card) (s : S) → Up u s₀ dsi dri k → (fate : Fate) → Bye k fate (arrives u (at closing (link_at u s₀ dsi dri) x) k s (frame_of (deselect (cid u s₀))) fate)
    byes dsi dri x k s stands lost = record { answer_is = refl; halted_is = refl; gives_none = refl }
    byes dsi dri x k s is_off lost = record { answer_is = refl; halted_is = refl; gives_none = refl }
    byes dsi dri x k s stands spoilt = record { answer_is = refl; halted_is = refl; gives_none = refl }
    byes dsi dri x k s is_off spoilt = record { answer_is = refl; halted_is = refl; gives_none = refl }
    byes dsi dri x k s (stands {win} {m} {g} {o} {l}) whole =
        subst (λ (y : Crossing S). Bye (awake (up u s₀ win dsi dri m g o l)) whole y)
        (sym (arrive_whole laws u s₀ G closing x win dsi dri m g o l s (deselect (cid u s₀)) (to_deselect laws u s₀ G)))
        (record { answer_is = ap (λ (a : Cid). reply (frame_of (deselect a))) G.fitting.answered; halted_is = refl; gives_none = refl })
    byes dsi dri x k s is_off whole = go (eqb dri 0)
      where
        go : (b : Bool) → Bye halted whole (cond b (taken (at closing (link_at u s₀ dsi dri) x) halted (remains halted s quiet)) (crossing (world (at closing (link_at u s₀ dsi dri) x) halted s quiet) not_given))
        go true = record { answer_is = cond_same (eqb dsi 0) quiet; halted_is = refl; gives_none = refl }
        go false = record { answer_is = refl; halted_is = refl; gives_none = refl }
