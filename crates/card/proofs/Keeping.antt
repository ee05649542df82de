-- Whatever frame comes, a card keeps what makes its replies writable.
use Rattle.std.proofs.Common.{◌≡◌, ℕ, ◌-◌, ◌<◌, Bool, true, false, cond, not, eqb, leb, List, [], ◌++◌, length, refl, arith, length-append}
use Rattle.std.proofs.lemmas.Bool.{leb-true}
use Rattle.activation.specs.Pps.{PpsRead, pps, no_pps, offered, pps_answer}
use Rattle.activation.specs.Rats.{RatsRead, rats, no_rats, read_rats}
use Rattle.activation.proofs.ReadsRats.{reads_only_rats}
use Rattle.applications.specs.App.{App, Keeps, IsCommand, longest_command}
use Rattle.frames.specs.Blocks.{Block, i_block, r_block, deselect, wait, Cid, ValidCid, ValidBlock}
use Rattle.frames.specs.Check.{seal, Opened, opened, unopened, open_frame}
use Rattle.frames.specs.Laws.{Bytes}
use Rattle.frames.specs.Reading.{Agreed, Reading, valid, invalid, read_frame}
use Rattle.frames.specs.Sizes.{size_of}
use Rattle.frames.proofs.BlockLaws.{reads_only_its_frame}
use Rattle.protocol.specs.Card.{Awake, Card, asleep, awake, halted, Owed, owes_nothing, owes_waits, owes_rest, Sent, unsent, sent, quiet, reply, CardMove, remains, shut, turned, changed, answer_cid, card_agreed, card_room, sends, sends_answer, asks_or_answers, gives, takes_i, on_i, on_wait, sends_again, on_next, on_r, on_block, on_reading, pps_in, on_pps, on_rats, rats_in, takes}
use Rattle.protocol.specs.Reader.{same}
use Rattle.protocol.specs.Settings.{CardSettings}
use Rattle.card.specs.Fit.{Fit, FitCard, FitOwed, FitSent, FitAnswer}
use Rattle.card.proofs.FitBlocks.{answer_cid_lem, fit_r, fit_wait, fit_part, fit_behind}

fit_turned : (w : Awake) (n : Bool) (g : List ℕ) (o : Owed) (l : Sent) → Fit w → FitOwed o → FitSent l → Fit (turned w n g o l)
fit_turned w n g o l f fo fl = record { size = f.size; card = f.card; owed = fo; last = fl }

fit_shut : (w : Awake) → Fit w → Fit (shut w)
fit_shut w f = record { size = f.size; card = f.card; owed = f.owed; last = f.last }

-- one of two moves
either : {S : Type 0} (b : Bool) (x y : CardMove S) → (b ≡ true → FitCard x.card) → FitCard y.card → FitCard (cond b x y).card
either true x y p q = p refl
either false x y p q = q

module _ {S : Type 0} (w : Awake) (f : Fit w) where
  fit_answers : (s : S) (n : Bool) (a : Cid) (answer : List ℕ) → ValidCid a → FitAnswer answer → FitCard (sends_answer w s n a answer).card
  fit_answers s n a answer v fa =
      fit_turned w n [] _ _ f (fit_behind (card_room w a) answer fa) (fit_part w.fsdi n a answer f.size v fa)

  fit_asks : (s : S) (n : Bool) (a : Cid) (left m : ℕ) (answer : List ℕ) → ValidCid a → FitAnswer answer → 0 < m → m < 60 → FitCard (asks_or_answers w s n a left m answer).card
  fit_asks s n a left m answer v fa low high =
      either (eqb left 0) (sends_answer w s n a answer) (sends w s n [] (owes_waits left m answer) (wait m 0 a)) (λ e. fit_answers s n a answer v fa)
      (fit_turned w n [] (owes_waits left m answer) (sent (wait m 0 a)) f (fa, low, high) (fit_wait m a v low high))

  fit_on_wait : (s : S) (o : Owed) (m : ℕ) (a : Cid) → FitOwed o → ValidCid a → FitCard (on_wait w s o m a).card
  fit_on_wait s owes_nothing m a fo v = fit_shut w f
  fit_on_wait s (owes_waits k mine answer) m a fo v =
      either (eqb m mine) (asks_or_answers w s w.number (answer_cid a) (k - 1) mine answer) (remains (awake (shut w)) s quiet)
      (λ e. fit_asks s w.number (answer_cid a) (k - 1) mine answer (answer_cid_lem a v) fo.0 fo.1 fo.2) (fit_shut w f)
  fit_on_wait s (owes_rest answer) m a fo v = fit_shut w f

  fit_again : (s : S) (l : Sent) → FitCard (sends_again w s l).card
  fit_again s unsent = fit_shut w f
  fit_again s (sent b) = fit_shut w f

  fit_next : (s : S) (o : Owed) (a : Cid) → FitOwed o → ValidCid a → FitCard (on_next w s o a).card
  fit_next s owes_nothing a fo v = fit_shut w f
  fit_next s (owes_waits k m answer) a fo v = fit_shut w f
  fit_next s (owes_rest answer) a fo v = fit_answers s (not w.number) (answer_cid a) answer (answer_cid_lem a v) fo

  fit_on_r : (s : S) (nak equal : Bool) (a : Cid) → ValidCid a → FitCard (on_r w s nak equal a).card
  fit_on_r s nak true a v = fit_again s w.last
  fit_on_r s true false a v =
      fit_turned w w.number w.gathered w.owes (sent (r_block false w.number (answer_cid a))) f f.owed (fit_r false w.number (answer_cid a) (answer_cid_lem a v))
  fit_on_r s false false a v = fit_next s w.owes a f.owed v

  module _ (app : App S) (keeps : Keeps app) where
    fit_gives : (s : S) (n : Bool) (a : Cid) (command : List ℕ) → ValidCid a → IsCommand command → FitCard (gives app w s n a command).card
    fit_gives s n a command v is =
        let low = keeps.answer_low s command is in
        let some : 0 < length (app.answer s command) = omega arith in
        let most = keeps.multiplier_high s command is in
        let small : app.multiplier s command < 60 = omega arith in
        let least = keeps.multiplier_low s command is in
        let positive : 0 < app.multiplier s command = omega arith in
        fit_asks (app.next s command) n a (app.waits s command) (app.multiplier s command) (app.answer s command) v (some, keeps.answer_high s command is) positive small

    fit_taken : (s : S) (chaining : Bool) (a : Cid) (command : List ℕ) → ValidCid a → IsCommand command → FitCard (cond chaining (sends w s (not w.number) command owes_nothing (r_block false (not w.number) (answer_cid a))) (gives app w s (not w.number) (answer_cid a) command)).card
    fit_taken s true a command v is =
        fit_turned w (not w.number) command owes_nothing (sent (r_block false (not w.number) (answer_cid a))) f tt (fit_r false (not w.number) (answer_cid a) (answer_cid_lem a v))
    fit_taken s false a command v is = fit_gives s (not w.number) (answer_cid a) command (answer_cid_lem a v) is

    fit_takes_i : (s : S) (chaining : Bool) (a : Cid) (info : List ℕ) → ValidCid a → 0 < length info → FitCard (takes_i app w s chaining a info).card
    fit_takes_i s chaining a info v some =
        either (leb (length (w.gathered ++ info)) longest_command)
        (cond chaining (sends w s (not w.number) (w.gathered ++ info) owes_nothing (r_block false (not w.number) (answer_cid a))) (gives app w s (not w.number) (answer_cid a) (w.gathered ++ info)))
        (remains (awake (shut w)) s quiet)
        (λ e.
        let long = length-append w.gathered info in
        let low : 0 < length (w.gathered ++ info) = omega arith in
        fit_taken s chaining a (w.gathered ++ info) v (low, leb-true (length (w.gathered ++ info)) longest_command e))
        (fit_shut w f)

    fit_on_i : (s : S) (o : Owed) (chaining : Bool) (a : Cid) (info : List ℕ) → ValidCid a → 0 < length info → FitCard (on_i app w s o chaining a info).card
    fit_on_i s owes_nothing chaining a info v some = fit_takes_i s chaining a info v some
    fit_on_i s (owes_waits k m answer) chaining a info v some = fit_shut w f
    fit_on_i s (owes_rest answer) chaining a info v some = fit_shut w f

    fit_on_block : (s : S) (b : Block) → ValidBlock b → FitCard (on_block app w s b).card
    fit_on_block s (i_block chaining n a info) v = fit_on_i s w.owes chaining a info v.0 v.1
    fit_on_block s (r_block nak n a) v = fit_on_r s nak (same n w.number) a v
    fit_on_block s (deselect a) v = tt
    fit_on_block s (wait m p a) v = fit_on_wait s w.owes m a f.owed v.0

    fit_on_reading : (s : S) (limit : ℕ) (agreed : Agreed) (bytes : List ℕ) (r : Reading) → Bytes bytes → read_frame limit agreed bytes ≡ r → FitCard (on_reading app w s r).card
    fit_on_reading s limit agreed bytes (valid b) small e = fit_on_block s b (reads_only_its_frame limit agreed bytes b small e).1.0
    fit_on_reading s limit agreed bytes (invalid c) small e = fit_shut w f

  fit_on_pps : (set : CardSettings) (s : S) (p : PpsRead) (otherwise : CardMove S) → FitCard otherwise.card → FitCard (on_pps set w s p otherwise).card
  fit_on_pps set s (pps dsi dri) otherwise fo =
      either (offered set.ta dsi dri) (remains (awake (changed w dsi dri)) s (reply (seal (pps_answer w.cid)))) otherwise
      (λ e. record { size = f.size; card = f.card; owed = f.owed; last = f.last }) fo
  fit_on_pps set s no_pps otherwise fo = fo

fit_woken : {S : Type 0} (set : CardSettings) (s : S) (body : List ℕ) (r : RatsRead) → read_rats body ≡ r → FitCard (on_rats set s r).card
fit_woken set s body (rats fsdi cid) e =
    let good = reads_only_rats body fsdi cid e in
    record { size = good.1; card = good.2; owed = tt; last = tt }
fit_woken set s body no_rats e = tt

fit_on_rats : {S : Type 0} (set : CardSettings) (s : S) (o : Opened) → FitCard (on_rats set s (rats_in o)).card
fit_on_rats set s (opened body) = fit_woken set s body (read_rats body) refl
fit_on_rats set s (unopened c) = tt

pub stays_fit : {S : Type 0} (app : App S) (set : CardSettings) (c : Card) (s : S) (bytes : List ℕ) → Keeps app → FitCard c → Bytes bytes → FitCard (takes app set c s bytes).card
stays_fit app set asleep s bytes keeps f small = fit_on_rats set s (open_frame (size_of set.fsci) bytes)
stays_fit app set (awake w) s bytes keeps f small =
    fit_on_pps w f set s (pps_in set w (open_frame (size_of set.fsci) bytes))
    (on_reading app w s (read_frame (size_of set.fsci) (card_agreed set w.cid) bytes))
    (fit_on_reading w f app keeps s (size_of set.fsci) (card_agreed set w.cid) bytes (read_frame (size_of set.fsci) (card_agreed set w.cid) bytes) small refl)
stays_fit app set halted s bytes keeps f small = tt
