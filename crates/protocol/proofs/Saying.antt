-- What the reader says is true, in every phase and after it.
use Rattle.std.proofs.Common.{◌≡◌, ℕ, Bool, true, false, List, [], ◌∷◌, ◌++◌, sym, refl, ◌∙◌, inl, inr, arith}
use Rattle.std.proofs.lemmas.List.{append-nil}
use Rattle.frames.specs.Causes.{Cause}
use Rattle.protocol.specs.Agreement.{Once, latest_answer}
use Rattle.protocol.specs.Card.{Awake, Reply}
use Rattle.protocol.specs.Field.{Setup, Fate}
use Rattle.protocol.specs.Reader.{Exchange, none, done, taken, not_taken, doubt, said, say_of, Progress, no_command, running, finished, more, tried}
use Rattle.protocol.proofs.Phases.{Phase, behind, part_taken, waiting, answering, ack_missed}

-- an open exchange is neither done nor without a command
pub never_done : (b o c : Bool) → said b o c ≡ done → ⊥
never_done true o c e = (let h : not_taken ≡ done = e in let z : ◌≡◌ {A = ℕ} 0 1 = cc in omega arith)
never_done false true c e = (let h : not_taken ≡ done = e in let z : ◌≡◌ {A = ℕ} 0 1 = cc in omega arith)
never_done false false true e = (let h : taken ≡ done = e in let z : ◌≡◌ {A = ℕ} 0 1 = cc in omega arith)
never_done false false false e = (let h : doubt ≡ done = e in let z : ◌≡◌ {A = ℕ} 0 1 = cc in omega arith)

pub never_none : (b o c : Bool) → said b o c ≡ none → ⊥
never_none true o c e = (let h : not_taken ≡ none = e in let z : ◌≡◌ {A = ℕ} 0 1 = cc in omega arith)
never_none false true c e = (let h : not_taken ≡ none = e in let z : ◌≡◌ {A = ℕ} 0 1 = cc in omega arith)
never_none false false true e = (let h : taken ≡ none = e in let z : ◌≡◌ {A = ℕ} 0 1 = cc in omega arith)
never_none false false false e = (let h : doubt ≡ none = e in let z : ◌≡◌ {A = ℕ} 0 1 = cc in omega arith)

-- where nothing came it is not said to be taken
pub never_taken : (b o : Bool) → said b o false ≡ taken → ⊥
never_taken true o e = (let h : not_taken ≡ taken = e in let z : ◌≡◌ {A = ℕ} 0 1 = cc in omega arith)
never_taken false true e = (let h : not_taken ≡ taken = e in let z : ◌≡◌ {A = ℕ} 0 1 = cc in omega arith)
never_taken false false e = (let h : doubt ≡ taken = e in let z : ◌≡◌ {A = ℕ} 0 1 = cc in omega arith)

-- where all was written and no R(ACK) of the other number came it is not said to be not taken
pub never_not : (c : Bool) → said false false c ≡ not_taken → ⊥
never_not true e = (let h : taken ≡ not_taken = e in let z : ◌≡◌ {A = ℕ} 0 1 = cc in omega arith)
never_not false e = (let h : doubt ≡ not_taken = e in let z : ◌≡◌ {A = ℕ} 0 1 = cc in omega arith)

-- where it is said to be in doubt, all was written, no R(ACK) of the other number came, and nothing else did
pub doubt_parts : (b o c : Bool) → said b o c ≡ doubt → (b ≡ false) × (o ≡ false) × (c ≡ false)
doubt_parts true o c e = absurd ((let h : not_taken ≡ doubt = e in let z : ◌≡◌ {A = ℕ} 0 1 = cc in omega arith))
doubt_parts false true c e = absurd ((let h : not_taken ≡ doubt = e in let z : ◌≡◌ {A = ℕ} 0 1 = cc in omega arith))
doubt_parts false false true e = absurd ((let h : taken ≡ doubt = e in let z : ◌≡◌ {A = ℕ} 0 1 = cc in omega arith))
doubt_parts false false false e = (refl, refl, refl)

pub none-doubt : none ≡ doubt → ⊥
none-doubt e = (let h : none ≡ doubt = e in let z : ◌≡◌ {A = ℕ} 0 1 = cc in omega arith)

pub done-doubt : done ≡ doubt → ⊥
done-doubt e = (let h : done ≡ doubt = e in let z : ◌≡◌ {A = ℕ} 0 1 = cc in omega arith)

pub none_not : none ≡ not_taken → ⊥
none_not e = let z : ◌≡◌ {A = ℕ} 0 1 = cc in omega arith

pub done_not : done ≡ not_taken → ⊥
done_not e = let z : ◌≡◌ {A = ℕ} 0 1 = cc in omega arith

pub done_none : done ≡ none → ⊥
done_none e = let z : ◌≡◌ {A = ℕ} 0 1 = cc in omega arith

pub say_tried : (p : Progress) (n : ℕ) (c : Cause) (x : Exchange) → say_of p (tried n c x) ≡ say_of p x
say_tried no_command n c x = refl
say_tried running n c x = refl
say_tried finished n c x = refl

module _ {S : Type 0} (u : Setup S) (s₀ : S) where
  -- what an exchange says is true of the commands begun and given
  pub record Told (x : Exchange) (begun given : List (List ℕ)) : Type 0 where
    pub commands : Once begun given
    pub when_done : say_of x.progress x ≡ done → begun ≡ given
    pub when_taken : say_of x.progress x ≡ taken → begun ≡ given
    pub when_not_taken : say_of x.progress x ≡ not_taken → (latest : List ℕ) × (begun ≡ latest ∷ given)
    pub when_none : say_of x.progress x ≡ none → begun ≡ []
    pub answer_front : (tail : List ℕ) × (x.answer ++ tail ≡ latest_answer u.app s₀ begun)
    pub answer_whole : say_of x.progress x ≡ done → x.answer ≡ latest_answer u.app s₀ begun

  -- the command was not given, and the reader says so or is in doubt
  pub not_given_lem : (x : Exchange) (c : List ℕ) (cs : List (List ℕ)) → x.progress ≡ running → x.came ≡ false → x.answer ≡ [] → Told x (c ∷ cs) cs
  not_given_lem x c cs run nc na =
      record {
        commands = inr (c, refl);
        when_done = λ e. absurd (never_done (more x.rest) x.other x.came (rw run at e));
        when_taken = λ e. absurd (never_taken (more x.rest) x.other (rw (run, nc) at e));
        when_not_taken = λ e. (c, refl);
        when_none = λ e. absurd (never_none (more x.rest) x.other x.came (rw run at e));
        answer_front = (latest_answer u.app s₀ (c ∷ cs), rw na);
        answer_whole = λ e. absurd (never_done (more x.rest) x.other x.came (rw run at e));
      }

  -- the command was given, and the reader says so or is in doubt
  pub was_given_lem : (x : Exchange) (c : List ℕ) (cs : List (List ℕ)) (tail : List ℕ) → x.progress ≡ running → more x.rest ≡ false → x.other ≡ false → x.answer ++ tail ≡ latest_answer u.app s₀ (c ∷ cs) → Told x (c ∷ cs) (c ∷ cs)
  was_given_lem x c cs tail run nr no' cut =
      record {
        commands = inl refl;
        when_done = λ e. refl;
        when_taken = λ e. refl;
        when_not_taken = λ e. absurd (never_not x.came (rw (run, nr, no') at e));
        when_none = λ e. absurd (never_none (more x.rest) x.other x.came (rw run at e));
        answer_front = (tail, cut);
        answer_whole = λ e. absurd (never_done (more x.rest) x.other x.came (rw run at e));
      }

  -- it was answered
  pub was_answered : (x : Exchange) (c : List ℕ) (cs : List (List ℕ)) → x.progress ≡ finished → x.answer ≡ latest_answer u.app s₀ (c ∷ cs) → Told x (c ∷ cs) (c ∷ cs)
  was_answered x c cs fin all =
      record {
        commands = inl refl;
        when_done = λ e. refl;
        when_taken = λ e. refl;
        when_not_taken = λ e. absurd (done_not (rw fin at e));
        when_none = λ e. absurd (done_none (rw fin at e));
        answer_front = ([], append-nil x.answer ∙ all);
        answer_whole = λ e. all;
      }

  -- there was no command
  pub no_command_lem : (x : Exchange) → x.progress ≡ no_command → x.answer ≡ [] → Told x [] []
  no_command_lem x none_yet na =
      record {
        commands = inl refl;
        when_done = λ e. refl;
        when_taken = λ e. refl;
        when_not_taken = λ e. absurd (none_not (rw none_yet at e));
        when_none = λ e. refl;
        answer_front = ([], rw na);
        answer_whole = λ e. na;
      }

  pub told_phase : {dsi dri : ℕ} {x : Exchange} {w : Awake} {a : Reply} {fate : Fate} {q : Bool} {bad : ℕ} {begun given : List (List ℕ)} → Phase u s₀ dsi dri x w a fate q bad begun given → Told x begun given
  told_phase (behind {c = c} {cs = cs} cut ok lo hi b) = not_given_lem _ c cs refl refl refl
  told_phase (part_taken {c = c} {cs = cs} cut ok mr ec) = not_given_lem _ c cs refl refl refl
  told_phase (waiting {c = c} {cs = cs} ok nr lo one₁ top few ec) = was_given_lem _ c cs _ refl nr refl refl
  told_phase (answering {c = c} {cs = cs} ahead ok nr cut pos ec) = was_given_lem _ c cs ahead refl nr refl cut
  told_phase (ack_missed {ahead = ahead} {c = c} {cs = cs} ok nr cut pos ma m) = was_given_lem _ c cs ahead refl nr refl cut

  -- what is tried outside an exchange changes nothing in what is said
  pub told_tried : (n : ℕ) (c : Cause) {x : Exchange} {begun given : List (List ℕ)} → Told x begun given → Told (tried n c x) begun given
  told_tried n c {x} {begun} {given} T =
      let e = say_tried x.progress n c x in
      record {
        commands = T.commands;
        when_done = λ h. T.when_done (sym e ∙ h);
        when_taken = λ h. T.when_taken (sym e ∙ h);
        when_not_taken = λ h. T.when_not_taken (sym e ∙ h);
        when_none = λ h. T.when_none (sym e ∙ h);
        answer_front = T.answer_front;
        answer_whole = λ h. T.answer_whole (sym e ∙ h);
      }
