-- What the card's calls answer, and what they leave.
use Rattle.std.specs.Prelude.{◌≡◌, ℕ, Bool, true, false, cond, List, Ok, Err, Result, nat_lt}
use Rattle.applications.specs.App.{App}
use Rattle.frames.specs.declared.refusal.Refusal.{Refusal}
use Rattle.frames.specs.declared.refusal.Refusal.TheVariants.{Setting, Buffer}
use Rattle.frames.specs.Sizes.{greatest_frame}
use Rattle.protocol.specs.Card as model
use Rattle.protocol.specs.Card.{CardMove, asleep, takes}
use Rattle.card.specs.declared.card.Card.{Card}
use Rattle.card.specs.declared.response.Response.{Response}
use Rattle.card.specs.declared.settings.CardSettings.{CardSettings}
use Rattle.card.specs.Held.{card_of, settings_of, settings_good}
use Rattle.card.specs.Told.{was_given, reply_length, replied}

-- a card that sleeps, with these settings and this application; or, for settings out of range, the application handed
-- back with refusal 1
abbrev pub Built : {A : Type 0} → CardSettings → A → Result (Card A) (A × Refusal) → Type 0
Built settings application (Ok c) =
    (settings_good settings ≡ true) × (c.settings ≡ settings) × (c.application ≡ application) × (card_of c.state ≡ asleep)
Built settings application (Err e) = (settings_good settings ≡ false) × (e.0 ≡ application) × (e.1 ≡ Setting)

-- what the model's card does at a frame
abbrev pub move_at : {A : Type 0} → App A → Card A → List ℕ → CardMove A
move_at app c f = takes app (settings_of c.settings) (card_of c.state) c.application f

-- Hearing a frame at which the model makes this move: a buffer under the greatest frame is refused by 5, and then nothing
-- changes.
abbrev pub refuses : ℕ → Bool
refuses buffer = nat_lt buffer greatest_frame

-- the card afterwards
abbrev pub card_heard : {S : Type 0} → CardMove S → ℕ → model.Card → model.Card
card_heard m buffer old = cond (refuses buffer) old m.card

-- its application's state afterwards
abbrev pub state_heard : {S : Type 0} → CardMove S → ℕ → S → S
state_heard m buffer old = cond (refuses buffer) old m.state

-- what is answered: how long the answer is, if there is one, and whether the application was given a command
abbrev pub hearing : {S : Type 0} → CardMove S → ℕ → Result Response Refusal
hearing m buffer =
    cond (refuses buffer) (Err Buffer) (Ok (record { len = reply_length m.answer; given = was_given m.command }))

-- the buffer afterwards: the answer's frame is at its front, and the bytes behind it are as they were
abbrev pub buffer_heard : {S : Type 0} → CardMove S → ℕ → List ℕ → List ℕ
buffer_heard m buffer old = cond (refuses buffer) old (replied m.answer old)
