-- The bench: both ends as a script sets them, the card woken, and what each entry does.
use Rattle.std.specs.Prelude.{ℕ, true, List, [], ◌∷◌}
use Rattle.applications.specs.App.{App}
use Rattle.buffers.specs.Rooms.{answer_room}
use Rattle.pair.specs.Deeds as deed
use Rattle.pair.specs.Deeds.{Act}
use Rattle.pair.specs.Runs.{ran}
use Rattle.protocol.specs.Field.{Fate, whole, Setup, World, outset}
use Rattle.protocol.specs.Settings.{ReaderSettings, CardSettings}
use Rattle.script.specs.Calls.{Order, begin, hear, mute, spoil, close, Entry, call, stop}
use Rattle.script.specs.Setup.{Values}

abbrev pub reader_for : Values → ReaderSettings
reader_for v = record { fsdi = v.fsdi; cid = v.cid; repeats = v.repeats; waits = v.waits }

-- FWI 4, SFGI 0, TA 00, no historical bytes, card numbers supported
abbrev pub card_for : Values → CardSettings
card_for v = record { fsci = v.fsci; fwi = 4; sfgi = 0; ta = 0; historical = []; supports = true }

abbrev pub bench_for : {S : Type 0} → App S → Values → Setup S
bench_for app v = record { reader = reader_for v; card = card_for v; app = app }

-- every call is handed a buffer of this size, which holds each frame and each answer
abbrev pub room : ℕ
room = answer_room

abbrev pub act : deed.Deed → Fate → Act
act d f = record { deed = d; fate = f }

-- the card is woken unharmed
abbrev pub waking : List Act
waking = act deed.ask whole ∷ act deed.hear whole ∷ act deed.start whole ∷ []

-- where the script's calls begin
abbrev pub woken : {S : Type 0} → Setup S → S → World S
woken u s = ran u room (outset s) waking

-- what is heard where a script spoils a reply: three bytes that fail the check
abbrev pub spoilt_reply : List ℕ
spoilt_reply = 0 ∷ 0 ∷ 0 ∷ []

abbrev pub deed_of : Order → deed.Deed
deed_of (begin c) = deed.begin c
deed_of hear = deed.hear
deed_of mute = deed.mute
deed_of spoil = deed.noise spoilt_reply
deed_of close = deed.close

-- stop writes no frame, so any fate does
abbrev pub act_of : Entry → Act
act_of (call o f) = act (deed_of o) f
act_of stop = act deed.give_up whole
