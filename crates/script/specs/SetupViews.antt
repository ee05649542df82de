-- The set-up that the crate's values stand for.
use Rattle.std.specs.Prelude.{ℕ, List, Some, None, Option}
use Rattle.std.specs.Borrow.{Bor}
use Rattle.script.specs.declared.setup.App as coded
use Rattle.script.specs.declared.setup.App.TheVariants.{Metre, Yarn}
use Rattle.script.specs.declared.setup.Values as held
use Rattle.script.specs.Setup.{Chosen, metre, yarn, Values, Counted}

abbrev pub chosen_seen : coded.App → Chosen
chosen_seen (Metre n) = metre n
chosen_seen (Yarn b) = yarn b

abbrev pub values_seen : held.Values → Values
values_seen v =
    record {
      fsdi = v.fsdi;
      fsci = v.fsci;
      cid = v.cid;
      repeats = v.repeats;
      waits = v.waits;
      app = chosen_seen v.app;
    }

abbrev pub counted_seen : Option (ℕ × Bor (List ℕ)) → Option Counted
counted_seen None = None
counted_seen (Some p) = Some (record { value = p.0; rest = p.1.now })
