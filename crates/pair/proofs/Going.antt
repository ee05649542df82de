-- Acts in time order, some of them done.
use Rattle.std.proofs.Common.{◌≡◌, ℕ, ◌+◌, ◌<◌, List, [], ◌∷◌, ◌++◌, map, length, get_or, drop, sym, refl, ap, ◌∙◌, subst}
use Rattle.std.proofs.lemmas.List.{append_assoc, append-nil, drop_more, map-append}
use Rattle.applications.specs.App.{App}
use Rattle.buffers.specs.Rooms.{answer_room}
use Rattle.protocol.specs.Field.{Setup, World}
use Rattle.pair.specs.Deeds.{Act}
use Rattle.pair.specs.Pairs.{world_seen, setup_seen}
use Rattle.pair.specs.Records.{blank, outcome_kept, record_seen, step_seen, Kept, Ran}
use Rattle.pair.specs.Runs.{acted, ran, outcome_of, outcomes, Entry, entries, entry_of}
use Rattle.pair.specs.declared.call.Step.{Step}
use Rattle.pair.specs.declared.pair.Pair.{Pair}
use Rattle.pair.specs.declared.recorded.Record.{Record}

-- what is left leads where all of it leads, and shows, behind what is kept, what all of it shows
pub record Going {A : Type 0} (app : App A) (all left : List Act) (before at : Pair A) (kept : List Record) : Type 0 where
  pub setup : setup_seen app at ≡ setup_seen app before
  pub world : ran (setup_seen app before) answer_room (world_seen at) left ≡ ran (setup_seen app before) answer_room (world_seen before) all
  pub entries : map record_seen kept ++ entries (setup_seen app before) blank (world_seen at) left ≡ entries (setup_seen app before) blank (world_seen before) all

-- the same behind other records
abbrev pub GoingInto : {A : Type 0} → App A → List Act → List Act → Pair A → Pair A → List Record → List Record → Type 0
GoingInto app all left before at old new = (kept : List Record) × (new ≡ old ++ kept) × Going app all left before at kept

module _ {A : Type 0} (app : App A) (all : List Act) (before : Pair A) where
  pub goes_at_first : Going app all all before before []
  goes_at_first = record { setup = refl; world = refl; entries = refl }

  pub goes_on : (at next : Pair A) (kept : List Record) (a : Act) (left : List Act) (r : Record) → Going app all (a ∷ left) before at kept → Kept app a at next r → Going app all left before next (kept ++ r ∷ [])
  goes_on at next kept a left r h k =
      let u = setup_seen app before in
      let world : world_seen next ≡ acted u answer_room (world_seen at) a = k.world ∙ ap (λ v. acted v answer_room (world_seen at) a) h.setup in
      let entry : record_seen r ≡ entry_of u blank (world_seen at) a = k.entry ∙ ap (λ v. entry_of v blank (world_seen at) a) h.setup in
      record {
        setup = k.setup ∙ h.setup;
        world = ap (λ w. ran u answer_room w left) world ∙ h.world;
        entries =
            ap (λ l. l ++ entries u blank (world_seen next) left) (map-append record_seen kept (r ∷ []))
            ∙ append_assoc (map record_seen kept) (record_seen r ∷ []) (entries u blank (world_seen next) left)
            ∙ (λ i. map record_seen kept ++ entry i ∷ entries u blank (world i) left)
            ∙ h.entries;
      }

  -- the same by the place in a list of steps, behind other records
  pub goes_a_step : (steps : List Step) (i : ℕ) (d : Step) (at next : Pair A) (old new more : List Record) (r : Record) → i < length steps → more ≡ new ++ r ∷ [] → GoingInto app all (map step_seen (drop i steps)) before at old new → Kept app (step_seen (get_or steps i d)) at next r → GoingInto app all (map step_seen (drop (i + 1) steps)) before next old more
  goes_a_step steps i d at next old new more r lt is (kept, split, h) k = (
    kept ++ r ∷ [],
    is ∙ ap (λ l. l ++ r ∷ []) split ∙ append_assoc old kept (r ∷ []),
    goes_on at next kept (step_seen (get_or steps i d)) (map step_seen (drop (i + 1) steps)) r
        (subst (λ l. Going app all (map step_seen l) before at kept) (drop_more steps i d lt) h) k,
  )

  -- the outcomes are those of the entries
  outcomes_shown : (u : Setup A) (acts : List Act) (w : World A) → map (λ (e : Entry). e.outcome) (entries u blank w acts) ≡ outcomes u answer_room w acts
  outcomes_shown u [] w = refl
  outcomes_shown u (a ∷ rest) w = ap (λ l. outcome_of u answer_room w a ∷ l) (outcomes_shown u rest (acted u answer_room w a))

  outcomes_kept : (kept : List Record) → map (λ (e : Entry). e.outcome) (map record_seen kept) ≡ map outcome_kept kept
  outcomes_kept [] = refl
  outcomes_kept (r ∷ rest) = ap (λ l. outcome_kept r ∷ l) (outcomes_kept rest)

  pub goes_to_the_end : (after : Pair A) (kept : List Record) → Going app all [] before after kept → Ran app all before after kept
  goes_to_the_end after kept h =
      let shown : map record_seen kept ≡ entries (setup_seen app before) blank (world_seen before) all = sym (append-nil (map record_seen kept)) ∙ h.entries in
      record {
        setup = h.setup;
        world = h.world;
        outcomes = sym (outcomes_kept kept) ∙ ap (map (λ (e : Entry). e.outcome)) shown ∙ outcomes_shown (setup_seen app before) all (world_seen before);
        entries = shown;
      }
