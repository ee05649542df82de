use Rattle.std.proofs.Common.{◌≡◌, Some, None, Option, refl, ap, ◌∙◌, arith}
use Rattle.std.proofs.lemmas.List.FromFn.{get_or-map-range_with_len}
use Rattle.frames.specs.declared.kind.Kind as table
use Rattle.frames.specs.declared.kind.Kind.TheVariants.{I, R, Deselect, Wait}
use Rattle.frames.specs.Reading.{Kind, kind_of, i_kind, r_kind, deselect_kind, wait_kind, no_kind}
use Rattle.frames.specs.Kinds.{kind_seen}
use Rattle.frames.proofs.kind.kind_of.Goals as goal

-- the table's entry for a kind
abbrev entry : Kind → Option table.Kind
entry i_kind = Some I
entry r_kind = Some R
entry deselect_kind = Some Deselect
entry wait_kind = Some Wait
entry no_kind = None

seen_entry : (k : Kind) → kind_seen (entry k) ≡ k
seen_entry i_kind = refl
seen_entry r_kind = refl
seen_entry deselect_kind = refl
seen_entry wait_kind = refl
seen_entry no_kind = refl

-- the table has the kind by the bit rules at each of its 256 places, which antt computes
pub returns : goal.returns
returns c =
    let control = c.args.control in
    rw c.from.ensures
    (ap kind_seen (get_or-map-range_with_len (λ b. entry (kind_of b)) 0 256 control control None (omega arith) (omega arith))
    ∙ seen_entry (kind_of control))
