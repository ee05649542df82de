-- The kinds of the table, as the rules name them.
use Rattle.std.specs.Prelude.{Some, None, Option}
use Rattle.frames.specs.declared.kind.Kind as table
use Rattle.frames.specs.declared.kind.Kind.TheVariants.{I, R, Deselect, Wait}
use Rattle.frames.specs.Reading.{Kind, i_kind, r_kind, deselect_kind, wait_kind, no_kind}

abbrev pub kind_seen : Option table.Kind → Kind
kind_seen (Some I) = i_kind
kind_seen (Some R) = r_kind
kind_seen (Some Deselect) = deselect_kind
kind_seen (Some Wait) = wait_kind
kind_seen None = no_kind
