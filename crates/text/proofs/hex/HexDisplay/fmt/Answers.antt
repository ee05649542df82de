use Rattle.std.proofs.Common.{◌++◌, sym, ap, ◌∙◌, append_assoc, rules}
use Rattle.std.proofs.Output.{has_written_append, has_written_of_eq}
use Rattle.std.specs.Slice.Iter.{chunks_rest}
use Rattle.text.proofs.Hexes.{hex-append}
use Rattle.text.proofs.hex.HexDisplay.fmt.Goals as goal

pub loop-part-preserved : goal.loop-part-preserved
loop-part-preserved g c =
    let part = c.in-Some.part.now in (
      search rules,
      tt,
      search rules,
      λ p.
          let before = c.loop-part.invariant.3 p in (
            before.0 ++ part,
            has_written_of_eq _ _ _ _ _ (sym (hex-append before.0 part))
                (has_written_append _ _ _ _ _ _ before.1 (search rules)),
            append_assoc before.0 part (chunks_rest c.next.new.self) ∙ ap (λ l. before.0 ++ l) (sym c.in-Some.ensures.steps.1.0) ∙ before.2,
          ),
    )
