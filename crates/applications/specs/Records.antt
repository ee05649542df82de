-- The record as a list of bytes.
use Rattle.std.specs.Prelude.{◌≡◌, ℕ, ◌+◌, ◌≤◌, List, [], length, take, drop, Ok, Err, Result}
use Rattle.std.proofs.Math.Nat.{ℕ_set}
use Rattle.std.proofs.Common.{arith, append_assoc, ◌∙◌, sym, length-take, length-drop}
use mathlib.Core.HLevel.{is_prop→PathP}
use Rattle.std.proofs.lemmas.List.Edits.{sets-eq}
use Rattle.buffers.specs.Over.{over_at}
use Rattle.applications.specs.Yarn.{Wanted, read_bytes, write_bytes, written, done}
use Rattle.applications.specs.declared.status.StatusWord.{StatusWord}
use Rattle.applications.specs.declared.status.StatusWord.TheVariants.{Good}
use Rattle.applications.specs.Bounds.{Bounded, bounded_at_once}
use Rattle.applications.specs.declared.yarn.Yarn.{Yarn}

-- two records with the same bytes are the same
pub same_record : (x y : Yarn) → x.bytes ≡ y.bytes → x ≡ y
same_record x y e =
    λ i. record {
      bytes = e i;
      full = is_prop→PathP (λ k. length (e k) ≡ 128) (λ k. ℕ_set _ _) x.full y.full i;
    }

-- bytes put into the record by one copy
pub put_is_written : (y after : Yarn) (offset : ℕ) (bytes : List ℕ)
    → offset + length bytes ≤ 128 → after.bytes ≡ over_at offset bytes y.bytes → after ≡ written y offset bytes
unfolding written
put_is_written y after offset bytes within e =
    let fits : offset + length bytes ≤ length y.bytes = rw y.full within in
    same_record after (written y offset bytes) (e ∙ sym (append_assoc (take offset y.bytes) bytes (drop (offset + length bytes) y.bytes)) ∙ sym (sets-eq bytes y.bytes offset fits))

-- a yarn record keeps the bounds, whatever it is asked for
pub yarn_bounded : (y : Yarn) (r : Result Wanted StatusWord) → Bounded (done y r)
yarn_bounded y (Ok (read_bytes offset len)) =
    bounded_at_once (take len (drop offset y.bytes)) Good y (simp (length-take, length-drop) (omega (arith, y.full)))
yarn_bounded y (Ok (write_bytes offset bytes)) = bounded_at_once [] Good (written y offset bytes) (omega arith)
yarn_bounded y (Err status) = bounded_at_once [] status y (omega arith)
