-- The metre counter keeps the bounds, whatever it is asked for.
use Rattle.std.specs.Prelude.{ℕ, [], ◌++◌, Ok, Err, Result}
use Rattle.std.proofs.Common.{arith}
use Rattle.applications.specs.Bounds.{Bounded, answer_bounds, bounded_at_once}
use Rattle.applications.specs.Metre.{count_bytes, remaining, draw_status, counting, done}
use Rattle.applications.specs.Outcome.{after_one_wait}
use Rattle.applications.specs.Status.{word_of}
use Rattle.applications.specs.declared.metre.Metre.{Metre}
use Rattle.applications.specs.declared.metre.request.Request.{Request}
use Rattle.applications.specs.declared.metre.request.Request.TheVariants.{Draw, Ask}
use Rattle.applications.specs.declared.status.StatusWord.{StatusWord}
use Rattle.applications.specs.declared.status.StatusWord.TheVariants.{Good}

-- a count and a status word, answered after one wait with multiplier 2
drawn_bounded : (count : ℕ) (status : StatusWord) (m : Metre) → Bounded (after_one_wait 2 (count_bytes count ++ word_of status) m)
drawn_bounded count status m = record {
  answer_low = (answer_bounds (count_bytes count) status (omega arith)).0;
  answer_high = (answer_bounds (count_bytes count) status (omega arith)).1;
  waits_high = omega arith;
  multiplier_low = omega arith;
  multiplier_high = omega arith;
}

pub metre_bounded : (m : Metre) (r : Result Request StatusWord) → Bounded (done m r)
metre_bounded m (Ok (Draw n)) = drawn_bounded (remaining m.count n) (draw_status m.count n) (counting (remaining m.count n))
metre_bounded m (Ok Ask) = bounded_at_once (count_bytes m.count) Good m (omega arith)
metre_bounded m (Err status) = bounded_at_once [] status m (omega arith)
