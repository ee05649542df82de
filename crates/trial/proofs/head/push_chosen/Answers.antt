use Rattle.std.proofs.Common.{string_bytes}
use Rattle.std.proofs.lemmas.Result.{IfOk-weaker}
use Rattle.text.specs.LineViews.{lines_left}
use Rattle.trial.proofs.Heads.{yarn_chosen}
use Rattle.trial.proofs.head.push_chosen.Goals as goal

pub returns-in-Yarn : goal.returns-in-Yarn
returns-in-Yarn c =
    IfOk-weaker c.push_bench-in-Yarn.result _ _
    (λ _ x. yarn_chosen c.args.values c.in-Yarn.fill c.filled.result (lines_left c.args.lines) (string_bytes c.args.out.now) (string_bytes c.push_bench-in-Yarn.new.out) c.in-Yarn.is c.filled.ensures x)
    c.push_bench-in-Yarn.ensures
