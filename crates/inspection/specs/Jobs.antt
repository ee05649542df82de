-- The task that a job stands for.
use Rattle.std.specs.Prelude.{vec_items}
use Rattle.inspection.specs.declared.job.Job.{Job}
use Rattle.inspection.specs.declared.job.Job.TheVariants.{Seal, Read, Ats}
use Rattle.frames.specs.Views.{agreement}
use Rattle.inspection.specs.Tasks.{Task, sealing, reading, hearing}

abbrev pub task_seen : Job → Task
task_seen (Seal body) = sealing (vec_items body)
task_seen (Read limit agreed frame) = reading limit (agreement agreed) (vec_items frame)
task_seen (Ats fsd frame) = hearing fsd (vec_items frame)
