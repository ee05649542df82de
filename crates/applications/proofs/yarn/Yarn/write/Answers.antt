use Rattle.applications.specs.Records.{put_is_written}
use Rattle.applications.proofs.yarn.Yarn.write.Goals as goal

pub returns : goal.returns
returns c = put_is_written c.args.self.now _ c.args.offset c.args.bytes.now c.requires c.put.ensures
