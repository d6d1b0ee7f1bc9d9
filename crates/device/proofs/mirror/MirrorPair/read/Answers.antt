use Rattle.device.proofs.Runs.{first_fetched, second_fetched}
use Rattle.device.proofs.mirror.MirrorPair.read.Goals as goal

pub returns-in-Ok : goal.returns-in-Ok
returns-in-Ok g c =
    first_fetched (g.D.Device.known c.args.self.now.first) (g.D.Device.known c.args.self.now.second) _ c.args.from c.read.new.out c.in-Ok.ensures

pub returns-in-Err : goal.returns-in-Err
returns-in-Err g c =
    second_fetched (g.D.Device.known c.args.self.now.first) (g.D.Device.known c.args.self.now.second) _ _ c.args.from c.read.new.out c.read-in-Err.new.out _ c.in-Err.ensures c.read-in-Err.ensures
