use Rattle.device.proofs.Runs.{none_fetched, both_fetched}
use Rattle.device.proofs.mirror.MirrorPair.read_both.Goals as goal

pub returns-in_err-read : goal.returns-in_err-read
returns-in_err-read g c =
    none_fetched (g.D.Device.known c.args.self.now.first) (g.D.Device.known c.args.self.now.second) _ c.args.from c.read.new.out c.args.second.now _ c.from_residual.ensures.0 c.in_err-read.ensures

pub returns : goal.returns
returns g c =
    both_fetched (g.D.Device.known c.args.self.now.first) (g.D.Device.known c.args.self.now.second) _ _ c.args.from c.read.new.out c.read-2.new.out _ c.in_ok-read.ensures c.read-2.ensures
