use Rattle.device.proofs.Runs.{life_told}
use Rattle.device.proofs.mirror.MirrorPair.is_alive.Goals as goal

pub returns : goal.returns
returns g c = life_told (g.D.Device.known c.args.self.now.first) (g.D.Device.known c.args.self.now.second) _ _ c.is_alive.ensures c.is_alive-2.ensures
