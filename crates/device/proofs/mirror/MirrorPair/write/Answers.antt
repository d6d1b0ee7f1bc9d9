use Rattle.model.specs.Plain.{Put}
use Rattle.device.proofs.Runs.{side_did, side_told}
use Rattle.device.proofs.mirror.MirrorPair.write.Goals as goal

pub returns : goal.returns
returns g c =
    let m : Put = record { block = c.args.block; content = c.args.bytes.now } in
    let w = rw c.disk_mut.ensures.value at c.write.ensures in
    record {
      did = side_did g.D.Device.known c.args.self.now c.args.side c.write.new.self m _ w;
      told = side_told g.D.Device.known c.args.self.now c.args.side c.write.new.self m _ w;
    }
