use Rattle.std.proofs.Common.{sym, refl, ◌∙◌}
use Rattle.device.specs.Ran.{together}
use Rattle.world.proofs.world.World.need_disk.Goals as goal

pub returns-then-is_alive : goal.returns-then-is_alive
unfolding together
returns-then-is_alive c = sym c.if-is_alive.true ∙ c.is_alive.ensures _ refl

pub returns-else-is_alive : goal.returns-else-is_alive
unfolding together
returns-else-is_alive c = sym c.if-is_alive.false ∙ c.is_alive.ensures _ refl
