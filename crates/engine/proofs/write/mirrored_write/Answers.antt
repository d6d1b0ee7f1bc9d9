use Rattle.std.proofs.Common.{Some, ap, ◌∙◌}
use Rattle.device.specs.declared.mirror.Side.{Side}
use Rattle.engine.specs.declared.write.WriteKind.TheVariants.{Journal}
use Rattle.engine.specs.Works.{write_means}
use Rattle.engine.proofs.Writes.{step_written, none_written}
use Rattle.engine.proofs.write.mirrored_write.Goals as goal

pub returns-in_err-step-clause-value : goal.returns-in_err-step-clause-value
returns-in_err-step-clause-value c = λ b e. rw c.from_residual.ensures (none_written c.args.work.now b c.args.k (c.in_err-step.ensures.value b c.args.work.now.block e))

pub returns : goal.returns
returns c = record {
  value = λ b e.
      ap (λ (s : Side). Some (write_means c.args.work.now.block b (record { disk = s; block = c.in_ok-step.step.block; kind = Journal c.in_ok-step.step.kind }))) c.side_of.ensures
      ∙ step_written c.args.work.now b c.args.k c.in_ok-step.step (c.in_ok-step.ensures.value b c.args.work.now.block e);
  reads = c.in_ok-step.ensures.reads;
}
