-- What a work writes, by the disk as it was when the work began. Definitions only.
use Rattle.std.specs.Prelude.{ℕ, ◌%◌, cond, List, [], ◌∷◌, ◌++◌, Some, None, Option, ◌==◌}
use Rattle.model.specs.Numbers.{copies}
use Rattle.model.specs.Book.{Page}
use Rattle.model.specs.Disks.{On, on}
use Rattle.model.specs.Plain.{Put}
use Rattle.mirror.specs.Mirror.{mirrored}
use Rattle.device.specs.declared.mirror.Side.{Side}
use Rattle.device.specs.declared.mirror.Side.TheVariants.{First, Second}
use Rattle.device.specs.Ran.{side_number}
use Rattle.journal.specs.Plans.{ReadsLog, content, plan_puts}
use Rattle.journal.specs.declared.plan.Plan.{Plan}
use Rattle.engine.specs.declared.write.WriteKind.{WriteKind}
use Rattle.engine.specs.declared.write.WriteKind.TheVariants.{Copied, Journal}
use Rattle.engine.specs.declared.write.Write.{Write}
use Rattle.engine.specs.declared.work.Work.{Work}

-- even writes go to the first disk, odd ones to the second
abbrev pub side_at : ℕ → Side
side_at k = cond (k % copies == 0) First Second

-- the bytes of a write; kept: what came with a write, or the block that is copied
abbrev pub written : Page → List Page → WriteKind → Page
written kept b Copied = kept
written kept b (Journal k) = content kept b k

abbrev pub write_means : Page → List Page → Write → On Put
write_means kept b w = on (side_number w.disk) (record { block = w.block; content = written kept b w.kind })

abbrev pub KindReads : Plan → WriteKind → Type 0
KindReads q Copied = Unit {0}
KindReads q (Journal k) = ReadsLog q k

-- a write that reads the log only where the plan replays it
abbrev pub ReadsWhatIsReplayed : Plan → Option Write → Type 0
ReadsWhatIsReplayed q None = Unit {0}
ReadsWhatIsReplayed q (Some w) = KindReads q w.kind

-- the copy goes on the second disk alone
abbrev pub copy_writes : Option ℕ → Page → List (On Put)
copy_writes None kept = []
copy_writes (Some k) kept = on 1 (record { block = k; content = kept }) ∷ []

-- what goes on both disks
abbrev pub both_writes : Work → List Page → List (On Put)
both_writes w b = mirrored copies (plan_puts w.plan w.block b)

-- all that a work writes, in order
abbrev pub work_writes : Work → List Page → List (On Put)
work_writes w b = copy_writes w.copy w.block ++ both_writes w b
