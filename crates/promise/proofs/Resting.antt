-- The register at rest: the pages that hold stand on each living disk, and any two living disks are the
-- same. New disks are empty, and a refused call writes nothing.
use Rattle.std.proofs.Common.{◌≡◌, ℕ, suc, ◌+◌, List, [], ◌∷◌, length, sym, refl, ap, subst}
use Rattle.model.specs.Numbers.{first_page}
use Rattle.model.specs.Book.{empty_page, many}
use Rattle.model.specs.Disks.{Disk, seen}
use Rattle.model.specs.Plain.{plain}
use Rattle.model.specs.Statements.{AllLive, PagesStand, ReplicasSame, MadeEmpty, RefusedWritesNothing}
use Rattle.mirror.specs.Mirror.{mirrored, source}
use Rattle.mirror.proofs.Each.{Each, Has}
use Rattle.mirror.proofs.Resync.{id}
use Rattle.journal.proofs.Counts.{refused_puts_nothing}
use Rattle.promise.specs.Register.{register}
use Rattle.promise.proofs.Right.{made_blank, at_rest}

-- what holds of s holds of each disk that has s
pub each_live : {S : Type 0} (s : S) (R : S → Type 0) → R s → (i : ℕ) (d : List (Disk S)) → Each (Has s) i d → AllLive R d
each_live s R r i [] h = tt
each_live s R r i (y ∷ d) h = ((λ l. subst R (sym (h.0 l)) r), each_live s R r (suc i) d h.1)

pub pages_stand : PagesStand plain register
unfolding PagesStand
pages_stand l w size lived rest =
    let (s, al, h, r) = at_rest l size w lived rest in
    (r.book, r.explains, each_live s _ r.shows.old_is 0 w.disks h)

pub replicas_same : ReplicasSame plain register
unfolding ReplicasSame
replicas_same l w size lived rest =
    let (s, al, h, r) = at_rest l size w lived rest in
    each_live s _ (each_live s (λ t. s ≡ t) refl 0 w.disks h) 0 w.disks h

pub made_empty : MadeEmpty plain register
unfolding MadeEmpty
made_empty n d fit = each_live (many (n + first_page) empty_page) _ refl 0 _ (made_blank n d fit)

pub refused_writes_nothing : RefusedWritesNothing plain register
unfolding RefusedWritesNothing mirrored
refused_writes_nothing l w c size lived rest j k e =
    let d = seen id w.disks in
    ap (mirrored (length d)) (refused_puts_nothing l (source d) c j k e)
