-- Worlds that lead to worlds: all that is to be written can be written, and whatever a world leads to is a
-- world that can come about, if it is one itself.
use Rattle.std.proofs.Common.{List, [], ◌∷◌, refl}
use Rattle.model.specs.Book.{Limits}
use Rattle.model.specs.Disks.{Disk, On, Medium, wrote, wrote_all, Program, World, Lived}
use Rattle.model.specs.Later.{Later}
use Rattle.model.specs.Later.Later.{at_once, begins, one_written, answered, dies, power, power_again, mended}

-- a world with other disks, and other items to write
abbrev pub with_todo : {S I : Type 0} → World S I → List (Disk S) → List (On I) → World S I
with_todo w d ws = record { disks = d; memory = w.memory; up = w.up; todo = ws; under = w.under; past = w.past }

-- all that is to be written can be written
pub written_out : {S I : Type 0} (M : Medium S I) (f : Program I) (l : Limits) (w : World S I) (ws : List (On I)) (d : List (Disk S)) → Lived M f l (with_todo w d ws) →
    Lived M f l (with_todo w (wrote_all M.step ws d) [])
unfolding wrote_all
written_out M f l w [] d lived = lived
written_out M f l w (x ∷ xs) d lived = written_out M f l w xs (wrote M.step x d) (Lived.one_written {w = with_todo w d (x ∷ xs)} x xs lived refl)

pub later_lived : {S I : Type 0} {M : Medium S I} {f : Program I} {l : Limits} {v w : World S I} → Lived M f l v → Later M f l v w → Lived M f l w
later_lived h at_once = h
later_lived h (begins c later up todo under) = Lived.begins c (later_lived h later) up todo under
later_lived h (one_written x xs later e) = Lived.one_written x xs (later_lived h later) e
later_lived h (answered u later up todo under) = Lived.answered u (later_lived h later) up todo under
later_lived h (dies k later al) = Lived.dies k (later_lived h later) al
later_lived h (power d later fall up) = Lived.power d (later_lived h later) fall up
later_lived h (power_again d later fall up) = Lived.power_again d (later_lived h later) fall up
later_lived h (mended later up todo) = Lived.mended (later_lived h later) up todo
