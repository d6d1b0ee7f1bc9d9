-- The main promise is not empty: of any program that keeps it, the first answer on new disks is the book's.
-- For a call can be begun there, all of its blocks can be written, and it can be answered.
use Rattle.std.proofs.Common.{◌≡◌, ℕ, Bool, true, List, [], ◌∷◌, length, refl}
use Rattle.model.specs.Book.{Call, Answer, Limits, Book, answer}
use Rattle.model.specs.Disks.{Disk, Medium, wrote_all, seen, Program, was_told, Under, World, Lived}
use Rattle.model.specs.Disks.Lived.{begins, answered}
use Rattle.model.specs.Promise.{Leads, Right}
use Rattle.model.specs.Promise.Leads.{at_first}
use Rattle.model.specs.Statements.{FirstAnswerIsRight}
use Rattle.model.proofs.Runs.{written_out}

first_told : {l : Limits} {o : Book} {c : Call} {a : Answer} {b : Book} → Leads l o (was_told c a ∷ []) b → a ≡ answer l o c
first_told (Leads.told c at_first) = refl

pub first_answer_is_right : {S I : Type 0} (M : Medium S I) (can : ℕ → Bool) (f : Program I) → Right M can f → FirstAnswerIsRight M can f
unfolding Right FirstAnswerIsRight
first_answer_is_right {S} {I} M can f right l good d fit al c =
    let e : List (Disk S) = wrote_all M.step (f.makes (length d) l.pages) d in
    let m : List ℕ = f.starts l (seen M.look e) in
    let u : Under = record { call = c; answer = f.says l m (seen M.look e) c; memory = f.keeps l m (seen M.look e) c } in
    let w : World S I = record { disks = e; memory = m; up = true; todo = f.writes l m (seen M.look e) c; under = u ∷ []; past = [] } in
    let b = begins c (Lived.new d fit al) refl refl refl in
    let r = written_out M f l w (f.writes l m (seen M.look e) c) e b in
    first_told (right l _ good (answered u r refl refl refl)).1
