-- What is owed of a program, for disks of any kind: that new disks are at rest, and that a call from rest
-- and a recovery from anywhere are plans in one of the replicas' shapes. From that an invariant of every
-- world follows, by one step for each thing that can happen.
use Rattle.std.proofs.Common.{◌≡◌, ℕ, Bool, true, false, List, [], ◌∷◌, length, refl, subst}
use Rattle.model.specs.Book.{Call, Limits, Book}
use Rattle.model.specs.Disks.{Disk, On, Medium, wrote_all, alive, seen, Program, Happening, was_told, was_cut, power_went, Under, World, cut, Fallen, Fit, Lived}
use Rattle.model.specs.Disks.Lived.{begins, one_written, answered, dies, power, power_again, mended}
use Rattle.model.specs.Promise.{Leads}
use Rattle.model.specs.Promise.Leads.{cut_late, cut_early, gone}
use Rattle.model.specs.Statements.{AtRest}
use Rattle.model.proofs.Safely.{safe_here}
use Rattle.mirror.specs.Mirror.{mirrored}
use Rattle.mirror.proofs.Each.{Each, Has}
use Rattle.mirror.proofs.Replicas.{Shape, agree, ahead, stepped, died, at_end}

-- what will have happened if power goes now, and when what is under way is done
abbrev pub cut_past : Bool → List Under → List Happening → List Happening
cut_past true us hs = cut us hs
cut_past false us hs = hs

abbrev pub done_past : Bool → List Under → List Happening → List Happening
done_past false us hs = hs
done_past true [] hs = hs
done_past true (u ∷ us) hs = was_told u.call u.answer ∷ hs

-- all disks that live have the same, of which Q holds
abbrev pub Rest : {S : Type 0} → (S → Type 0) → List (Disk S) → Type 0
Rest Q d = (s : _) × (alive d ≡ true) × Each (Has s) 0 d × Q s

-- P hs says of a disk that recovery from it is explained by hs, and Q hs that it is at rest after hs
pub record Serves {S I : Type 0} (M : Medium S I) (f : Program I) (l : Limits) (G : S → I → Type 0) (P Q : List Happening → S → Type 0) : Type 0 where
  pub idle : (hs : List Happening) (s : S) → Q hs s → P (power_went ∷ hs) s
  pub calls : (c : Call) (hs : List Happening) (m : List ℕ) (d : List (Disk S)) → Rest (Q hs) d →
      Shape M.step G (P (was_cut c ∷ hs)) (Q (was_told c (f.says l m (seen M.look d) c) ∷ hs)) d (f.writes l m (seen M.look d) c)
  pub mends : (hs gs : List Happening) (d e : List (Disk S)) (todo : List (On I)) → Shape M.step G (P hs) (Q gs) d todo → Fallen M.falls d e →
      Shape M.step G (P hs) (Q hs) e (f.mends (seen M.look e))

module _ {S I : Type 0} (M : Medium S I) (f : Program I) (l : Limits) (G : S → I → Type 0) (P Q : List Happening → S → Type 0) where
  -- new disks are at rest
  abbrev pub Fresh : Type 0
  Fresh = (d : List (Disk S)) → Fit (M.fits l.pages) d → alive d ≡ true → Rest (Q []) (wrote_all M.step (f.makes (length d) l.pages) d)

  -- a world after hs
  abbrev pub Inv : List Happening → World S I → Type 0
  Inv hs w = Shape M.step G (P (cut_past w.up w.under hs)) (Q (done_past w.up w.under hs)) w.disks w.todo

  -- when all is written, the disks are at rest
  pub settled : (hs gs : List Happening) (w : World S I) → Inv hs w → done_past w.up w.under hs ≡ gs → w.todo ≡ [] → Rest (Q gs) w.disks
  settled hs gs w i e t =
      let P' : S → Type 0 = P (cut_past w.up w.under hs) in
      let Q' : S → Type 0 = Q (done_past w.up w.under hs) in
      let r = at_end M.step G P' Q' w.disks (subst (Shape M.step G P' Q' w.disks) t i) in
      subst (λ (x : List Happening). Rest (Q x) w.disks) e (r.0, r.1, r.2, r.3.1)

  module _ (serves : Serves M f l G P Q) where
    pub rested : (hs : List Happening) (d : List (Disk S)) → Rest (Q hs) d → Shape M.step G (P (power_went ∷ hs)) (Q hs) d []
    unfolding mirrored
    rested hs d (s, al, h, q) = agree s [] al h refl (serves.idle hs s q, q)

    -- power went, and recovery begins
    pub down : (hs gs : List Happening) (w : World S I) (d : List (Disk S)) → Inv hs w → Fallen M.falls w.disks d → cut_past w.up w.under hs ≡ gs →
        Shape M.step G (P gs) (Q gs) d (f.mends (seen M.look d))
    down hs gs w d i fall e =
        let R : List Happening → Type 0 = λ x. Shape M.step G (P x) (Q (done_past w.up w.under hs)) w.disks w.todo in
        serves.mends gs _ w.disks d w.todo (subst R e i) fall

    -- at any moment
    pub always : Fresh → {w : World S I} → Lived M f l w → Inv w.past w
    unfolding cut
    always fresh (Lived.new d fit al) = rested [] _ (fresh d fit al)
    always fresh (begins {w} c lived up todo under) = serves.calls c w.past w.memory w.disks (settled w.past w.past w (always fresh lived) (rw (up, under)) todo)
    always fresh (one_written {w} x xs lived e) = stepped M.step G _ _ w.disks x xs w.todo (always fresh lived) e
    always fresh (answered {w} u lived up todo under) =
        rested _ w.disks (settled w.past (was_told u.call u.answer ∷ w.past) w (always fresh lived) (rw (up, under)) todo)
    always fresh (dies {w} k lived h) = died M.step G _ _ k w.disks w.todo (always fresh lived) h
    always fresh (power {w} d lived fall up) = down w.past (cut w.under w.past) w d (always fresh lived) fall (rw up)
    always fresh (power_again {w} d lived fall up) = down w.past w.past w d (always fresh lived) fall (rw up)
    always fresh (mended {w} lived up todo) = rested w.past w.disks (settled w.past w.past w (always fresh lived) (rw up) todo)

    -- at rest
    pub always_rest : Fresh → (w : World S I) → Lived M f l w → AtRest w → Rest (Q w.past) w.disks
    always_rest fresh w lived (up, todo, under) = settled w.past w.past w (always fresh lived) (rw (up, under)) todo

-- the state of some disk, of which P holds
pub shape_has : {S I : Type 0} (step : I → S → S) (G : S → I → Type 0) (P Q : S → Type 0) (d : List (Disk S)) (todo : List (On I)) → Shape step G P Q d todo → (s : S) × P s
shape_has step G P Q d todo (agree s xs al has e safe) = (s, safe_here step G P Q s xs safe)
shape_has step G P Q d todo (ahead s x xs j is al asc h e p g safe) = (s, p)

shorter : {l : Limits} {o b : Book} {h : Happening} {hs : List Happening} → Leads l o (h ∷ hs) b → (k : Book) × Leads l o hs k
shorter (Leads.told c r) = (_, r)
shorter (cut_late c r) = (_, r)
shorter (cut_early c r) = (_, r)
shorter (gone r) = (_, r)

-- what explains a cut explains what was before it
pub before_cut : (l : Limits) (o : Book) (up : Bool) (us : List Under) (hs : List Happening) (b : Book) → Leads l o (cut_past up us hs) b → (k : Book) × Leads l o hs k
unfolding cut
before_cut l o true [] hs b e = shorter e
before_cut l o true (u ∷ us) hs b e = shorter e
before_cut l o false us hs b e = (b, e)
