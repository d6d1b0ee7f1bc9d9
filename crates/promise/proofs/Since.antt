-- From one rest to a later one with no close between, the same pages stand on each living disk. The
-- invariant of worlds is taken from the book that the first rest shows, and what has happened since.
use Rattle.std.proofs.Common.{◌≡◌, Bool, true, false, List, [], ◌∷◌, ◌++◌, sym, refl, ap, ◌∙◌}
use Rattle.std.proofs.lemmas.List.{append_cancel_right}
use Rattle.model.specs.Numbers.{first_page}
use Rattle.model.specs.Book.{Page, Limits, Book, new_book}
use Rattle.model.specs.Disks.{Happening, was_told, View, Under, World, cut}
use Rattle.model.specs.Plain.{Put, put, plain}
use Rattle.model.specs.Promise.{from_block}
use Rattle.model.specs.Promise.Leads.{at_first}
use Rattle.model.specs.Statements.{GoodSize, AllLive, AtRest, no_close, GoesOnHolding}
use Rattle.model.specs.Later.{Later, StandsOn}
use Rattle.model.specs.Later.Later.{at_once, begins, one_written, answered, dies, power, power_again, mended}
use Rattle.model.proofs.Holding.{goes_on_holding}
use Rattle.mirror.proofs.Replicas.{stepped, died}
use Rattle.journal.proofs.Log.{Allowed}
use Rattle.journal.proofs.Calls.{Recoverable, Ready}
use Rattle.promise.specs.Register.{register}
use Rattle.promise.proofs.Worlds.{cut_past, done_past, Rest, Inv, settled, rested, down}
use Rattle.promise.proofs.Right.{serves, at_rest}
use Rattle.promise.proofs.Resting.{each_live}

cut_append : (us : List Under) (gs hs : List Happening) → cut us (gs ++ hs) ≡ cut us gs ++ hs
unfolding cut
cut_append [] gs hs = refl
cut_append (u ∷ us) gs hs = refl

done_rest : (t : Bool) (us : List Under) (hs : List Happening) → t ≡ true → us ≡ [] → done_past t us hs ≡ hs
done_rest t us hs e f = rw (e, f)

done_under : (t : Bool) (us : List Under) (u : Under) (hs : List Happening) → t ≡ true → us ≡ u ∷ [] → done_past t us hs ≡ was_told u.call u.answer ∷ hs
done_under t us u hs e f = rw (e, f)

done_down : (t : Bool) (us : List Under) (hs : List Happening) → t ≡ false → done_past t us hs ≡ hs
done_down t us hs e = rw e

cut_up : (t : Bool) (us : List Under) (hs : List Happening) → t ≡ true → cut_past t us hs ≡ cut us hs
cut_up t us hs e = rw e

cut_down : (t : Bool) (us : List Under) (hs : List Happening) → t ≡ false → cut_past t us hs ≡ hs
cut_down t us hs e = rw e

module _ (l : Limits) (size : GoodSize l) (v : World (List Page) Put) (o : Book) where
  -- after hs, since v
  abbrev After : List Happening → World (List Page) Put → Type 0
  After hs w = Inv plain register l (Allowed l.pages) (Recoverable l o) (Ready l o) hs w

  abbrev Since : World (List Page) Put → Type 0
  Since w = (hs : List Happening) × (w.past ≡ hs ++ v.past) × After hs w

  rest_after : (hs gs : List Happening) (w : World (List Page) Put) → After hs w → done_past w.up w.under hs ≡ gs → w.todo ≡ [] → Rest (Ready l o gs) w.disks
  rest_after hs gs w i e t = settled plain register l (Allowed l.pages) (Recoverable l o) (Ready l o) hs gs w i e t

  since : {w : World (List Page) Put} → Since v → Later plain register l v w → Since w
  unfolding cut
  since s at_once = s
  since s (begins {w} c later up todo under) =
      let (hs, e, i) = since s later in
      (hs, e, (serves l size.1 o).calls c hs w.memory w.disks (rest_after hs hs w i (done_rest _ _ hs up under) todo))
  since s (one_written {w} x xs later t) = let (hs, e, i) = since s later in (hs, e, stepped put _ _ _ w.disks x xs w.todo i t)
  since s (answered {w} u later up todo under) =
      let (hs, e, i) = since s later in
      let h : Happening = was_told u.call u.answer in
      (h ∷ hs, ap (λ x. h ∷ x) e, rested plain register l _ _ _ (serves l size.1 o) (h ∷ hs) w.disks (rest_after hs (h ∷ hs) w i (done_under _ _ u hs up under) todo))
  since s (dies {w} k later h) = let (hs, e, i) = since s later in (hs, e, died put _ _ _ k w.disks w.todo i h)
  since s (power {w} d later fall up) =
      let (hs, e, i) = since s later in
      (cut w.under hs, ap (cut w.under) e ∙ cut_append w.under hs v.past, down plain register l _ _ _ (serves l size.1 o) hs (cut w.under hs) w d i fall (cut_up _ _ hs up))
  since s (power_again {w} d later fall up) =
      let (hs, e, i) = since s later in
      (hs, e, down plain register l _ _ _ (serves l size.1 o) hs hs w d i fall (cut_down _ _ hs up))
  since s (mended {w} later up todo) =
      let (hs, e, i) = since s later in
      (hs, e, rested plain register l _ _ _ (serves l size.1 o) hs w.disks (rest_after hs hs w i (done_down _ _ hs up) todo))

  -- from rest to rest
  rest_since : (w : World (List Page) Put) (hs : List Happening) → AtRest v → AtRest w → Rest (Ready l o []) v.disks → Later plain register l v w → w.past ≡ hs ++ v.past → Rest (Ready l o hs) w.disks
  unfolding cut
  rest_since w hs (up, todo, under) (up', todo', under') r later e =
      let i₀ : After [] v = rw (up, under, todo) (rested plain register l _ _ _ (serves l size.1 o) [] v.disks r) in
      let (gs, e', i) = since ([], refl, i₀) later in
      let same : gs ≡ hs = append_cancel_right gs hs v.past (sym e' ∙ e) in
      rest_after gs hs w i (done_rest _ _ gs up' under' ∙ same) todo'

abbrev Stand : List Page → View → Type 0
Stand p d = AllLive (λ s. from_block first_page s ≡ p) d

-- what stands at a rest, and at a later one
stand : (l : Limits) (d : View) (o : Book) (hs : List Happening) → Rest (Ready l o hs) d → no_close hs ≡ true → Stand o.old d
unfolding GoesOnHolding
stand l d o hs (b, al, h, r) quiet = each_live b (λ s. from_block first_page s ≡ o.old) (r.shows.old_is ∙ goes_on_holding l o r.book hs r.explains quiet) 0 d h

pub stands_on : StandsOn plain register
unfolding StandsOn no_close
stands_on l v w hs size lived rest later rest' e quiet = go (at_rest l size v lived rest)
  where
    go : Rest (Ready l (new_book l.pages) v.past) v.disks → (p : List Page) × Stand p v.disks × Stand p w.disks
    go (b, al, h, r) =
        let o : Book = r.book in
        let here : Rest (Ready l o []) v.disks = (b, al, h, record { book = o; explains = at_first; shows = r.shows }) in
        (o.old, stand l v.disks o [] here (unfold no_close in refl), stand l w.disks o hs (rest_since l size v o w hs rest rest' here later e) quiet)
