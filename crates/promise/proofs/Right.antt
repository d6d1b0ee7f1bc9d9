-- The register on plain disks, as many as there are, does what is owed: new disks are at rest, every call
-- is the journal's plan taken to the replicas, and recovery is the journal's after the replicas were made
-- the same. So the main promise holds of it.
use Rattle.std.proofs.Common.{◌≡◌, ℕ, suc, ◌+◌, ◌≤◌, Bool, List, [], ◌∷◌, length, sym, refl, ap, ◌∙◌, subst}
use Rattle.std.proofs.lemmas.Bool.{cond-true}
use Rattle.model.specs.Numbers.{first_page, most_pages}
use Rattle.model.specs.Book.{Page, empty_page, many, Limits, Book, new_book, answer}
use Rattle.model.specs.Disks.{Disk, wrote_all, View, seen, Fallen, Fit, was_told, was_cut, World, Lived}
use Rattle.model.specs.Plain.{Put, put, plain}
use Rattle.model.specs.Promise.{Right}
use Rattle.model.specs.Statements.{GoodSize, AtRest}
use Rattle.model.proofs.Puts.{steps_puts}
use Rattle.mirror.specs.Mirror.{mirrored, source}
use Rattle.mirror.proofs.Each.{Each, Has, each_map, length_seen, source_is, alive_wrote_all}
use Rattle.mirror.proofs.Replicas.{Shape, agree}
use Rattle.mirror.proofs.Resync.{id, recovery_shape}
use Rattle.mirror.proofs.Landed.{each_mirrored}
use Rattle.journal.specs.Journal.{recovery, book_of, puts_of, blank_puts}
use Rattle.journal.proofs.Log.{Allowed}
use Rattle.journal.proofs.Calls.{Recoverable, Ready, ready_recoverable, blank_ready, recovery_is_safe, call_is_safe}
use Rattle.journal.proofs.Blank.{blanked}
use Rattle.promise.specs.Register.{recovery_writes, register}
use Rattle.promise.proofs.Worlds.{cut_past, done_past, Rest, Serves, Fresh, always, always_rest, shape_has, before_cut}

-- power changes nothing on plain disks
same_disk : (d e : Disk (List Page)) → e.lives ≡ d.lives → e.has ≡ d.has → e ≡ d
same_disk d e p q = λ i. record { has = q i; lives = p i }

pub fallen_same : (d e : View) → Fallen plain.falls d e → e ≡ d
fallen_same [] [] f = refl
fallen_same [] (y ∷ e) f = absurd f
fallen_same (x ∷ d) [] f = absurd f
fallen_same (x ∷ d) (y ∷ e) f =
    let p : y ≡ x = same_disk x y f.0 f.1 in
    let q : e ≡ d = fallen_same d e f.2 in
    cc

-- new disks
fit_each : (n i : ℕ) (d : View) → Fit (plain.fits n) d → Each (λ _ y. length y.has ≡ n + first_page) i d
fit_each n i [] f = tt
fit_each n i (y ∷ d) f = (f.0, fit_each n (suc i) d f.1)

pub made_blank : (n : ℕ) (d : View) → Fit (plain.fits n) d → Each (Has (many (n + first_page) empty_page)) 0 (wrote_all put (register.makes (length d) n) d)
made_blank n d fit =
    each_mirrored put (blank_puts 0 (n + first_page)) d (Has (many (n + first_page) empty_page))
    (each_map (λ _ y. length y.has ≡ n + first_page) _
    (λ i y e h. cond-true y.lives _ y.has h ∙ steps_puts (blank_puts 0 (n + first_page)) y.has ∙ blanked (n + first_page) y.has e)
    0 d (fit_each n 0 d fit))

-- from any book on
pub serves : (l : Limits) → l.pages ≤ most_pages → (o : Book) → Serves plain register l (Allowed l.pages) (Recoverable l o) (Ready l o)
serves l bounded o = record {
  idle = λ hs s q. ready_recoverable l o hs s q;
  calls = λ c hs m d r.
      let (b, al, h, q) = r in
      let e : source (seen id d) ≡ b = source_is id b 0 d al h in
      let F : List Page → Type 0 =
      λ x. Shape put (Allowed l.pages) (Recoverable l o (was_cut c ∷ hs)) (Ready l o (was_told c (answer l (book_of x) c) ∷ hs)) d (mirrored (length (seen id d)) (puts_of l x c)) in
      subst F (sym e) (agree b (puts_of l b c) al h (ap (λ n. mirrored n (puts_of l b c)) (length_seen id d)) (call_is_safe l bounded o hs b q c));
  mends = λ hs gs d e todo sh f.
      let p : e ≡ d = fallen_same d e f in
      let F : View → Type 0 = λ x. Shape put (Allowed l.pages) (Recoverable l o hs) (Ready l o hs) x (recovery_writes (seen id x)) in
      subst F (sym p) (recovery_shape recovery (Allowed l.pages) (Recoverable l o hs) (Ready l o gs) (Ready l o hs) (recovery_is_safe l o hs) d todo sh);
}

module _ (l : Limits) (size : GoodSize l) where
  abbrev o : Book
  o = new_book l.pages

  fresh : Fresh plain register l (Allowed l.pages) (Recoverable l o) (Ready l o)
  fresh d fit al =
      (many (l.pages + first_page) empty_page, alive_wrote_all put (register.makes (length d) l.pages) d ∙ al, made_blank l.pages d fit, blank_ready l size.0)

  -- at any moment the replicas are in one of the shapes: recovery from it is explained by what happened
  pub any_moment : (w : World (List Page) Put) → Lived plain register l w →
      Shape put (Allowed l.pages) (Recoverable l (new_book l.pages) (cut_past w.up w.under w.past)) (Ready l (new_book l.pages) (done_past w.up w.under w.past)) w.disks w.todo
  any_moment w lived = always plain register l _ _ _ (serves l size.1 o) fresh lived

  -- at rest all that live have the same, which shows a book that explains what happened
  pub at_rest : (w : World (List Page) Put) → Lived plain register l w → AtRest w → Rest (Ready l (new_book l.pages) w.past) w.disks
  at_rest w lived rest = always_rest plain register l _ _ _ (serves l size.1 o) fresh w lived rest

-- THE MAIN PROMISE, for as many disks as there are
pub is_right : (can : ℕ → Bool) → Right plain can register
unfolding Right
is_right can l w good lived =
    let r = (shape_has put _ _ _ w.disks w.todo (any_moment l (good.0, good.1) w lived)).1 in
    before_cut l (new_book l.pages) w.up w.under w.past r.book r.explains
