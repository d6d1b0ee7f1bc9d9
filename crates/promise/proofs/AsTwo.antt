-- Two disks with names live as a list of two does: each step of theirs is a step of the list's. So what is
-- proved of a register over a list holds of it over two disks with names. A write's disk number is shown to
-- be below the number of disks, since two disks take every number but 0 for the second.
use Rattle.std.proofs.Common.{◌≡◌, ℕ, zero, suc, ◌+◌, ◌<◌, Bool, true, false, ◌||◌, List, [], ◌∷◌, sym, refl, ap, ◌∙◌, subst, arith}
use Rattle.model.specs.Numbers.{first_page, copies}
use Rattle.model.specs.Book.{Page, Call, Limits}
use Rattle.model.specs.Disks as list
use Rattle.model.specs.Disks.{On, View, wrote_from, killed_from, alive}
use Rattle.model.specs.Plain.{Put, put, plain}
use Rattle.model.specs.Promise as promise
use Rattle.model.specs.Two.{Disks, Write, wrote, wrote_all, seen, World, Fit, made, Lived, Right}
use Rattle.model.specs.Two.Lived.{begins, one_written, answered, first_dies, second_dies, power, power_again, mended}
use Rattle.mirror.specs.Mirror.{mirrored, source}
use Rattle.mirror.proofs.Plans.{Below, below_mirrored}
use Rattle.journal.specs.Journal.{puts_of, blank_puts}
use Rattle.promise.specs.Register.{recovery_writes, register, listed_disks, as_write, as_writes, for_two}
use Rattle.promise.proofs.Right.{is_right}
use Rattle.promise.proofs.Within.{below_recovery}

-- one item written, on either
wrote_two : (x : On Put) (d : Disks) → x.disk < 2 → listed_disks (wrote (as_write x) d) ≡ list.wrote put x (listed_disks d)
unfolding wrote_from
wrote_two x d h = go x.disk refl h
  where
    go : (k : ℕ) → x.disk ≡ k → x.disk < 2 → listed_disks (wrote (as_write x) d) ≡ wrote_from put 0 x (listed_disks d)
    go zero e h = rw e
    go (suc zero) e h = rw e
    go (suc (suc k)) e h = absurd (omega arith)

pub wrote_two_all : (xs : List (On Put)) (d : Disks) → Below 2 xs → listed_disks (wrote_all (as_writes xs) d) ≡ list.wrote_all put xs (listed_disks d)
unfolding wrote_all as_writes list.wrote_all
wrote_two_all [] d b = refl
wrote_two_all (x ∷ xs) d b = wrote_two_all xs (wrote (as_write x) d) b.1 ∙ ap (list.wrote_all put xs) (wrote_two x d b.0)

-- a world of two as a world of a list, with ws still to write
abbrev pub as_list : World → List (On Put) → list.World (List Page) Put
as_list w ws = record { disks = listed_disks w.disks; memory = w.memory; up = w.up; todo = ws; under = w.under; past = w.past }

abbrev pub Like : Limits → World → Type 0
Like l w = (ws : List (On Put)) × (w.todo ≡ as_writes ws) × Below 2 ws × list.Lived plain register l (as_list w ws)

pub no_writes : (ws : List (On Put)) → [] ≡ as_writes ws → ws ≡ []
unfolding as_writes
no_writes [] e = refl
no_writes (w ∷ ws) e = let z : ◌≡◌ {A = ℕ} 0 1 = cc in absurd (omega arith)

fallen_none : (d : Disks) → list.Fallen plain.falls (listed_disks d) (listed_disks d)
fallen_none d = (refl, refl, (refl, refl, tt))

alive_two : (a b : Bool) → (a || b) ≡ true → (a || (b || false)) ≡ true
alive_two true b h = refl
alive_two false true h = refl
alive_two false false h = h

alive_first : (a : Bool) → a ≡ true → (a || (false || false)) ≡ true
alive_first true h = refl
alive_first false h = h

module _ (l : Limits) where
  abbrev Lives : list.World (List Page) Put → Type 0
  Lives w = list.Lived plain register l w

  made_like : (d : Disks) → Fit l.pages d → Like l (made (for_two register) l (wrote_all ((for_two register).makes l.pages) d))
  unfolding as_writes alive
  made_like d (x, y, o) =
      let ms : List (On Put) = mirrored copies (blank_puts 0 (l.pages + first_page)) in
      let F : View → Type 0 = λ v. Lives (record { disks = v; memory = []; up = true; todo = []; under = []; past = [] }) in (
        [],
        refl,
        tt,
        subst F (sym (wrote_two_all ms d (below_mirrored copies (blank_puts 0 (l.pages + first_page))))) (list.Lived.new (listed_disks d) (x, (y, tt)) (alive_two d.first_lives d.second_lives o)),
      )

  nothing_todo : (w : World) (k : Like l w) → w.todo ≡ [] → k.0 ≡ []
  nothing_todo w k t = no_writes k.0 (sym t ∙ k.1)

  begun_like : (w : World) (c : Call) → Like l w → w.up ≡ true → w.todo ≡ [] → w.under ≡ [] →
      Like l (record {
        disks = w.disks;
        memory = w.memory;
        up = true;
        todo = (for_two register).writes l w.memory (seen w.disks) c;
        under = record { call = c; answer = (for_two register).says l w.memory (seen w.disks) c; memory = (for_two register).keeps l w.memory (seen w.disks) c } ∷ [];
        past = w.past;
      })
  unfolding list.seen
  begun_like w c k up todo under = (
    register.writes l w.memory (listed_disks (seen w.disks)) c,
    refl,
    below_mirrored 2 (puts_of l (source (listed_disks (seen w.disks))) c),
    list.Lived.begins c k.3 up (nothing_todo w k todo) under,
  )

  written_like : (w : World) (x : Write) (xs : List Write) (ws : List (On Put)) → w.todo ≡ as_writes ws → Below 2 ws → Lives (as_list w ws) → w.todo ≡ x ∷ xs →
      Like l (record { disks = wrote x w.disks; memory = w.memory; up = w.up; todo = xs; under = w.under; past = w.past })
  unfolding as_writes
  written_like w x xs [] q b k e = let z : ◌≡◌ {A = ℕ} 0 1 = cc in absurd (omega arith)
  written_like w x xs (y ∷ ys) q b k e =
      let hx : x ≡ as_write y = cc in
      let hxs : xs ≡ as_writes ys = cc in
      let F : View → Type 0 = λ v. Lives (record { disks = v; memory = w.memory; up = w.up; todo = ys; under = w.under; past = w.past }) in
      (ys, hxs, b.1, subst F (sym (wrote_two y w.disks b.0) ∙ ap (λ z. listed_disks (wrote z w.disks)) (sym hx)) (list.Lived.one_written y ys k refl))

  first_like : (w : World) → Like l w → w.disks.second_lives ≡ true →
      Like l (record { disks = record { first = w.disks.first; second = w.disks.second; first_lives = false; second_lives = true }; memory = w.memory; up = w.up; todo = w.todo; under = w.under; past = w.past })
  unfolding killed_from alive
  first_like w k h =
      let F : Bool → Type 0 =
      λ t. Lives (record { disks = record { has = w.disks.first; lives = false } ∷ (record { has = w.disks.second; lives = t } ∷ []); memory = w.memory; up = w.up; todo = k.0; under = w.under; past = w.past }) in
      (k.0, k.1, k.2, subst F h (list.Lived.dies 0 k.3 (alive_two false w.disks.second_lives h)))

  second_like : (w : World) → Like l w → w.disks.first_lives ≡ true →
      Like l (record { disks = record { first = w.disks.first; second = w.disks.second; first_lives = true; second_lives = false }; memory = w.memory; up = w.up; todo = w.todo; under = w.under; past = w.past })
  unfolding killed_from alive
  second_like w k h =
      let F : Bool → Type 0 =
      λ t. Lives (record { disks = record { has = w.disks.first; lives = t } ∷ (record { has = w.disks.second; lives = false } ∷ []); memory = w.memory; up = w.up; todo = k.0; under = w.under; past = w.past }) in
      (k.0, k.1, k.2, subst F h (list.Lived.dies 1 k.3 (alive_first w.disks.first_lives h)))

  -- each step of two is a step of the list
  pub alike : {w : World} → Lived (for_two register) l w → Like l w
  unfolding list.seen
  alike (Lived.new d fit) = made_like d fit
  alike (begins {w} c lived up todo under) = begun_like w c (alike lived) up todo under
  alike (one_written {w} x xs lived e) = let k = alike lived in written_like w x xs k.0 k.1 k.2 k.3 e
  alike (answered {w} u lived up todo under) = let k = alike lived in ([], unfold as_writes in refl, tt, list.Lived.answered u k.3 up (nothing_todo w k todo) under)
  alike (first_dies {w} lived h) = first_like w (alike lived) h
  alike (second_dies {w} lived h) = second_like w (alike lived) h
  alike (power {w} lived up) =
      let k = alike lived in
      (recovery_writes (listed_disks (seen w.disks)), refl, below_recovery (listed_disks (seen w.disks)), list.Lived.power (listed_disks w.disks) k.3 (fallen_none w.disks) up)
  alike (power_again {w} lived up) =
      let k = alike lived in
      (recovery_writes (listed_disks (seen w.disks)), refl, below_recovery (listed_disks (seen w.disks)), list.Lived.power_again (listed_disks w.disks) k.3 (fallen_none w.disks) up)
  alike (mended {w} lived up todo) = let k = alike lived in ([], unfold as_writes in refl, tt, list.Lived.mended k.3 up (nothing_todo w k todo))

-- THE MAIN PROMISE, for two disks with names
pub two_right : (can : ℕ → Bool) → Right can (for_two register)
unfolding Right promise.Right
two_right can l w good lived = is_right can l (as_list w (alike l lived).0) good (alike l lived).3
