-- Steps of a world in memory as steps of the model, each by the model's step of that name.
use Rattle.std.proofs.Common.{◌≡◌, ℕ, ◌+◌, Bool, true, false, ◌||◌, ◌⊎◌, List, [], ◌∷◌, ◌++◌, drop, Some, None, Option, vec_items, sym, refl, ap, ◌∙◌, subst, inl, inr, add-one}
use Rattle.std.specs.List.{slice_get as item}
use Rattle.std.proofs.lemmas.Bool.{both_ways, or_cases, or_left, or_right}
use Rattle.model.specs.Numbers.{copies}
use Rattle.model.specs.Book.{Page, nth, Call, Answer, answer}
use Rattle.model.specs.Disks.{On, Happening, was_told, Under, World, Lived, alive, killed_from, seen, cut}
use Rattle.model.specs.Disks.Lived.{begins, answered, power, power_again, mended}
use Rattle.model.specs.Plain.{Put, plain}
use Rattle.model.specs.Promise.{Right, Leads, all}
use Rattle.model.specs.Statements.{GoodSize}
use Rattle.mirror.specs.Mirror.{mirrored}
use Rattle.promise.specs.Register.{register, recovery_writes}
use Rattle.promise.proofs.Right.{is_right}
use Rattle.device.specs.Blocks.{whole}
use Rattle.device.specs.Known.{Known}
use Rattle.device.specs.Sides.{disk_at, with_disk}
use Rattle.device.specs.declared.memory.MemDisk.{MemDisk}
use Rattle.device.specs.declared.mirror.Mirror.{Mirror}
use Rattle.device.specs.Ran as ran
use Rattle.device.specs.Ran.{Ran, stays, Both, view, one_lives}
use Rattle.device.specs.declared.mirror.Side.{Side}
use Rattle.device.specs.declared.mirror.Side.TheVariants.{First, Second}
use Rattle.journal.specs.Journal.{book_of, puts_of}
use Rattle.journal.specs.Plans.{replays, plan_puts}
use Rattle.journal.specs.declared.plan.Plan.{Plan}
use Rattle.journal.specs.declared.plan.Plan.TheVariants.{Nothing}
use Rattle.engine.specs.declared.work.Work.{Work}
use Rattle.engine.specs.declared.call.Turn.{Turn}
use Rattle.engine.specs.declared.write.Write.{Write}
use Rattle.engine.specs.declared.write.WriteKind.{WriteKind}
use Rattle.engine.specs.declared.write.WriteKind.TheVariants.{Copied, Journal}
use Rattle.engine.specs.Works.{written, write_means, copy_writes, both_writes, work_writes}
use Rattle.engine.specs.Doing.{LogSame, CanDo, Performed, Copies}
use Rattle.engine.specs.Calling.{limits, Agree, reply_means, KnowsList, Begun}
use Rattle.engine.specs.Recovering.{OfPages, source_of, Begins, RecoveryBegun}
use Rattle.engine.specs.Living as living
use Rattle.engine.specs.Living.{Explained, MakingLives}
use Rattle.engine.proofs.LogKept.{AllKeep, ran_keeps, keep_mirrored, replay_keeps}
use Rattle.engine.proofs.Living.{ran_alive, view_alive, busy, run_lives, rested, explained, died_lives, fallen_none, log_agrees, of_pages}
use Rattle.device.specs.InMemory.{disk_of, both_of}
use Rattle.world.specs.Reached.{HeldFor, GoesBy, Reached}
use Rattle.world.proofs.Lists.{some_same, drop_item, on_first, pair_held, first_held, keep_item}

back_to : {A : Type 0} (P : A → Type 0) {x y : A} → x ≡ y → P y → P x
back_to P e p = subst P (sym e) p

list_second : (p : Page) → nth (p ∷ (p ∷ [])) 1 ≡ p
unfolding nth
list_second p = refl

-- one of two lives
lives_view : (d : Both) → alive (view d) ≡ true → one_lives d ≡ true
unfolding alive
lives_view d h = go (or_cases d.first.lives (d.second.lives || false) h)
  where
    go : (d.first.lives ≡ true) ⊎ ((d.second.lives || false) ≡ true) → one_lives d ≡ true
    go (inl q) = or_left d.first.lives d.second.lives q
    go (inr q) = elim (or_cases d.second.lives false q) [ inl z ↦ or_right d.first.lives d.second.lives z | inr z ↦ absurd (both_ways false refl z) ]

-- deaths
pub died : (d e : Both) (n : ℕ) (up : Bool) (w : Work) (k : ℕ) (held : Page) (un : List Under) (hs : List Happening) → Ran [] (view d) (view e) →
    Reached d n up w k held un hs → Reached e n up w k held un hs
died d e n up w k held un hs r q = (
  q.0,
  q.1,
  λ al.
      let there : alive (view e) ≡ true = view_alive e al in
      let z = q.2 (lives_view d (ran_alive r there)) in (
        z.0,
        (z.1.0, (λ h. ran_keeps z.0 tt r (z.1.1 h)), z.1.2, z.1.3),
        run_lives (limits n) [] up un hs (drop k (work_writes w z.0)) r there z.2,
      ),
)

-- a disk of a side that is dead now
pub side_dead : (m : Mirror MemDisk) (s : Side) (a : MemDisk) → a.bytes ≡ (disk_at s m).bytes → a.alive ≡ false → Ran [] (view (both_of m)) (view (both_of (with_disk s m a)))
unfolding killed_from
side_dead m First a same dead =
    let P : Known → Type 0 = λ x. Ran [] (view (both_of m)) (view (record { first = x; second = disk_of m.second })) in
    let e : record { has = (disk_of m.first).has; lives = false } ≡ disk_of a = λ i. record { has = whole (vec_items (sym same i)); lives = sym dead i } in
    subst P e (ran.dies 0 stays)
side_dead m Second a same dead =
    let P : Known → Type 0 = λ x. Ran [] (view (both_of m)) (view (record { first = disk_of m.first; second = x })) in
    let e : record { has = (disk_of m.second).has; lives = false } ≡ disk_of a = λ i. record { has = whole (vec_items (sym same i)); lives = sym dead i } in
    subst P e (ran.dies 1 stays)

-- a disk of a side that has the same and lives as before
pub side_same : (m : Mirror MemDisk) (s : Side) (a : MemDisk) → a.bytes ≡ (disk_at s m).bytes → a.alive ≡ (disk_at s m).alive → both_of m ≡ both_of (with_disk s m a)
side_same m First a same lives = λ i. record { first = record { has = whole (vec_items (sym same i)); lives = sym lives i }; second = disk_of m.second }
side_same m Second a same lives = λ i. record { first = disk_of m.first; second = record { has = whole (vec_items (sym same i)); lives = sym lives i } }

-- the answer is told
pub told : (d : Both) (n : ℕ) (w : Work) (k : ℕ) (held : Page) (c : Call) (a : Answer) (hs : List Happening) → one_lives d ≡ true → ((b : List Page) → drop k (work_writes w b) ≡ []) →
    Reached d n true w k held (record { call = c; answer = a; memory = [] } ∷ []) hs → Reached d n true w k held [] (was_told c a ∷ hs)
told d n w k held c a hs al none q =
    let z = q.2 al in
    let u : Under = record { call = c; answer = a; memory = [] } in
    let T : List (On Put) → Type 0 = λ ws. Lived plain register (limits n) (record { disks = view d; memory = []; up = true; todo = ws; under = []; past = was_told c a ∷ hs }) in
    let rest : T [] = answered u z.2 refl (none z.0) refl in
    (q.0, explained n q.0 d (was_told c a ∷ hs) rest, λ h. (z.0, z.1, subst T (sym (none z.0)) rest))

-- recovery is done
pub up_again : (d : Both) (n : ℕ) (w : Work) (k : ℕ) (held : Page) (un : List Under) (hs : List Happening) → ((b : List Page) → drop k (work_writes w b) ≡ []) →
    Reached d n false w k held un hs → Reached d n true w k held [] hs
up_again d n w k held un hs none q = (
  q.0,
  q.1,
  λ al.
      let z = q.2 al in
      let T : List (On Put) → Type 0 = λ ws. Lived plain register (limits n) (record { disks = view d; memory = []; up = true; todo = ws; under = []; past = hs }) in
      (z.0, z.1, subst T (sym (none z.0)) (mended z.2 refl (none z.0))),
)

-- the next block is written
can_do : (w : Work) (b : List Page) (d : Both) (s : Side) (kind : WriteKind) (block : ℕ) (held : Page) → (replays w.plan ≡ true → LogSame (view d) b) →
    ((write_means w.block b (record { disk = s; block = block; kind = kind })).disk ≡ 1 → held ≡ written w.block b kind) → CanDo w b d s kind held
can_do w b d First Copied block held same h = tt
can_do w b d First (Journal k) block held same h = same
can_do w b d Second Copied block held same h = tt
can_do w b d Second (Journal k) block held same h = h refl

all_keep : (w : Work) (b : List Page) → Copies w.copy w.block b → replays w.plan ≡ true → AllKeep b (work_writes w b)
all_keep w b same h = go w.copy same
  where
    rest : AllKeep b (both_writes w b)
    rest = keep_mirrored b (plan_puts w.plan w.block b) (replay_keeps w.plan w.block b h)

    go : (c : Option ℕ) → Copies c w.block b → AllKeep b (copy_writes c w.block ++ both_writes w b)
    go None z = rest
    go (Some k) z = (inr z, rest)

-- what performing the next write of a world that can be reached gives
performing : (d e : Both) (n : ℕ) (up : Bool) (w : Work) (k : ℕ) (x : Write) (held held' : Page) (un : List Under) (hs : List Happening) (r : Bool) (b : List Page) →
    Some (write_means w.block b x) ≡ item (work_writes w b) k → Performed (Some d) (Some e) w x held held' r → GoesBy d w k held b →
    Ran (write_means w.block b x ∷ []) (view d) (view e) × (r ≡ one_lives e) × (r ≡ true → held' ≡ written w.block b x.kind)
    × (drop k (work_writes w b) ≡ write_means w.block b x ∷ drop (k + 1) (work_writes w b))
performing d e n up w k x held held' un hs r b at done by =
    let p : On Put = write_means w.block b x in
    let split : drop k (work_writes w b) ≡ p ∷ drop (k + 1) (work_writes w b) = drop_item (work_writes w b) k p at ∙ ap (λ j. p ∷ drop j (work_writes w b)) (sym (add-one k)) in
    let H : List (On Put) → Type 0 = λ ws. HeldFor ws held in
    let f = done d refl b by.0 (can_do w b d x.disk x.kind x.block held by.1 (subst H split by.3)) in
    let same = some_same e f.0 f.1 in
    let E : Both → Type 0 = λ y. Ran (p ∷ []) (view d) (view y) in
    (subst E (sym same) f.2, f.3 ∙ ap one_lives (sym same), f.4, split)

pub wrote_next : (d e : Both) (n : ℕ) (up : Bool) (w : Work) (k : ℕ) (x : Write) (held held' : Page) (un : List Under) (hs : List Happening) → one_lives d ≡ true →
    ((b : List Page) → nth b 1 ≡ w.list → Some (write_means w.block b x) ≡ item (work_writes w b) k) → Performed (Some d) (Some e) w x held held' true →
    Reached d n up w k held un hs → Reached e n up w (k + 1) held' un hs
wrote_next d e n up w k x held held' un hs al is done q = (
  q.0,
  q.1,
  λ there.
      let z = q.2 al in
      let b : List Page = z.0 in
      let p : On Put = write_means w.block b x in
      let at : Some p ≡ item (work_writes w b) k = is b z.1.0 in
      let f = performing d e n up w k x held held' un hs true b at done z.1 in
      let L : List (On Put) → Type 0 = λ ws. Lived plain register (limits n) (record { disks = view d; memory = []; up = up; todo = ws; under = un; past = hs }) in
      let K : Page → Type 0 = λ y. HeldFor (drop (k + 1) (work_writes w b)) y in
      let N : ℕ → Type 0 = λ j. HeldFor (drop j (work_writes w b)) p.item.content in (
        b,
        (
          z.1.0,
          (λ h. ran_keeps b (keep_item b (work_writes w b) k p at (all_keep w b z.1.2 h), tt) f.0 (z.1.1 h)),
          z.1.2,
          subst K (sym (f.2 refl)) (subst N (sym (add-one k)) (pair_held w.copy w.block (plan_puts w.plan w.block b) k p at)),
        ),
        run_lives (limits n) [] up un hs (drop (k + 1) (work_writes w b)) f.0 (view_alive e there) (subst L f.3 z.2),
      ),
)

-- where no disk is left, nothing is promised but what was explained before
pub left_dead : (d e : Both) (n : ℕ) (up up' : Bool) (w w' : Work) (k k' : ℕ) (held held' : Page) (un un' : List Under) (hs : List Happening) → one_lives e ≡ false →
    Reached d n up w k held un hs → Reached e n up' w' k' held' un' hs
left_dead d e n up up' w w' k k' held held' un un' hs dead q = (q.0, q.1, λ al. absurd (both_ways (one_lives e) dead al))

pub wrote_none : (d e : Both) (n : ℕ) (up : Bool) (w : Work) (k : ℕ) (x : Write) (held held' : Page) (un : List Under) (hs : List Happening) → one_lives d ≡ true →
    ((b : List Page) → nth b 1 ≡ w.list → Some (write_means w.block b x) ≡ item (work_writes w b) k) → Performed (Some d) (Some e) w x held held' false →
    Reached d n up w k held un hs → Reached e n up w k held' un hs
wrote_none d e n up w k x held held' un hs al is done q =
    let z = q.2 al in
    let f = performing d e n up w k x held held' un hs false z.0 (is z.0 z.1.0) done z.1 in
    left_dead d e n up up w w k k held held' un un hs (sym f.1) q

-- a call begins
nothing_else : (w : Work) (b c : List Page) → w.plan ≡ Nothing → work_writes w b ≡ work_writes w c
nothing_else w b c e =
    let P : Plan → Type 0 = λ q. ◌≡◌ {A = List (On Put)} (copy_writes w.copy w.block ++ mirrored copies (plan_puts q w.block b)) (copy_writes w.copy w.block ++ mirrored copies (plan_puts q w.block c)) in
    subst P (sym e) refl

begun_held : (w : Work) (b : List Page) (held : Page) → w.copy ≡ None → HeldFor (work_writes w b) held
begun_held w b held e =
    let P : Option ℕ → Type 0 = λ c. HeldFor (copy_writes c w.block ++ both_writes w b) held in
    subst P (sym e) (on_first (plan_puts w.plan w.block b) held)

copies_none : (w : Work) (b : List Page) → w.copy ≡ None → Copies w.copy w.block b
copies_none w b e = let P : Option ℕ → Type 0 = λ c. Copies c w.block b in subst P (sym e) tt

agree_log : (d : Both) (b : List Page) → Agree d b → LogSame (view d) b
agree_log d b a = ((λ h i l. ap (λ x. nth x (2 + i)) (a.0 h)), ((λ h i l. ap (λ x. nth x (2 + i)) (a.1 h)), tt))

-- blocks by which a work that has begun goes on
begun_by : (d e : Both) (w : Work) (b : List Page) (held : Page) → Agree d b → Ran [] (view d) (view e) → w.copy ≡ None → KnowsList w b →
    (c : List Page) × GoesBy e w 0 held c × (work_writes w c ≡ work_writes w b)
begun_by d e w b held agree r none (inl is) =
    let c : List Page = w.list ∷ (w.list ∷ []) in
    let R : Plan → Type 0 = λ q. replays q ≡ true → LogSame (view e) c in
    (c, (list_second w.list, subst R (sym is) (λ h. absurd (both_ways false refl h)), copies_none w c none, begun_held w c held none), nothing_else w c b is)
begun_by d e w b held agree r none (inr is) = (b, (is, (λ h. ran_keeps b tt r (agree_log d b agree)), copies_none w b none, begun_held w b held none), refl)

pub began : (d e : Both) (n : ℕ) (w : Work) (k : ℕ) (held held' : Page) (t : Turn) (c : Call) (page : Page) (hs : List Happening) → one_lives d ≡ true → ((b : List Page) → drop k (work_writes w b) ≡ []) →
    Begun (Some d) (Some e) n c page (Some t) → Reached d n true w k held [] hs →
    Reached e n true t.work 0 held' (record { call = c; answer = reply_means t.reply page; memory = [] } ∷ []) hs
unfolding seen
began d e n w k held held' t c page hs al none start q = (
  q.0,
  q.1,
  λ there.
      let z = q.2 al in
      let l = limits n in
      let T : List (On Put) → Type 0 = λ ws. Lived plain register l (record { disks = view d; memory = []; up = true; todo = ws; under = []; past = hs }) in
      let rest : T [] = subst T (none z.0) z.2 in
      let here = rested n q.0 d hs rest in
      let b : List Page = here.0 in
      let f = start d refl b here.1 here.2 in
      let E : Both → Type 0 = λ y. Ran [] (view d) (view y) in
      let r : Ran [] (view d) (view e) = subst E (sym (some_same e f.0 f.1)) f.2 in
      let u : Answer → Under = λ a. record { call = c; answer = a; memory = [] } in
      let F : List Page → Type 0 = λ x. Lived plain register l (busy [] true (u (answer l (book_of x) c) ∷ []) hs (view d) (mirrored copies (puts_of l x c))) in
      let on : F b = subst F here.3 (begins c rest refl refl refl) in
      let A : Answer → Type 0 = λ a. Lived plain register l (busy [] true (u a ∷ []) hs (view d) (mirrored copies (puts_of l b c))) in
      let W : List (On Put) → Type 0 = λ ws. Lived plain register l (busy [] true (u (reply_means t.reply page) ∷ []) hs (view e) ws) in
      let by = begun_by d e t.work b held' here.1 r f.3.2 f.3.3 in
      let there_on = run_lives l [] true (u (reply_means t.reply page) ∷ []) hs (mirrored copies (puts_of l b c)) r (view_alive e there) (subst A (sym f.3.0) on) in
      (by.0, by.1, back_to W by.2 (back_to W f.3.1 there_on)),
)

-- no disk was left while it was read
pub began_none : (d e : Both) (n : ℕ) (up : Bool) (w : Work) (k : ℕ) (held : Page) (c : Call) (page : Page) (hs : List Happening) → up ≡ true → one_lives d ≡ true → ((b : List Page) → drop k (work_writes w b) ≡ []) →
    Begun (Some d) (Some e) n c page None → Reached d n up w k held [] hs → Reached e n up w k held [] hs
began_none d e n up w k held c page hs is al none start q =
    let z = q.2 al in
    let T : List (On Put) → Type 0 = λ ws. Lived plain register (limits n) (record { disks = view d; memory = []; up = up; todo = ws; under = []; past = hs }) in
    let U : Bool → Type 0 = λ y. Lived plain register (limits n) (record { disks = view d; memory = []; up = y; todo = []; under = []; past = hs }) in
    let here = rested n q.0 d hs (subst U is (subst T (none z.0) z.2)) in
    let f = start d refl here.0 here.1 here.2 in
    left_dead d e n up up w w k k held held [] [] hs (ap one_lives (some_same e f.0 f.1) ∙ f.3) q

-- power goes
promised : (n : ℕ) → GoodSize (limits n) → (w : World (List Page) Put) → Lived plain register (limits n) w → Explained n w.past
unfolding Right
promised n size w lived = is_right all (limits n) w (size.0, size.1, λ k. refl) lived

recovering : (d e : Both) (n : ℕ) (t : Work) (held : Page) → GoodSize (limits n) → (w : World (List Page) Put) → Lived plain register (limits n) w → w.disks ≡ view d →
    RecoveryBegun (Some d) (Some e) n (Some t) → held ≡ t.block →
    Ran [] (view d) (view e) × (one_lives e ≡ true) × GoesBy e t 0 held (source_of e) × (work_writes t (source_of e) ≡ recovery_writes (seen (λ b. b) (view e)))
recovering d e n t held size w lived is start h =
    let f = start d refl (of_pages n size w d lived is) in
    let same = some_same e f.0 f.1 in
    let E : Both → Type 0 = λ y. Ran [] (view d) (view y) in
    let B : Both → Type 0 = λ y. Begins y (Some t) in
    let r : Ran [] (view d) (view e) = subst E (sym same) f.2 in
    let g : Begins e (Some t) = subst B (sym same) f.3 in
    let b : List Page = source_of e in
    let H : Page → Type 0 = λ p. HeldFor (work_writes t b) p in (
      r,
      g.0,
      (g.2, (λ z. log_agrees n size w d lived is e r (g.4 z)), g.3, subst H (sym h) (first_held t.copy t.block (plan_puts t.plan t.block b))),
      g.1,
    )

pub power_gone : (d e : Both) (n : ℕ) (w : Work) (k : ℕ) (held held' : Page) (t : Work) (un : List Under) (hs : List Happening) → one_lives d ≡ true →
    RecoveryBegun (Some d) (Some e) n (Some t) → held' ≡ t.block → Reached d n true w k held un hs → Reached e n false t 0 held' [] (cut un hs)
power_gone d e n w k held held' t un hs al start h q =
    let z = q.2 al in
    let l = limits n in
    let v : World (List Page) Put = record { disks = view d; memory = []; up = true; todo = drop k (work_writes w z.0); under = un; past = hs } in
    let f = recovering d e n t held' q.0 v z.2 refl start h in
    let W : List (On Put) → Type 0 = λ ws. Lived plain register l (busy [] false [] (cut un hs) (view e) ws) in
    let gone : W (recovery_writes (seen (λ b. b) (view e))) = power (view e) (died_lives l v d e z.2 refl f.0 (view_alive e f.1)) (fallen_none e) refl in
    let down : W (work_writes t (source_of e)) = subst W (sym f.3) gone in
    (q.0, promised n q.0 _ down, λ there. (source_of e, f.2, down))

pub power_gone_again : (d e : Both) (n : ℕ) (w : Work) (k : ℕ) (held held' : Page) (t : Work) (un : List Under) (hs : List Happening) → one_lives d ≡ true →
    RecoveryBegun (Some d) (Some e) n (Some t) → held' ≡ t.block → Reached d n false w k held un hs → Reached e n false t 0 held' [] hs
power_gone_again d e n w k held held' t un hs al start h q =
    let z = q.2 al in
    let l = limits n in
    let v : World (List Page) Put = record { disks = view d; memory = []; up = false; todo = drop k (work_writes w z.0); under = un; past = hs } in
    let f = recovering d e n t held' q.0 v z.2 refl start h in
    let W : List (On Put) → Type 0 = λ ws. Lived plain register l (busy [] false [] hs (view e) ws) in
    let gone : W (recovery_writes (seen (λ b. b) (view e))) = power_again (view e) (died_lives l v d e z.2 refl f.0 (view_alive e f.1)) (fallen_none e) refl in
    let down : W (work_writes t (source_of e)) = subst W (sym f.3) gone in
    (q.0, q.1, λ there. (source_of e, f.2, down))

-- no disk was left while recovery read
pub power_none : (d e : Both) (n : ℕ) (up : Bool) (w : Work) (k : ℕ) (held : Page) (un : List Under) (hs : List Happening) → one_lives d ≡ true →
    RecoveryBegun (Some d) (Some e) n None → Reached d n up w k held un hs → Reached e n up w k held un hs
power_none d e n up w k held un hs al start q =
    let z = q.2 al in
    let f = start d refl (of_pages n q.0 _ d z.2 refl) in
    left_dead d e n up up w w k k held held un un hs (ap one_lives (some_same e f.0 f.1) ∙ f.3) q

-- recovery begun and not gone on with: deaths at most
pub power_kept : (d e : Both) (n : ℕ) (up : Bool) (w : Work) (k : ℕ) (held : Page) (t : Work) (un : List Under) (hs : List Happening) → one_lives d ≡ true →
    RecoveryBegun (Some d) (Some e) n (Some t) → Reached d n up w k held un hs → Reached e n up w k held un hs
power_kept d e n up w k held t un hs al start q =
    let z = q.2 al in
    let f = start d refl (of_pages n q.0 _ d z.2 refl) in
    let E : Both → Type 0 = λ y. Ran [] (view d) (view y) in
    died d e n up w k held un hs (subst E (sym (some_same e f.0 f.1)) f.2) q

-- new disks
pub new_world : (d e : Both) (n : ℕ) (w : Work) (k : ℕ) (held : Page) (r : Bool) → GoodSize (limits n) → OfPages n d → w.copy ≡ None → replays w.plan ≡ false → ((b : List Page) → drop k (work_writes w b) ≡ []) →
    MakingLives (Some d) (Some e) n r → Reached e n true w k held [] []
new_world d e n w k held r size long none plan done made =
    let f = made d refl size long in
    let same = some_same e f.0 f.1 in
    let b : List Page = w.list ∷ (w.list ∷ []) in
    let E : Both → Type 0 = λ y. (r ≡ one_lives y) × (r ≡ true → living.Reached n y []) in
    let g : E e = subst E (sym same) (f.2, f.3) in
    let T : List (On Put) → Type 0 = λ ws. Lived plain register (limits n) (record { disks = view e; memory = []; up = true; todo = ws; under = []; past = [] }) in
    let H : List (On Put) → Type 0 = λ ws. HeldFor ws held in (
      size,
      (_, Leads.at_first),
      λ there. (
        b,
        (list_second w.list, (λ z. absurd (both_ways (replays w.plan) plan z)), copies_none w b none, subst H (sym (done b)) tt),
        subst T (sym (done b)) (g.1 (g.0 ∙ there)),
      ),
    )
