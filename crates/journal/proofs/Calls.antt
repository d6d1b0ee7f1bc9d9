-- A call and a recovery on one disk, from the first put to the last: which book explains what happened. If
-- power goes on the way, a book explains that the call was cut; when all is put, a book explains that it
-- was answered, and the disk shows that book.
use Rattle.std.proofs.Common.{◌≡◌, ℕ, suc, ◌+◌, ◌<◌, ◌≤◌, Bool, true, false, cond, ◌&&◌, ◌||◌, eqb, ltb, ◌≢◌, List, [], ◌∷◌, sym, refl, ap, ◌∙◌, subst, inl, arith}
use Rattle.std.proofs.lemmas.Bool.{eqb-true, ltb-true, and_parts, cond-true, cond-false}
use Rattle.model.specs.Numbers.{room, first_page, most_pages}
use Rattle.model.specs.Book.{Page, empty_page, many, nth, set_page, good_page, Call, read, write, close, size, garbled, Answer, Limits, Book, new_book, call_number, good_fields, turned_by, turned, told, changed, answer, after, dropped}
use Rattle.model.specs.Disks.{Happening, was_told, was_cut, power_went}
use Rattle.model.specs.Plain.{Put, put, puts}
use Rattle.model.specs.Promise.{from_block, Leads}
use Rattle.model.specs.Promise.Leads.{at_first, cut_late, cut_early, gone}
use Rattle.model.proofs.Lists.{nth_many, length_many, from_many}
use Rattle.model.proofs.Puts.{Within, within_all}
use Rattle.model.proofs.Safely.{Safely}
use Rattle.layout.specs.PageList.{listed}
use Rattle.layout.specs.Header.{flag_in, holds_in, count_in}
use Rattle.layout.proofs.Blocks.{count_empty, flag_empty, listed_empty, good_empty}
use Rattle.journal.specs.Journal.{holds, count, entries_from, entries, header_put, recovery, call_puts, book_of, puts_of}
use Rattle.journal.proofs.Log.{puts_from, entries_high, entries_same, committed, committed_held, committed_free, Allowed, Sound, holds_is, count_is, count_few, header_other, header_from, header_sound, header_holds, header_count, header_allowed, replayed, recovers}
use Rattle.journal.proofs.Logged.{b₃, allowed₁, allowed₂, allowed₃, sound₁, sound₂, sound₃, holds₁, holds₂, holds₃, count₃, from₁, from₂, from₃, new₃}

-- a disk at rest shows a book
pub record Shows (n : ℕ) (k : Book) (b : List Page) : Type 0 where
  pub sound : Sound n b
  pub free : holds b ≡ false
  pub waits : count b ≡ k.waiting
  pub old_is : from_block first_page b ≡ k.old
  pub new_is : from_block first_page (puts (entries b) b) ≡ k.new

-- a disk from which recovery leads to a book, with nothing waiting, that explains what happened since o
pub record Recoverable (l : Limits) (o : Book) (hs : List Happening) (b : List Page) : Type 0 where
  pub sound : Sound l.pages b
  pub book : Book
  pub explains : Leads l o hs book
  pub is : committed b ≡ book.old
  pub none : book.new ≡ book.old
  pub zero_waits : book.waiting ≡ 0

-- a disk at rest that shows a book which explains what happened since o
pub record Ready (l : Limits) (o : Book) (hs : List Happening) (b : List Page) : Type 0 where
  pub book : Book
  pub explains : Leads l o hs book
  pub shows : Shows l.pages book b

pub ready_recoverable : (l : Limits) (o : Book) (hs : List Happening) (b : List Page) → Ready l o hs b → Recoverable l o (power_went ∷ hs) b
ready_recoverable l o hs b r = record {
  sound = r.shows.sound;
  book = dropped r.book;
  explains = gone r.explains;
  is = committed_free b r.shows.free ∙ r.shows.old_is;
  none = refl;
  zero_waits = refl;
}

-- an emptied header
emptied_shows : (n : ℕ) (k : Book) (b : List Page) → k.new ≡ k.old → k.waiting ≡ 0 → Sound n b → holds b ≡ false → count b ≡ 0 → from_block first_page b ≡ k.old → Shows n k b
unfolding entries_from puts
emptied_shows n k b e z s h c f = record {
  sound = s;
  free = h;
  waits = c ∙ sym z;
  old_is = f;
  new_is = ap (λ (x : ℕ). from_block first_page (puts (entries_from b 0 x) b)) c ∙ f ∙ sym e;
}

-- recovery
pub recovery_is_safe : (l : Limits) (o : Book) (hs : List Happening) (b : List Page) → Recoverable l o hs b →
    Safely put (Allowed l.pages) (Recoverable l o hs) (Ready l o hs) b (recovery b)
recovery_is_safe l o hs b d =
    recovers l.pages (Recoverable l o hs) (Ready l o hs) d.book.old
    (λ c s e. record { sound = s; book = d.book; explains = d.explains; is = e; none = d.none; zero_waits = d.zero_waits })
    (λ c s h z f. record { book = d.book; explains = d.explains; shows = emptied_shows l.pages d.book c d.none d.zero_waits s h z f })
    b d.sound d.is

-- a new disk, all of whose blocks are empty
blank_sound : (n : ℕ) → 1 ≤ n → Sound n (many (n + first_page) empty_page)
blank_sound n h =
    let z : (j : ℕ) → nth (many (n + first_page) empty_page) j ≡ empty_page = nth_many (n + first_page) in
    record {
      long = length_many (n + first_page) empty_page;
      good = λ j. subst (λ (x : Page). good_page x ≡ true) (sym (z j)) good_empty;
      flag = subst (λ (x : Page). flag_in x ≤ 1) (sym (z 0)) (omega (arith, flag_empty));
      few = subst (λ (x : Page). count_in x ≤ room) (sym (z 0)) (omega (arith, count_empty));
      inside = subst (λ (x : Page). (i : ℕ) → i < room → listed x i < n) (sym (z 1)) (λ i q. subst (λ (k : ℕ). k < n) (sym (listed_empty i)) h);
    }

pub blank_ready : (l : Limits) → 1 ≤ l.pages → Ready l (new_book l.pages) [] (many (l.pages + first_page) empty_page)
blank_ready l h =
    let n : ℕ = l.pages in
    let b : List Page = many (n + first_page) empty_page in
    let z : nth b 0 ≡ empty_page = nth_many (n + first_page) 0 in
    let s : Sound n b = blank_sound n h in
    let free : holds b ≡ false = holds_is n b s ∙ ap holds_in z ∙ ap (λ (x : ℕ). eqb x 1) flag_empty in
    let none : count b ≡ 0 = count_is n b s ∙ ap count_in z ∙ count_empty in
    record { book = new_book n; explains = at_first; shows = emptied_shows n (new_book n) b refl refl s free none (from_many first_page n empty_page) }

-- an answer hangs on what holds and on how many wait
turned_same : (l : Limits) (j k : Book) (c : Call) → j.waiting ≡ k.waiting → turned l j c ≡ turned l k c
unfolding turned_by
turned_same l j k (read a) e = refl
turned_same l j k (write a p) e = rw e
turned_same l j k close e = refl
turned_same l j k size e = refl
turned_same l j k (garbled n) e = refl

told_same : (l : Limits) (j k : Book) (c : Call) → j.old ≡ k.old → told l j c ≡ told l k c
unfolding told
told_same l j k (read a) e = rw e
told_same l j k (write a p) e = refl
told_same l j k close e = refl
told_same l j k size e = refl
told_same l j k (garbled n) e = refl

answer_same : (l : Limits) (j k : Book) (c : Call) → j.waiting ≡ k.waiting → j.old ≡ k.old → answer l j c ≡ answer l k c
answer_same l j k c e f =
    let p = turned_same l j k c e in
    let q = told_same l j k c f in
    cc

cond_zero : (t : Bool) (x y : ℕ) → y ≢ 0 → cond t x y ≡ 0 → (t ≡ true) × (x ≡ 0)
cond_zero true x y h e = (refl, e)
cond_zero false x y h e = absurd (h e)

pub write_taken : (l : Limits) (k : Book) (a : ℕ) (p : Page) → turned l k (write a p) ≡ 0 → (a < l.pages) × (k.waiting < room) × (good_page p ≡ true)
unfolding turned_by good_fields
write_taken l k a p e =
    let v = cond_zero ((eqb (call_number (write a p)) 255 || l.calls_can (call_number (write a p))) && good_fields (write a p)) _ 2 (omega arith) e in
    let y = cond_zero (ltb a l.pages) (cond (ltb k.waiting room) 0 4) 3 (omega arith) v.1 in
    let z = cond_zero (ltb k.waiting room) 0 4 (omega arith) y.1 in
    (ltb-true _ _ y.0, ltb-true _ _ z.0, (and_parts _ _ v.0).1)

module _ (l : Limits) (bounded : l.pages ≤ most_pages) (o : Book) (hs : List Happening) (b : List Page) (r : Ready l o hs b) where
  abbrev k : Book
  k = r.book

  same_answer : (c : Call) → answer l k c ≡ answer l (book_of b) c
  same_answer c = answer_same l k (book_of b) c (sym r.shows.waits) (sym r.shows.old_is)

  told_on : (c : Call) → Leads l o (was_told c (answer l (book_of b) c) ∷ hs) (after l k c)
  told_on c = subst (λ (a : Answer). Leads l o (was_told c a ∷ hs) (after l k c)) (same_answer c) (Leads.told c r.explains)

  -- of a call that is cut nothing holds, or all
  cut_before : (c : Call) (x : List Page) → Sound l.pages x → committed x ≡ k.old → Recoverable l o (was_cut c ∷ hs) x
  cut_before c x s e = record { sound = s; book = dropped k; explains = cut_early c r.explains; is = e; none = refl; zero_waits = refl }

  cut_after : (c : Call) (x : List Page) → Sound l.pages x → committed x ≡ (after l k c).old → Recoverable l o (was_cut c ∷ hs) x
  cut_after c x s e = record { sound = s; book = dropped (after l k c); explains = cut_late c r.explains; is = e; none = refl; zero_waits = refl }

  here : committed b ≡ k.old
  here = committed_free b r.shows.free ∙ r.shows.old_is

  -- a call's puts are safe to stop anywhere, and after the last the call can be answered
  abbrev pub CallSafe : Call → List Put → Type 0
  CallSafe c ms = Safely put (Allowed l.pages) (Recoverable l o (was_cut c ∷ hs)) (Ready l o (was_told c (answer l (book_of b) c) ∷ hs)) b ms

  changes_nothing : (c : Call) → after l k c ≡ k → CallSafe c []
  changes_nothing c e = (
    cut_before c b r.shows.sound here,
    record { book = after l k c; explains = told_on c; shows = subst (λ (x : Book). Shows l.pages x b) (sym e) r.shows },
  )

  close_is_safe : after l k close ≡ record { old = k.new; new = k.new; waiting = 0 } → CallSafe close (call_puts b close)
  unfolding call_puts
  close_is_safe e =
      let n : ℕ = l.pages in
      let s : Sound n b = r.shows.sound in
      let few : count b ≤ room = count_few n b s in
      let ol : (after l k close).old ≡ k.new = ap (λ (x : Book). x.old) e in
      let w : (after l k close).new ≡ (after l k close).old = ap (λ (x : Book). x.new) e ∙ sym ol in
      let z : (after l k close).waiting ≡ 0 = ap (λ (x : Book). x.waiting) e in
      let b' : List Page = put (header_put true (count b)) b in
      let s' : Sound n b' = header_sound n b s true (count b) few in
      let h' : holds b' ≡ true = header_holds n b s true (count b) few in
      let es : entries b' ≡ entries b =
      ap (entries_from b' 0) (header_count n b s true (count b) few)
      ∙ entries_same b' b 0 (count b)
      (λ j q. ap (λ x. listed x j) (header_other n b s true (count b) few 1 (omega arith)))
      (λ j q. header_other n b s true (count b) few (2 + j) (omega arith)) in
      let f : from_block first_page (puts (entries b) b') ≡ (after l k close).old =
      puts_from (entries b) b' b (entries_high b 0 (count b)) (header_from n b s true (count b) few) ∙ r.shows.new_is ∙ sym ol in
      let c : committed b' ≡ (after l k close).old = committed_held b' h' ∙ ap (λ x. from_block first_page (puts x b')) es ∙ f in (
        cut_before close b s here,
        header_allowed n b s true (count b) few (inl r.shows.free),
        replayed n (Recoverable l o (was_cut close ∷ hs)) (Ready l o (was_told close (answer l (book_of b) close) ∷ hs)) (after l k close).old
            (cut_after close)
            (λ x sx hx zx fx. record { book = after l k close; explains = told_on close; shows = emptied_shows n (after l k close) x w z sx hx zx fx })
            (entries b) b' s' h' (subst (Within (entries b)) (sym es) (within_all (entries b))) c f,
      )

  write_is_safe : (a : ℕ) (p : Page) → a < l.pages → count b < room → good_page p ≡ true → after l k (write a p) ≡ record { old = k.old; new = set_page k.new a p; waiting = suc k.waiting } →
      CallSafe (write a p) (call_puts b (write a p))
  unfolding call_puts
  write_is_safe a p ha hc hp e =
      let n : ℕ = l.pages in
      let s : Sound n b = r.shows.sound in
      let small : a < 4294967296 = omega arith in
      let cut_on : (x : List Page) → Sound n x → holds x ≡ false → from_block first_page x ≡ from_block first_page b → Recoverable l o (was_cut (write a p) ∷ hs) x =
      λ x sx hx fx. cut_before (write a p) x sx (committed_free x hx ∙ fx ∙ r.shows.old_is) in (
        cut_before (write a p) b s here,
        allowed₁ n b s hc a ha small p hp r.shows.free,
        (
          cut_on _ (sound₁ n b s hc a ha small p hp) (holds₁ n b s hc a ha small p hp) (from₁ n b s hc a ha small p hp),
          allowed₂ n b s hc a ha small p hp,
          (
            cut_on _ (sound₂ n b s hc a ha small p hp) (holds₂ n b s hc a ha small p hp) (from₂ n b s hc a ha small p hp),
            allowed₃ n b s hc a ha small p hp,
            (
              cut_on _ (sound₃ n b s hc a ha small p hp) (holds₃ n b s hc a ha small p hp) (from₃ n b s hc a ha small p hp),
              record {
                book = after l k (write a p);
                explains = told_on (write a p);
                shows = subst (λ (x : Book). Shows n x (b₃ n b s hc a ha small p hp)) (sym e)
                    (record {
                      sound = sound₃ n b s hc a ha small p hp;
                      free = holds₃ n b s hc a ha small p hp;
                      waits = count₃ n b s hc a ha small p hp ∙ ap suc r.shows.waits;
                      old_is = from₃ n b s hc a ha small p hp ∙ r.shows.old_is;
                      new_is = new₃ n b s hc a ha small p hp ∙ ap (λ x. set_page x a p) r.shows.new_is;
                    });
              },
            ),
          ),
        ),
      )

  taken_is_safe : (c : Call) → turned l (book_of b) c ≡ 0 → after l k c ≡ changed k c → CallSafe c (call_puts b c)
  unfolding call_puts changed
  taken_is_safe (read a) t e = changes_nothing (read a) e
  taken_is_safe (write a p) t e = let h = write_taken l (book_of b) a p t in write_is_safe a p h.0 h.1 h.2 e
  taken_is_safe close t e = close_is_safe e
  taken_is_safe size t e = changes_nothing size e
  taken_is_safe (garbled n) t e = changes_nothing (garbled n) e

  -- any call
  pub call_is_safe : (c : Call) → CallSafe c (puts_of l b c)
  call_is_safe c = go (eqb (turned l (book_of b) c) 0) refl
    where
      same : turned l k c ≡ turned l (book_of b) c
      same = turned_same l k (book_of b) c (sym r.shows.waits)

      go : (t : Bool) → eqb (turned l (book_of b) c) 0 ≡ t → CallSafe c (puts_of l b c)
      go true e =
          subst (CallSafe c) (sym (cond-true _ (call_puts b c) [] e))
          (taken_is_safe c (eqb-true _ _ e) (cond-true _ (changed k c) k (ap (λ x. eqb x 0) same ∙ e)))
      go false e = subst (CallSafe c) (sym (cond-false _ (call_puts b c) [] e)) (changes_nothing c (cond-false _ (changed k c) k (ap (λ x. eqb x 0) same ∙ e)))
