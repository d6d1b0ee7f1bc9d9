-- The log on one disk. `committed` is what the disk stands for: its pages, or its pages with the log
-- replayed where the header holds. It stays the same while the log's pages go to their places, in part or
-- again, and while the header is emptied at the end; so recovery is safe to stop anywhere.
--
-- On a sound disk every slot of the list names a page of the book, also beyond the log's end: so the
-- header is always read as it was written, whichever of the two blocks was written last.
use Rattle.std.proofs.Common.{◌≡◌, ℕ, zero, suc, ◌+◌, ◌<◌, ◌≤◌, Bool, true, false, cond, ◌⊎◌, List, [], ◌∷◌, ◌++◌, length, sym, refl, ap, ◌∙◌, subst, inl, inr, add-zero, zero-add, arith}
use Rattle.std.proofs.lemmas.Bool.{cond-true, cond-false}
use Rattle.model.specs.Numbers.{room, first_page}
use Rattle.model.specs.Book.{Page, nth, set_page, good_page}
use Rattle.model.specs.Plain.{Put, put, puts}
use Rattle.model.specs.Promise.{from_block}
use Rattle.model.proofs.Lists.{length_set_page, nth_set_same, nth_set_other, from_set_below, from_set_above, good_set}
use Rattle.model.proofs.Puts.{In, Within, within_all, puts_again}
use Rattle.model.proofs.Safely.{Safely}
use Rattle.layout.specs.Reading.{sane}
use Rattle.layout.specs.Header.{header_block, flag_in, holds_in, count_in}
use Rattle.layout.specs.PageList.{listed}
use Rattle.layout.proofs.Blocks.{count_header, holds_header, flag_header, good_header, log_holds_is, log_count_is, sane_from}
use Rattle.journal.specs.Journal.{pages_of, holds, count, entry, entries_from, entries, header_put, recovery}

-- a put among the pages
abbrev pub High : Put → Type 0
High m = (a : ℕ) × (m.block ≡ first_page + a)

abbrev pub AllHigh : List Put → Type 0
AllHigh [] = Unit {0}
AllHigh (m ∷ ms) = High m × AllHigh ms

high_in : (es : List Put) (m : Put) → AllHigh es → In m es → High m
high_in [] m h x = elim x [ ]
high_in (e ∷ es) m h (inl p) = (h.0.0, ap (λ (x : Put). x.block) p ∙ h.0.1)
high_in (e ∷ es) m h (inr i) = high_in es m h.1 i

from_high : (m : Put) (b : List Page) (h : High m) → from_block first_page (put m b) ≡ set_page (from_block first_page b) h.0 m.content
from_high m b h = rw h.1 (from_set_above first_page b h.0 m.content)

-- what puts among the pages make of the pages depends on the pages alone
pub puts_from : (es : List Put) (b c : List Page) → AllHigh es → from_block first_page b ≡ from_block first_page c → from_block first_page (puts es b) ≡ from_block first_page (puts es c)
unfolding puts
puts_from [] b c h e = e
puts_from (m ∷ es) b c h e =
    puts_from es (put m b) (put m c) h.1 (from_high m b h.0 ∙ ap (λ x. set_page x h.0.0 m.content) e ∙ sym (from_high m c h.0))

-- the log's writes
pub entries_high : (b : List Page) (i n : ℕ) → AllHigh (entries_from b i n)
unfolding entries_from
entries_high b i zero = tt
entries_high b i (suc n) = ((listed (nth b 1) i, refl), entries_high b (suc i) n)

pub entries_same : (b c : List Page) (i n : ℕ) → ((j : ℕ) → j < i + n → listed (nth b 1) j ≡ listed (nth c 1) j) → ((j : ℕ) → j < i + n → nth b (2 + j) ≡ nth c (2 + j)) →
    entries_from b i n ≡ entries_from c i n
unfolding entries_from
entries_same b c i zero p q = refl
entries_same b c i (suc n) p q =
    let e = p i (omega arith) in
    let f = q i (omega arith) in
    let r = entries_same b c (suc i) n (λ j h. p j (omega arith)) (λ j h. q j (omega arith)) in
    cc

pub entries_last : (b : List Page) (i n : ℕ) → entries_from b i (suc n) ≡ entries_from b i n ++ (entry b (i + n) ∷ [])
unfolding entries_from
entries_last b i zero = rw add-zero
entries_last b i (suc n) = let e : i + suc n ≡ suc i + n = omega arith in rw e (ap (λ es. entry b i ∷ es) (entries_last b (suc i) n))

-- a disk that a register with n pages can have come to
pub record Sound (n : ℕ) (b : List Page) : Type 0 where
  pub long : length b ≡ n + first_page
  pub good : (j : ℕ) → good_page (nth b j) ≡ true
  pub flag : flag_in (nth b 0) ≤ 1
  pub few : count_in (nth b 0) ≤ room
  pub inside : (i : ℕ) → i < room → listed (nth b 1) i < n

module _ (n : ℕ) (b : List Page) (s : Sound n b) where
  inside_pages : (i : ℕ) → i < room → listed (nth b 1) i < pages_of b
  inside_pages i q = let e : pages_of b ≡ n = omega (arith, s.long) in rw e (s.inside i q)

  -- its header is one that a register may have written
  pub sound_sane : sane (nth b 0) (nth b 1) (pages_of b) ≡ true
  sound_sane = sane_from (nth b 0) (nth b 1) (pages_of b) s.flag s.few inside_pages

  pub holds_is : holds b ≡ holds_in (nth b 0)
  holds_is = log_holds_is (nth b 0) (nth b 1) (pages_of b) s.flag s.few inside_pages

  pub count_is : count b ≡ count_in (nth b 0)
  count_is = log_count_is (nth b 0) (nth b 1) (pages_of b) s.flag s.few inside_pages

  pub count_few : count b ≤ room
  count_few = subst (λ (k : ℕ). k ≤ room) (sym count_is) s.few

pub holds_same : (n : ℕ) (b c : List Page) → Sound n b → Sound n c → nth b 0 ≡ nth c 0 → holds b ≡ holds c
holds_same n b c s t e = holds_is n b s ∙ ap holds_in e ∙ sym (holds_is n c t)

pub count_same : (n : ℕ) (b c : List Page) → Sound n b → Sound n c → nth b 0 ≡ nth c 0 → count b ≡ count c
count_same n b c s t e = count_is n b s ∙ ap count_in e ∙ sym (count_is n c t)

-- two disks that are the same below the pages have the same log
abbrev pub LowSame : List Page → List Page → Type 0
LowSame b c = (j : ℕ) → j < first_page → nth b j ≡ nth c j

entries_low : (n : ℕ) (b c : List Page) → Sound n b → Sound n c → LowSame b c → entries b ≡ entries c
entries_low n b c s t h =
    let k = count_few n c t in
    ap (entries_from b 0) (count_same n b c s t (h 0 (omega arith)))
    ∙ entries_same b c 0 (count c) (λ j q. ap (λ x. listed x j) (h 1 (omega arith))) (λ j q. h (2 + j) (omega arith))

pub high_low : (m : Put) (b : List Page) → High m → LowSame (put m b) b
high_low m b h j l = nth_set_other b m.block j m.content (omega (arith, h.1))

-- what a disk stands for
pub committed : List Page → List Page
committed b = from_block first_page (cond (holds b) (puts (entries b) b) b)

pub committed_held : (b : List Page) → holds b ≡ true → committed b ≡ from_block first_page (puts (entries b) b)
unfolding committed
committed_held b h = ap (from_block first_page) (cond-true _ _ _ h)

pub committed_free : (b : List Page) → holds b ≡ false → committed b ≡ from_block first_page b
unfolding committed
committed_free b h = ap (from_block first_page) (cond-false _ _ _ h)

-- a put within a disk, of a good page
abbrev pub Fits : ℕ → Put → Type 0
Fits n m = (m.block < n + first_page) × (good_page m.content ≡ true)

-- what may be put next: list and log only while the log doesn't hold; a page only while it holds, and only
-- as the log has it; the header in such a way that the log doesn't hold before or doesn't after
pub record Allowed (n : ℕ) (b : List Page) (m : Put) : Type 0 where
  pub fits : Fits n m
  pub to_log : 0 < m.block → m.block < first_page → holds b ≡ false
  pub to_page : first_page ≤ m.block → (holds b ≡ true) × In m (entries b)
  pub to_header : m.block ≡ 0 → (holds b ≡ false) ⊎ (holds (put m b) ≡ false)

fits_in : (n : ℕ) (b : List Page) (i c : ℕ) (m : Put) → Sound n b → i + c ≤ room → In m (entries_from b i c) → Fits n m
unfolding entries_from
fits_in n b i zero m s h x = elim x [ ]
fits_in n b i (suc c) m s h (inl p) =
    let q = s.inside i (omega arith) in
    rw p (omega arith, s.good (2 + i))
fits_in n b i (suc c) m s h (inr x) = fits_in n b (suc i) c m s (omega arith) x

-- a put among the pages
pub high_sound : (n : ℕ) (m : Put) (b : List Page) → Fits n m → High m → Sound n b → Sound n (put m b)
high_sound n m b fits h s = record {
  long = length_set_page b m.block m.content ∙ s.long;
  good = good_set b m.block m.content fits.1 s.good;
  flag = rw (high_low m b h 0 (omega arith)) s.flag;
  few = rw (high_low m b h 0 (omega arith)) s.few;
  inside = rw (high_low m b h 1 (omega arith)) s.inside;
}

-- one write of the log goes to its page, for the first time or again
module _ (n : ℕ) (b : List Page) (m : Put) (s : Sound n b) (i : In m (entries b)) where
  pub entry_high : High m
  entry_high = high_in (entries b) m (entries_high b 0 (count b)) i

  entry_fits : Fits n m
  entry_fits = fits_in n b 0 (count b) m s (rw zero-add (count_few n b s)) i

  pub replayed_sound : Sound n (put m b)
  replayed_sound = high_sound n m b entry_fits entry_high s

  pub replayed_holds : holds (put m b) ≡ holds b
  replayed_holds = holds_same n (put m b) b replayed_sound s (high_low m b entry_high 0 (omega arith))

  pub replayed_entries : entries (put m b) ≡ entries b
  replayed_entries = entries_low n (put m b) b replayed_sound s (high_low m b entry_high)

  entry_allowed : holds b ≡ true → Allowed n b m
  entry_allowed h = record {
    fits = entry_fits;
    to_log = λ _ q. absurd (omega (arith, entry_high.1));
    to_page = λ _. (h, i);
    to_header = λ q. absurd (omega (arith, entry_high.1));
  }

  replayed_committed : holds b ≡ true → committed (put m b) ≡ committed b
  replayed_committed h =
      committed_held (put m b) (replayed_holds ∙ h)
      ∙ ap (λ es. from_block first_page (puts es (put m b))) replayed_entries
      ∙ ap (from_block first_page) (puts_again (entries b) m b i)
      ∙ sym (committed_held b h)

-- the header is written
module _ (n : ℕ) (b : List Page) (s : Sound n b) (t : Bool) (c : ℕ) (l : c ≤ room) where
  header_there : nth (put (header_put t c) b) 0 ≡ header_block t c
  header_there = nth_set_same b 0 (header_block t c) (omega (arith, s.long))

  pub header_other : (j : ℕ) → 0 < j → nth (put (header_put t c) b) j ≡ nth b j
  header_other j h = nth_set_other b 0 j (header_block t c) (omega arith)

  pub header_from : from_block first_page (put (header_put t c) b) ≡ from_block first_page b
  header_from = from_set_below first_page b 0 (header_block t c) (omega arith)

  header_count_in : count_in (nth (put (header_put t c) b) 0) ≡ c
  header_count_in = ap count_in header_there ∙ count_header t c (omega arith)

  pub header_sound : Sound n (put (header_put t c) b)
  header_sound = record {
    long = length_set_page b 0 (header_block t c) ∙ s.long;
    good = good_set b 0 (header_block t c) (good_header t c) s.good;
    flag = subst (λ (x : Page). flag_in x ≤ 1) (sym header_there) (flag_header t c);
    few = subst (λ (k : ℕ). k ≤ room) (sym header_count_in) l;
    inside = subst (λ (x : Page). (i : ℕ) → i < room → listed x i < n) (sym (header_other 1 (omega arith))) s.inside;
  }

  pub header_holds : holds (put (header_put t c) b) ≡ t
  header_holds = holds_is n (put (header_put t c) b) header_sound ∙ ap holds_in header_there ∙ holds_header t c

  pub header_count : count (put (header_put t c) b) ≡ c
  header_count = count_is n (put (header_put t c) b) header_sound ∙ header_count_in

  pub header_allowed : (holds b ≡ false) ⊎ (t ≡ false) → Allowed n b (header_put t c)
  header_allowed h = record {
    fits = (omega arith, good_header t c);
    to_log = λ x _. absurd (omega arith);
    to_page = λ x. absurd (omega arith);
    to_header = λ _. elim h [ inl e ↦ inl e | inr e ↦ inr (header_holds ∙ e) ];
  }

-- the log's pages go to their places and the header is emptied: all the way the disk stands for X, and
-- then X stands among the pages
module _ (n : ℕ) (P Q : List Page → Type 0) (X : List Page)
    (good : (b : List Page) → Sound n b → committed b ≡ X → P b)
    (last : (b : List Page) → Sound n b → holds b ≡ false → count b ≡ 0 → from_block first_page b ≡ X → Q b) where
  emptied : (b : List Page) → Sound n b → committed b ≡ X → from_block first_page b ≡ X → Safely put (Allowed n) P Q b (header_put false 0 ∷ [])
  emptied b s c f =
      let hs = header_sound n b s false 0 (omega arith) in
      let hh = header_holds n b s false 0 (omega arith) in
      let hf : from_block first_page (put (header_put false 0) b) ≡ X = header_from n b s false 0 (omega arith) ∙ f in
      (good b s c, header_allowed n b s false 0 (omega arith) (inr refl), (good _ hs (committed_free _ hh ∙ hf), last _ hs hh (header_count n b s false 0 (omega arith)) hf))

  pub replayed : (ms : List Put) (b : List Page) → Sound n b → holds b ≡ true → Within ms (entries b) → committed b ≡ X → from_block first_page (puts ms b) ≡ X →
      Safely put (Allowed n) P Q b (ms ++ (header_put false 0 ∷ []))
  unfolding puts
  replayed [] b s h w c f = emptied b s c f
  replayed (m ∷ ms) b s h w c f = (
    good b s c,
    entry_allowed n b m s w.0 h,
    replayed ms (put m b) (replayed_sound n b m s w.0) (replayed_holds n b m s w.0 ∙ h) (subst (Within ms) (sym (replayed_entries n b m s w.0)) w.1)
        (replayed_committed n b m s w.0 h ∙ c) f,
  )

  recovers_held : (b : List Page) → Sound n b → holds b ≡ true → committed b ≡ X → Safely put (Allowed n) P Q b (recovery b)
  recovers_held b s h c =
      subst (λ (es : List Put). Safely put (Allowed n) P Q b (es ++ (header_put false 0 ∷ []))) (sym (cond-true (holds b) (entries b) [] h))
      (replayed (entries b) b s h (within_all (entries b)) c (sym (committed_held b h) ∙ c))

  recovers_free : (b : List Page) → Sound n b → holds b ≡ false → committed b ≡ X → Safely put (Allowed n) P Q b (recovery b)
  recovers_free b s h c =
      subst (λ (es : List Put). Safely put (Allowed n) P Q b (es ++ (header_put false 0 ∷ []))) (sym (cond-false (holds b) (entries b) [] h)) (emptied b s c (sym (committed_free b h) ∙ c))

  pub recovers : (b : List Page) → Sound n b → committed b ≡ X → Safely put (Allowed n) P Q b (recovery b)
  recovers b s c = go (holds b) refl
    where
      go : (t : Bool) → holds b ≡ t → Safely put (Allowed n) P Q b (recovery b)
      go true e = recovers_held b s e c
      go false e = recovers_free b s e c
