-- One more write in the log: the header with the count, the list with the page, the log's block with the
-- bytes. After each of the three puts the disk is sound, the log doesn't hold and no page has changed, so
-- that power may go between any two; after the last the log has one write more, at its end.
use Rattle.std.proofs.Common.{◌≡◌, ℕ, suc, ◌+◌, ◌<◌, ◌≤◌, true, false, ◌≢◌, ◌⊎◌, List, [], ◌∷◌, ◌++◌, length, sym, ap, ◌∙◌, subst, inl, inr, zero-add, arith}
use Rattle.std.proofs.lemmas.Bool.{cases_eq}
use Rattle.model.specs.Numbers.{room, first_page}
use Rattle.model.specs.Book.{Page, nth, set_page, good_page}
use Rattle.model.specs.Plain.{Put, put, puts}
use Rattle.model.specs.Promise.{from_block}
use Rattle.model.proofs.Lists.{length_set_page, nth_set_same, nth_set_other, from_set_below, from_set_above, good_set}
use Rattle.model.proofs.Puts.{puts_append}
use Rattle.layout.specs.Header.{flag_in, count_in}
use Rattle.layout.specs.PageList.{listed, list_with}
use Rattle.layout.proofs.Blocks.{listed_same, listed_other, good_length, good_list_with}
use Rattle.journal.specs.Journal.{holds, count, entry, entries_from, entries, header_put}
use Rattle.journal.proofs.Log.{puts_from, entries_high, entries_same, entries_last, Allowed, Sound, holds_same, count_same, header_other, header_from, header_sound, header_holds, header_count, header_allowed}

module _ (n : ℕ) (b : List Page) (s : Sound n b) (few : count b < room) (a : ℕ) (there : a < n) (small : a < 4294967296) (p : Page) (good : good_page p ≡ true) where
  abbrev list' : Page
  list' = list_with (nth b 1) (count b) a

  -- the disk after the first put, the second and the third
  abbrev pub b₁ : List Page
  b₁ = put (header_put false (suc (count b))) b

  abbrev pub b₂ : List Page
  b₂ = put (record { block = 1; content = list' }) b₁

  abbrev pub b₃ : List Page
  b₃ = put (record { block = 2 + count b; content = p }) b₂

  good_list : good_page list' ≡ true
  good_list = good_list_with (nth b 1) (count b) a few (s.good 1)

  line : length (nth b 1) ≡ 1024
  line = good_length (nth b 1) (s.good 1)

  pub sound₁ : Sound n b₁
  sound₁ = header_sound n b s false (suc (count b)) few

  there₂ : nth b₂ 1 ≡ list'
  there₂ = nth_set_same b₁ 1 list' (omega (arith, sound₁.long))

  other₂ : (j : ℕ) → 1 ≢ j → nth b₂ j ≡ nth b₁ j
  other₂ j h = nth_set_other b₁ 1 j list' h

  other₃ : (j : ℕ) → 2 + count b ≢ j → nth b₃ j ≡ nth b₂ j
  other₃ j h = nth_set_other b₂ (2 + count b) j p h

  inside_list : (i : ℕ) → i < room → listed list' i < n
  inside_list i q = go (cases_eq (count b) i)
    where
      go : (count b ≡ i) ⊎ (count b ≡ i → ⊥) → listed list' i < n
      go (inl e) = subst (λ (k : ℕ). listed list' k < n) e (subst (λ (x : ℕ). x < n) (sym (listed_same (nth b 1) (count b) a line few small)) there)
      go (inr e) = subst (λ (x : ℕ). x < n) (sym (listed_other (nth b 1) (count b) a i line few e)) (s.inside i q)

  pub sound₂ : Sound n b₂
  sound₂ = record {
    long = length_set_page b₁ 1 list' ∙ sound₁.long;
    good = good_set b₁ 1 list' good_list sound₁.good;
    flag = subst (λ (x : Page). flag_in x ≤ 1) (sym (other₂ 0 (omega arith))) sound₁.flag;
    few = subst (λ (x : Page). count_in x ≤ room) (sym (other₂ 0 (omega arith))) sound₁.few;
    inside = subst (λ (x : Page). (i : ℕ) → i < room → listed x i < n) (sym there₂) inside_list;
  }

  pub sound₃ : Sound n b₃
  sound₃ = record {
    long = length_set_page b₂ (2 + count b) p ∙ sound₂.long;
    good = good_set b₂ (2 + count b) p good sound₂.good;
    flag = subst (λ (x : Page). flag_in x ≤ 1) (sym (other₃ 0 (omega arith))) sound₂.flag;
    few = subst (λ (x : Page). count_in x ≤ room) (sym (other₃ 0 (omega arith))) sound₂.few;
    inside = subst (λ (x : Page). (i : ℕ) → i < room → listed x i < n) (sym (other₃ 1 (omega arith))) sound₂.inside;
  }

  pub holds₁ : holds b₁ ≡ false
  holds₁ = header_holds n b s false (suc (count b)) few

  pub holds₂ : holds b₂ ≡ false
  holds₂ = holds_same n b₂ b₁ sound₂ sound₁ (other₂ 0 (omega arith)) ∙ holds₁

  pub holds₃ : holds b₃ ≡ false
  holds₃ = holds_same n b₃ b₂ sound₃ sound₂ (other₃ 0 (omega arith)) ∙ holds₂

  pub count₃ : count b₃ ≡ suc (count b)
  count₃ = count_same n b₃ b₁ sound₃ sound₁ (other₃ 0 (omega arith) ∙ other₂ 0 (omega arith)) ∙ header_count n b s false (suc (count b)) few

  pub from₁ : from_block first_page b₁ ≡ from_block first_page b
  from₁ = header_from n b s false (suc (count b)) few

  pub from₂ : from_block first_page b₂ ≡ from_block first_page b
  from₂ = from_set_below first_page b₁ 1 list' (omega arith) ∙ from₁

  pub from₃ : from_block first_page b₃ ≡ from_block first_page b
  from₃ = from_set_below first_page b₂ (2 + count b) p (omega arith) ∙ from₂

  -- each of the three may be put where it is
  pub allowed₁ : holds b ≡ false → Allowed n b (header_put false (suc (count b)))
  allowed₁ h = header_allowed n b s false (suc (count b)) few (inl h)

  log_allowed : (c : List Page) (m : Put) → 0 < m.block → m.block < first_page → good_page m.content ≡ true → holds c ≡ false → Allowed n c m
  log_allowed c m low high g h = record {
    fits = (omega arith, g);
    to_log = λ _ _. h;
    to_page = λ q. absurd (omega arith);
    to_header = λ q. absurd (omega arith);
  }

  pub allowed₂ : Allowed n b₁ (record { block = 1; content = list' })
  allowed₂ = log_allowed b₁ _ (omega arith) (omega arith) good_list holds₁

  pub allowed₃ : Allowed n b₂ (record { block = 2 + count b; content = p })
  allowed₃ = log_allowed b₂ _ (omega arith) (omega arith) good holds₂

  -- the log as it was, and the new write at its end
  list₃ : nth b₃ 1 ≡ list'
  list₃ = other₃ 1 (omega arith) ∙ there₂

  earlier : entries_from b₃ 0 (count b) ≡ entries_from b 0 (count b)
  earlier =
      entries_same b₃ b 0 (count b)
      (λ j q. ap (λ x. listed x j) list₃ ∙ listed_other (nth b 1) (count b) a j line few (omega arith))
      (λ j q. other₃ (2 + j) (omega arith) ∙ other₂ (2 + j) (omega arith) ∙ header_other n b s false (suc (count b)) few (2 + j) (omega arith))

  latest : entry b₃ (0 + count b) ≡ record { block = first_page + a; content = p }
  latest =
      let e : listed (nth b₃ 1) (count b) ≡ a = ap (λ x. listed x (count b)) list₃ ∙ listed_same (nth b 1) (count b) a line few small in
      let f : nth b₃ (2 + count b) ≡ p = nth_set_same b₂ (2 + count b) p (omega (arith, sound₂.long)) in
      rw (zero-add (count b), e, f)

  one_more : entries b₃ ≡ entries b ++ (record { block = first_page + a; content = p } ∷ [])
  one_more = ap (entries_from b₃ 0) count₃ ∙ entries_last b₃ 0 (count b) ∙ rw (earlier, latest)

  pub new₃ : from_block first_page (puts (entries b₃) b₃) ≡ set_page (from_block first_page (puts (entries b) b)) a p
  unfolding puts
  new₃ =
      ap (λ es. from_block first_page (puts es b₃)) one_more
      ∙ ap (from_block first_page) (puts_append (entries b) (record { block = first_page + a; content = p } ∷ []) b₃)
      ∙ from_set_above first_page (puts (entries b) b₃) a p
      ∙ ap (λ x. set_page x a p) (puts_from (entries b) b₃ b (entries_high b 0 (count b)) from₃)
