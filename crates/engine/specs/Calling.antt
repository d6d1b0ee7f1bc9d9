-- What a call makes of two disks of which all is known, and what it is answered. Definitions only.
--
-- Each statement is for disks d whose living ones all have the blocks b: at rest they do. The answer is the
-- book's, and what is written is the model's list for b, whichever disk is found dead at whichever read or
-- write.
use Rattle.std.specs.Prelude.{◌≡◌, ℕ, ◌+◌, true, false, ◌⊎◌, List, [], length, Some, None, Option}
use Rattle.model.specs.Numbers.{first_page, copies, page_size}
use Rattle.model.specs.Book as book
use Rattle.model.specs.Book.{Page, nth, Call, Limits, answer}
use Rattle.model.specs.Promise.{all}
use Rattle.mirror.specs.Mirror.{mirrored}
use Rattle.device.specs.Ran.{Ran, Both, view, one_lives}
use Rattle.layout.specs.declared.log.Log.{Log}
use Rattle.wire.specs.Answers.{refusal_number, refusal_place}
use Rattle.journal.specs.Journal.{holds, count, book_of, puts_of}
use Rattle.journal.specs.declared.plan.Plan.TheVariants.{Nothing}
use Rattle.engine.specs.declared.work.Work.{Work}
use Rattle.wire.specs.declared.answer.Answer.{Answer}
use Rattle.wire.specs.declared.answer.Answer.TheVariants.{Refused, Done, Page as PageRead, Number}
use Rattle.engine.specs.declared.call.Turn.{Turn}
use Rattle.engine.specs.Works.{work_writes}

-- this register does all calls, with so many pages
abbrev pub limits : ℕ → Limits
limits n = record { calls_can = all; pages = n }

-- all living disks have these blocks
abbrev pub Agree : Both → List Page → Type 0
Agree d b = (d.first.lives ≡ true → d.first.has ≡ b) × (d.second.lives ≡ true → d.second.has ≡ b)

-- a reply in the book's words, with the page that was read beside it
abbrev pub reply_means : Answer (Unit {0}) → Page → book.Answer
reply_means (Refused r) p = book.refused (refusal_number r) (refusal_place r)
reply_means Done p = book.done
reply_means (PageRead u) p = book.page p
reply_means (Number n) p = book.number n

-- a block for what comes with a call: a page's bytes, if they are a page's
abbrev pub Carries : Call → Page → Type 0
Carries (book.read a) given = Unit {0}
Carries (book.write a p) given = length p ≡ page_size → given ≡ p
Carries book.close given = Unit {0}
Carries book.size given = Unit {0}
Carries (book.garbled k) given = Unit {0}

-- a call that asks for the log
abbrev pub Logs : Call → Type 0
Logs (book.read a) = ⊥
Logs (book.write a p) = Unit {0}
Logs book.close = Unit {0}
Logs book.size = ⊥
Logs (book.garbled k) = ⊥

-- a work that begins by these blocks: it knows their list, or needs none
abbrev pub KnowsList : Work → List Page → Type 0
KnowsList w b = (w.plan ≡ Nothing) ⊎ (nth b 1 ≡ w.list)

-- the answer is the book's, and the work is the model's
abbrev pub TurnIs : ℕ → List Page → Call → Page → Turn → Type 0
TurnIs n b c page t =
    (reply_means t.reply page ≡ answer (limits n) (book_of b) c)
    × (work_writes t.work b ≡ mirrored copies (puts_of (limits n) b c))
    × (t.work.copy ≡ None) × KnowsList t.work b

abbrev pub ByTurn : ℕ → List Page → Call → Page → Both → Option Turn → Type 0
ByTurn n b c page e None = one_lives e ≡ false
ByTurn n b c page e (Some t) = TurnIs n b c page t

-- a call that begins: disks may be found dead while it reads, and nothing is written
abbrev pub Begun : Option Both → Option Both → ℕ → Call → Page → Option Turn → Type 0
Begun before after n c page r =
    (d : Both) → before ≡ Some d → (b : List Page) → Agree d b → length b ≡ n + first_page →
    (e : Both) × (after ≡ Some e) × Ran [] (view d) (view e) × ByTurn n b c page e r

abbrev pub ByLog : List Page → Page → Both → Option Log → Type 0
ByLog b list e None = one_lives e ≡ false
ByLog b list e (Some log) = (holds b ≡ log.holds) × (count b ≡ log.count.writes) × (nth b 1 ≡ list)

-- header and list read together
abbrev pub LogRead : Option Both → Option Both → ℕ → Page → Option Log → Type 0
LogRead before after n list r =
    (d : Both) → before ≡ Some d → (b : List Page) → Agree d b → length b ≡ n + first_page →
    (e : Both) × (after ≡ Some e) × Ran [] (view d) (view e) × ByLog b list e r

abbrev pub ByReply : ℕ → List Page → Call → Page → Both → Option (Answer (Unit {0})) → Type 0
ByReply n b c page e None = one_lives e ≡ false
ByReply n b c page e (Some r) = (one_lives e ≡ true) × (reply_means r page ≡ answer (limits n) (book_of b) c)

-- a whole call: all its writes in order, with deaths before, between and after them, and then its answer;
-- none if both disks died
abbrev pub Answered : Option Both → Option Both → ℕ → Call → Page → Option (Answer (Unit {0})) → Type 0
Answered before after n c page r =
    (d : Both) → before ≡ Some d → (b : List Page) → Agree d b → length b ≡ n + first_page →
    (e : Both) × (after ≡ Some e) × Ran (mirrored copies (puts_of (limits n) b c)) (view d) (view e) × ByReply n b c page e r
