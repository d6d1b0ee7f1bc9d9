-- From one world that can be reached to another: what the code does on known disks is what can happen in
-- the model. Definitions only.
use Rattle.std.specs.Prelude.{◌≡◌, ℕ, Bool, true, false, List, [], ◌∷◌, ◌++◌, Some, None, Option}
use Rattle.model.specs.Book.{Page, Call, Book}
use Rattle.model.specs.Disks.{On, View, World, Happening, was_told, was_cut, Lived, seen}
use Rattle.model.specs.Plain.{Put, plain}
use Rattle.model.specs.Promise.{Explains}
use Rattle.model.specs.Statements.{GoodSize}
use Rattle.model.specs.Numbers.{copies}
use Rattle.mirror.specs.Mirror.{mirrored}
use Rattle.promise.specs.Register.{register, recovery_writes}
use Rattle.device.specs.Ran.{Ran, Both, view, one_lives}
use Rattle.journal.specs.Journal.{puts_of}
use Rattle.wire.specs.declared.answer.Answer.{Answer}
use Rattle.engine.specs.Calling.{limits, reply_means}
use Rattle.engine.specs.Recovering.{OfPages, source_of}

-- a world in which nothing is under way, with these disks and this past
abbrev pub resting : View → List Happening → World (List Page) Put
resting v hs = record { disks = v; memory = []; up = true; todo = []; under = []; past = hs }

-- a register of n pages may have such disks and such a past
abbrev pub Reached : ℕ → Both → List Happening → Type 0
Reached n d hs = Lived plain register (limits n) (resting (view d) hs)

-- some book explains this past
abbrev pub Explained : ℕ → List Happening → Type 0
Explained n hs = (b : Book) × Explains (limits n) hs b

abbrev pub ByLife : ℕ → Call → Page → List Happening → Both → Option (Answer (Unit {0})) → Type 0
ByLife n c page hs e None = one_lives e ≡ false
ByLife n c page hs e (Some r) = Reached n e (was_told c (reply_means r page) ∷ hs) × Explained n (was_told c (reply_means r page) ∷ hs)

-- a call on disks at rest that can be reached leads to disks at rest that can be reached, with the answer in
-- their past, and a book explains that past; unless both disks died
abbrev pub AnswerLives : Option Both → Option Both → ℕ → Call → Page → Option (Answer (Unit {0})) → Type 0
AnswerLives before after n c page r =
    (d : Both) (hs : List Happening) → before ≡ Some d → GoodSize (limits n) → Reached n d hs → (e : Both) × (after ≡ Some e) × ByLife n c page hs e r

-- after power went in a world that can be reached, recovery leads to disks at rest that can be reached, with
-- the same past; unless both disks died
abbrev pub RecoveryLives : Option Both → Option Both → ℕ → Bool → Type 0
RecoveryLives before after n r =
    (d : Both) (w : World (List Page) Put) → before ≡ Some d → GoodSize (limits n) → Lived plain register (limits n) w → w.up ≡ false → w.disks ≡ view d →
    (f : Both) × (after ≡ Some f) × (r ≡ one_lives f) × (r ≡ true → Reached n f w.past)

-- making leads from any disks of the right length to disks at rest that can be reached, with an empty past;
-- unless both disks died
abbrev pub MakingLives : Option Both → Option Both → ℕ → Bool → Type 0
MakingLives before after n r =
    (d : Both) → before ≡ Some d → GoodSize (limits n) → OfPages n d → (e : Both) × (after ≡ Some e) × (r ≡ one_lives e) × (r ≡ true → Reached n e [])

-- a world in which power went, with these disks and this past, and recovery still to be done
abbrev pub down : View → List Happening → World (List Page) Put
down v hs = record { disks = v; memory = []; up = false; todo = recovery_writes (seen (λ b. b) v); under = []; past = hs }

-- a call that is stopped anywhere by power: whatever part of its writes was done, with deaths between, what
-- is left is a world that can be reached, and recovery goes on from there
abbrev pub StoppedCallLives : Type 0
StoppedCallLives =
    (n : ℕ) (d e : Both) (hs : List Happening) (c : Call) (ws us : List (On Put)) → GoodSize (limits n) → Reached n d hs →
    mirrored copies (puts_of (limits n) (source_of d) c) ≡ ws ++ us → Ran ws (view d) (view e) → one_lives e ≡ true → Lived plain register (limits n) (down (view e) (was_cut c ∷ hs))

-- and so is a recovery that is stopped anywhere by power, again and again
abbrev pub StoppedRecoveryLives : Type 0
StoppedRecoveryLives =
    (n : ℕ) (d e : Both) (hs : List Happening) (ws us : List (On Put)) → Lived plain register (limits n) (down (view d) hs) →
    recovery_writes (seen (λ b. b) (view d)) ≡ ws ++ us → Ran ws (view d) (view e) → one_lives e ≡ true → Lived plain register (limits n) (down (view e) hs)
