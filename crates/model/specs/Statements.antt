-- What is promised of a program over disks beside the main promise, for disks of any kind and number, and
-- what follows of the book alone. Definitions only.
use Rattle.std.specs.Prelude.{◌≡◌, ℕ, ◌+◌, ◌<◌, ◌≤◌, Bool, true, false, List, [], ◌∷◌, length}
use Rattle.model.specs.Numbers.{first_page, most_pages}
use Rattle.model.specs.Book.{Page, empty_page, many, Call, read, write, close, size, garbled, refused, Limits, Book, new_book, turned, answer, after}
use Rattle.model.specs.Disks.{Disk, Medium, wrote_all, alive, seen, Program, Happening, was_told, was_cut, power_went, World, Fit, Lived}
use Rattle.model.specs.Promise.{GoodLimits, Leads, Explains, from_block, differ}

-- a number of pages from 1 to most_pages, whichever calls a register knows
abbrev pub GoodSize : Limits → Type 0
GoodSize l = (1 ≤ l.pages) × (l.pages ≤ most_pages)

-- R of what each disk that lives has
abbrev pub AllLive : {S : Type 0} → (S → Type 0) → List (Disk S) → Type 0
AllLive R [] = Unit {0}
AllLive R (d ∷ ds) = (d.lives ≡ true → R d.has) × AllLive R ds

abbrev pub AtRest : {S I : Type 0} → World S I → Type 0
AtRest w = (w.up ≡ true) × (w.todo ≡ []) × (w.under ≡ [])

-- at rest the pages that hold stand on each living disk from first_page on
unfoldable pub PagesStand : {S I : Type 0} → Medium S I → Program I → Type 0
PagesStand {S} {I} M f =
    (l : Limits) (w : World S I) → GoodSize l → Lived M f l w → AtRest w →
    (b : Book) × Explains l w.past b × AllLive (λ s. from_block first_page (M.look s) ≡ b.old) w.disks

-- at rest any two living disks are the same
unfoldable pub ReplicasSame : {S I : Type 0} → Medium S I → Program I → Type 0
ReplicasSame {S} {I} M f =
    (l : Limits) (w : World S I) → GoodSize l → Lived M f l w → AtRest w →
    AllLive (λ s. AllLive (λ t. s ≡ t) w.disks) w.disks

-- at any moment any two living disks differ in one block at most
unfoldable pub OneDiffers : {S I : Type 0} → Medium S I → Program I → Type 0
OneDiffers {S} {I} M f =
    (l : Limits) (w : World S I) → GoodSize l → Lived M f l w →
    AllLive (λ s. AllLive (λ t. differ (M.look s) (M.look t) ≤ 1) w.disks) w.disks

-- the pages on each disk, living or dead
unfoldable pub pages_on : {S : Type 0} → (S → List Page) → List (Disk S) → List (List Page)
pages_on look [] = []
pages_on look (d ∷ ds) = from_block first_page (look d.has) ∷ pages_on look ds

-- recovery that was done, from any moment on, and is done once more changes no page of any disk
unfoldable pub RecoveredOnce : {S I : Type 0} → Medium S I → Program I → Type 0
RecoveredOnce {S} {I} M f =
    (l : Limits) (w : World S I) → GoodSize l → Lived M f l w →
    let d : List (Disk S) = wrote_all M.step (f.mends (seen M.look w.disks)) w.disks in
    let e : List (Disk S) = wrote_all M.step (f.mends (seen M.look d)) d in
    pages_on M.look e ≡ pages_on M.look d

-- new disks: whatever they had, every block of each that lives is empty
unfoldable pub MadeEmpty : {S I : Type 0} → Medium S I → Program I → Type 0
MadeEmpty {S} {I} M f =
    (n : ℕ) (d : List (Disk S)) → Fit (M.fits n) d → AllLive (λ s. M.look s ≡ many (n + first_page) empty_page) (wrote_all M.step (f.makes (length d) n) d)

-- a call that is refused writes nothing
unfoldable pub RefusedWritesNothing : {S I : Type 0} → Medium S I → Program I → Type 0
RefusedWritesNothing {S} {I} M f =
    (l : Limits) (w : World S I) (c : Call) → GoodSize l → Lived M f l w → AtRest w →
    (j k : ℕ) → f.says l w.memory (seen M.look w.disks) c ≡ refused j k → f.writes l w.memory (seen M.look w.disks) c ≡ []

-- on new disks the first answer is the book's
unfoldable pub FirstAnswerIsRight : {S I : Type 0} → Medium S I → (ℕ → Bool) → Program I → Type 0
FirstAnswerIsRight {S} {I} M can f =
    (l : Limits) → GoodLimits can l → (d : List (Disk S)) → Fit (M.fits l.pages) d → alive d ≡ true → (c : Call) →
    let e : List (Disk S) = wrote_all M.step (f.makes (length d) l.pages) d in
    f.says l (f.starts l (seen M.look e)) (seen M.look e) c ≡ answer l (new_book l.pages) c

-- no close was answered, and none was cut
unfoldable pub no_close : List Happening → Bool
no_close [] = true
no_close (was_told (read c) r ∷ xs) = no_close xs
no_close (was_told (write c p) r ∷ xs) = no_close xs
no_close (was_told close r ∷ xs) = false
no_close (was_told size r ∷ xs) = no_close xs
no_close (was_told (garbled n) r ∷ xs) = no_close xs
no_close (was_cut (read c) ∷ xs) = no_close xs
no_close (was_cut (write c p) ∷ xs) = no_close xs
no_close (was_cut close ∷ xs) = false
no_close (was_cut size ∷ xs) = no_close xs
no_close (was_cut (garbled n) ∷ xs) = no_close xs
no_close (power_went ∷ xs) = no_close xs

-- what holds goes on holding until something is closed
unfoldable pub GoesOnHolding : Type 0
GoesOnHolding = (l : Limits) (o b : Book) (hs : List Happening) → Leads l o hs b → no_close hs ≡ true → b.old ≡ o.old

-- a call that is refused changes nothing of the book
unfoldable pub RefusedChangesNothing : Type 0
RefusedChangesNothing = (l : Limits) (b : Book) (c : Call) → 0 < turned l b c → after l b c ≡ b
