-- What a plan's steps mean, by the disk as it was when the plan was worked out. Definitions only.
use Rattle.std.specs.Prelude.{◌≡◌, ℕ, suc, ◌+◌, ◌<◌, Bool, true, false, List, [], ◌∷◌, ◌++◌, nat_lt}
use Rattle.model.specs.Numbers.{room}
use Rattle.model.specs.Book.{Page, empty_page, nth}
use Rattle.model.specs.Plain.{Put}
use Rattle.layout.specs.Header.{header_block}
use Rattle.layout.specs.PageList.{list_with}
use Rattle.journal.specs.Journal.{entries_from, header_put, blank_puts}
use Rattle.journal.specs.declared.plan.Kind.{Kind}
use Rattle.journal.specs.declared.plan.Kind.TheVariants.{Header, List as Listing, Given, Logged, Empty}
use Rattle.journal.specs.declared.plan.Step.{Step}
use Rattle.journal.specs.declared.plan.Plan.{Plan}
use Rattle.journal.specs.declared.plan.Plan.TheVariants.{Nothing, Write, Close, Replay, Make}

-- a plan that brings pages of the log to their places
abbrev pub replays : Plan → Bool
replays Nothing = false
replays (Write n p) = false
replays (Close n) = nat_lt 0 n.writes
replays (Replay n) = nat_lt 0 n.writes
replays (Make k) = false

-- what is read off the log is read by a plan that replays it, and lies in the log
abbrev pub ReadsLog : Plan → Kind → Type 0
ReadsLog q (Header h) = Unit {0}
ReadsLog q (Listing i p) = Unit {0}
ReadsLog q Given = Unit {0}
ReadsLog q (Logged i) = (replays q ≡ true) × (i < room)
ReadsLog q Empty = Unit {0}

-- the block that has the bytes of a kind that is read off the log
abbrev pub LogBlock : Kind → ℕ → Type 0
LogBlock (Header h) k = ⊥
LogBlock (Listing i p) k = ⊥
LogBlock Given k = ⊥
LogBlock (Logged i) k = k ≡ 2 + i
LogBlock Empty k = ⊥

-- the bytes of a kind; given: what came with the write
abbrev pub content : Page → List Page → Kind → Page
content given b (Header h) = header_block h.holds h.count
content given b (Listing i p) = list_with (nth b 1) i.place p
content given b Given = given
content given b (Logged i) = nth b (2 + i)
content given b Empty = empty_page

abbrev pub step_put : Page → List Page → Step → Put
step_put given b s = record { block = s.block; content = content given b s.kind }

-- all that a plan puts, in order
abbrev pub plan_puts : Plan → Page → List Page → List Put
plan_puts Nothing given b = []
plan_puts (Write n p) given b =
    header_put false (suc n.place) ∷ record { block = 1; content = list_with (nth b 1) n.place p } ∷ record { block = 2 + n.place; content = given } ∷ []
plan_puts (Close n) given b = header_put true n.writes ∷ (entries_from b 0 n.writes ++ (header_put false 0 ∷ []))
plan_puts (Replay n) given b = entries_from b 0 n.writes ++ (header_put false 0 ∷ [])
plan_puts (Make k) given b = blank_puts 0 k.blocks
