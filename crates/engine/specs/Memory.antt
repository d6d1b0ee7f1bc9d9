-- What is kept while a call, a recovery or a making is under way, as numbers of eight bytes. Definitions
-- only.
use Rattle.std.specs.Prelude.{ℕ, zero, suc, ◌+◌, ◌*◌, ◌/◌, List, [], ◌∷◌, ◌++◌, length, take, drop, Some, None, Option}
use Rattle.model.specs.Book.{Page}
use Rattle.wire.specs.Answers.{refusal_number, refusal_place}
use Rattle.journal.specs.declared.plan.Plan.{Plan}
use Rattle.journal.specs.declared.plan.Plan.TheVariants.{Nothing, Write, Close, Replay, Make}
use Rattle.engine.specs.declared.work.Work.{Work}
use Rattle.wire.specs.declared.answer.Answer.{Answer}
use Rattle.wire.specs.declared.answer.Answer.TheVariants.{Refused, Done, Page as PageRead, Number}

-- bytes as one number, low byte first
unfoldable pub number_of : List ℕ → ℕ
number_of [] = 0
number_of (b ∷ bs) = b + 256 * number_of bs

-- the first n numbers of eight bytes each
unfoldable pub eights : ℕ → List ℕ → List ℕ
eights zero bs = []
eights (suc n) bs = number_of (take 8 bs) ∷ eights n (drop 8 bs)

-- all the bytes, eight to a number
abbrev pub packed : List ℕ → List ℕ
packed bs = eights ((length bs + 7) / 8) bs

-- which case it is, and then its numbers
abbrev pub copy_numbers : Option ℕ → List ℕ
copy_numbers None = 0 ∷ []
copy_numbers (Some k) = 1 ∷ (k ∷ [])

abbrev pub plan_numbers : Plan → List ℕ
plan_numbers Nothing = 0 ∷ []
plan_numbers (Write n p) = 1 ∷ (n.place ∷ (p ∷ []))
plan_numbers (Close n) = 2 ∷ (n.writes ∷ [])
plan_numbers (Replay n) = 3 ∷ (n.writes ∷ [])
plan_numbers (Make k) = 4 ∷ (k.blocks ∷ [])

-- a recovery and a making have no reply
abbrev pub reply_numbers : Option (Answer (Unit {0})) → List ℕ
reply_numbers None = 0 ∷ []
reply_numbers (Some (Refused r)) = 1 ∷ (refusal_number r ∷ (refusal_place r ∷ []))
reply_numbers (Some Done) = 2 ∷ []
reply_numbers (Some (PageRead u)) = 3 ∷ []
reply_numbers (Some (Number n)) = 4 ∷ (n ∷ [])

-- the reply, the work, the block held for the second disk, and the page beside the reply
abbrev pub memory_of : Option (Answer (Unit {0})) → Work → Page → Page → List ℕ
memory_of r w held page = reply_numbers r ++ (copy_numbers w.copy ++ (plan_numbers w.plan ++ (packed w.list ++ (packed w.block ++ (packed held ++ packed page)))))
