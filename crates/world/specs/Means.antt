-- What a world in memory is in the model. Definitions only.
use Rattle.std.specs.Prelude.{List, [], ◌∷◌, Some, None, Option}
use Rattle.model.specs.Book as book
use Rattle.model.specs.Disks as disks
use Rattle.model.specs.Disks.{Happening, was_told, was_cut, power_went}
use Rattle.wire.specs.Calls.{call_of}
use Rattle.wire.specs.Answers.{refusal_number, refusal_place}
use Rattle.wire.specs.declared.answer.Answer.{Answer}
use Rattle.wire.specs.declared.answer.Answer.TheVariants.{Refused, Done, Page as PageTold, Number}
use Rattle.world.specs.declared.history.Under.{Under}
use Rattle.world.specs.declared.history.Event.{Event}
use Rattle.world.specs.declared.history.Event.TheVariants.{Answered, Cut, Power}

-- an answer in the book's words
abbrev pub told_answer : Answer book.Page → book.Answer
told_answer (Refused r) = book.refused (refusal_number r) (refusal_place r)
told_answer Done = book.done
told_answer (PageTold p) = book.page p
told_answer (Number n) = book.number n

-- what happened; the model has the last first
abbrev pub event_of : Event → Happening
event_of (Answered c a) = was_told (call_of c) (told_answer a)
event_of (Cut c) = was_cut (call_of c)
event_of Power = power_went

unfoldable pub past_of : List Event → List Happening → List Happening
past_of [] hs = hs
past_of (e ∷ es) hs = past_of es (event_of e ∷ hs)

-- the call under way; nothing is kept in memory for the next
abbrev pub under_of : Option Under → List disks.Under
under_of None = []
under_of (Some u) = record { call = call_of u.call; answer = told_answer u.answer; memory = [] } ∷ []
