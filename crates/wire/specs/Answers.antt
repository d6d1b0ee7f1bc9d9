-- Answers as bytes: which bytes an answer is, and which answer bytes are. Definitions only.
use Rattle.std.specs.Prelude.{◌≡◌, ℕ, ◌+◌, ◌<◌, Bool, true, cond, ◌&&◌, ◌||◌, ◌⊎◌, List, [], ◌∷◌, ◌++◌, length, drop, Some, None, Option, ◌==◌, nat_le, slice_index, codes, decimal}
use Rattle.std.specs.Borrow.{Bor}
use Rattle.octets.specs.Words.{le4, num4}
use Rattle.model.specs.Numbers.{page_size}
use Rattle.model.specs.Book as book
use Rattle.wire.specs.declared.answer.Refusal.{Refusal}
use Rattle.wire.specs.declared.answer.Refusal.TheVariants.{NotACall, Unfit, NoSuchPage, LogFull}
use Rattle.wire.specs.declared.answer.Answer.{Answer}
use Rattle.wire.specs.declared.answer.Answer.TheVariants.{Refused, Done, Page, Number}

-- each refusal's number and its place
abbrev pub refusal_number : Refusal → ℕ
refusal_number (NotACall k) = 1
refusal_number Unfit = 2
refusal_number NoSuchPage = 3
refusal_number LogFull = 4

abbrev pub refusal_place : Refusal → ℕ
refusal_place (NotACall k) = k
refusal_place Unfit = 0
refusal_place NoSuchPage = 0
refusal_place LogFull = 0

-- each refusal in words
abbrev pub refusal_text : Refusal → List ℕ
refusal_text (NotACall k) = codes "this is no call from byte " ++ decimal k ++ codes " on"
refusal_text Unfit = codes "a page has 1024 bytes"
refusal_text NoSuchPage = codes "there is no such page"
refusal_text LogFull = codes "256 writes wait already"

-- numbers and places that some refusal has
abbrev pub known : ℕ → ℕ → Bool
known n k = n == 1 || (nat_le 2 n && nat_le n 4 && k == 0)

-- an answer with another page where it has one
abbrev pub repaged : {P Q : Type 0} → Answer P → Q → Answer Q
repaged (Refused r) q = Refused r
repaged Done q = Done
repaged (Page p) q = Page q
repaged (Number n) q = Number n

-- the code's answers in the words of the book
abbrev pub answered : Answer (Bor (List ℕ)) → book.Answer
answered (Refused r) = book.refused (refusal_number r) (refusal_place r)
answered Done = book.done
answered (Page bs) = book.page bs.now
answered (Number n) = book.number n

abbrev pub heard : Option (Answer (Bor (List ℕ))) → Option book.Answer
heard (Some a) = Some (answered a)
heard None = None

-- each answer's number and its values: this alone says what an answer is as bytes
abbrev pub answer_bytes : book.Answer → List ℕ
answer_bytes (book.refused n k) = 0 ∷ (n ∷ le4 k)
answer_bytes book.done = 1 ∷ []
answer_bytes (book.page p) = 2 ∷ p
answer_bytes (book.number n) = 3 ∷ le4 n

-- the answer that bytes are
abbrev pub answer_of : List ℕ → Option book.Answer
answer_of bs =
    cond (length bs == 0) None
    (cond (slice_index bs 0 == 0) (cond (length bs == 6 && known (slice_index bs 1) (num4 bs 2)) (Some (book.refused (slice_index bs 1) (num4 bs 2))) None)
    (cond (slice_index bs 0 == 1) (cond (length bs == 1) (Some book.done) None)
    (cond (slice_index bs 0 == 2) (cond (length bs == 1 + page_size) (Some (book.page (drop 1 bs))) None)
    (cond (slice_index bs 0 == 3) (cond (length bs == 5) (Some (book.number (num4 bs 1))) None)
    None))))

-- a number and a place that one of the refusals has
abbrev pub Refuses : ℕ → ℕ → Type 0
Refuses n k = (r : Refusal) × (refusal_number r ≡ n) × (refusal_place r ≡ k)

-- answers that bytes can carry
abbrev pub Carried : book.Answer → Type 0
Carried (book.refused n k) = Refuses n k × (k < 4294967296)
Carried book.done = Unit {0}
Carried (book.page p) = (length p ≡ page_size) × (book.bytes p ≡ true)
Carried (book.number n) = n < 4294967296

-- such an answer is bytes, and is read back as it was written
abbrev pub RoundTrip : Type 0
RoundTrip = (a : book.Answer) → Carried a → (book.bytes (answer_bytes a) ≡ true) × (answer_of (answer_bytes a) ≡ Some a)

-- bytes that are an answer are that answer's own bytes
abbrev pub OwnBytes : Type 0
OwnBytes = (bs : List ℕ) (a : book.Answer) → book.bytes bs ≡ true → answer_of bs ≡ Some a → Carried a × (answer_bytes a ≡ bs)

-- a call that the book turns away gets one of the refusals
abbrev pub TurnedRefuses : Type 0
TurnedRefuses = (l : book.Limits) (b : book.Book) (c : book.Call) → (book.turned l b c ≡ 0) ⊎ Refuses (book.turned l b c) (book.place c)
