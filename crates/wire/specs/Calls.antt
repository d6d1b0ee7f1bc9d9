-- Calls as bytes: which bytes a call is, and which call bytes are. Definitions only.
use Rattle.std.specs.Prelude.{◌≡◌, ℕ, ◌+◌, ◌<◌, ◌≤◌, true, cond, List, [], ◌∷◌, ◌++◌, length, take, drop, Ok, Err, Result, ◌==◌, ◌≢◌, nat_lt, slice_index}
use Rattle.octets.specs.Words.{le4, num4}
use Rattle.model.specs.Book as book
use Rattle.wire.specs.declared.call.Call.{Call}
use Rattle.wire.specs.declared.call.NotACall.{NotACall}
use Rattle.wire.specs.declared.call.Call.TheVariants.{Read, Write, Close, Size}

-- the code's calls in the words of the book
abbrev pub meant : Call → book.Call
meant (Read p) = book.read p
meant (Write p bs) = book.write p bs.now
meant Close = book.close
meant Size = book.size

abbrev pub decoded : Result Call NotACall → book.Call
decoded (Ok c) = meant c
decoded (Err e) = book.garbled e.place

-- each call's number and its values: this alone says what a call is as bytes
abbrev pub call_bytes : book.Call → List ℕ
call_bytes (book.read p) = 0 ∷ le4 p
call_bytes (book.write p bs) = 1 ∷ (le4 p ++ bs)
call_bytes book.close = 2 ∷ []
call_bytes book.size = 3 ∷ []
call_bytes (book.garbled k) = []

-- what bytes are by their number: a page's number and nothing more, a page's number and what follows, or
-- the number alone
abbrev pub read_of : List ℕ → book.Call
read_of bs = cond (nat_lt (length bs) 5) (book.garbled (length bs)) (cond (nat_lt 5 (length bs)) (book.garbled 5) (book.read (num4 bs 1)))

abbrev pub write_of : List ℕ → book.Call
write_of bs = cond (nat_lt (length bs) 5) (book.garbled (length bs)) (book.write (num4 bs 1) (drop 5 bs))

abbrev pub alone : book.Call → List ℕ → book.Call
alone c bs = cond (nat_lt 1 (length bs)) (book.garbled 1) c

-- the call that bytes are
abbrev pub call_of : List ℕ → book.Call
call_of bs =
    cond (length bs == 0) (book.garbled 0)
    (cond (slice_index bs 0 == 0) (read_of bs)
    (cond (slice_index bs 0 == 1) (write_of bs)
    (cond (slice_index bs 0 == 2) (alone book.close bs)
    (cond (slice_index bs 0 == 3) (alone book.size bs)
    (book.garbled 0)))))

-- calls that bytes can carry
abbrev pub Carried : book.Call → Type 0
Carried (book.read p) = p < 4294967296
Carried (book.write p bs) = (p < 4294967296) × (book.bytes bs ≡ true)
Carried book.close = Unit {0}
Carried book.size = Unit {0}
Carried (book.garbled k) = ⊥

-- such a call is bytes, and is read back as it was written
abbrev pub RoundTrip : Type 0
RoundTrip = (c : book.Call) → Carried c → (book.bytes (call_bytes c) ≡ true) × (call_of (call_bytes c) ≡ c)

-- bytes that are a call are that call's own bytes
abbrev pub OwnBytes : Type 0
OwnBytes = (bs : List ℕ) → book.bytes bs ≡ true → ((k : ℕ) → call_of bs ≢ book.garbled k) → Carried (call_of bs) × (call_bytes (call_of bs) ≡ bs)

-- bytes with which some call begins
abbrev pub Begins : List ℕ → Type 0
Begins xs = (c : book.Call) × (t : List ℕ) × Carried c × (call_bytes c ≡ xs ++ t)

-- what it means that bytes cease to be a call at a place: with those before it some call begins, and with
-- one more none does
abbrev pub Ceases : Type 0
Ceases = (bs : List ℕ) (k : ℕ) → book.bytes bs ≡ true → call_of bs ≡ book.garbled k → (k ≤ length bs) × Begins (take k bs) × (k < length bs → Begins (take (k + 1) bs) → ⊥)

-- the first byte is the number by which the book knows the call
abbrev pub Numbered : Type 0
Numbered = (c : book.Call) → Carried c → slice_index (call_bytes c) 0 ≡ book.call_number c
