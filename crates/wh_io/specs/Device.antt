-- What a source has left and what a sink holds and sent on, where they tell, and how often they failed.
use Rattle.std.specs.Prelude.{◌≡◌, ℕ, ◌+◌, ◌-◌, ◌^◌, min, List, ◌++◌, [], None, Some, Ok, Err}
use Rattle.std.specs.declared.option.Option.{Option}
use Rattle.std.specs.declared.result.Result.{Result}

-- the bytes left after bs were read, where they are told; what is told afterwards was told before
abbrev pub Consumed : Option (List ℕ) → Option (List ℕ) → List ℕ → Type 0
Consumed old None bs = Unit {0}
Consumed None (Some new) bs = ⊥
Consumed (Some old) (Some new) bs = old ≡ bs ++ new

-- the bytes held after bs were written, where they are told; what is told afterwards was told before
abbrev pub Appended : Option (List ℕ) → Option (List ℕ) → List ℕ → Type 0
Appended old None bs = Unit {0}
Appended None (Some new) bs = ⊥
Appended (Some old) (Some new) bs = new ≡ old ++ bs

-- what was sent on stays sent on, and more bytes may be; what is told afterwards was told before
abbrev pub StaysSent : Option (List ℕ) → Option (List ℕ) → Type 0
StaysSent old None = Unit {0}
StaysSent None (Some new) = ⊥
StaysSent (Some old) (Some new) = (bs : List ℕ) × (new ≡ old ++ bs)

-- all bytes that are held are sent on, where these are told
abbrev pub IsAllSent : Option (List ℕ) → Option (List ℕ) → Type 0
IsAllSent held None = Unit {0}
IsAllSent held (Some sent) = held ≡ Some sent

-- no byte is left, where that is told
abbrev pub IsAtEnd : Option (List ℕ) → Type 0
IsAtEnd None = Unit {0}
IsAtEnd (Some left) = left ≡ []

-- the count one higher, or the same if it is the greatest number of 64 bits
abbrev pub next_count : ℕ → ℕ
next_count count = min (count + 1) (2 ^ 64 - 1)

-- the count of faults after a call with this result: the same where the call succeeded, and the next where it failed
abbrev pub counted : {T E : Type 0} → ℕ → Result T E → ℕ
counted count (Ok x) = count
counted count (Err e) = next_count count
