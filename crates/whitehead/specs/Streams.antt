-- What reading a whole input and writing a whole text leave.
use Rattle.std.specs.Prelude.{◌≡◌, ℕ, ◌+◌, ◌≤◌, ◌⊎◌, List, length, take, Ok, Err}
use Rattle.std.specs.declared.option.Option.{Option}
use Rattle.std.specs.declared.result.Result.{Result}
use Rattle.wh_io.specs.Device.{Consumed, Appended, IsAllSent, IsAtEnd, next_count}
use Rattle.whitehead.specs.declared.streams.InputError.{InputError}
use Rattle.whitehead.specs.declared.streams.InputError.TheVariants.{Fault, OutOfMemory}

-- The count of the source's faults after an input was asked for: the next where a fault is told, and else the same.
abbrev pub read_count : {T : Type 0} → ℕ → Result T InputError → ℕ
read_count count (Ok bytes) = count
read_count count (Err Fault) = next_count count
read_count count (Err OutOfMemory) = count

-- The bytes are all to the end, or one more than the limit.
abbrev pub IsWholeUpTo : ℕ → List ℕ → Option (List ℕ) → Type 0
IsWholeUpTo limit bytes left = ((length bytes ≤ limit) × IsAtEnd left) ⊎ (length bytes ≡ limit + 1)

-- A prefix of the bytes is read, of one more than the limit at most.
abbrev pub IsPartRead : ℕ → Option (List ℕ) → Option (List ℕ) → Type 0
IsPartRead limit old new = (bytes : List ℕ) × (length bytes ≤ limit + 1) × Consumed old new bytes

-- The text is taken, and sent on with all that the sink holds.
abbrev pub IsWritten : Option (List ℕ) → Option (List ℕ) → Option (List ℕ) → List ℕ → Type 0
IsWritten held held' sent text = Appended held held' text × IsAllSent held' sent

-- A prefix of the text is taken.
abbrev pub IsPartWritten : Option (List ℕ) → Option (List ℕ) → List ℕ → Type 0
IsPartWritten old new text = (n : ℕ) × Appended old new (take n text)
