-- Reading from left to right: what reading gives is a value, or the first refusal that is met.
use Rattle.std.specs.Prelude.{◌≡◌, ◌≢◌, Result, Ok, Err, [], List, None, Some, ℕ, ◌∷◌}
use Rattle.wh_lines.specs.declared.read_error.ReadError.{ReadError}
use Rattle.wh_lines.specs.declared.read_error.ReadError.TheVariants as errors
use Rattle.wh_lines.specs.Lines.{Field}
use Rattle.std.specs.declared.option.Option.{Option}

infixl 10 ◌>>=◌
-- What is read after this, unless this is refused.
abbrev pub ◌>>=◌ : {A B : Type 0} → Result A ReadError → (A → Result B ReadError) → Result B ReadError
(Ok x) >>= f = f x
(Err e) >>= f = Err e

-- What is read, where each refusal is told in another way.
abbrev pub refused_as : {A : Type 0} → (ReadError → ReadError) → Result A ReadError → Result A ReadError
refused_as change (Ok x) = Ok x
refused_as change (Err e) = Err (change e)

-- The error is the refusal that reading gives. Want of memory tells nothing of it.
abbrev pub Refuses : {A : Type 0} → Result A ReadError → ReadError → Type 0
Refuses read e = e ≢ errors.OutOfMemory → read ≡ Err e

-- What was returned is what reading gives, where values are seen by a view.
abbrev pub Gives : {X A : Type 0} → (X → A) → Result X ReadError → Result A ReadError → Type 0
Gives view (Ok x) read = read ≡ Ok (view x)
Gives view (Err e) read = Refuses read e

-- An item of each field, from left to right.
unfoldable pub items_at : {A : Type 0} → (Field → Result A ReadError) → List Field → Result (List A) ReadError
items_at item [] = Ok []
items_at item (f ∷ fs) =
    item f >>= λ x.
    items_at item fs >>= λ xs.
    Ok (x ∷ xs)

-- ---- lines
-- What line l tells, or that it doesn't continue such a text.
abbrev pub or_bad_line : {A : Type 0} → ℕ → Option A → Result A ReadError
or_bad_line l None = Err (errors.BadLine l)
or_bad_line l (Some x) = Ok x
