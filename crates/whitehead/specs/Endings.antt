-- How the last step of a run ends.
use Rattle.std.specs.Prelude.{◌≡◌, ℕ, ◌⊎◌, List}
use Rattle.std.specs.declared.option.Option.{Option}
use Rattle.wh_io.specs.Device.{next_count}
use Rattle.wh_data.specs.declared.status.Status.{Status}
use Rattle.wh_data.specs.declared.status.Status.TheVariants.{WriteFault}
use Rattle.whitehead.specs.Streams.{IsWritten, IsPartWritten}

-- The text is written, the status stands and the sink didn't fail; or a prefix of it is taken, and the sink failed.
abbrev pub Finished : Option (List ℕ) → Option (List ℕ) → Option (List ℕ) → ℕ → ℕ → List ℕ → Status → Status → Type 0
Finished held held' sent count count' text status result =
    ((result ≡ status) × IsWritten held held' sent text × (count' ≡ count)) ⊎ ((result ≡ WriteFault) × IsPartWritten held held' text × (count' ≡ next_count count))
