-- The greatest sizes that moves are composed up to. Each number stands here alone, and is cited by its name.
use Rattle.std.specs.Prelude.{ℕ}

-- How many letters the images of all generators may have together.
abbrev pub most_image_letters : ℕ
most_image_letters = 65536
