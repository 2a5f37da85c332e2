-- The line of the rank, which problems and answers have before all that the rank bears on.
use Rattle.std.specs.Prelude.{ℕ, leb, ◌&&◌, cond, List, [], ◌∷◌, Some, None, Option, Result, Ok, Err, codes}
use Rattle.wh_lines.specs.declared.read_error.ReadError.{ReadError}
use Rattle.wh_lines.specs.declared.read_error.ReadError.TheVariants as errors
use Rattle.wh_lines.specs.Lines.{Field}
use Rattle.wh_lines.specs.Readings.{◌>>=◌, refused_as}
use Rattle.wh_lines.specs.Numbers.{number}
use Rattle.wh_lines.specs.LineReadings.{Reading, line_after}
use Rattle.wh_data.specs.declared.command.Command.{Command}
use Rattle.wh_data.specs.declared.command.Command.TheVariants as commands
use Rattle.wh_words.specs.Limits.{most_rank, most_level_rank, most_stabiliser_rank}

-- The greatest rank of a command's problems.
abbrev pub greatest_rank : Command → ℕ
greatest_rank commands.Reduce = most_rank
greatest_rank commands.Decide = most_level_rank
greatest_rank commands.Straighten = most_rank
greatest_rank commands.Stabiliser = most_stabiliser_rank

-- A rank that the command allows.
abbrev pub allowed_rank : Command → ℕ → Result ℕ ReadError
allowed_rank command n = cond (leb n (greatest_rank command)) (Ok n) (Err (errors.LevelRank n))

-- The rank of a number in line l: at least 1, and one that the command allows.
abbrev pub rank_number : Command → ℕ → Option ℕ → Result ℕ ReadError
rank_number command l None = Err (errors.RankRange l)
rank_number command l (Some n) = cond (leb 1 n && leb n most_rank) (allowed_rank command n) (Err (errors.RankRange l))

-- The rank of the fields after the keyword: there is one, and it is a number.
abbrev pub rank_at : Command → ℕ → List Field → Result ℕ ReadError
rank_at command l [] = Err (errors.RankRange l)
rank_at command l (f ∷ []) = rank_number command l (number f.bytes)
rank_at command l (f ∷ g ∷ fs) = Err (errors.RankRange l)

-- Where no rank line is, the refusal says so.
abbrev pub no_rank : ReadError → ReadError
no_rank (errors.BadLine l) = errors.NoRank l
no_rank e = e

-- The next line tells the rank.
unfoldable pub rank_after : Command → Reading → Result (ℕ × Reading) ReadError
rank_after command r =
    refused_as no_rank (line_after (codes "rank") r) >>= λ k.
    rank_at command k.0.number k.0.fields >>= λ n.
    Ok (n, k.1)
