-- A tuple and a rank are read exactly from the fields that spell them: for the law on whole texts.
use Rattle.std.proofs.Common.{◌≡◌, ℕ, ◌≤◌, true, List, [], ◌∷◌, map, ap, ◌∙◌, arith, None, Some, Ok, Err}
use Rattle.std.specs.Prelude.{leb, ◌&&◌, decimal}
use Rattle.std.specs.declared.option.Option.{Option}
use Rattle.std.proofs.lemmas.Bool.{cond-true}
use Rattle.std.proofs.lemmas.Bool.Decides.{nat_tests}
use Rattle.wh_data.specs.declared.command.Command.{Command}
use Rattle.wh_data.specs.declared.command.Command.TheVariants as commands
use Rattle.wh_lines.specs.declared.read_error.ReadError.TheVariants as errors
use Rattle.wh_lines.specs.Lines.{Field}
use Rattle.wh_lines.specs.Numbers.{number}
use Rattle.wh_text.specs.RankLines.{greatest_rank, rank_at, rank_number, allowed_rank}
use Rattle.wh_lines.proofs.NumberLaws.{reads_numbers}
use Rattle.wh_lines.proofs.Equations.{ok_is, if_ok}

-- ---- ranks
in_range : (most k : ℕ) → (leb 1 k && leb k 26) ≡ true → leb k most ≡ true → (1 ≤ k) × (k ≤ most)
in_range most k e f = (grind (arith, nat_tests), grind (arith, nat_tests))

is_in_range : (most k : ℕ) → most ≤ 26 → 1 ≤ k → k ≤ most → ((leb 1 k && leb k 26) ≡ true) × (leb k most ≡ true)
is_in_range most k m h g = (grind (arith, nat_tests), grind (arith, nat_tests))

pub rank_within : (command : Command) → greatest_rank command ≤ 26
rank_within commands.Reduce = omega arith
rank_within commands.Decide = omega arith
rank_within commands.Straighten = omega arith
rank_within commands.Stabiliser = omega arith

number_is : (command : Command) (l n : ℕ) (o : Option ℕ) → rank_number command l o ≡ Ok n → (o ≡ Some n) × (1 ≤ n) × (n ≤ greatest_rank command)
number_is command l n None e = absurd (cc)
number_is command l n (Some k) e =
    let p = if_ok (leb 1 k && leb k 26) (errors.RankRange l) (allowed_rank command k) n e in
    let q = if_ok (leb k (greatest_rank command)) (errors.LevelRank k) (Ok k) n p.1 in
    let r = in_range (greatest_rank command) k p.0 q.0 in
    let s : k ≡ n = ok_is k n q.1 in
    (ap (λ m. Some m) s, omega (arith, s, r.0), omega (arith, s, r.1))

pub rank_is : (command : Command) (l n : ℕ) (fs : List Field) → rank_at command l fs ≡ Ok n → (map (λ f. f.bytes) fs ≡ decimal n ∷ []) × (1 ≤ n) × (n ≤ greatest_rank command)
rank_is command l n [] e = absurd (cc)
rank_is command l n (f ∷ []) e = let p = number_is command l n (number f.bytes) e in (ap (λ v. v ∷ []) ((reads_numbers f.bytes n).0 p.0).0, p.1, p.2)
rank_is command l n (f ∷ g ∷ fs) e = absurd (cc)

pub rank_back : (command : Command) (l n : ℕ) (fs : List Field) → map (λ f. f.bytes) fs ≡ decimal n ∷ [] → 1 ≤ n → n ≤ greatest_rank command → rank_at command l fs ≡ Ok n
rank_back command l n [] e h g = absurd (cc)
rank_back command l n (f ∷ []) e h g =
    let spelled : f.bytes ≡ decimal n = (cc) in
    let most = rank_within command in
    let range = is_in_range (greatest_rank command) n most h g in
    ap (rank_number command l) ((reads_numbers f.bytes n).1 (spelled, omega (arith, g, most)))
    ∙ cond-true (leb 1 n && leb n 26) (allowed_rank command n) (Err (errors.RankRange l)) range.0
    ∙ cond-true (leb n (greatest_rank command)) (Ok n) (Err (errors.LevelRank n)) range.1
rank_back command l n (f ∷ g ∷ fs) e h i = absurd (cc)
