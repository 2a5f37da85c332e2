-- The lines of a text are those that were written: for the law on lines.
use Rattle.std.proofs.Common.{◌≡◌, ◌≢◌, ℕ, ◌==◌, List, [], ◌∷◌, ◌++◌, ap, ◌∙◌, refl, append_assoc}
use Rattle.std.specs.List.{All}
use Rattle.std.proofs.lemmas.List.Elements.{All-head, All-tail}
use Rattle.std.proofs.lemmas.Bool.{cond-false}
use Rattle.wh_lines.specs.Lines.{lines, onto}
use Rattle.wh_lines.specs.Laws.{IsLine, ended, ReadsLines}
use Rattle.wh_lines.proofs.Scanning.{eq_false}

line_then : (line rest : List ℕ) → IsLine line → lines (line ++ (10 ∷ rest)) ≡ line ∷ lines rest
line_then [] rest h = refl
line_then (b ∷ bs) rest h =
    cond-false (b == 10) _ _ (eq_false b 10 (All-head (λ d. d ≢ 10) b bs h)) ∙ ap (onto b) (line_then bs rest (All-tail (λ d. d ≢ 10) b bs h))

last_line : (b : ℕ) (bs : List ℕ) → IsLine (b ∷ bs) → lines (b ∷ bs) ≡ (b ∷ bs) ∷ []
last_line b [] h = cond-false (b == 10) _ _ (eq_false b 10 (All-head (λ d. d ≢ 10) b [] h))
last_line b (d ∷ ds) h =
    cond-false (b == 10) _ _ (eq_false b 10 (All-head (λ x. x ≢ 10) b (d ∷ ds) h)) ∙ ap (onto b) (last_line d ds (All-tail (λ x. x ≢ 10) b (d ∷ ds) h))

whole : (ls : List (List ℕ)) → All IsLine ls → lines (ended ls) ≡ ls
whole [] h = refl
whole (line ∷ ls) h = line_then line (ended ls) (All-head IsLine line ls h) ∙ ap (λ ms. line ∷ ms) (whole ls (All-tail IsLine line ls h))

open_end : (ls : List (List ℕ)) (b : ℕ) (last : List ℕ) → All IsLine ls → IsLine (b ∷ last) → lines (ended ls ++ (b ∷ last)) ≡ ls ++ ((b ∷ last) ∷ [])
open_end [] b last h g = last_line b last g
open_end (line ∷ ls) b last h g =
    ap lines (append_assoc line (10 ∷ ended ls) (b ∷ last)) ∙ line_then line (ended ls ++ (b ∷ last)) (All-head IsLine line ls h)
    ∙ ap (λ ms. line ∷ ms) (open_end ls b last (All-tail IsLine line ls h) g)

pub reads_lines : ReadsLines
reads_lines = record { whole = whole; open_end = open_end }
