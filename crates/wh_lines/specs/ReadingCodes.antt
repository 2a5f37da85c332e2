-- How a proof tells readings apart: what is left is stored as its lines and what stops them.
use Rattle.std.specs.Prelude.{◌≡◌, ◌⊎◌, ℕ, List, [], ◌∷◌, refl}
use Rattle.std.specs.Coded.{Coded, code_by, coded×, coded⊎, coded_ℕ, coded_list}
use Rattle.std.proofs.Common.{ap, inl, inr}
use Rattle.wh_lines.specs.Lines.{Field}
use Rattle.wh_lines.specs.KeptLines.{Kept, Rest}
use Rattle.wh_lines.specs.KeptLines.Rest.{line, bad_byte, end}
use Rattle.wh_lines.specs.LineReadings.{Reading}

abbrev pub field_code : Coded Field
field_code = code_by (ℕ × List ℕ) (coded× coded_ℕ (coded_list coded_ℕ)) (λ f. (f.column, f.bytes)) (λ p. record { column = p.0; bytes = p.1 }) (λ _. refl)

abbrev pub kept_code : Coded Kept
kept_code =
    code_by (ℕ × (List ℕ × List Field)) (coded× coded_ℕ (coded× (coded_list coded_ℕ) (coded_list field_code)))
    (λ k. (k.number, (k.keyword, k.fields))) (λ p. record { number = p.0; keyword = p.1.0; fields = p.1.1 }) (λ _. refl)

abbrev pub lines_of : Rest → List Kept
lines_of (line k later) = k ∷ lines_of later
lines_of (bad_byte l c) = []
lines_of (end l) = []

abbrev pub stop_of : Rest → (ℕ × ℕ) ⊎ ℕ
stop_of (line k later) = stop_of later
stop_of (bad_byte l c) = inl (l, c)
stop_of (end l) = inr l

abbrev pub rest_with : List Kept → (ℕ × ℕ) ⊎ ℕ → Rest
rest_with [] (inl p) = bad_byte p.0 p.1
rest_with [] (inr l) = end l
rest_with (k ∷ ks) s = line k (rest_with ks s)

pub rest_same : (r : Rest) → rest_with (lines_of r) (stop_of r) ≡ r
rest_same (line k later) = ap (line k) (rest_same later)
rest_same (bad_byte l c) = refl
rest_same (end l) = refl

abbrev pub rest_code : Coded Rest
rest_code =
    code_by (List Kept × ((ℕ × ℕ) ⊎ ℕ)) (coded× (coded_list kept_code) (coded⊎ (coded× coded_ℕ coded_ℕ) coded_ℕ))
    (λ r. (lines_of r, stop_of r)) (λ p. rest_with p.0 p.1) rest_same

abbrev pub reading_code : Coded Reading
reading_code = code_by (List ℕ × Rest) (coded× (coded_list coded_ℕ) rest_code) (λ r. (r.taken, r.rest)) (λ p. record { taken = p.0; rest = p.1 }) (λ _. refl)
