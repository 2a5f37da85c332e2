-- What is found of a certificate.
use Rattle.std.specs.Prelude.{◌≡◌, ℕ, List, ◌∷◌, ◌++◌, get_or}
use Rattle.std.specs.List.{All}
use Rattle.wh_data.specs.AnswerData.{CertificateData}
use Rattle.wh_cert.specs.declared.checked.Rule.{Rule}
use Rattle.wh_cert.specs.declared.checked.Checked.{Checked}
use Rattle.wh_cert.specs.declared.checked.Checked.TheVariants.{Valid, Invalid}
use Rattle.wh_cert.specs.Demands.{Demand, rule_of, IsMet, Placed, asked}

-- All demands are met.
abbrev pub AreMet : List Placed → Type 0
AreMet ds = All (λ d. IsMet d.1) ds

-- The first demand that isn't met is one on the line at a place, by a rule.
pub record IsFirstBroken (ds : List Placed) (place : ℕ) (rule : Rule) : Type 0 where
  pub before : List Placed
  pub broken : Demand
  pub after : List Placed
  pub parts : ds ≡ before ++ (place, broken) ∷ after
  pub met : AreMet before
  pub unmet : ¬ (IsMet broken)
  pub asks : rule ≡ rule_of broken

-- The first demand that isn't met is one on the line of a number, by a rule.
pub record IsInvalidAt (c : CertificateData) (line : ℕ) (rule : Rule) : Type 0 where
  pub place : ℕ
  pub first : IsFirstBroken (asked c.flow_heads c.tree_heads c.answer) place rule
  pub number : line ≡ get_or c.lines place 0

-- A certificate is valid where all that is asked of its lines is so. Else the answer is the first line, and its first rule, of which it isn't so.
abbrev pub Checks : CertificateData → Checked → Type 0
Checks c Valid = AreMet (asked c.flow_heads c.tree_heads c.answer)
Checks c (Invalid line rule) = IsInvalidAt c line rule
