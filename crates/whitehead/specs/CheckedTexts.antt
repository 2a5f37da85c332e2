-- What is told of a certificate.
use Rattle.std.specs.Prelude.{ℕ, List, ◌++◌, codes, decimal}
use Rattle.wh_data.specs.declared.status.Status.{Status}
use Rattle.wh_data.specs.declared.status.Status.TheVariants.{Done, No}
use Rattle.wh_cert.specs.Rules.{rule_name}
use Rattle.wh_cert.specs.declared.checked.Checked.{Checked}
use Rattle.wh_cert.specs.declared.checked.Checked.TheVariants.{Valid, Invalid}

-- One line: that it is valid, or the line that breaks a rule, and the rule.
unfoldable pub checked_text : Checked → List ℕ
checked_text Valid = codes "valid\n"
checked_text (Invalid line rule) = codes "invalid line " ++ decimal line ++ codes " " ++ rule_name rule ++ codes "\n"

-- How a run ends that writes it.
abbrev pub checked_status : Checked → Status
checked_status Valid = Done
checked_status (Invalid line rule) = No
