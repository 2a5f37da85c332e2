-- The words for the rules.
use Rattle.std.specs.Prelude.{ℕ, List, codes}
use Rattle.wh_cert.specs.declared.checked.Rule.{Rule}
use Rattle.wh_cert.specs.declared.checked.Rule.TheVariants as rules

-- The word for a rule.
abbrev pub rule_name : Rule → List ℕ
rule_name rules.Long = codes "long"
rule_name rules.Moves = codes "moves"
rule_name rules.End = codes "end"
rule_name rules.Length = codes "length"
rule_name rules.Flow = codes "flow"
rule_name rules.Root = codes "root"
rule_name rules.Sorted = codes "sorted"
rule_name rules.Height = codes "height"
rule_name rules.Absent = codes "absent"
rule_name rules.Closed = codes "closed"
rule_name rules.Tree = codes "tree"
rule_name rules.Generators = codes "generators"
rule_name rules.Generator = codes "generator"
rule_name rules.Step = codes "step"
rule_name rules.Loop = codes "loop"
rule_name rules.Wide = codes "wide"
rule_name rules.Identity = codes "identity"
rule_name rules.Numbers = codes "numbers"
