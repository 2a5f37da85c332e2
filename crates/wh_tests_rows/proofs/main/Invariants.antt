use Rattle.std.proofs.Common.{◌-◌, vec_len}
use Rattle.wh_tests_rows.proofs.main.Given as goal

abbrev pub decreases-loop-start : goal.decreases-loop-start
decreases-loop-start l = vec_len l.bytes - l.start
