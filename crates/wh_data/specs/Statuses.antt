-- How a run ends that writes an answer, and the numbers by which a run tells how it ended.
use Rattle.std.specs.Prelude.{ℕ}
use Rattle.wh_data.specs.declared.answer.Verdict.{Verdict}
use Rattle.wh_data.specs.declared.answer.Verdict.TheVariants as verdicts
use Rattle.wh_data.specs.declared.answer.StabVerdict.{StabVerdict}
use Rattle.wh_data.specs.declared.answer.StabVerdict.TheVariants as stabs
use Rattle.wh_data.specs.declared.answer.Answer.{Answer}
use Rattle.wh_data.specs.declared.answer.Answer.TheVariants as answers
use Rattle.wh_data.specs.declared.status.Status.{Status}
use Rattle.wh_data.specs.declared.status.Status.TheVariants as statuses

-- 0 where the answer is written and is no no; 1 a no; 2 a refusal; 3 undecided; 4 and 5 faults of reading and writing; 6 want of memory.
abbrev pub status_number : Status → ℕ
status_number statuses.Done = 0
status_number statuses.No = 1
status_number statuses.Refused = 2
status_number statuses.Undecided = 3
status_number statuses.ReadFault = 4
status_number statuses.WriteFault = 5
status_number statuses.OutOfMemory = 6

-- How a run ends that writes a verdict.
abbrev pub verdict_status : Verdict → Status
verdict_status (verdicts.Yes ms) = statuses.Done
verdict_status (verdicts.NoLength s t) = statuses.No
verdict_status (verdicts.NoLevel s t level) = statuses.No
verdict_status (verdicts.Undecided b) = statuses.Undecided

-- How a run ends that writes what is found of a stabiliser.
abbrev pub stab_status : StabVerdict → Status
stab_status (stabs.Done s p) = statuses.Done
stab_status (stabs.Undecided b) = statuses.Undecided

-- How a run ends that writes an answer.
abbrev pub answer_status : Answer → Status
answer_status (answers.Reduce t s) = statuses.Done
answer_status (answers.Decide s t v) = verdict_status v
answer_status (answers.Straighten t given ms end) = statuses.Done
answer_status (answers.Stabiliser t v) = stab_status v
