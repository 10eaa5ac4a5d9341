-- How a call ends, and what it leaves in its two sinks.
use Rattle.std.specs.Prelude.{◌≡◌, ℕ, List, Option}
use Rattle.bridge_io.specs.Outside.{Told}
use Rattle.bridge_lang.specs.Reason.{Reason, line_of}
use Rattle.bridge_lang.specs.Statuses.{status_of}
use Rattle.bridge_lang.specs.Sinks.{Seen, Gains, GainsFront, Stays}
use Rattle.bridge_lang.specs.Answers.{MayAnswer}
use Rattle.bridge_lang.specs.Job.{Job, refused, written, IsJob}
use Rattle.bridge_lang.specs.declared.status.Status.{Status}
use Rattle.bridge_lang.specs.declared.status.Status.TheVariants.{Done, ReadFault, WriteFault, Memory}

abbrev pub EndsAs : Job → Status → Type 0
EndsAs (refused reason) status = status ≡ status_of reason
EndsAs (written output) status = status ≡ Done

-- the ends that don't depend on the job
pub data IsCutShort : Status → Type 0 where
  by_a_read : IsCutShort ReadFault
  by_a_write : IsCutShort WriteFault
  by_want : IsCutShort Memory

-- what may be reported: the refusal of the job, a failed read, or want of memory
abbrev pub MayReport : List (List ℕ) → Option Told → Reason → Type 0
MayReport words told reason = MayAnswer (IsJob words told) reason

-- after Done the output stands whole, and nothing is reported
pub record Writes (words : List (List ℕ)) (told : Option Told) (out out' report report' : Seen) : Type 0 where
  pub output : List ℕ
  pub job : IsJob words told (written output)
  pub whole : Gains output out out'
  pub silent : Stays report report'

-- after a refusal its line is reported, and the output is as it was
pub record Refuses (words : List (List ℕ)) (told : Option Told) (status : Status) (out out' report report' : Seen) : Type 0 where
  pub reason : Reason
  pub is : status ≡ status_of reason
  pub job : MayReport words told reason
  pub line : Gains (line_of reason) report report'
  pub nothing : Stays out out'

-- where a write to the output failed, a front of it stands, and nothing is reported
pub record OutputCut (words : List (List ℕ)) (told : Option Told) (out out' report report' : Seen) : Type 0 where
  pub output : List ℕ
  pub job : IsJob words told (written output)
  pub front : GainsFront output out out'
  pub silent : Stays report report'

-- where a write to the report failed, a front of the line stands, and the output is as it was
pub record ReportCut (words : List (List ℕ)) (told : Option Told) (out out' report report' : Seen) : Type 0 where
  pub reason : Reason
  pub job : MayReport words told reason
  pub front : GainsFront (line_of reason) report report'
  pub nothing : Stays out out'
