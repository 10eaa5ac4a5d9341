use Rattle.std.proofs.Common.{ap}
use Rattle.std.proofs.lemmas.Result.{IfOk-weaker}
use Rattle.session_replies.specs.Views.{seen_of}
use Rattle.asm_tree.specs.Views.{module_view}
use Rattle.cmd_run_asm.proofs.Showing.{shows}
use Rattle.cmd_run_asm.proofs.runs.observation.Goals as goal

pub returns : goal.returns
returns c =
    let link = c.in_ok-session.ensures in
    IfOk-weaker c.observation_text.result _ _
    (λ output is. shows output.items (seen_of c.in_ok-seen.seen) (ap module_view link.code) link.size link.script c.from.ensures c.in_ok-seen.ensures.meaning is)
    c.observation_text.ensures
