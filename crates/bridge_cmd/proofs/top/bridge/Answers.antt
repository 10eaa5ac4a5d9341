use Rattle.std.proofs.Common.{inl, inr, ◌∙◌, sym, ap}
use Rattle.bridge_lang.specs.Job.{written}
use Rattle.bridge_lang.specs.Outcome.{by_a_write}
use Rattle.bridge_lang.specs.Statuses.{status_of}
use Rattle.bridge_cmd.proofs.Jobs.{one_end, reported_exactly, usage_words}
use Rattle.bridge_cmd.proofs.top.bridge.Goals as goal

pub returns-in-Ok-put-clause-exact : goal.returns-in-Ok-put-clause-exact
returns-in-Ok-put-clause-exact g c =
    λ job told is. inl (one_end _ _ told (written c.in-Ok.output) job c.in-Ok.ensures.written is)

pub returns-in-Ok-clause-exact : goal.returns-in-Ok-clause-exact
returns-in-Ok-clause-exact g c = λ job told is. inr by_a_write

pub returns-in-Ok-write_line-clause-usage : goal.returns-in-Ok-write_line-clause-usage
returns-in-Ok-write_line-clause-usage g c =
    λ e. usage_words _ _ _ c.in-Err.ensures.refused (sym c.status.ensures ∙ e)

pub returns-in-Ok-write_line-clause-faulty_words : goal.returns-in-Ok-write_line-clause-faulty_words
returns-in-Ok-write_line-clause-faulty_words g c =
    λ none. elim (c.in-Err.ensures.faulty_words none)
    [ inl words ↦ inl (c.status.ensures ∙ ap status_of words) | inr memory ↦ inr (inr (c.status.ensures ∙ ap status_of memory)) ]

pub returns-in-Ok-write_line-clause-exact : goal.returns-in-Ok-write_line-clause-exact
returns-in-Ok-write_line-clause-exact g c =
    λ job told is. rw c.status.ensures (reported_exactly _ _ _ c.in-Err.ensures.refused job told is)

pub returns-clause-exact : goal.returns-clause-exact
returns-clause-exact g c = λ job told is. inr by_a_write
