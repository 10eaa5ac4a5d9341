use Rattle.sem_words.specs.Lists.{list_items}
use Rattle.asm_tree.specs.Views.{module_view}
use Rattle.cmd_check_asm.proofs.Judging.{is_within, verdict_of}
use Rattle.cmd_check_asm.proofs.checking.judge.Goals as goal

pub of_module-requires : goal.of_module-requires
of_module-requires c = is_within (module_view c.args.parsed.«module») (list_items c.args.parsed.places) c.in-Err.refusal c.requires.placed c.in-Err.ensures.exactly

pub returns : goal.returns
returns c = rw c.of_module.ensures (verdict_of (module_view c.args.parsed.«module») (list_items c.args.parsed.places) c.in-Err.refusal (is_within (module_view c.args.parsed.«module») (list_items c.args.parsed.places) c.in-Err.refusal c.requires.placed c.in-Err.ensures.exactly) c.in-Err.ensures.exactly)
