use Rattle.sem_words.specs.Lists.{list_items}
use Rattle.asm_lang.specs.Modules.{module_places}
use Rattle.asm_tree.specs.Views.{module_view}
use Rattle.cmd_check_asm.proofs.Judging.{well_formed, refused_there, accepted_text, refused_text, same_module, no_fault}
use Rattle.cmd_check_asm.proofs.checking.check_text.Goals as goal

pub judge-requires : goal.judge-requires
judge-requires c = record {
  well_formed = well_formed c.args.text.now (list_items c.in-Ok.parsed.places) (module_view c.in-Ok.parsed.«module») c.in-Ok.ensures.found;
  placed = refused_there c.args.text.now (list_items c.in-Ok.parsed.places) (module_view c.in-Ok.parsed.«module») c.place_laws.ensures c.in-Ok.ensures.found;
}

pub returns-in-Ok-clause-accepted : goal.returns-in-Ok-clause-accepted
returns-in-Ok-clause-accepted c = accepted_text c.args.text.now _ _ c.judge.result c.in-Ok.ensures.found c.judge.ensures

pub returns-in-Ok-clause-refused : goal.returns-in-Ok-clause-refused
returns-in-Ok-clause-refused c = refused_text c.args.text.now _ _ c.judge.result c.in-Ok.ensures.found c.judge.ensures

pub returns-in-Ok-clause-only : goal.returns-in-Ok-clause-only
returns-in-Ok-clause-only c = λ m says low. let answer = c.in-Ok.ensures.only m says low in same_module m _ _ _ c.judge.result answer.0 answer.1 c.judge.ensures

pub returns-in-Err-clause-only : goal.returns-in-Err-clause-only
returns-in-Err-clause-only c = λ m says low. rw c.of_text.ensures (no_fault m (module_places says.tree) c.in-Err.fault (c.in-Err.ensures.only m says low))
