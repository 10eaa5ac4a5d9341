use Rattle.std.proofs.Common.{Some, None}
use Rattle.sem_words.specs.Lists.{text_bytes}
use Rattle.asm_run_names.proofs.Found.{global_is}
use Rattle.asm_run_names.proofs.module.ModuleNames.global.Goals as goal

pub returns-in-Some : goal.returns-in-Some
returns-in-Some c =
    global_is c.self.inside.«module».now c.args.self.now c.self.view_is (text_bytes c.args.name.now) c.as_bytes.result.now c.as_bytes.ensures c.self.inside.places.globals (Some c.in-Some.slot) c.self.invariant.globals_are c.in-Some.ensures.place

pub returns-in-None : goal.returns-in-None
returns-in-None c =
    global_is c.self.inside.«module».now c.args.self.now c.self.view_is (text_bytes c.args.name.now) c.as_bytes.result.now c.as_bytes.ensures c.self.inside.places.globals None c.self.invariant.globals_are c.in-None.ensures.place
