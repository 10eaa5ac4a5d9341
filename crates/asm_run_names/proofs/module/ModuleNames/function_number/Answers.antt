use Rattle.sem_words.specs.Lists.{text_bytes}
use Rattle.asm_run_names.proofs.Found.{function_is}
use Rattle.asm_run_names.proofs.module.ModuleNames.function_number.Goals as goal

pub returns : goal.returns
returns c =
    function_is c.self.inside.«module».now c.args.self.now c.self.view_is (text_bytes c.args.name.now) c.as_bytes.result.now c.as_bytes.ensures c.self.inside.places.functions c.slot_or_len.result c.self.invariant.functions_are c.slot_or_len.ensures.place
