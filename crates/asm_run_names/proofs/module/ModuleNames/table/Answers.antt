use Rattle.std.proofs.Common.{Some, None}
use Rattle.sem_words.specs.Lists.{text_bytes}
use Rattle.asm_run_names.proofs.Found.{table_is}
use Rattle.asm_run_names.proofs.module.ModuleNames.table.Goals as goal

pub returns-in-Some : goal.returns-in-Some
returns-in-Some c =
    table_is c.self.inside.«module».now c.args.self.now c.self.view_is (text_bytes c.args.name.now) c.as_bytes.result.now c.as_bytes.ensures c.self.inside.places.tables (Some c.in-Some.slot) c.self.invariant.tables_are c.in-Some.ensures.place

pub returns-in-None : goal.returns-in-None
returns-in-None c =
    table_is c.self.inside.«module».now c.args.self.now c.self.view_is (text_bytes c.args.name.now) c.as_bytes.result.now c.as_bytes.ensures c.self.inside.places.tables None c.self.invariant.tables_are c.in-None.ensures.place
