use Rattle.wasm2js_lang.proofs.Padded.{within_rows}
use Rattle.wasm2js.proofs.printing.print_module.Goals as goal

pub masked-requires-clause-own : goal.masked-requires-clause-own
masked-requires-clause-own c = (within_rows c.args.valid.now c.requires).no_table

pub masked-requires-clause-constant : goal.masked-requires-clause-constant
masked-requires-clause-constant c = (within_rows c.args.valid.now c.requires).no_import

pub masked-requires-clause-inside : goal.masked-requires-clause-inside
masked-requires-clause-inside c = (within_rows c.args.valid.now c.requires).all_inside
