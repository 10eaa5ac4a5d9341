use Rattle.std.proofs.Common.{◌<◌, ◌∙◌, sym, length, arith}
use Rattle.sem_words.specs.Lists.{text_bytes}
use Rattle.asm_tree.specs.Views.{module_view}
use Rattle.asm_lang_valid.specs.Refusal.{foreign_globals}
use Rattle.asm2wasm_sections.proofs.Small.{slot_below}
use Rattle.asm2wasm_sections.proofs.variables.given_number.Goals as goal

pub overflow_cast-result : goal.overflow_cast-result
overflow_cast-result c =
    let names = foreign_globals (module_view c.args.numbers.now) in
    let below : c.in-Some.number < length names = slot_below names (text_bytes c.args.member.now) c.in-Some.number (sym c.given_global.ensures ∙ c.in-Some.is) in
    let few : length names < 4294967296 = c.requires.few in
    omega arith
