use Rattle.std.proofs.Common.{sym, subst}
use Rattle.wasm_lang_valid.specs.Profile.{table_length}
use Rattle.wasm2js_tables.specs.Inside.{AreInside}
use Rattle.wasm2js_tables.proofs.Profile.{elements_inside}
use Rattle.wasm2js_tables.proofs.types.masked.Goals as goal

pub entries_of-requires : goal.entries_of-requires
entries_of-requires c =
    let e = c.module-module.ensures in
    subst (λ m. AreInside (table_length m) m.elements) (sym e.given) (elements_inside c.args.valid.now e.valid c.requires.constant c.requires.inside)
