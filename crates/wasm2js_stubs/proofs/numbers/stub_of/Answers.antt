use Rattle.std.proofs.Common.{sym, ap, ◌∙◌}
use Rattle.wasm_tree.specs.Views.{type_of}
use Rattle.wasm2js_translation.specs.Tables
use Rattle.wasm2js_stubs.proofs.Words.{type_found, type_missing}
use Rattle.wasm2js_stubs.proofs.numbers.stub_of.Goals as goal

pub number_of-requires : goal.number_of-requires
number_of-requires c =
    let at = c.in-Some.ensures.lookup in
    let t = c.in-Some.t.now in
    c.requires c.args.function_type (type_of t) (type_found c.args.types.now c.args.function_type t at.0 at.1)

pub returns-in-None : goal.returns-in-None
returns-in-None c = ap Tables.stub_number (sym (type_missing c.args.types.now c.args.function_type c.in-None.ensures.lookup.3))

pub returns-in-Some : goal.returns-in-Some
returns-in-Some c =
    let at = c.in-Some.ensures.lookup in
    c.number_of.ensures ∙ ap Tables.stub_number (sym (type_found c.args.types.now c.args.function_type c.in-Some.t.now at.0 at.1))
