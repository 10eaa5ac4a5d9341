use Rattle.std.proofs.Common.{◌≡◌, ◌++◌, map, take, drop}
use Rattle.wasm_lang.specs.Modules.{FunctionType}
use Rattle.wasm_tree.specs.Views.{type_of}
use Rattle.wasm2js_translation.specs.Bodies.{form_number}
use Rattle.wasm2js_operands.specs.Forms.{form_numbers}
use Rattle.wasm2js_functions.specs.Forms.{number_in}
use Rattle.wasm2js_functions.proofs.Firsts.{first_in}
use Rattle.wasm2js_functions.proofs.forms.forms_of.Given as goal

abbrev pub invariant-loop-number : goal.invariant-loop-number
invariant-loop-number l = record {
  noted : (u : FunctionType) → number_in l.numbers u ≡ first_in (map type_of (take l.number l.types)) u;
  forms : form_numbers (map type_of l.types) ≡ l.forms.items ++ map (form_number (map type_of l.types)) (map type_of (drop l.number l.types));
}
