use Rattle.std.proofs.Common.{[], map, refl, ap, ◌++◌, ◌∙◌}
use Rattle.asm_tree.specs.Views.{function_view}
use Rattle.wasm_tree.specs.Views.{body_of, module_of, type_of}
use Rattle.wasm_lang_valid.specs.Typing.{Context}
use Rattle.wasm_lang_exec.specs.Code.{tree_of}
use Rattle.wasm2js_functions.proofs.OwnFunctions.{same_context, own_is}
use Rattle.wasm2js_functions.proofs.own.own_function.Goals as goal

pub returns : goal.returns
returns c = λ tree is.
    let m = module_of c.args.«module».now in
    let facts = c.args.facts.now in
    let t = type_of c.args.function_type.now in
    let more = (body_of c.args.body.now).locals in
    let context : Context = record {
      types = map type_of c.as_slice.result.now;
      functions = c.as_slice-3.result.now;
      table = facts.table;
      memory = facts.memory;
      globals = c.as_slice-4.result.now;
      locals = c.as_slice-5.result.now;
      labels = [];
      returns = c.result_type.result;
    } in
    own_is m c.args.number facts.sizes.bytes facts.sizes.cells t more c.as_slice-params.result.now context tree (function_view c.in_ok-made.made)
    c.as_slice-params.ensures
    (same_context m t more context (ap (map type_of) c.as_slice.ensures) (c.as_slice-3.ensures.value ∙ c.requires.facts.functions) c.requires.facts.table c.requires.facts.memory
    (c.as_slice-4.ensures.value ∙ c.requires.facts.globals)
    (c.as_slice-5.ensures.value ∙ c.in_ok-locals.ensures ∙ ap (λ ps. ps ++ more) c.as_slice-params.ensures)
    refl c.result_type.ensures)
    c.requires.facts.bytes c.requires.facts.cells
    (c.in_ok-made.ensures tree (ap tree_of c.in_ok-flat.ensures ∙ is))
