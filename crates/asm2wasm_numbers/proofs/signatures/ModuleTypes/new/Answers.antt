use Rattle.std.proofs.Common.{[], ◌++◌, List, map, ap, ◌∙◌, sym, subst}
use Rattle.asm_tree.specs.declared.tree.Module.{Module as Tree}
use Rattle.asm_tree.specs.declared.tree.Function.{Function}
use Rattle.asm_tree.specs.Views.{module_view, function_view}
use Rattle.asm_lang_valid.specs.LimitRows.{ForeignCall}
use Rattle.asm_lang_valid.specs.Scope.{signature_of}
use Rattle.asm_validate_limits.specs.declared.calls.ForeignCall.{ForeignCall as CodeCall}
use Rattle.asm_validate_limits.specs.Called.{foreign_view, EachIsFirst}
use Rattle.asm2wasm_translation.specs.Numbers.{each_once, asked_signature}
use Rattle.asm2wasm_numbers.specs.Signatures.{asked}
use Rattle.asm2wasm_numbers.proofs.Types.{asked_are}
use Rattle.asm2wasm_numbers.proofs.signatures.ModuleTypes.new.Goals as goal

pub returns : goal.returns
returns c =
    let m = module_view c.args.checked.now in
    let foreign = c.foreign_calls-foreign.result.now in
    record {
      calls_are = ap (λ (l : List CodeCall). map (foreign_view m) l) c.in_ok-calls.ensures ∙ c.foreign_calls-foreign.ensures.calls;
      calls_first = subst (λ (l : List CodeCall). EachIsFirst m l) (sym c.in_ok-calls.ensures) c.foreign_calls-foreign.ensures.first;
      types_are =
          c.in_ok-signatures.ensures
          ∙ ap (λ (l : List Function). each_once [] (map asked foreign ++ map signature_of (map function_view l))) c.as_slice-own.ensures
          ∙ ap (λ (t : Tree). each_once [] (map asked foreign ++ map signature_of (module_view t).functions)) c.module-module.ensures.given
          ∙ ap (λ l. each_once [] (l ++ map signature_of m.functions)) (asked_are m foreign)
          ∙ ap (λ (l : List ForeignCall). each_once [] (map asked_signature l ++ map signature_of m.functions)) c.foreign_calls-foreign.ensures.calls;
    }
