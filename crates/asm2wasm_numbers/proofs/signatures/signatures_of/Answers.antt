use Rattle.std.proofs.Common.{map}
use Rattle.asm_tree.specs.Views.{function_view}
use Rattle.asm_lang_valid.specs.Scope.{signature_of}
use Rattle.asm2wasm_numbers.specs.Signatures.{asked}
use Rattle.asm2wasm_numbers.proofs.Types.{all_added}
use Rattle.asm2wasm_numbers.proofs.signatures.signatures_of.Goals as goal

pub returns : goal.returns
returns c =
    all_added c.new-signatures.result.keys c.add_calls.new.signatures.keys c.add_functions.new.signatures.keys (map asked c.args.calls.now) (map signature_of (map function_view c.args.functions.now)) c.new-signatures.ensures.empty c.in_ok-add_calls.ensures c.in_ok-add_functions.ensures
