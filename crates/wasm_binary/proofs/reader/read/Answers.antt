use Rattle.std.proofs.Common.{◌<◌, ◌∙◌, arith}
use Rattle.std.specs.Prelude.{Ok, Err}
use Rattle.std.proofs.lemmas.List.Elements.{All-from_get_or}
use Rattle.wasm_lang.proofs.Shaped.{spelled_shaped}
use Rattle.wasm_binary.proofs.Answering.{found_is, only_is, refusal_is}
use Rattle.wasm_binary.proofs.ByParts.{by_parts, told_is}
use Rattle.wasm_binary.proofs.reader.read.Goals as goal

pub returns-in-Ok-clause-found : goal.returns-in-Ok-clause-found
returns-in-Ok-clause-found c =
    found_is c.args.bytes.now _ (All-from_get_or (λ b. b < 256) c.args.bytes.now 0 (λ i _. omega (arith, c.type_inv.bytes i))) (by_parts c.args.bytes.now ∙ c.in-Ok.ensures.value)

pub returns-in-Ok-clause-shaped : goal.returns-in-Ok-clause-shaped
returns-in-Ok-clause-shaped c =
    spelled_shaped c.args.bytes.now _ (found_is c.args.bytes.now _ (All-from_get_or (λ b. b < 256) c.args.bytes.now 0 (λ i _. omega (arith, c.type_inv.bytes i))) (by_parts c.args.bytes.now ∙ c.in-Ok.ensures.value)).spelled

pub returns-in-Ok-clause-only : goal.returns-in-Ok-clause-only
returns-in-Ok-clause-only c = only_is c.args.bytes.now (Ok c.in-Ok.module) (by_parts c.args.bytes.now ∙ c.in-Ok.ensures.value)

pub returns-in-Err-clause-only : goal.returns-in-Err-clause-only
returns-in-Err-clause-only c = only_is c.args.bytes.now (Err c.told.result) (told_is c.in-Err.error c.told.result c.args.bytes.now c.told.ensures c.in-Err.ensures.value)

pub returns-in-Err-clause-fault : goal.returns-in-Err-clause-fault
returns-in-Err-clause-fault c = refusal_is c.args.bytes.now c.told.result (told_is c.in-Err.error c.told.result c.args.bytes.now c.told.ensures c.in-Err.ensures.value)
