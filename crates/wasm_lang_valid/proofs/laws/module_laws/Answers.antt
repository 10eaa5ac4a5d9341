use Rattle.wasm_lang_valid.proofs.Functions.{has_type}
use Rattle.wasm_lang_valid.proofs.laws.module_laws.Goals as goal

pub returns : goal.returns
returns c = λ m f valid h. has_type m valid f h
