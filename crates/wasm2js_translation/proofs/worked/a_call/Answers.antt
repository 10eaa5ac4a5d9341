use Rattle.std.specs.Prelude.{refl}
use Rattle.std.specs.Fmt.{digits}
use Rattle.asm_lang_tokens.specs.Forms.{is_punctuator}
use Rattle.wasm2js_translation.proofs.worked.a_call.Goals as goal

pub returns : goal.returns
unfolding is_punctuator digits
returns c = refl
