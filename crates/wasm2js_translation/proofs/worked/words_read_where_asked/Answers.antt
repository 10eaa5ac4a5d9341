use Rattle.std.specs.Prelude.{refl}
use Rattle.std.specs.Fmt.{digits}
use Rattle.asm_lang_tokens.specs.Forms.{is_punctuator}
use Rattle.wasm2js_translation.proofs.worked.words_read_where_asked.Goals as goal

pub returns-clause-condition : goal.returns-clause-condition
unfolding is_punctuator digits
returns-clause-condition c = refl

pub returns-clause-beside : goal.returns-clause-beside
unfolding is_punctuator digits
returns-clause-beside c = refl

pub returns-clause-result : goal.returns-clause-result
unfolding is_punctuator digits
returns-clause-result c = refl
