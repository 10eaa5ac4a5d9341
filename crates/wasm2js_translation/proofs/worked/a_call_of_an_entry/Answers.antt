use Rattle.std.specs.Prelude.{refl}
use Rattle.std.specs.Fmt.{digits}
use Rattle.asm_lang_tokens.specs.Forms.{is_punctuator}
use Rattle.wasm2js_translation.proofs.worked.a_call_of_an_entry.Goals as goal

pub returns-clause-wide : goal.returns-clause-wide
unfolding is_punctuator digits
returns-clause-wide c = refl

pub returns-clause-no_result : goal.returns-clause-no_result
unfolding is_punctuator digits
returns-clause-no_result c = refl

pub returns-clause-tables : goal.returns-clause-tables
unfolding is_punctuator digits
returns-clause-tables c = refl

pub returns-clause-no_entry : goal.returns-clause-no_entry
unfolding is_punctuator digits
returns-clause-no_entry c = refl

pub returns-clause-other_entry : goal.returns-clause-other_entry
unfolding is_punctuator digits
returns-clause-other_entry c = refl
