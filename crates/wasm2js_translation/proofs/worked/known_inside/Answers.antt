use Rattle.std.specs.Prelude.{refl}
use Rattle.std.specs.Fmt.{digits}
use Rattle.asm_lang_tokens.specs.Forms.{is_punctuator}
use Rattle.wasm2js_translation.proofs.worked.known_inside.Goals as goal

pub returns-clause-in_a_block : goal.returns-clause-in_a_block
unfolding is_punctuator digits
returns-clause-in_a_block c = refl

pub returns-clause-in_an_arm : goal.returns-clause-in_an_arm
unfolding is_punctuator digits
returns-clause-in_an_arm c = refl

pub returns-clause-in_the_other_arm : goal.returns-clause-in_the_other_arm
unfolding is_punctuator digits
returns-clause-in_the_other_arm c = refl

pub returns-clause-in_a_loop : goal.returns-clause-in_a_loop
unfolding is_punctuator digits
returns-clause-in_a_loop c = refl
