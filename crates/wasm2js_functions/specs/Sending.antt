-- What is sent of a variable: a signed number.
use Rattle.asm_lang.specs.Modules.{Expr}
use Rattle.wasm2js_translation.specs.Names.{Name}
use Rattle.wasm2js_translation.specs.Words.{signed_number}
use Rattle.wasm2js_translation.specs.Bodies.{word_in}

abbrev pub sent_word : Name → Expr
sent_word n = signed_number (word_in n)
