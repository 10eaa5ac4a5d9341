-- What a wrapper sends.
use Rattle.std.proofs.Common.{◌≡◌, List, [], ◌∷◌, map, refl, ap}
use Rattle.asm_lang.specs.Modules.{exprs}
use Rattle.asm_tree.specs.Views.{exprs_in}
use Rattle.wasm2js_translation.specs.Names.{Name}
use Rattle.wasm2js_translation.specs.Modules.{sent}
use Rattle.wasm2js_functions.specs.Sending.{sent_word}

pub words_are_sent : (ns : List Name) → exprs_in (map sent_word ns) ≡ sent ns
words_are_sent [] = refl
words_are_sent (n ∷ ns) = ap (exprs (sent_word n)) (words_are_sent ns)
