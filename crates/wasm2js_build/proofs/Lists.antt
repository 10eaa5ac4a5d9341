-- Lists of arguments.
use Rattle.std.proofs.Common.{◌≡◌, List, [], ◌∷◌, map, refl, ap}
use Rattle.asm_lang.specs.Modules.{exprs}
use Rattle.asm_tree.specs.Views.{exprs_in}
use Rattle.wasm2js_translation.specs.Words.{Term, int_of, arguments}

pub arguments_are : (ts : List Term) → exprs_in (map int_of ts) ≡ arguments ts
arguments_are [] = refl
arguments_are (t ∷ ts) = ap (λ more. exprs (int_of t) more) (arguments_are ts)
