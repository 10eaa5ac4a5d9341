-- What a linked module calls for what the pair calls.
use Rattle.std.specs.Prelude.{◌≡◌, ◌+◌, List, ◌++◌, length, Option, Some, None}
use Rattle.wasm_lang.specs.declared.types.ValType.{ValType}
use Rattle.wasm_lang_exec.specs.Reductions.{Callee, an_import, a_function}
use Rattle.wasm_link_lang.specs.Pairs.{Pair}
use Rattle.wasm_link_code.specs.Trees.{moved_tree}

-- the same import; or a function of the same type with moved code and some locals more
abbrev pub IsMoved : Pair → Option Callee → Option Callee → Type 0
IsMoved w None c = c ≡ None
IsMoved w (Some (an_import name t)) c = c ≡ Some (an_import name t)
IsMoved w (Some (a_function t locals code)) c = (more : List ValType) × (c ≡ Some (a_function t (locals ++ more) (moved_tree w (length t.params + length locals) code)))
