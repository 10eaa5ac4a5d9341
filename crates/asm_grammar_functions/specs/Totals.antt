-- Heights of functions, as the code counts them.
use Rattle.std.specs.Prelude.{ℕ, List, map}
use Rattle.asm_lang.specs.Trees.{FunctionTree}
use Rattle.asm_lang.specs.Modules.{function_of}
use Rattle.asm_lang.specs.Heights.{function_height, functions_height}
use Rattle.asm_grammar_nodes.specs.declared.declarations.FunctionTree.{FunctionTree as CodeFunction}
use Rattle.asm_grammar_nodes.specs.Views.{function_view}

abbrev pub one_height : FunctionTree → ℕ
one_height f = function_height (function_of f)

abbrev pub highest : List FunctionTree → ℕ
highest fs = functions_height (map function_of fs)

abbrev pub functions_view : List CodeFunction → List FunctionTree
functions_view fs = map function_view fs
