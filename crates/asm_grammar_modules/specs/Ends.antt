-- How reading ends.
use Rattle.std.specs.Prelude.{[], Option, Some, None, Result, Ok}
use Rattle.asm_lang.specs.Trees.{ModuleTree}
use Rattle.asm_lang.specs.Machine.{grammar, Refusal, failed}
use Rattle.asm_grammar_nodes.specs.Views.{module_view}
use Rattle.asm_grammar_modules.specs.declared.tall.TallModule.{TallModule}

-- the module that the tokens are, where they end
abbrev pub finished_view : Option TallModule → Result ModuleTree Refusal
finished_view None = failed grammar []
finished_view (Some m) = Ok (module_view m.tree)
