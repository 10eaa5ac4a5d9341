-- The code of a function, as the code holds it.
use Rattle.std.specs.Prelude.{ℕ, List}
use Rattle.sem_words.specs.Lists.{list_items}
use Rattle.sem_words.specs.Words.{word_of}
use Rattle.asm_lang.specs.Trees.{Init, number}
use Rattle.asm_lang.specs.Modules.{Variable}
use Rattle.asm_lang_valid.specs.Typing.{Scope}
use Rattle.asm_run_code.specs.declared.op.Op.{Op}
use Rattle.asm_run_code.specs.Machine as code
use Rattle.asm_run_code.specs.Bodies.{body}
use Rattle.asm_run_emit_bodies.specs.declared.modules.Flat.{Flat}

abbrev pub flat_view : Flat → code.Flat
flat_view f = record { params = f.params; firsts = list_items f.firsts; code = list_items f.code }

-- the first word of a local
abbrev pub init_word : Init → ℕ
init_word (number z) = word_of 32 z
init_word _ = 0

abbrev pub local_word : Variable → ℕ
local_word v = init_word v.init

-- in the order in which it runs
abbrev pub whole : Scope → List Op
whole c = body c
