-- What an instruction does where it is plain, and which forms an opcode can say.
use Rattle.std.specs.Prelude.{List}
use Rattle.sem_words.specs.declared.word.Word.{Word}
use Rattle.wasm_lang.specs.Instructions.{Plain, load, store, sign_extend, Instruction, plain}
use Rattle.wasm_lang_exec.specs.Store.{Store}
use Rattle.wasm_lang_exec.specs.Plain.{Effect, sticks, do_plain}
use Rattle.wasm_run_operands.specs.Effects.{IsMemForm, IsExtension}

-- what an instruction does where it is a plain one; nothing is reduced where it isn't
abbrev pub instruction_effect : Instruction → (values locals : List Word) → Store → Effect
instruction_effect (plain p) values locals s = do_plain p values locals s
instruction_effect _ values locals s = sticks

abbrev pub IsPlainForm : Plain → Type 0
IsPlainForm (load op align offset) = IsMemForm op
IsPlainForm (store op align offset) = IsMemForm op
IsPlainForm (sign_extend wide bits) = IsExtension wide bits
IsPlainForm p = Unit {0}

abbrev pub IsForm : Instruction → Type 0
IsForm (plain p) = IsPlainForm p
IsForm i = Unit {0}
