-- What an instruction is in, and the code of one that may not be plain.
use Rattle.std.specs.Prelude.{◌≡◌, ℕ, false, List, [], None}
use Rattle.wasm_lang.specs.declared.types.ValType.{ValType}
use Rattle.wasm_lang.specs.Instructions.{Instruction, plain}
use Rattle.wasm_lang_valid.specs.Typing.{Context}
use Rattle.wasm2js_translation.specs.Words.{Action}
use Rattle.wasm2js_translation.specs.Delays.{Delayed}
use Rattle.wasm2js_translation.specs.Actions.{actions_amid}
use Rattle.wasm2js_actions.specs.declared.plain.InstructionScope.{InstructionScope}

-- a context has the types of these locals and globals
pub record Suits (scope : InstructionScope) (c : Context) : Type 0 where
  pub locals : c.locals ≡ scope.locals.now
  pub globals : c.globals ≡ scope.globals.now

-- one that has no more
abbrev pub least_context : InstructionScope → Context
least_context s = record { types = []; functions = []; table = false; memory = false; globals = s.globals.now; locals = s.locals.now; labels = []; returns = None }

-- that of a plain instruction, where these words wait; any other one has none
abbrev pub instruction_actions : (bytes : ℕ) → Context → List Delayed → Instruction → (b : ℕ) → List ValType → List Action
instruction_actions bytes c ds (plain p) b ts = actions_amid bytes c ds p b ts
instruction_actions bytes c ds i b ts = []
