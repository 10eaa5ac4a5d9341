-- Which modules can be spelled.
use Rattle.std.specs.Prelude.{◌≡◌, ℕ, List, length, All}
use Rattle.std.specs.Str.{IsUtf8}
use Rattle.wasm_lang.specs.Instructions.{Instruction, IsExpression}
use Rattle.wasm_lang.specs.Modules.{WasmModule}
use Rattle.wasm_lang.specs.Opcodes.{IsOpcode}
use Rattle.wasm_lang.specs.Grammar.{IsModuleBytes}

abbrev pub HasOpcode : Instruction → Type 0
HasOpcode i = (byte : ℕ) × IsOpcode byte i

-- an expression of instructions that have opcodes
pub record IsShapedCode (code : List Instruction) : Type 0 where
  pub expression : IsExpression code
  pub opcodes : All HasOpcode code

-- Names are UTF-8, instructions have opcodes, bodies, first values and offsets are expressions, and each function has a body (section 5.5.16).
pub record IsShaped (m : WasmModule) : Type 0 where
  pub module_names : All (λ i. IsUtf8 i.module_name) m.imports
  pub import_names : All (λ i. IsUtf8 i.name) m.imports
  pub export_names : All (λ e. IsUtf8 e.name) m.exports
  pub bodies : All (λ b. IsShapedCode b.code) m.bodies
  pub globals : All (λ g. IsShapedCode g.init) m.globals
  pub elements : All (λ e. IsShapedCode e.offset) m.elements
  pub segments : All (λ s. IsShapedCode s.offset) m.segments
  pub bodies_match : length m.functions ≡ length m.bodies

-- some bytes spell the module: it is shaped, and its counts and sizes are below 2 ^ 32
abbrev pub IsWritable : WasmModule → Type 0
IsWritable m = (bytes : List ℕ) × IsModuleBytes bytes m
