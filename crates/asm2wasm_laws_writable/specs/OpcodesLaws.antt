-- What the binary format asks of translated code and of names (WebAssembly Core 1.0, sections 5.2.4 and 5.4).
use Rattle.std.specs.Prelude.{◌≡◌, ℕ, Bool, true, List}
use Rattle.std.specs.Str.{IsUtf8}
use Rattle.wasm_lang.specs.Shape.{HasOpcode}
use Rattle.wasm_laws_write.specs.Each.{EachIn}
use Rattle.asm_lang_tokens.specs.Forms.{kind_of}
use Rattle.asm_lang.specs.Lexemes.{class_of, is_word}
use Rattle.asm_lang.specs.Trees.{Init}
use Rattle.asm_lang.specs.Modules.{Expr, Stmt, Module}
use Rattle.asm_lang_valid.specs.Typing.{Scope}
use Rattle.asm2wasm_translation.specs.Values.{expr_code}
use Rattle.asm2wasm_translation.specs.Bodies.{Label, stmt_code, function_code}
use Rattle.asm2wasm_translation.specs.Modules.{first_value}

-- ---- each instruction has an opcode, where the heap has `heap` bytes

abbrev pub ExpressionsHaveOpcodes : Type 0
ExpressionsHaveOpcodes = (heap : ℕ) (c : Scope) (wanted : Bool) (d : ℕ) (e : Expr) → EachIn HasOpcode (expr_code heap c wanted d e)

abbrev pub StatementsHaveOpcodes : Type 0
StatementsHaveOpcodes = (heap : ℕ) (c : Scope) (ls : List Label) (own : List (List ℕ)) (s : Stmt) → EachIn HasOpcode (stmt_code heap c ls own s)

abbrev pub FunctionsHaveOpcodes : Type 0
FunctionsHaveOpcodes = (heap : ℕ) (c : Scope) → EachIn HasOpcode (function_code heap c)

-- .. and so has what a variable of the module begins with
abbrev pub FirstValuesHaveOpcodes : Type 0
FirstValuesHaveOpcodes = (m : Module) (i : Init) → HasOpcode (first_value m i)

-- ---- names

-- a word of a text, as each name and each member is one, is UTF-8
abbrev pub PropertiesAreUtf8 : Type 0
PropertiesAreUtf8 = (w : List ℕ) → is_word (class_of (kind_of w) w) ≡ true → IsUtf8 w
