-- Why there is no output, and the line that says so.
use Rattle.std.specs.Prelude.{ℕ, Bool, List, [], ◌∷◌, ◌++◌, codes, decimal}
use Rattle.std.specs.List.{concat}
use Rattle.bridge_lang.specs.declared.asm_rows.AsmRow.{AsmRow}
use Rattle.bridge_lang.specs.AsmRows as texts
use Rattle.wasm_lang.specs.declared.fault.Row.{Row}
use Rattle.wasm_lang_valid.specs.declared.rule.Rule.{Rule}
use Rattle.wasm_lang_valid.specs.declared.section.Section.{Section}
use Rattle.wasm_lang_valid.specs.declared.profile.Beyond.{Beyond}
use Rattle.wasm_lang_valid.specs.Rules.{number}
use Rattle.wasm_lang_valid.specs.Validity.{id}
use Rattle.bridge_lang.specs.WasmRows.{binary_row_name, wat_row_name, beyond_name, link_row_name, side_name}
use Rattle.wasm_link_lang.specs.declared.rows.LinkRow.{LinkRow}
use Rattle.wat_lang.specs.declared.fault.Row.{Row as WatRow}

pub data Reason : Type 0 where
  faulty_words : Reason
  -- the text isn't accepted: why, and the offset
  not_asm : (row : AsmRow) (at : ℕ) → Reason
  -- the bytes aren't of the binary format: why, and the offset
  not_a_binary : (row : Row) (at : ℕ) → Reason
  -- the text says no module of WebAssembly: why, and the offset
  not_wat : (row : WatRow) (at : ℕ) → Reason
  -- the module isn't valid: the rule, the section, the item in it, and the instruction
  not_valid : (rule : Rule) (section : Section) (index instruction : ℕ) → Reason
  -- the module isn't run: why, and the number of an import, or a count
  not_run : (row : Beyond) (value : ℕ) → Reason
  -- the two modules aren't linked: why, whether it is for the second's sake, and the number of a row, a minimum, an export, an import, a sum or a function
  not_linked : (row : LinkRow) (second : Bool) (value : ℕ) → Reason
  -- the script isn't in its grammar or doesn't fit the module: the line
  bad_script : (line : ℕ) → Reason
  read_fault : Reason
  -- the script or the module, and the file's name
  missing : (is_script : Bool) (file : List ℕ) → Reason
  too_large : (is_script : Bool) (file : List ℕ) → Reason
  out_of_memory : Reason

abbrev pub parts_of : Reason → List (List ℕ)
parts_of faulty_words = codes "usage: bridge COMMAND [--heap N] [--steps N] [FILE] [SCRIPT]" ∷ []
parts_of (not_asm row at) = codes "asm.js refused: " ∷ texts.row_name row ∷ codes " at " ∷ decimal at ∷ []
parts_of (not_a_binary row at) = codes "wasm refused: " ∷ binary_row_name row ∷ codes " at " ∷ decimal at ∷ []
parts_of (not_wat row at) = codes "wat refused: " ∷ wat_row_name row ∷ codes " at " ∷ decimal at ∷ []
parts_of (not_valid rule section index instruction) =
    codes "wasm refused: B13 Invalid V" ∷ decimal (number rule) ∷ codes " at section " ∷ decimal (id section)
    ∷ codes " index " ∷ decimal index ∷ codes " instruction " ∷ decimal instruction ∷ []
parts_of (not_run row value) = codes "wasm refused: " ∷ beyond_name row ∷ codes " " ∷ decimal value ∷ []
parts_of (not_linked row second value) = codes "link refused: " ∷ link_row_name row ∷ side_name second ∷ decimal value ∷ []
parts_of (bad_script line) = codes "script refused: line " ∷ decimal line ∷ []
parts_of read_fault = codes "read fault" ∷ []
parts_of (missing is_script file) = codes "missing: " ∷ file ∷ []
parts_of (too_large is_script file) = codes "too large: " ∷ file ∷ []
parts_of out_of_memory = codes "out of memory" ∷ []

-- the parts, and a line feed
abbrev pub line_of : Reason → List ℕ
line_of reason = concat (parts_of reason ++ codes "\n" ∷ [])
