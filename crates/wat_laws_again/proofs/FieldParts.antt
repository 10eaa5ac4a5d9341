-- The signs of each field behind its keyword, in front of what follows the field.
use Rattle.std.proofs.Common.{ℕ, List, ◌∷◌, codes}
use Rattle.wasm_lang.specs.declared.types.ValType.{ValType}
use Rattle.wasm_lang.specs.declared.types.Limits.{Limits}
use Rattle.wasm_lang.specs.declared.types.GlobalType.{GlobalType}
use Rattle.wasm_lang.specs.declared.types.ImportKind.{ImportKind}
use Rattle.wasm_lang.specs.declared.types.ImportKind.TheVariants as imports
use Rattle.wasm_lang.specs.declared.types.ExportKind.{ExportKind}
use Rattle.wasm_lang.specs.declared.types.ExportKind.TheVariants as exports
use Rattle.wasm_lang.specs.Instructions.{Instruction}
use Rattle.wasm_lang.specs.Modules.{FunctionType}
use Rattle.wat_lang.specs.declared.parts.Space.TheVariants as spaces
use Rattle.wat_lang.specs.declared.parts.Part.TheVariants.{Param, Result, Local}
use Rattle.wat_lang.specs.Tokens.{string}
use Rattle.wat_lang.specs.Grammar.{a_type_use, a_module_name, a_field_name, an_export_name, uses, some_bytes}
use Rattle.wat_laws_again.specs.Signs.{Sign, open_sign, close_sign, word_sign, number_sign, put_group, put_use, put_limits, put_mutable, put_numbers, put_instruction, put_code, put_described, put_exported}
use Rattle.wat_laws_again.specs.Fitting.{IsValue}
use Rattle.wat_laws_again.proofs.Over.{Over, same, more, over_more, weaken, IsPart, IsStill}
use Rattle.wat_laws_again.proofs.Says.{group_over, limits_over, mutable_over, numbers_part_over, constant_over, IsOfCode, body_over, part_of_code}

abbrev pub type_parts : FunctionType → List Sign → List Sign
type_parts t k = open_sign ∷ word_sign (codes "func") ∷ put_group Param (codes "param") t.params (put_group Result (codes "result") t.results (close_sign ∷ close_sign ∷ k))

pub type_over : (t : FunctionType) (k : List Sign) → Over IsStill k (type_parts t k)
type_over t k =
    let ends = close_sign ∷ close_sign ∷ k in
    more tt (more tt (over_more IsStill (over_more IsStill (more tt (more tt same)) (group_over IsStill Result (codes "result") t.results ends tt tt)) (group_over IsStill Param (codes "param") t.params (put_group Result (codes "result") t.results ends) tt tt)))

abbrev pub import_parts : (first second : List ℕ) → ImportKind → List Sign → List Sign
import_parts first second kind k = (a_module_name, string first) ∷ (a_field_name, string second) ∷ put_described kind (close_sign ∷ k)

pub import_over : (first second : List ℕ) (kind : ImportKind) (k : List Sign) → Over IsStill k (import_parts first second kind k)
import_over first second (imports.Func t) k = more tt (more tt (more tt (more tt (more tt (more tt (more tt (more tt (more tt (more tt same)))))))))
import_over first second (imports.Table l) k = more tt (more tt (more tt (more tt (over_more IsStill (more tt (more tt (more tt same))) (limits_over IsStill spaces.Table l (word_sign (codes "funcref") ∷ close_sign ∷ close_sign ∷ k) tt tt)))))
import_over first second (imports.Memory l) k = more tt (more tt (more tt (more tt (over_more IsStill (more tt (more tt same)) (limits_over IsStill spaces.Memory l (close_sign ∷ close_sign ∷ k) tt tt)))))
import_over first second (imports.Global g) k = more tt (more tt (more tt (more tt (over_more IsStill (more tt (more tt same)) (mutable_over IsStill g.mutable g.kind (close_sign ∷ close_sign ∷ k) tt tt tt)))))

abbrev pub function_parts : (type : ℕ) (locals : List ValType) (inner : List Instruction) → List Sign → List Sign
function_parts t locals inner k = put_use a_type_use t (put_group Local (codes "local") locals (put_code inner (close_sign ∷ k)))

pub function_over : (t : ℕ) (locals : List ValType) (inner : List Instruction) (k : List Sign) → Over IsPart k (function_parts t locals inner k)
function_over t locals inner k =
    more tt (more tt (more tt (more tt (over_more IsPart (over_more IsPart (more tt same) (weaken IsOfCode IsPart part_of_code (body_over inner (close_sign ∷ k)))) (group_over IsPart Local (codes "local") locals (put_code inner (close_sign ∷ k)) tt tt)))))

abbrev pub table_parts : Limits → List Sign → List Sign
table_parts l k = put_limits spaces.Table l (word_sign (codes "funcref") ∷ close_sign ∷ k)

pub table_over : (l : Limits) (k : List Sign) → Over IsStill k (table_parts l k)
table_over l k = over_more IsStill (more tt (more tt same)) (limits_over IsStill spaces.Table l (word_sign (codes "funcref") ∷ close_sign ∷ k) tt tt)

abbrev pub memory_parts : Limits → List Sign → List Sign
memory_parts l k = put_limits spaces.Memory l (close_sign ∷ k)

pub memory_over : (l : Limits) (k : List Sign) → Over IsStill k (memory_parts l k)
memory_over l k = over_more IsStill (more tt same) (limits_over IsStill spaces.Memory l (close_sign ∷ k) tt tt)

-- one constant in parentheses
abbrev pub constant_signs : Instruction → List Sign → List Sign
constant_signs i k = open_sign ∷ put_instruction i (close_sign ∷ k)

pub constant_part_over : (i : Instruction) (k : List Sign) → IsValue i → Over IsPart k (constant_signs i k)
constant_part_over i k v = constant_over IsPart tt (λ f. tt) tt tt tt i v k

abbrev pub global_parts : GlobalType → Instruction → List Sign → List Sign
global_parts g i k = put_mutable g.mutable g.kind (constant_signs i (close_sign ∷ k))

pub global_over : (g : GlobalType) (i : Instruction) (k : List Sign) → IsValue i → Over IsPart k (global_parts g i k)
global_over g i k v = over_more IsPart (over_more IsPart (more tt same) (constant_part_over i (close_sign ∷ k) v)) (mutable_over IsPart g.mutable g.kind (constant_signs i (close_sign ∷ k)) tt tt tt)

abbrev pub export_parts : List ℕ → ExportKind → List Sign → List Sign
export_parts name kind k = (an_export_name, string name) ∷ put_exported kind (close_sign ∷ k)

pub export_over : (name : List ℕ) (kind : ExportKind) (k : List Sign) → Over IsStill k (export_parts name kind k)
export_over name (exports.Func n) k = more tt (more tt (more tt (more tt (more tt (more tt same)))))
export_over name (exports.Table n) k = more tt (more tt (more tt (more tt (more tt (more tt same)))))
export_over name (exports.Memory n) k = more tt (more tt (more tt (more tt (more tt (more tt same)))))
export_over name (exports.Global n) k = more tt (more tt (more tt (more tt (more tt (more tt same)))))

abbrev pub start_parts : ℕ → List Sign → List Sign
start_parts f k = number_sign (uses spaces.Func) f ∷ close_sign ∷ k

pub start_over : (f : ℕ) (k : List Sign) → Over IsStill k (start_parts f k)
start_over f k = more tt (more tt same)

abbrev pub element_parts : Instruction → List ℕ → List Sign → List Sign
element_parts i fs k = constant_signs i (word_sign (codes "func") ∷ put_numbers spaces.Func fs (close_sign ∷ k))

pub element_over : (i : Instruction) (fs : List ℕ) (k : List Sign) → IsValue i → Over IsPart k (element_parts i fs k)
element_over i fs k v =
    over_more IsPart (over_more IsPart (more tt same) (more tt (numbers_part_over IsPart spaces.Func fs (close_sign ∷ k) tt))) (constant_part_over i (word_sign (codes "func") ∷ put_numbers spaces.Func fs (close_sign ∷ k)) v)

abbrev pub segment_parts : Instruction → List ℕ → List Sign → List Sign
segment_parts i bytes k = constant_signs i ((some_bytes, string bytes) ∷ close_sign ∷ k)

pub segment_over : (i : Instruction) (bytes : List ℕ) (k : List Sign) → IsValue i → Over IsPart k (segment_parts i bytes k)
segment_over i bytes k v = over_more IsPart (more tt (more tt same)) (constant_part_over i ((some_bytes, string bytes) ∷ close_sign ∷ k) v)
