-- The lists of a module and of its code, item by item.
use Rattle.std.proofs.Common.{◌≡◌, ◌∙◌, ◌<◌, ◌≤◌, ℕ, zero, suc, ◌+◌, ◌-◌, min, List, [], ◌∷◌, ◌++◌, map, length, take, drop, get_or, refl, sym, ap, arith, drop-cons}
use Rattle.std.proofs.lemmas.List.{take-map, length-map}
use Rattle.std.specs.List.{flat_map}
use Rattle.wasm_lang.specs.Instructions.{Instruction}
use Rattle.wasm_tree.specs.declared.instr.Instr.{Instr}
use Rattle.wasm_tree.specs.declared.module.FuncType.{FuncType}
use Rattle.wasm_tree.specs.declared.module.Import.{Import}
use Rattle.wasm_tree.specs.declared.module.GlobalDef.{GlobalDef}
use Rattle.wasm_tree.specs.declared.module.WasmExport.{WasmExport}
use Rattle.wasm_tree.specs.declared.module.Element.{Element}
use Rattle.wasm_tree.specs.declared.module.Segment.{Segment}
use Rattle.wasm_tree.specs.declared.module.Body.{Body}
use Rattle.wasm_tree.specs.Views.{instr_of, type_of, import_of, global_of, export_of, element_of, segment_of, body_of}
use Rattle.wat_lang.specs.Tokens.{opens, closes}
use Rattle.wat_lang.specs.Printing.{Piece, token, line_end, instruction_pieces, instruction_line, folded_instruction, without_end, code_pieces, constant_pieces, type_field, import_field, global_field, export_field, element_field, segment_field, function_field, function_fields}
use Rattle.wat_print.specs.Put.{Written, put_piece, put}
use Rattle.wat_print.proofs.Puts.{put_append, next_of}

-- ---- code

pub next_line : (w : Written) (xs : List Instr) (i : ℕ) (x : Instr) → i < length xs → x ≡ get_or xs i x
    → put_piece (put (put w (flat_map instruction_line (map instr_of (take i xs)))) (instruction_pieces (instr_of x))) line_end ≡ put w (flat_map instruction_line (map instr_of (take (i + 1) xs)))
next_line w xs i x lt is =
    sym (put_append (put w (flat_map instruction_line (map instr_of (take i xs)))) (instruction_pieces (instr_of x)) (line_end ∷ []))
    ∙ next_of instr_of instruction_line w xs i x lt is

pub next_folded : (w : Written) (xs : List Instr) (i : ℕ) (x : Instr) → i < length xs → x ≡ get_or xs i x
    → put_piece (put (put_piece (put w (flat_map folded_instruction (map instr_of (take i xs)))) (token opens)) (instruction_pieces (instr_of x))) (token closes)
    ≡ put w (flat_map folded_instruction (map instr_of (take (i + 1) xs)))
next_folded w xs i x lt is =
    sym (put_append (put_piece (put w (flat_map folded_instruction (map instr_of (take i xs)))) (token opens)) (instruction_pieces (instr_of x)) (token closes ∷ []))
    ∙ next_of instr_of folded_instruction w xs i x lt is

pub viewed_without_end : (code : List Instr) → map instr_of (take (length code - 1) code) ≡ without_end (map instr_of code)
viewed_without_end code =
    sym (take-map instr_of (length code - 1) code) ∙ ap (λ n. take (n - 1) (map instr_of code)) (sym (length-map code instr_of))

-- ---- fields

pub next_type : (w : Written) (xs : List FuncType) (i : ℕ) (x : FuncType) → i < length xs → x ≡ get_or xs i x
    → put (put w (flat_map type_field (map type_of (take i xs)))) (type_field (type_of x)) ≡ put w (flat_map type_field (map type_of (take (i + 1) xs)))
next_type = next_of type_of type_field

pub next_import : (w : Written) (xs : List Import) (i : ℕ) (x : Import) → i < length xs → x ≡ get_or xs i x
    → put (put w (flat_map import_field (map import_of (take i xs)))) (import_field (import_of x)) ≡ put w (flat_map import_field (map import_of (take (i + 1) xs)))
next_import = next_of import_of import_field

pub next_global : (w : Written) (xs : List GlobalDef) (i : ℕ) (x : GlobalDef) → i < length xs → x ≡ get_or xs i x
    → put (put w (flat_map global_field (map global_of (take i xs)))) (global_field (global_of x)) ≡ put w (flat_map global_field (map global_of (take (i + 1) xs)))
next_global = next_of global_of global_field

pub next_export : (w : Written) (xs : List WasmExport) (i : ℕ) (x : WasmExport) → i < length xs → x ≡ get_or xs i x
    → put (put w (flat_map export_field (map export_of (take i xs)))) (export_field (export_of x)) ≡ put w (flat_map export_field (map export_of (take (i + 1) xs)))
next_export = next_of export_of export_field

pub next_element : (w : Written) (xs : List Element) (i : ℕ) (x : Element) → i < length xs → x ≡ get_or xs i x
    → put (put w (flat_map element_field (map element_of (take i xs)))) (element_field (element_of x)) ≡ put w (flat_map element_field (map element_of (take (i + 1) xs)))
next_element = next_of element_of element_field

pub next_segment : (w : Written) (xs : List Segment) (i : ℕ) (x : Segment) → i < length xs → x ≡ get_or xs i x
    → put (put w (flat_map segment_field (map segment_of (take i xs)))) (segment_field (segment_of x)) ≡ put w (flat_map segment_field (map segment_of (take (i + 1) xs)))
next_segment = next_of segment_of segment_field

pub ruleset lists = (next_line, next_folded, next_type, next_import, next_global, next_export, next_element, next_segment)

-- ---- functions

from_here : {X : Type 0} (xs : List X) (i : ℕ) (x : X) → i < length xs → x ≡ get_or xs i x → drop i xs ≡ x ∷ drop (i + 1) xs
from_here xs i x lt is =
    let next : suc i ≡ i + 1 = omega arith in
    drop-cons xs i x lt ∙ (ap (λ y. y ∷ drop (suc i) xs) (sym is) ∙ ap (λ j. x ∷ drop j xs) next)

from_here_number : (ts : List ℕ) (i : ℕ) → i < length ts → drop i ts ≡ get_or ts i 0 ∷ drop (i + 1) ts
from_here_number ts i lt =
    let next : suc i ≡ i + 1 = omega arith in
    drop-cons ts i 0 lt ∙ ap (λ j. get_or ts i 0 ∷ drop j ts) next

pub next_function : (w all : Written) (ts : List ℕ) (bs : List Body) (i : ℕ) (b : Body) → i < length ts → i < length bs → b ≡ get_or bs i b
    → put w (function_fields (drop i ts) (map body_of (drop i bs))) ≡ all
    → put (put w (function_field (get_or ts i 0) (body_of b))) (function_fields (drop (i + 1) ts) (map body_of (drop (i + 1) bs))) ≡ all
next_function w all ts bs i b lt within e so =
    sym (put_append w (function_field (get_or ts i 0) (body_of b)) (function_fields (drop (i + 1) ts) (map body_of (drop (i + 1) bs))))
    ∙ (ap (λ xs. put w (function_fields (get_or ts i 0 ∷ drop (i + 1) ts) (map body_of xs))) (sym (from_here bs i b within e))
    ∙ (ap (λ xs. put w (function_fields xs (map body_of (drop i bs)))) (sym (from_here_number ts i lt)) ∙ so))

pub no_functions_left : (ts : List ℕ) (bs : List Body) (i : ℕ) → min (length ts) (length bs) ≤ i → function_fields (drop i ts) (map body_of (drop i bs)) ≡ []
no_functions_left [] bs zero le = refl
no_functions_left [] bs (suc i) le = refl
no_functions_left (t ∷ ts) [] zero le = refl
no_functions_left (t ∷ ts) [] (suc i) le = none (drop i ts)
  where
    none : (xs : List ℕ) → function_fields xs [] ≡ []
    none [] = refl
    none (x ∷ xs) = refl
no_functions_left (t ∷ ts) (b ∷ bs) zero le = absurd (omega arith)
no_functions_left (t ∷ ts) (b ∷ bs) (suc i) le = no_functions_left ts bs i (omega arith)

pub all_done : (w all : Written) (ts : List ℕ) (bs : List Body) (i : ℕ) → min (length ts) (length bs) ≤ i
    → put w (function_fields (drop i ts) (map body_of (drop i bs))) ≡ all → w ≡ all
all_done w all ts bs i past so = ap (λ ps. put w ps) (sym (no_functions_left ts bs i past)) ∙ so

pub ruleset functions = (next_function, all_done)
