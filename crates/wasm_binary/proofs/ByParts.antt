-- A module is read by the heads of its sections.
use Rattle.std.proofs.Common.{◌≡◌, ℕ, List, [], ◌∷◌, length, sym, subst, ap, ◌∙◌}
use Rattle.std.specs.Prelude.{◌==◌, Ok, Err, Some, None}
use Rattle.wasm_lang.specs.declared.fault.Row.TheVariants.{Magic, Version, Counts}
use Rattle.wasm_lang.specs.Modules.{WasmModule}
use Rattle.wasm_lang.specs.Reading.{Input, ◌>>=◌, expects, onto, vec_field, u32}
use Rattle.wasm_lang.specs.ReadingModule.{header_field, types_content, imports_content, functions_content, table_field, memory_field, globals_content, export_field, element_field, bodies_content, segments_content, counts, customs_field, end_field, read_module}
use Rattle.wasm_tree.specs.declared.error.ReadError.{ReadError}
use Rattle.wasm_tree.specs.declared.error.ReadError.TheVariants.{Refused, Memory}
use Rattle.wasm_binary.specs.declared.fault.BinFault.{BinFault}
use Rattle.wasm_binary.specs.Answers.{FaultIs, IsModule, IsAnswer}
use Rattle.wasm_binary.specs.Whole.{sections_from, read_by_parts}
use Rattle.wasm_binary.proofs.SectionHeads.{part_is}

pub by_parts : (bytes : List ℕ) → read_module bytes ≡ read_by_parts bytes
unfolding read_module
by_parts bytes = λ d.
    header_field Magic (0x00 ∷ 0x61 ∷ 0x73 ∷ 0x6d ∷ []) (record { at = 0; bytes = bytes }) >>= λ i.
    header_field Version (0x01 ∷ 0x00 ∷ 0x00 ∷ 0x00 ∷ []) i >>= λ i.
    part_is 1 [] types_content i d >>= λ types.
    part_is 2 [] imports_content types.1 d >>= λ is.
    part_is 3 [] (functions_content is.0) is.1 d >>= λ functions.
    part_is 4 [] (vec_field table_field) functions.1 d >>= λ tables.
    part_is 5 [] (vec_field memory_field) tables.1 d >>= λ memories.
    part_is 6 [] (globals_content is.0) memories.1 d >>= λ globals.
    part_is 7 [] (vec_field export_field) globals.1 d >>= λ es.
    part_is 8 None (λ i. onto Some (u32 i)) es.1 d >>= λ start.
    part_is 9 [] (vec_field element_field) start.1 d >>= λ elements.
    part_is 12 None (λ i. onto Some (u32 i)) elements.1 d >>= λ count.
    part_is 10 [] (bodies_content types.0 functions.0) count.1 d >>= λ bodies.
    part_is 11 [] (segments_content count.0) bodies.1 d >>= λ segments.
    customs_field segments.1 >>= λ i.
    end_field i >>= λ at.
    expects (length bodies.0 == length functions.0) Counts at >>= λ _.
    expects (counts count.0 (length segments.0)) Counts at >>= λ _.
    Ok (record {
      types = types.0;
      imports = is.0;
      functions = functions.0;
      tables = tables.0;
      memories = memories.0;
      globals = globals.0;
      exports = es.0;
      start = start.0;
      elements = elements.0;
      bodies = bodies.0;
      segments = segments.0;
    })

-- the fault that is told
pub told_is : (error : ReadError) (told : BinFault) (bytes : List ℕ) → FaultIs error told → IsModule (Err error) (read_by_parts bytes) → IsAnswer (Err told) (read_module bytes)
told_is (Refused fault) told bytes is e =
    let P : BinFault → Type 0 = λ t. IsAnswer (Err t) (read_module bytes) in
    subst P (sym is) (by_parts bytes ∙ e)
told_is Memory told bytes is e =
    let P : BinFault → Type 0 = λ t. IsAnswer (Err t) (read_module bytes) in
    subst P (sym is) tt

pub parts_ok : (bytes : List ℕ) (i j : Input) (m : WasmModule) → header_field Magic (0x00 ∷ 0x61 ∷ 0x73 ∷ 0x6d ∷ []) (record { at = 0; bytes = bytes }) ≡ Ok i
    → header_field Version (0x01 ∷ 0x00 ∷ 0x00 ∷ 0x00 ∷ []) i ≡ Ok j → sections_from j ≡ Ok m → read_by_parts bytes ≡ Ok m
parts_ok bytes i j m e f g =
    ap (λ r. r >>= λ i. header_field Version (0x01 ∷ 0x00 ∷ 0x00 ∷ 0x00 ∷ []) i >>= λ j. sections_from j) e ∙ ap (λ r. r >>= λ j. sections_from j) f ∙ g
