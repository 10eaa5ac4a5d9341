-- The module that marks of the grammar say is shaped, where no row refuses them.
use Rattle.std.proofs.Common.{◌≡◌, ℕ, Bool, true, false, ◌&&◌, not, cond, List, [], ◌∷◌, ◌++◌, Some, None, refl, sym, ◌∙◌, subst}
use Rattle.std.specs.Prelude.{filter, flat_map}
use Rattle.std.specs.List.{AllByRecursion}
use Rattle.std.specs.Str.{IsUtf8, is_utf8}
use Rattle.std.proofs.lemmas.List.{length-map}
use Rattle.std.proofs.lemmas.List.Elements.{All-from_recursion}
use Rattle.std.proofs.lemmas.Str.{IsUtf8-from_is_utf8, IsUtf8-nil}
use Rattle.wasm_lang.specs.Limits.{params_of}
use Rattle.wasm_lang.specs.Modules.{Imported, GlobalEntry, Exported, ElementSegment, DataSegment, FunctionBody, WasmModule}
use Rattle.wasm_lang.specs.Shape.{HasOpcode, IsShapedCode, IsShaped}
use Rattle.wat_lang.specs.declared.parts.Space.{Space}
use Rattle.wat_lang.specs.declared.parts.Space.TheVariants as spaces
use Rattle.wat_lang.specs.declared.fault.Row.TheVariants as rows
use Rattle.wat_lang.specs.Tokens.{Token}
use Rattle.wat_lang.specs.Grammar.{Mark, a_module_name, a_field_name, an_export_name, Marked, IsGrammatical}
use Rattle.wat_lang.specs.Names.{text_of, all_with, first_with, Names, Field, fields_of, enters, is_import, names_of, types_of, local_names, names_at}
use Rattle.wat_lang.specs.Modules.{is_module_name, is_field_name, is_export_name, instructions_in, code_in, string_in, function_type_in, parts_of, own_of, is_export, import_of, global_of, export_of, element_of, segment_of, body_of, module_of}
use Rattle.wat_lang.specs.Rows.{where_holds, number_rows, utf8_rows, is_name, taken_rows, field_rows, order_rows, count_rows, entry_rows, rows_of}
use Rattle.wat_lang.specs.Texts.{SaysModule}
use Rattle.wat_laws_read.proofs.Lists.{empty_parts, not_held, weaker, both, mapped, passing}
use Rattle.wat_laws_read.proofs.Cuts.{parts_hold}
use Rattle.wat_laws_read.proofs.Spelled.{IsNested, FieldHolds, fields_hold}
use Rattle.wat_laws_read.proofs.Opcodes.{HasForm, marks_have_forms, code_has_opcodes}

-- ---- fields

pub parts_all : (P : List Marked → Type 0) (test : Field → Bool) (fs : List Field) → AllByRecursion (λ (f : Field). P f.parts) fs → AllByRecursion P (parts_of test fs)
parts_all P test fs all = mapped P (λ (f : Field). f.parts) (filter test fs) (weaker (λ (f : Field). (test f ≡ true) × P f.parts) (λ (f : Field). P f.parts) (λ f h. h.1) (filter test fs) (passing (λ (f : Field). P f.parts) test fs all))

-- ---- names

abbrev pub IsNamed : Marked → Type 0
IsNamed m = is_name m.mark ≡ true → IsUtf8 (text_of m)

utf8_held : (m : Marked) → where_holds (not (is_utf8 (text_of m))) rows.Utf8 m.token.at ≡ [] → IsUtf8 (text_of m)
utf8_held m e = by (is_utf8 (text_of m)) refl (not_held (not (is_utf8 (text_of m))) rows.Utf8 m.token.at e)
  where
    by : (b : Bool) → is_utf8 (text_of m) ≡ b → not b ≡ false → IsUtf8 (text_of m)
    by true e n = IsUtf8-from_is_utf8 (text_of m) e
    by false e n = absurd cc

names_held : (ms : List Marked) → utf8_rows ms ≡ [] → AllByRecursion IsNamed ms
names_held [] e = tt
names_held (m ∷ ms) e = by (λ h. names_held ms h) (is_name m.mark) refl e
  where
    by : (utf8_rows ms ≡ [] → AllByRecursion IsNamed ms) → (b : Bool) → is_name m.mark ≡ b
        → flat_map (λ (m : Marked). where_holds (not (is_utf8 (text_of m))) rows.Utf8 m.token.at) (cond b (m ∷ all_with is_name ms) (all_with is_name ms)) ≡ [] → AllByRecursion IsNamed (m ∷ ms)
    by below true n e =
        let parts = empty_parts (where_holds (not (is_utf8 (text_of m))) rows.Utf8 m.token.at) (utf8_rows ms) e in
        ((λ is. utf8_held m parts.0), below parts.1)
    by below false n e = ((λ is. absurd cc), below e)

string_is_utf8 : (test : Mark → Bool) → ((k : Mark) → test k ≡ true → is_name k ≡ true) → (ms : List Marked) → AllByRecursion IsNamed ms → IsUtf8 (string_in test ms)
string_is_utf8 test name [] all = IsUtf8-nil
string_is_utf8 test name (m ∷ ms) all = by (string_is_utf8 test name ms all.1) (test m.mark) refl
  where
    by : IsUtf8 (string_in test ms) → (b : Bool) → test m.mark ≡ b → IsUtf8 (elim (cond b (Some m) (first_with test ms)) [ Some m ↦ text_of m | None ↦ [] ])
    by below true e = all.0 (name m.mark e)
    by below false e = below

module_names : (k : Mark) → is_module_name k ≡ true → is_name k ≡ true
module_names a_module_name e = refl
module_names _ e = absurd cc

field_names : (k : Mark) → is_field_name k ≡ true → is_name k ≡ true
field_names a_field_name e = refl
field_names _ e = absurd cc

export_names : (k : Mark) → is_export_name k ≡ true → is_name k ≡ true
export_names an_export_name e = refl
export_names _ e = absurd cc

-- ---- code

abbrev pub IsCoded : List Marked → Type 0
IsCoded parts = IsNested parts × AllByRecursion (λ (m : Marked). HasForm m.mark) parts

code_is_shaped : (names : Space → Names) (locals : Names) (parts : List Marked) → IsCoded parts → IsShapedCode (code_in names locals parts)
code_is_shaped names locals parts h = record {
  expression = (instructions_in (names_at names locals) [] parts, refl, h.0 (names_at names locals) []);
  opcodes = All-from_recursion HasOpcode (code_in names locals parts) (code_has_opcodes (names_at names locals) [] parts h.1);
}

fields_are_coded : (ms : List Marked) (ts : List Token) → IsGrammatical ms ts → AllByRecursion (λ (f : Field). IsCoded f.parts) (fields_of ms)
fields_are_coded ms ts d =
    both (λ (f : Field). IsNested f.parts) (λ (f : Field). AllByRecursion (λ (m : Marked). HasForm m.mark) f.parts) (fields_of ms)
    (weaker FieldHolds (λ (f : Field). IsNested f.parts) (λ f h. h.nested) (fields_of ms) (fields_hold ms ts d))
    (parts_hold (λ (m : Marked). HasForm m.mark) ms (marks_have_forms ms ts d)).1

-- ---- modules

pub shaped_marks : (ms : List Marked) (ts : List Token) → IsGrammatical ms ts → rows_of ms ≡ [] → IsShaped (module_of ms)
shaped_marks ms ts d none =
    let fs = fields_of ms in
    let names = names_of fs in
    let m = module_of ms in
    let later = (empty_parts (number_rows ms) (utf8_rows ms ++ (taken_rows fs ms ++ (flat_map (field_rows (names_of fs) (types_of fs)) fs ++ (order_rows false false fs ++ (count_rows fs ++ entry_rows ms))))) none).1 in
    let utf8 = (empty_parts (utf8_rows ms) (taken_rows fs ms ++ (flat_map (field_rows (names_of fs) (types_of fs)) fs ++ (order_rows false false fs ++ (count_rows fs ++ entry_rows ms)))) later).0 in
    let named : AllByRecursion (λ (f : Field). AllByRecursion IsNamed f.parts) fs = (parts_hold IsNamed ms (names_held ms utf8)).1 in
    let imports = parts_all (λ ps. AllByRecursion IsNamed ps) (λ f. is_import f.kind) fs named in
    let exports = parts_all (λ ps. AllByRecursion IsNamed ps) (λ f. is_export f.kind) fs named in
    let coded = fields_are_coded ms ts d in
    let imported = parts_of (λ f. is_import f.kind) fs in
    let exported = parts_of (λ f. is_export f.kind) fs in
    let own : (s : Space) → AllByRecursion IsCoded (own_of fs s) = λ s. parts_all IsCoded (λ f. enters s f && not (is_import f.kind)) fs coded in
    record {
      module_names = All-from_recursion (λ (i : Imported). IsUtf8 i.module_name) m.imports
          (mapped (λ (i : Imported). IsUtf8 i.module_name) (import_of names) imported (weaker (λ ps. AllByRecursion IsNamed ps) (λ ps. IsUtf8 (string_in is_module_name ps)) (string_is_utf8 is_module_name module_names) imported imports));
      import_names = All-from_recursion (λ (i : Imported). IsUtf8 i.name) m.imports
          (mapped (λ (i : Imported). IsUtf8 i.name) (import_of names) imported (weaker (λ ps. AllByRecursion IsNamed ps) (λ ps. IsUtf8 (string_in is_field_name ps)) (string_is_utf8 is_field_name field_names) imported imports));
      export_names = All-from_recursion (λ (e : Exported). IsUtf8 e.name) m.exports
          (mapped (λ (e : Exported). IsUtf8 e.name) (export_of names) exported (weaker (λ ps. AllByRecursion IsNamed ps) (λ ps. IsUtf8 (string_in is_export_name ps)) (string_is_utf8 is_export_name export_names) exported exports));
      bodies = All-from_recursion (λ (b : FunctionBody). IsShapedCode b.code) m.bodies
          (mapped (λ (b : FunctionBody). IsShapedCode b.code) (body_of names (types_of fs)) (own_of fs spaces.Func)
          (weaker IsCoded (λ ps. IsShapedCode (code_in names (local_names (params_of (types_of fs) (function_type_in names ps)) ps) ps)) (λ ps h. code_is_shaped names (local_names (params_of (types_of fs) (function_type_in names ps)) ps) ps h) (own_of fs spaces.Func) (own spaces.Func)));
      globals = All-from_recursion (λ (g : GlobalEntry). IsShapedCode g.init) m.globals
          (mapped (λ (g : GlobalEntry). IsShapedCode g.init) (global_of names) (own_of fs spaces.Global) (weaker IsCoded (λ ps. IsShapedCode (code_in names [] ps)) (code_is_shaped names []) (own_of fs spaces.Global) (own spaces.Global)));
      elements = All-from_recursion (λ (e : ElementSegment). IsShapedCode e.offset) m.elements
          (mapped (λ (e : ElementSegment). IsShapedCode e.offset) (element_of names) (own_of fs spaces.Elem) (weaker IsCoded (λ ps. IsShapedCode (code_in names [] ps)) (code_is_shaped names []) (own_of fs spaces.Elem) (own spaces.Elem)));
      segments = All-from_recursion (λ (s : DataSegment). IsShapedCode s.offset) m.segments
          (mapped (λ (s : DataSegment). IsShapedCode s.offset) (segment_of names) (own_of fs spaces.Data) (weaker IsCoded (λ ps. IsShapedCode (code_in names [] ps)) (code_is_shaped names []) (own_of fs spaces.Data) (own spaces.Data)));
      bodies_match = length-map (own_of fs spaces.Func) (function_type_in names) ∙ sym (length-map (own_of fs spaces.Func) (body_of names (types_of fs)));
    }

pub said_is_shaped : (text : List ℕ) (m : WasmModule) → SaysModule text m → IsShaped m
said_is_shaped text m h = subst IsShaped h.is_this (shaped_marks h.marks h.is_marked.tokens h.is_marked.is_grammatical h.is_accepted)
