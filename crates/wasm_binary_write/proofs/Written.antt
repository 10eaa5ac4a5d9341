-- A module's sections, one after another.
use Rattle.std.proofs.Common.{◌≡◌, ℕ, List, [], ◌++◌, map, refl, ap, ◌∙◌, append_assoc}
use Rattle.std.specs.Prelude.{Result, Ok, Err, OnOk}
use Rattle.sem_words.specs.Lists.{list_items}
use Rattle.wasm_lang.specs.declared.types.Limits.{Limits}
use Rattle.wasm_lang.specs.Grammar.{header}
use Rattle.wasm_tree.specs.declared.module.FuncType.{FuncType}
use Rattle.wasm_tree.specs.declared.module.Import.{Import}
use Rattle.wasm_tree.specs.declared.module.GlobalDef.{GlobalDef}
use Rattle.wasm_tree.specs.declared.module.WasmExport.{WasmExport}
use Rattle.wasm_tree.specs.declared.module.Element.{Element}
use Rattle.wasm_tree.specs.declared.module.Segment.{Segment}
use Rattle.wasm_tree.specs.declared.module.Body.{Body}
use Rattle.wasm_tree.specs.declared.module.Module.{Module}
use Rattle.wasm_tree.specs.Views.{type_of, import_of, global_of, export_of, element_of, body_of, segment_of, module_of}
use Rattle.wasm_binary_write.specs.Spelling.{spelling, section, start_section, function_type, imported, unsigned, table, limits, global, exported, element, sized, body, segment}
use Rattle.wasm_binary_write.specs.Parts.{before_imports, after_imports}
use Rattle.wasm_binary_write.proofs.Spelled.{section_viewed, through, part, begun}

pub begun_written : (m : Module) (o0 o1 : List ℕ) (l1 : List FuncType) → o0 ≡ header → o1 ≡ o0 ++ section 1 (λ x. function_type (type_of x)) l1 → l1 ≡ list_items m.types
    → o1 ≡ before_imports (module_of m)
begun_written m o0 o1 l1 e0 e1 v1 =
    through o1 o0 (section 1 (λ x. function_type (type_of x)) l1) (section 1 function_type (map type_of (list_items m.types))) e1 (section_viewed 1 function_type type_of l1 (list_items m.types) v1)
    ∙ begun o0 header (section 1 function_type (map type_of (list_items m.types))) e0

pub rest_written : (m : Module) (o2 o3 o4 o5 o6 o7 o8 o9 o10 o11 : List ℕ)
    (l3 : List ℕ)
    (l4 : List Limits)
    (l5 : List Limits)
    (l6 : List GlobalDef)
    (l7 : List WasmExport)
    (l9 : List Element)
    (l10 : List Body)
    (l11 : List Segment)
    → o3 ≡ o2 ++ section 3 (λ n. unsigned n) l3
    → o4 ≡ o3 ++ section 4 table l4
    → o5 ≡ o4 ++ section 5 (λ l. limits l) l5
    → o6 ≡ o5 ++ section 6 (λ x. global (global_of x)) l6
    → o7 ≡ o6 ++ section 7 (λ x. exported (export_of x)) l7
    → o8 ≡ o7 ++ start_section m.start
    → o9 ≡ o8 ++ section 9 (λ x. element (element_of x)) l9
    → o10 ≡ o9 ++ section 10 (λ b. sized (body (body_of b))) l10
    → o11 ≡ o10 ++ section 11 (λ x. segment (segment_of x)) l11
    → l3 ≡ list_items m.functions
    → l4 ≡ list_items m.tables
    → l5 ≡ list_items m.memories
    → l6 ≡ list_items m.globals
    → l7 ≡ list_items m.exports
    → l9 ≡ list_items m.elements
    → l10 ≡ list_items m.bodies
    → l11 ≡ list_items m.segments
    → o11 ≡ o2 ++ after_imports (module_of m)
rest_written m o2 o3 o4 o5 o6 o7 o8 o9 o10 o11 l3 l4 l5 l6 l7 l9 l10 l11 e3 e4 e5 e6 e7 e8 e9 e10 e11 v3 v4 v5 v6 v7 v9 v10 v11 =
    let t3 = section 3 unsigned (list_items m.functions) in
    let t4 = section 4 table (list_items m.tables) in
    let t5 = section 5 limits (list_items m.memories) in
    let t6 = section 6 global (map global_of (list_items m.globals)) in
    let t7 = section 7 exported (map export_of (list_items m.exports)) in
    let t8 = start_section m.start in
    let t9 = section 9 element (map element_of (list_items m.elements)) in
    let t10 = section 10 (λ b. sized (body b)) (map body_of (list_items m.bodies)) in
    let t11 = section 11 segment (map segment_of (list_items m.segments)) in
    through o11 o10 (section 11 (λ x. segment (segment_of x)) l11) t11 e11 (section_viewed 11 segment segment_of l11 (list_items m.segments) v11)
    ∙ part o9 o10 (section 10 (λ b. sized (body (body_of b))) l10) t10 (t11) e10 (section_viewed 10 (λ b. sized (body b)) body_of l10 (list_items m.bodies) v10)
    ∙ part o8 o9 (section 9 (λ x. element (element_of x)) l9) t9 (t10 ++ (t11)) e9 (section_viewed 9 element element_of l9 (list_items m.elements) v9)
    ∙ part o7 o8 (start_section m.start) t8 (t9 ++ (t10 ++ (t11))) e8 refl
    ∙ part o6 o7 (section 7 (λ x. exported (export_of x)) l7) t7 (t8 ++ (t9 ++ (t10 ++ (t11)))) e7 (section_viewed 7 exported export_of l7 (list_items m.exports) v7)
    ∙ part o5 o6 (section 6 (λ x. global (global_of x)) l6) t6 (t7 ++ (t8 ++ (t9 ++ (t10 ++ (t11))))) e6 (section_viewed 6 global global_of l6 (list_items m.globals) v6)
    ∙ part o4 o5 (section 5 (λ l. limits l) l5) t5 (t6 ++ (t7 ++ (t8 ++ (t9 ++ (t10 ++ (t11)))))) e5 (ap (section 5 limits) v5)
    ∙ part o3 o4 (section 4 table l4) t4 (t5 ++ (t6 ++ (t7 ++ (t8 ++ (t9 ++ (t10 ++ (t11))))))) e4 (ap (section 4 table) v4)
    ∙ part o2 o3 (section 3 (λ n. unsigned n) l3) t3 (t4 ++ (t5 ++ (t6 ++ (t7 ++ (t8 ++ (t9 ++ (t10 ++ (t11)))))))) e3 (ap (section 3 unsigned) v3)

joined : (m : Module) (before imports : List ℕ) → before ≡ before_imports (module_of m) → imports ≡ section 2 imported (map import_of (list_items m.imports))
    → (before ++ imports) ++ after_imports (module_of m) ≡ spelling (module_of m)
unfolding spelling
joined m before imports e i =
    let t1 = section 1 function_type (map type_of (list_items m.types)) in
    let t2 = section 2 imported (map import_of (list_items m.imports)) in
    let after = after_imports (module_of m) in
    ap (λ b. (b ++ imports) ++ after) e ∙ ap (λ b. ((header ++ t1) ++ b) ++ after) i
    ∙ append_assoc (header ++ t1) t2 after ∙ append_assoc header t1 (t2 ++ after)

pub written : (m : Module) (before between whole : List ℕ) (l2 : List Import)
    → before ≡ before_imports (module_of m)
    → between ≡ before ++ section 2 (λ x. imported (import_of x)) l2
    → whole ≡ between ++ after_imports (module_of m)
    → l2 ≡ list_items m.imports
    → whole ≡ spelling (module_of m)
written m before between whole l2 e1 e2 e3 v2 =
    let after = after_imports (module_of m) in
    e3 ∙ ap (λ b. b ++ after) e2 ∙ joined m before (section 2 (λ x. imported (import_of x)) l2) e1 (section_viewed 2 imported import_of l2 (list_items m.imports) v2)

pub shared_written : (m : Module) (before imports shared rest whole : List ℕ) (l2 : List Import)
    → before ≡ before_imports (module_of m)
    → imports ≡ section 2 imported (map import_of l2)
    → shared ≡ before ++ imports
    → rest ≡ [] ++ after_imports (module_of m)
    → whole ≡ shared ++ rest
    → l2 ≡ list_items m.imports
    → whole ≡ spelling (module_of m)
shared_written m before imports shared rest whole l2 e1 e2 e3 e4 e5 v2 =
    e5 ∙ ap (λ b. shared ++ b) e4 ∙ ap (λ b. b ++ after_imports (module_of m)) e3
    ∙ joined m before imports e1 (e2 ∙ ap (λ l. section 2 imported (map import_of l)) v2)

pub if_ok : {T E P Q : Type 0} (r : Result T E) → (P → Q) → OnOk r P → OnOk r Q
if_ok (Ok value) leads holds = leads holds
if_ok (Err fault) leads holds = holds
