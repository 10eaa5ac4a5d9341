-- The text of a module that is printed in its parts.
use Rattle.std.proofs.Common.{◌≡◌, ℕ, List, [], ◌∷◌, ◌++◌, Option, Some, refl, sym, ap, ◌∙◌}
use Rattle.std.specs.Prelude.{codes}
use Rattle.std.proofs.lemmas.List.{append_assoc}
use Rattle.asm_lang.specs.Modules.{Variable, Function, Table, Exports, many, Module}
use Rattle.asm_lang.specs.Printing.{functions_text, canonical_text}
use Rattle.asm_grammar_print.specs.Put.{Written, at_start, put, front_text, back_text}
use Rattle.asm_grammar_print.proofs.ModulePuts.{functions_put, text_in_parts}
use Rattle.wasm_lang.specs.Modules.{WasmModule}
use Rattle.wasm_lang_exec.specs.Reductions.{callees}
use Rattle.wasm2js_translation.specs.Modules.{helpers, functions_from, init_function, high_function, functions_of, stdlib_name, foreign_name, heap_name, variables_of, exports_of, translated}
use Rattle.wasm2js_translation.specs.Tables.{stubs, tables_for}
use Rattle.wasm2js.specs.Parts.{last_functions, without_functions}

three : (w a b c : Written) (fs gs hs : List Function) → a ≡ put w (functions_text fs) → b ≡ put a (functions_text gs) → c ≡ put b (functions_text hs) → c ≡ put w (functions_text (fs ++ (gs ++ hs)))
three w a b c fs gs hs x y z =
    z ∙ ap (λ s. put s (functions_text hs)) (y ∙ ap (λ s. put s (functions_text gs)) x)
    ∙ functions_put (put w (functions_text fs)) gs hs ∙ functions_put w fs (gs ++ hs)

left_list : (a b c d : List Function) → a ++ (b ++ (c ++ d)) ≡ ((a ++ b) ++ c) ++ d
left_list a b c d = sym (append_assoc a b (c ++ d)) ∙ sym (append_assoc (a ++ b) c d)

listed : (m : WasmModule) → helpers m ++ (functions_from m 0 (callees m) ++ last_functions m) ≡ functions_of m
unfolding last_functions
listed m = left_list (helpers m) (functions_from m 0 (callees m)) (stubs m) (init_function m ∷ high_function ∷ [])

pub all_printed : (m : WasmModule) (w a b c : Written) → a ≡ put w (functions_text (helpers m)) → b ≡ put a (functions_text (functions_from m 0 (callees m))) → c ≡ put b (functions_text (last_functions m))
    → c ≡ put w (functions_text (functions_of m))
all_printed m w a b c x y z =
    three w a b c (helpers m) (functions_from m 0 (callees m)) (last_functions m) x y z ∙ ap (λ fs. put w (functions_text fs)) (listed m)

-- .. between what stands before them and behind them
in_parts : (name : Option (List ℕ)) (params : List (List ℕ)) (globals : List Variable) (fs : List Function) (tables : List Table) (exports : Exports) (frame : Module) (start a b c : Written)
    → frame ≡ record { name = name; params = params; globals = globals; functions = []; tables = tables; exports = exports }
    → start ≡ at_start → a ≡ put start (front_text frame) → b ≡ put a (functions_text fs) → c ≡ put b (back_text frame)
    → c.bytes ≡ canonical_text (record { name = name; params = params; globals = globals; functions = fs; tables = tables; exports = exports })
in_parts name params globals fs tables exports frame start a b c e s x y z =
    let whole : Module = record { name = name; params = params; globals = globals; functions = fs; tables = tables; exports = exports } in
    let text : Module → List ℕ = λ f. (put (put (put at_start (front_text f)) (functions_text fs)) (back_text f)).bytes in
    ap (λ w. w.bytes) (z ∙ ap (λ w. put w (back_text frame)) (y ∙ ap (λ w. put w (functions_text fs)) (x ∙ ap (λ w. put w (front_text frame)) s)))
    ∙ (ap text e ∙ text_in_parts whole fs refl)

pub text_is : (m : WasmModule) (frame : Module) (start a b c : Written) → frame ≡ without_functions m
    → start ≡ at_start → a ≡ put start (front_text frame) → b ≡ put a (functions_text (functions_of m)) → c ≡ put b (back_text frame) → c.bytes ≡ canonical_text (translated m)
unfolding without_functions
text_is m frame start a b c e s x y z =
    in_parts (Some (codes "wasm")) (stdlib_name ∷ foreign_name ∷ heap_name ∷ []) (variables_of m) (functions_of m) (tables_for m) (many (exports_of m)) frame start a b c e s x y z
