-- Functions that are printed one after the other.
use Rattle.std.proofs.Common.{◌≡◌, ℕ, ◌+◌, List, [], ◌++◌, length, take, sym, ap, ◌∙◌}
use Rattle.std.proofs.Math.Seq.{take-append_seam}
use Rattle.asm_lang.specs.Modules.{Function}
use Rattle.asm_lang.specs.Printing.{functions_text}
use Rattle.asm_grammar_print.specs.Put.{Written, put}
use Rattle.asm_grammar_print.proofs.ModulePuts.{functions_put}
use Rattle.wasm_lang.specs.Modules.{WasmModule}
use Rattle.wasm_lang_valid.specs.ModuleRules.{imported_functions, function_types}
use Rattle.wasm_lang_exec.specs.Reductions.{callees}
use Rattle.wasm2js_translation.specs.Modules.{functions_from}
use Rattle.wasm2js_functions.specs.Listing.{wrappers_from, own_from}
use Rattle.wasm2js_functions.proofs.Lists.{functions_are}

-- functions that were made are printed
pub printed : (w new : Written) (none made fs : List Function) → none ≡ [] → made ≡ none ++ fs → new ≡ put w (functions_text made) → new ≡ put w (functions_text fs)
printed w new none made fs e m n = n ∙ ap (λ gs. put w (functions_text gs)) (m ∙ ap (λ gs. gs ++ fs) e)

-- some more of what is to be printed
pub more_printed : (whole old new : Written) (all now rest : List Function) → whole ≡ put old (functions_text all) → all ≡ now ++ rest → new ≡ put old (functions_text now) → whole ≡ put new (functions_text rest)
more_printed whole old new all now rest w a n =
    w ∙ ap (λ fs. put old (functions_text fs)) a ∙ sym (functions_put old now rest) ∙ ap (λ s. put s (functions_text rest)) (sym n)

pub all_printed : (m : WasmModule) (imported : ℕ) (types : List ℕ) (old wrapped new : Written) → imported ≡ length (imported_functions m.imports) → types ≡ take imported (function_types m)
    → wrapped ≡ put old (functions_text (wrappers_from m 0 types)) → new ≡ put wrapped (functions_text (own_from m imported m.functions m.bodies))
    → new ≡ put old (functions_text (functions_from m 0 (callees m)))
all_printed m imported types old wrapped new count given wrappers own =
    let named : types ≡ imported_functions m.imports = given ∙ ap (λ n. take n (function_types m)) count ∙ take-append_seam (imported_functions m.imports) m.functions in
    let first = wrappers_from m 0 (imported_functions m.imports) in
    let others = own_from m imported m.functions m.bodies in
    own ∙ ap (λ s. put s (functions_text others)) (wrappers ∙ ap (λ ts. put old (functions_text (wrappers_from m 0 ts))) named)
    ∙ functions_put old first others ∙ ap (λ fs. put old (functions_text fs)) (sym (functions_are m imported count))
