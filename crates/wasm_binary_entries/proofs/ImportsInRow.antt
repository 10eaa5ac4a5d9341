-- Imports in a row.
use Rattle.std.proofs.Common.{◌≡◌, ℕ, suc, ◌+◌, ◌-◌, ◌<◌, List, [], ◌∷◌, ◌++◌, sym, ap, ◌∙◌, arith, map, take, get_or, length}
use Rattle.std.specs.Prelude.{Ok, Err}
use Rattle.std.proofs.Math.Seq.{take-suc}
use Rattle.std.proofs.lemmas.List.{map-append}
use Rattle.wasm_tree.specs.declared.module.Import.{Import}
use Rattle.wasm_tree.specs.Views.{import_of}
use Rattle.wasm_lang.specs.declared.fault.Fault.{Fault}
use Rattle.wasm_lang.specs.Limits.{function_imports, global_imports}
use Rattle.wasm_lang.specs.Modules.{Imported}
use Rattle.wasm_lang.specs.Reading.{Input, ◌>>=◌}
use Rattle.wasm_lang.specs.ReadingModule.{import_field, imports_field}
use Rattle.wasm_binary_entries.proofs.ItemsInRow.{with_front, items_on}

imports_turn : (functions globals count k : ℕ) (i : Input) → k < count → imports_field functions globals (count - k) i
    ≡ (import_field functions globals i >>= λ x. imports_field (functions + function_imports (x.0 ∷ [])) (globals + global_imports (x.0 ∷ [])) (count - (k + 1)) x.1 >>= λ xs. Ok (x.0 ∷ xs.0, xs.1))
imports_turn functions globals count k i lt =
    let n : count - k ≡ suc (count - (k + 1)) = omega arith in
    ap (λ n. imports_field functions globals n i) n

pub imports_step : (functions globals count k : ℕ) (front : List Imported) (i next : Input) (v : Imported) (m n : ℕ) → k < count → import_field functions globals i ≡ Ok (v, next)
    → m ≡ function_imports (v ∷ []) → n ≡ global_imports (v ∷ [])
    → with_front front (imports_field functions globals (count - k) i)
    ≡ with_front (front ++ v ∷ []) (imports_field (functions + m) (globals + n) (count - (k + 1)) next)
imports_step functions globals count k front i next v m n lt e is_m is_n =
    ap (λ r. with_front front r) (imports_turn functions globals count k i lt)
    ∙ ap (λ r. with_front front (r >>= λ x. imports_field (functions + function_imports (x.0 ∷ [])) (globals + global_imports (x.0 ∷ [])) (count - (k + 1)) x.1 >>= λ xs. Ok (x.0 ∷ xs.0, xs.1))) e
    ∙ items_on front v (imports_field (functions + function_imports (v ∷ [])) (globals + global_imports (v ∷ [])) (count - (k + 1)) next)
    ∙ ap (λ m. with_front (front ++ v ∷ []) (imports_field (functions + m) (globals + global_imports (v ∷ [])) (count - (k + 1)) next)) (sym is_m)
    ∙ ap (λ n. with_front (front ++ v ∷ []) (imports_field (functions + m) (globals + n) (count - (k + 1)) next)) (sym is_n)

pub imports_stop : (functions globals count k : ℕ) (front : List Imported) (i : Input) (f : Fault) → k < count → import_field functions globals i ≡ Err f
    → with_front front (imports_field functions globals (count - k) i) ≡ Err f
imports_stop functions globals count k front i f lt e =
    ap (λ r. with_front front r) (imports_turn functions globals count k i lt)
    ∙ ap (λ r. with_front front (r >>= λ x. imports_field (functions + function_imports (x.0 ∷ [])) (globals + global_imports (x.0 ∷ [])) (count - (k + 1)) x.1 >>= λ xs. Ok (x.0 ∷ xs.0, xs.1))) e

-- one more
pub function_imports_more : (xs : List Imported) (x : Imported) → function_imports (xs ++ x ∷ []) ≡ function_imports xs + function_imports (x ∷ [])
function_imports_more [] x = omega arith
function_imports_more (y ∷ ys) x = omega (arith, function_imports_more ys x)

pub global_imports_more : (xs : List Imported) (x : Imported) → global_imports (xs ++ x ∷ []) ≡ global_imports xs + global_imports (x ∷ [])
global_imports_more [] x = omega arith
global_imports_more (y ∷ ys) x = omega (arith, global_imports_more ys x)

pub function_count_step : (imports : List Import) (k : ℕ) (x : Import) (n m : ℕ) → k < length imports → x ≡ get_or imports k x → n ≡ function_imports (map import_of (take k imports)) → m ≡ function_imports (import_of x ∷ [])
    → n + m ≡ function_imports (map import_of (take (k + 1) imports))
function_count_step imports k x n m lt is is_n is_m =
    let e : suc k ≡ k + 1 = omega arith in
    let t : take (suc k) imports ≡ take k imports ++ x ∷ [] = take-suc imports k x lt ∙ ap (λ (y : Import). take k imports ++ y ∷ []) (sym is) in
    ap (λ n. n + m) is_n ∙ ap (λ m. function_imports (map import_of (take k imports)) + m) is_m
    ∙ sym (function_imports_more (map import_of (take k imports)) (import_of x))
    ∙ ap (λ (l : List Imported). function_imports l) (sym (map-append import_of (take k imports) (x ∷ [])))
    ∙ ap (λ (l : List Import). function_imports (map import_of l)) (sym t)
    ∙ ap (λ k. function_imports (map import_of (take k imports))) e

pub global_count_step : (imports : List Import) (k : ℕ) (x : Import) (n m : ℕ) → k < length imports → x ≡ get_or imports k x → n ≡ global_imports (map import_of (take k imports)) → m ≡ global_imports (import_of x ∷ [])
    → n + m ≡ global_imports (map import_of (take (k + 1) imports))
global_count_step imports k x n m lt is is_n is_m =
    let e : suc k ≡ k + 1 = omega arith in
    let t : take (suc k) imports ≡ take k imports ++ x ∷ [] = take-suc imports k x lt ∙ ap (λ (y : Import). take k imports ++ y ∷ []) (sym is) in
    ap (λ n. n + m) is_n ∙ ap (λ m. global_imports (map import_of (take k imports)) + m) is_m
    ∙ sym (global_imports_more (map import_of (take k imports)) (import_of x))
    ∙ ap (λ (l : List Imported). global_imports l) (sym (map-append import_of (take k imports) (x ∷ [])))
    ∙ ap (λ (l : List Import). global_imports (map import_of l)) (sym t)
    ∙ ap (λ k. global_imports (map import_of (take k imports))) e
