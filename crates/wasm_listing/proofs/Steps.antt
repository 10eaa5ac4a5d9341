-- Types and lines, one after the other.
use Rattle.std.proofs.Common.{◌≡◌, ◌∙◌, ◌<◌, ◌≤◌, ℕ, zero, suc, ◌+◌, min, List, [], ◌∷◌, ◌++◌, map, length, take, drop, get_or, refl, sym, ap, arith, codes, append_assoc, drop-cons}
use Rattle.std.proofs.lemmas.List.{take_all, take_more, flat_map_more}
use Rattle.wasm_lang.specs.declared.types.ValType.{ValType}
use Rattle.wasm_lang.specs.declared.types.ImportKind.{ImportKind}
use Rattle.wasm_lang.specs.declared.types.ImportKind.TheVariants.{Func, Table, Memory, Global}
use Rattle.wasm_lang.specs.Modules.{FunctionType}
use Rattle.wasm_tree.specs.declared.module.Import.{Import}
use Rattle.wasm_tree.specs.declared.module.Body.{Body}
use Rattle.wasm_tree.specs.Views.{import_of, body_of}
use Rattle.wasm_lang_valid.specs.ModuleRules.{function_of, imported_functions}
use Rattle.bridge_lang.specs.Listing.{type_name, others_text, import_lines_of, number_after, import_lines, function_line, function_lines}

-- ---- types

pub next_type : (out : List ℕ) (ts : List ValType) (i : ℕ) (t : ValType) → i < length ts → t ≡ get_or ts i t
    → ((out ++ others_text (take i ts)) ++ codes " ") ++ type_name t ≡ out ++ others_text (take (i + 1) ts)
next_type out ts i t lt is =
    append_assoc (out ++ others_text (take i ts)) (codes " ") (type_name t)
    ∙ (flat_map_more (λ t. codes " " ++ type_name t) out (take i ts) t
    ∙ ap (λ xs. out ++ others_text xs) (sym (take_more ts i t lt ∙ ap (λ y. take i ts ++ y ∷ []) (sym is))))

pub ruleset type_steps = (next_type, take_all)

-- ---- imports

from_here : {X : Type 0} (xs : List X) (i : ℕ) (x : X) → i < length xs → x ≡ get_or xs i x → drop i xs ≡ x ∷ drop (i + 1) xs
from_here xs i x lt is =
    let next : suc i ≡ i + 1 = omega arith in
    drop-cons xs i x lt ∙ (ap (λ y. y ∷ drop (suc i) xs) (sym is) ∙ ap (λ j. x ∷ drop j xs) next)

pub next_import : (types : List FunctionType) (all out : List ℕ) (n : ℕ) (is : List Import) (i : ℕ) (x : Import) → i < length is → x ≡ get_or is i x
    → out ++ import_lines types n (map import_of (drop i is)) ≡ all
    → (out ++ import_lines_of types n (import_of x) x.kind) ++ import_lines types (number_after n x.kind) (map import_of (drop (i + 1) is)) ≡ all
next_import types all out n is i x lt e so =
    append_assoc out (import_lines_of types n (import_of x) x.kind) (import_lines types (number_after n x.kind) (map import_of (drop (i + 1) is)))
    ∙ (ap (λ xs. out ++ import_lines types n (map import_of xs)) (sym (from_here is i x lt e)) ∙ so)

one_more : (n : ℕ) (k : ImportKind) (ts : List ℕ) → number_after n k + length ts ≡ n + length (function_of k ++ ts)
one_more n (Func t) ts = omega arith
one_more n (Table limits) ts = refl
one_more n (Memory limits) ts = refl
one_more n (Global kind) ts = refl

pub next_count : (all n : ℕ) (is : List Import) (i : ℕ) (x : Import) → i < length is → x ≡ get_or is i x
    → n + length (imported_functions (map import_of (drop i is))) ≡ all
    → number_after n x.kind + length (imported_functions (map import_of (drop (i + 1) is))) ≡ all
next_count all n is i x lt e so =
    one_more n x.kind (imported_functions (map import_of (drop (i + 1) is)))
    ∙ (ap (λ xs. n + length (imported_functions (map import_of xs))) (sym (from_here is i x lt e)) ∙ so)

pub number_small : (n i : ℕ) (k : ImportKind) → n ≤ i → number_after n k ≤ i + 1
number_small n i (Func t) le = omega arith
number_small n i (Table limits) le = omega arith
number_small n i (Memory limits) le = omega arith
number_small n i (Global kind) le = omega arith

pub no_imports_left : (types : List FunctionType) (n : ℕ) (is : List Import) (i : ℕ) → length is ≤ i → import_lines types n (map import_of (drop i is)) ≡ []
no_imports_left types n [] zero le = refl
no_imports_left types n [] (suc i) le = refl
no_imports_left types n (x ∷ is) zero le = absurd (omega arith)
no_imports_left types n (x ∷ is) (suc i) le = no_imports_left types n is i (omega arith)

pub none_counted : (is : List Import) (i : ℕ) → length is ≤ i → length (imported_functions (map import_of (drop i is))) ≡ 0
none_counted [] zero le = refl
none_counted [] (suc i) le = refl
none_counted (x ∷ is) zero le = absurd (omega arith)
none_counted (x ∷ is) (suc i) le = none_counted is i (omega arith)

pub ruleset import_steps = (next_import, next_count, number_small, no_imports_left, none_counted)

-- ---- functions

from_here_number : (ts : List ℕ) (i : ℕ) → i < length ts → drop i ts ≡ get_or ts i 0 ∷ drop (i + 1) ts
from_here_number ts i lt =
    let next : suc i ≡ i + 1 = omega arith in
    drop-cons ts i 0 lt ∙ ap (λ j. get_or ts i 0 ∷ drop j ts) next

pub next_function : (types : List FunctionType) (all out : List ℕ) (n m : ℕ) (ts : List ℕ) (bs : List Body) (i : ℕ) (b : Body) → i < length ts → i < length bs → b ≡ get_or bs i b → m ≡ suc n
    → out ++ function_lines types n (drop i ts) (map body_of (drop i bs)) ≡ all
    → (out ++ function_line types n (get_or ts i 0) (body_of b)) ++ function_lines types m (drop (i + 1) ts) (map body_of (drop (i + 1) bs)) ≡ all
next_function types all out n m ts bs i b lt within e one so =
    append_assoc out (function_line types n (get_or ts i 0) (body_of b)) (function_lines types m (drop (i + 1) ts) (map body_of (drop (i + 1) bs)))
    ∙ (ap (λ k. out ++ (function_line types n (get_or ts i 0) (body_of b) ++ function_lines types k (drop (i + 1) ts) (map body_of (drop (i + 1) bs)))) one
    ∙ (ap (λ xs. out ++ function_lines types n (get_or ts i 0 ∷ drop (i + 1) ts) (map body_of xs)) (sym (from_here bs i b within e))
    ∙ (ap (λ xs. out ++ function_lines types n xs (map body_of (drop i bs))) (sym (from_here_number ts i lt)) ∙ so)))

pub no_functions_left : (types : List FunctionType) (n : ℕ) (ts : List ℕ) (bs : List Body) (i : ℕ) → min (length ts) (length bs) ≤ i → function_lines types n (drop i ts) (map body_of (drop i bs)) ≡ []
no_functions_left types n [] bs zero le = refl
no_functions_left types n [] bs (suc i) le = refl
no_functions_left types n (t ∷ ts) [] zero le = refl
no_functions_left types n (t ∷ ts) [] (suc i) le = none (drop i ts)
  where
    none : (xs : List ℕ) → function_lines types n xs [] ≡ []
    none [] = refl
    none (x ∷ xs) = refl
no_functions_left types n (t ∷ ts) (b ∷ bs) zero le = absurd (omega arith)
no_functions_left types n (t ∷ ts) (b ∷ bs) (suc i) le = no_functions_left types n ts bs i (omega arith)

pub ruleset function_steps = (next_function, no_functions_left)
