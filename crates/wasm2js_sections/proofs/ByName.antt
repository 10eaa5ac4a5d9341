-- Variables name an imported global, and say nothing of its type.
use Rattle.std.proofs.Common.{◌≡◌, ℕ, suc, ◌+◌, ◌<◌, List, [], ◌∷◌, ◌++◌, Option, Some, None, length, map, drop, get_or, refl, sym, ap, ◌∙◌, arith}
use Rattle.std.proofs.lemmas.List.{length-map, at_drop_more}
use Rattle.std.proofs.lemmas.Option.{slice_get-map}
use Rattle.std.specs.Prelude.{slice_get, option_map}
use Rattle.sem_words.specs.declared.text.Text.{Text}
use Rattle.wasm_lang.specs.Instructions.{Instruction}
use Rattle.wasm_lang.specs.Instructions as instructions
use Rattle.wasm_lang.specs.Modules.{GlobalEntry}
use Rattle.wasm_tree.specs.declared.module.GlobalDef.{GlobalDef}
use Rattle.wasm_tree.specs.Views.{global_of}
use Rattle.wasm_lang_exec.specs.Fits.{GlobalImport}
use Rattle.wasm2js_translation.specs.Names.{Name, numbered, global_low}
use Rattle.wasm2js_translation.specs.Modules.{given_variable, imported_variables, first_values, own_variables}
use Rattle.wasm2js_sections.specs.Parts.{by_name, given_of}

imported_by_name : (k : ℕ) (gs : List GlobalImport) → imported_variables k (map by_name gs) ≡ imported_variables k gs
imported_by_name k [] = refl
imported_by_name k (g ∷ gs) = ap (λ vs. given_variable (numbered global_low k) (Some g) ∷ vs) (imported_by_name (suc k) gs)

given_by_name : (n : Name) (o : Option GlobalImport) → given_variable n (option_map by_name o) ≡ given_variable n o
given_by_name n None = refl
given_by_name n (Some g) = refl

first_by_name : (gs : List GlobalImport) (k : ℕ) (is : List Instruction) → first_values (map by_name gs) k is ≡ first_values gs k is
first_by_name gs k (instructions.plain (instructions.global_get x) ∷ is) =
    ap (λ v. v ∷ []) (ap (given_variable (numbered global_low k)) (slice_get-map by_name gs x) ∙ given_by_name (numbered global_low k) (slice_get gs x))
first_by_name gs k is = refl

own_by_name : (gs : List GlobalImport) (k : ℕ) (es : List GlobalEntry) → own_variables (map by_name gs) k es ≡ own_variables gs k es
own_by_name gs k [] = refl
own_by_name gs k (e ∷ es) =
    ap (λ vs. vs ++ own_variables (map by_name gs) (suc k) es) (first_by_name gs k e.init) ∙ ap (λ vs. first_values gs k e.init ++ vs) (own_by_name gs (suc k) es)

-- all of them, by the names alone
pub variables_by_name : (gs : List GlobalImport) (names : List Text) (es : List GlobalEntry) → map given_of names ≡ map by_name gs
    → imported_variables 0 (map given_of names) ++ own_variables (map given_of names) (length names) es ≡ imported_variables 0 gs ++ own_variables gs (length gs) es
variables_by_name gs names es same =
    let size : length names ≡ length gs = sym (length-map names given_of) ∙ ap length same ∙ length-map gs by_name in
    ap (λ given. imported_variables 0 given ++ own_variables given (length names) es) same
    ∙ ap (λ vs. vs ++ own_variables (map by_name gs) (length names) es) (imported_by_name 0 gs)
    ∙ ap (λ vs. imported_variables 0 gs ++ vs) (own_by_name gs (length names) es)
    ∙ ap (λ n. imported_variables 0 gs ++ own_variables gs n es) size

-- the globals from one on
pub own_more : (given : List GlobalImport) (first : ℕ) (gs : List GlobalDef) (i : ℕ) (x : GlobalDef) → i < length gs → x ≡ get_or gs i x
    → own_variables given (first + i) (map global_of (drop i gs))
    ≡ first_values given (first + i) (global_of x).init ++ own_variables given (first + (i + 1)) (map global_of (drop (i + 1) gs))
own_more given first gs i x inside is =
    at_drop_more (λ rest. own_variables given (first + i) (map global_of rest)) gs i x inside
    ∙ ap (λ y. first_values given (first + i) (global_of y).init ++ own_variables given (suc (first + i)) (map global_of (drop (i + 1) gs))) (sym is)
    ∙ ap (λ n. first_values given (first + i) (global_of x).init ++ own_variables given n (map global_of (drop (i + 1) gs))) (omega arith)
