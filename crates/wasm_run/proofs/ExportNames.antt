-- Exports, found by their names.
use Rattle.std.proofs.Common.{◌≡◌, ℕ, zero, suc, ◌+◌, ◌<◌, Bool, true, false, not, ◌||◌, List, [], ◌∷◌, length, map, take, drop, get_or, Option, Some, None, nat_eq, bytes_eq, refl, sym, ap, ◌∙◌, subst, arith, zero-add}
use Rattle.std.proofs.lemmas.Bool.Decides.{nat_tests}
use Rattle.std.proofs.lemmas.List.{at_drop_more}
use Rattle.std.proofs.lemmas.Option.{slice_get_within}
use Rattle.std.proofs.lemmas.Slice.Eq.{bytes_eq-Decides}
use Rattle.std.specs.Prelude.{◌&&◌, if◌then◌else◌, option_map, slice_get}
use Rattle.wasm_lang.specs.Modules.{Exported, WasmModule}
use Rattle.wasm_lang.specs.declared.types.ExportKind.{ExportKind}
use Rattle.wasm_lang.specs.declared.types.ExportKind.TheVariants as exports
use Rattle.wasm_lang_valid.specs.declared.rule.Rule.{Rule}
use Rattle.wasm_lang_valid.specs.declared.rule.Rule.TheVariants.{NoFunction, NoTable, NoMemory, NoGlobal, RepeatedName}
use Rattle.wasm_lang_valid.specs.declared.section.Section.TheVariants as sections
use Rattle.wasm_lang_valid.specs.ModuleRules.{meets, is_function, is_table_number, is_memory_number, is_global, is_named, exported_rule, export_rule, at}
use Rattle.wasm_lang_valid.specs.Validity.{IsValidModule}
use Rattle.wasm_tree.specs.declared.module.WasmExport.{WasmExport}
use Rattle.wasm_tree.specs.Views.{bytes_of, export_of}
use Rattle.wasm_lang_exec.specs.Session.{exported_function, function_named}
use Rattle.wasm_run.specs.Exports.{EachIsFirst, has_name, is_named_at, place_named}

-- the place of a name among an export and others: the export's, or else one after it
abbrev next_place : Bool → Option ℕ → Option ℕ
next_place b o = if b then Some 0 else option_map (λ i. suc i) o

-- ---- the map, one export more at a time

shifted : (b : Bool) (i : ℕ) (o : Option ℕ) → (if b then Some i else option_map (λ k. (i + 1) + k) o) ≡ option_map (λ k. i + k) (next_place b o)
shifted true i o = ap (λ (k : ℕ). Some k) (omega arith)
shifted false i None = refl
shifted false i (Some k) = ap (λ (k : ℕ). Some k) (omega arith)

-- x is the place of a name from the i-th export on, and y that from the next on
pub export_put : (es : List WasmExport) (i j : ℕ) (e : WasmExport) (n : List ℕ) (x y : Option ℕ) → j ≡ i + 1 → i < length es → e ≡ get_or es i e
    → x ≡ (if bytes_eq (bytes_of e.name) n then Some i else y)
    → y ≡ option_map (λ k. j + k) (place_named (map export_of (drop j es)) n) → x ≡ option_map (λ k. i + k) (place_named (map export_of (drop i es)) n)
export_put es i j e n x y next inside is put rest =
    put ∙ ap (λ y. if bytes_eq (bytes_of e.name) n then Some i else y) (rest ∙ ap (λ j. option_map (λ k. j + k) (place_named (map export_of (drop j es)) n)) next)
    ∙ shifted (bytes_eq (bytes_of e.name) n) i (place_named (map export_of (drop (i + 1) es)) n)
    ∙ ap (λ (h : WasmExport). option_map (λ k. i + k) (place_named (map export_of (h ∷ drop (i + 1) es)) n)) is
    ∙ sym (at_drop_more (λ hs. option_map (λ k. i + k) (place_named (map export_of hs) n)) es i e inside)

unshifted : (o : Option ℕ) → option_map (λ k. 0 + k) o ≡ o
unshifted None = refl
unshifted (Some k) = ap (λ (k : ℕ). Some k) (zero-add k)

pub exports_put : (es : List WasmExport) (i : ℕ) (n : List ℕ) (x : Option ℕ) → i ≡ 0 → x ≡ option_map (λ k. i + k) (place_named (map export_of (drop i es)) n) → x ≡ place_named (map export_of es) n
exports_put es i n x first put = put ∙ ap (λ i. option_map (λ k. i + k) (place_named (map export_of (drop i es)) n)) first ∙ unshifted (place_named (map export_of es) n)

-- ---- the function at the place of a name

within : (b : Bool) (o : Option ℕ) (l i : ℕ) → ((j : ℕ) → o ≡ Some j → j < l) → next_place b o ≡ Some i → i < suc l
within true o l i rest e = let first : 0 ≡ i = cc e in omega arith
within false None l i rest e = cc e
within false (Some j) l i rest e = let next : suc j ≡ i = cc e in let below = rest j refl in omega arith

pub place_within : (es : List WasmExport) (n : List ℕ) (i : ℕ) → place_named (map export_of es) n ≡ Some i → i < length es
place_within [] n i e = cc e
place_within (x ∷ es) n i e = within (bytes_eq (bytes_of x.name) n) (place_named (map export_of es) n) (length es) i (λ j e. place_within es n j e) e

function_at : (x : WasmExport) (es : List WasmExport) (b : Bool) (o : Option ℕ) (f : Option ℕ) (i : ℕ) (y : WasmExport)
    → ((j : ℕ) → o ≡ Some j → y ≡ get_or es j y → f ≡ exported_function y.kind) → next_place b o ≡ Some i → y ≡ get_or (x ∷ es) i y → (if b then exported_function x.kind else f) ≡ exported_function y.kind
function_at x es true o f zero y rest e is = ap (λ (h : WasmExport). exported_function h.kind) (sym is)
function_at x es true o f (suc i) y rest e is = cc e
function_at x es false None f i y rest e is = cc e
function_at x es false (Some j) f zero y rest e is = cc e
function_at x es false (Some j) f (suc i) y rest e is = rest i (cc e) is

pub function_here : (es : List WasmExport) (n : List ℕ) (i : ℕ) (y : WasmExport) → place_named (map export_of es) n ≡ Some i → y ≡ get_or es i y → function_named (map export_of es) n ≡ exported_function y.kind
function_here [] n i y e is = cc e
function_here (x ∷ es) n i y e is =
    function_at x es (bytes_eq (bytes_of x.name) n) (place_named (map export_of es) n) (function_named (map export_of es) n) i y (λ j e is. function_here es n j y e is) e is

no_function : (b : Bool) (o f here : Option ℕ) → (o ≡ None → f ≡ None) → next_place b o ≡ None → (if b then here else f) ≡ None
no_function true o f here rest e = cc e
no_function false None f here rest e = rest refl
no_function false (Some i) f here rest e = cc e

pub function_nowhere : (es : List Exported) (n : List ℕ) → place_named es n ≡ None → function_named es n ≡ None
function_nowhere [] n e = refl
function_nowhere (x ∷ es) n e = no_function (bytes_eq x.name n) (place_named es n) (function_named es n) (exported_function x.kind) (λ e. function_nowhere es n e) e

-- ---- each export of a valid module is the first of its name

equal_either_way : (x y : ℕ) → nat_eq x y ≡ nat_eq y x
equal_either_way x y = grind (arith, nat_tests)

same_either_way : (xs ys : List ℕ) → bytes_eq xs ys ≡ bytes_eq ys xs
same_either_way [] [] = refl
same_either_way [] (y ∷ ys) = refl
same_either_way (x ∷ xs) [] = refl
same_either_way (x ∷ xs) (y ∷ ys) = ap (λ b. b && bytes_eq xs ys) (equal_either_way x y) ∙ ap (λ b. nat_eq y x && b) (same_either_way xs ys)

neither : (b c : Bool) → (b || c) ≡ false → (b ≡ false) × (c ≡ false)
neither true c e = cc e
neither false c e = (refl, e)

first_place : (es : List Exported) (i : ℕ) (n : List ℕ) → is_named_at es i n ≡ true → is_named n (take i es) ≡ false → place_named es n ≡ Some i
first_place [] i n named new = cc named
first_place (x ∷ es) zero n named new = ap (λ b. next_place b (place_named es n)) named
first_place (x ∷ es) (suc i) n named new =
    let both = neither (bytes_eq n x.name) (is_named n (take i es)) new in
    ap (λ b. next_place b (place_named es n)) (same_either_way x.name n ∙ both.0) ∙ ap (next_place false) (first_place es i n named both.1)

met : (b : Bool) (rule : Rule) (others : Option Rule) → meets b rule others ≡ None → (b ≡ true) × (others ≡ None)
met true rule others e = (refl, e)
met false rule others e = cc e

none_exported : (m : WasmModule) (kind : ExportKind) (others : Option Rule) → exported_rule m kind others ≡ None → others ≡ None
none_exported m (exports.Func f) others e = (met (is_function m f) NoFunction others e).1
none_exported m (exports.Table t) others e = (met (is_table_number m t) NoTable others e).1
none_exported m (exports.Memory t) others e = (met (is_memory_number m t) NoMemory others e).1
none_exported m (exports.Global g) others e = (met (is_global m g) NoGlobal others e).1

is_new : (b : Bool) → not b ≡ true → b ≡ false
is_new true e = cc e
is_new false e = refl

-- no export before this one has its name
none_before : (m : WasmModule) (i : ℕ) (e : Exported) → IsValidModule m → slice_get m.exports i ≡ Some e → is_named e.name (take i m.exports) ≡ false
none_before m i e valid here =
    let rule = sym (ap (λ o. at o (export_rule m (take i m.exports))) here) ∙ valid sections.Exports i (slice_get_within m.exports i e here) in
    is_new (is_named e.name (take i m.exports)) (met (not (is_named e.name (take i m.exports))) RepeatedName None (none_exported m e.kind (meets (not (is_named e.name (take i m.exports))) RepeatedName None) rule)).0

named_first : (m : WasmModule) (i : ℕ) (n : List ℕ) (o : Option Exported) → IsValidModule m → slice_get m.exports i ≡ o → has_name o n ≡ true → place_named m.exports n ≡ Some i
named_first m i n None valid here named = cc named
named_first m i n (Some e) valid here named =
    let same : e.name ≡ n = (bytes_eq-Decides e.name n).0 named in
    first_place m.exports i n (ap (λ o. has_name o n) here ∙ named) (sym (ap (λ k. is_named k (take i m.exports)) same) ∙ none_before m i e valid here)

pub valid_first : (m : WasmModule) (es : List Exported) → IsValidModule m → es ≡ m.exports → EachIsFirst es
valid_first m es valid same = subst EachIsFirst (sym same) (λ i n named. named_first m i n (slice_get m.exports i) valid refl named)
