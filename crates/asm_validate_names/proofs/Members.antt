-- Members of tables and functions of exports.
use Rattle.std.proofs.Common.{◌≡◌, ℕ, ◌+◌, ◌<◌, Bool, true, false, ◌&&◌, List, [], ◌∷◌, ◌++◌, length, map, drop, get_or, Option, Some, None, is_some, refl, sym, ap, ◌∙◌, append_assoc}
use Rattle.std.proofs.lemmas.List.{at_drop_more}
use Rattle.sem_words.specs.declared.text.Text.{Text}
use Rattle.sem_words.specs.Lists.{text_bytes, list_items}
use Rattle.asm_lang.specs.Modules.{Module}
use Rattle.asm_tree.specs.declared.tree.Table.{Table}
use Rattle.asm_tree.specs.declared.tree.Export.{Export}
use Rattle.asm_tree.specs.Views.{texts_view, table_view, export_view}
use Rattle.asm_lang_valid.specs.Rows.{first}
use Rattle.asm_lang_valid.specs.Scope.{module_meaning}
use Rattle.asm_lang_valid.specs.NameRows.{is_declared, knows, is_function, all_known, all_functions, function_uses, tables_names, keys_names}
use Rattle.asm_names.specs.declared.meaning.Meaning.{Meaning}
use Rattle.asm_names.specs.declared.meaning.Meaning.TheVariants.{Int, Outside, Foreign, Builtin, View, Function, Table as ATable, Parameter}
use Rattle.asm_names.specs.Meanings.{meaning_view}
use Rattle.asm_validate_names.specs.Members.{fit_rows, table_rows, export_rows}

pub declared_is : (o : Option Meaning) → is_declared (meaning_view o) ≡ is_some o
declared_is None = refl
declared_is (Some Int) = refl
declared_is (Some Outside) = refl
declared_is (Some (Foreign p)) = refl
declared_is (Some (Builtin b)) = refl
declared_is (Some (View e)) = refl
declared_is (Some (Function f)) = refl
declared_is (Some (ATable t)) = refl
declared_is (Some Parameter) = refl

pub known_rest : (m : Module) (ts : List Text) (i : ℕ) (t : Text) → i < length ts → t ≡ get_or ts i t → all_known m (texts_view (drop i ts)) ≡ (knows m (text_bytes t) && all_known m (texts_view (drop (i + 1) ts)))
known_rest m ts i t h is = at_drop_more (λ l. all_known m (texts_view l)) ts i t h ∙ ap (λ (u : Text). knows m (text_bytes u) && all_known m (texts_view (drop (i + 1) ts))) (sym is)

pub functions_rest : (m : Module) (ts : List Text) (i : ℕ) (t : Text) → i < length ts → t ≡ get_or ts i t → all_functions m (texts_view (drop i ts)) ≡ (is_function (module_meaning m (text_bytes t)) && all_functions m (texts_view (drop (i + 1) ts)))
functions_rest m ts i t h is = at_drop_more (λ l. all_functions m (texts_view l)) ts i t h ∙ ap (λ (u : Text). is_function (module_meaning m (text_bytes u)) && all_functions m (texts_view (drop (i + 1) ts))) (sym is)

-- an early answer
pub is_false : (b c all : Bool) → all ≡ (b && c) → b ≡ false → false ≡ all
is_false b c all e h = ap (λ x. x && c) (sym h) ∙ sym e

pub goes_on : (b c all : Bool) → all ≡ (b && c) → b ≡ true → all ≡ c
goes_on b c all e h = e ∙ ap (λ x. x && c) h

and_true : (b : Bool) → (b && true) ≡ b
and_true true = refl
and_true false = refl

pub one_use : (m : Module) (n : List ℕ) (at : ℕ) → function_uses m (n ∷ []) at ≡ fit_rows (knows m n) (is_function (module_meaning m n)) at
one_use m n at = ap (λ b. fit_rows b (is_function (module_meaning m n) && true) at) (and_true (knows m n)) ∙ ap (λ b. fit_rows (knows m n) b at) (and_true (is_function (module_meaning m n)))

pub tables_rest : (m : Module) (b : List (List ℕ)) (ts : List Table) (i : ℕ) (t : Table) (at : ℕ) → i < length ts → t ≡ get_or ts i t → first (tables_names m b (map table_view (drop i ts)) at) ≡ first (table_rows m b (table_view t) at ++ tables_names m (b ++ text_bytes t.name ∷ []) (map table_view (drop (i + 1) ts)) (at + 1))
tables_rest m b ts i t at h is =
    at_drop_more (λ l. first (tables_names m b (map table_view l) at)) ts i t h
    ∙ ap (λ (u : Table). first (tables_names m b (table_view u ∷ map table_view (drop (i + 1) ts)) at)) (sym is)
    ∙ ap first (sym (append_assoc _ (function_uses m (texts_view (list_items t.members)) at) (tables_names m (b ++ text_bytes t.name ∷ []) (map table_view (drop (i + 1) ts)) (at + 1))))

pub keys_rest : (m : Module) (b : List (List ℕ)) (es : List Export) (i : ℕ) (e : Export) (at : ℕ) → i < length es → e ≡ get_or es i e → first (keys_names m b (map export_view (drop i es)) at) ≡ first (export_rows m b (export_view e) at ++ keys_names m (b ++ text_bytes e.key ∷ []) (map export_view (drop (i + 1) es)) (at + 1))
keys_rest m b es i e at h is =
    at_drop_more (λ l. first (keys_names m b (map export_view l) at)) es i e h
    ∙ ap (λ (u : Export). first (keys_names m b (export_view u ∷ map export_view (drop (i + 1) es)) at)) (sym is)
    ∙ ap first (sym (append_assoc _ (function_uses m (text_bytes e.function ∷ []) at) (keys_names m (b ++ text_bytes e.key ∷ []) (map export_view (drop (i + 1) es)) (at + 1))))
