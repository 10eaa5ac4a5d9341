-- The rows of global variables, one after another, and of a module's parts.
use Rattle.std.proofs.Common.{◌≡◌, ℕ, ◌+◌, ◌<◌, Bool, true, false, not, ◌&&◌, ◌||◌, List, [], ◌∷◌, ◌++◌, length, map, drop, get_or, None, refl, sym, ap, ◌∙◌, append_assoc, subst, arith}
use Rattle.std.proofs.lemmas.List.{at_drop_more}
use Rattle.std.specs.Prelude.{Result, MatchResult}
use Rattle.sem_words.specs.declared.text.Text.{Text}
use Rattle.sem_words.specs.Lists.{text_bytes, list_items}
use Rattle.asm_lang.specs.Modules.{Module, Variable}
use Rattle.asm_tree.specs.declared.tree.Global_.{Global_}
use Rattle.asm_tree.specs.declared.tree.Function.{Function}
use Rattle.asm_tree.specs.declared.tree.Table.{Table}
use Rattle.asm_tree.specs.declared.tree.Exports.{Exports as CodeExports}
use Rattle.asm_tree.specs.declared.tree.Module.{Module as CodeModule}
use Rattle.asm_tree.specs.Views.{module_view, texts_view, global_view, function_view, table_view, init_view, exports_view}
use Rattle.asm_lang_valid.specs.declared.rule.Met.{Met}
use Rattle.asm_lang_valid.specs.declared.rule.Rule.TheVariants.{NameTaken, ForbiddenName}
use Rattle.asm_lang_valid.specs.Rows.{need, first, functions_count, functions_at, tables_at, exports_at}
use Rattle.asm_lang_valid.specs.Scope.{is_in}
use Rattle.asm_lang_valid.specs.NameRows.{Imports, with_import, clashes, has_forbidden_member, is_forbidden, init_rows, global_names, globals_names, functions_names, tables_names, exports_names, all_new, any_forbidden, global_texts, function_texts, name_rows, own_name}
use Rattle.asm_validate_names.specs.declared.refusal.AsmRefusal.{AsmRefusal}
use Rattle.asm_validate_names.specs.Imported.{no_imports, globals_texts}
use Rattle.asm_validate_names.specs.Heading.{heading_rows, variables_rows, later_rows, rest_rows}
use Rattle.asm_validate_names.specs.Refusals.{IsRow}
use Rattle.asm_validate_names.specs.Seen.{declared_rows, texts_of}
use Rattle.asm_validate_names.proofs.Found.{first_after}
use Rattle.asm_validate_names.proofs.Order.{row_before, row_rest, same_rows}

pub globals_rest : (m : Module) (b : List (List ℕ)) (is : Imports) (vs : List Global_) (i : ℕ) (v : Global_) (at : ℕ) → i < length vs → v ≡ get_or vs i v → first (globals_names m b is (map global_view (drop i vs)) at) ≡ first (global_names m b is (global_view v) at ++ globals_names m (b ++ text_bytes v.name ∷ []) (with_import m (init_view v.init) is) (map global_view (drop (i + 1) vs)) (at + 1))
globals_rest m b is vs i v at h e =
    at_drop_more (λ l. first (globals_names m b is (map global_view l) at)) vs i v h
    ∙ ap (λ (w : Global_). first (global_names m b is (global_view w) at ++ globals_names m (b ++ text_bytes w.name ∷ []) (with_import m (init_view w.init) is) (map global_view (drop (i + 1) vs)) (at + 1))) (sym e)

pub globals_longer : (b : List (List ℕ)) (vs : List Global_) (i : ℕ) (v : Global_) → i < length vs → v ≡ get_or vs i v → (b ++ text_bytes v.name ∷ []) ++ globals_texts (map global_view (drop (i + 1) vs)) ≡ b ++ globals_texts (map global_view (drop i vs))
globals_longer b vs i v h e =
    append_assoc b (text_bytes v.name ∷ []) (globals_texts (map global_view (drop (i + 1) vs)))
    ∙ ap (λ (w : Global_). b ++ text_bytes w.name ∷ globals_texts (map global_view (drop (i + 1) vs))) e
    ∙ sym (at_drop_more (λ l. b ++ globals_texts (map global_view l)) vs i v h)

free : (a b : Bool) → not (a || b) ≡ not (not (not a) || b)
free true b = refl
free false b = refl

pub global_split : (m : Module) (before : List (List ℕ)) (is : Imports) (v : Variable) (at : ℕ) (is_new taken forbidden : Bool) → is_new ≡ not (is_in v.name before) → taken ≡ (not is_new || clashes m is v.init) → forbidden ≡ (is_forbidden v.name || has_forbidden_member m v.init) → first (global_names m before is v at) ≡ first (declared_rows (not taken) forbidden at ++ init_rows m v.init at)
global_split m before is v at is_new taken forbidden e h k =
    let same = free (is_in v.name before) (clashes m is v.init) ∙ ap (λ b. not (not b || clashes m is v.init)) (sym e) ∙ ap not (sym h) in
    ap (λ b. first (need b NameTaken at ++ (need (not (is_forbidden v.name || has_forbidden_member m v.init)) ForbiddenName at ++ init_rows m v.init at))) same
    ∙ ap (λ b. first (need (not taken) NameTaken at ++ (need (not b) ForbiddenName at ++ init_rows m v.init at))) (sym k)
    ∙ ap first (sym (append_assoc (need (not taken) NameTaken at) (need (not forbidden) ForbiddenName at) (init_rows m v.init at)))

pub new_one : (is_new taken c : Bool) → taken ≡ (not is_new || c) → not taken ≡ true → is_new ≡ true
new_one true taken c h k = refl
new_one false true c h k = cc
new_one false false c h k = cc

-- ---- parameters of a module

pub new_rest : (b : List (List ℕ)) (ts : List Text) (i : ℕ) (t : Text) → i < length ts → t ≡ get_or ts i t → all_new b (texts_view (drop i ts)) ≡ (not (is_in (text_bytes t) b) && all_new (b ++ text_bytes t ∷ []) (texts_view (drop (i + 1) ts)))
new_rest b ts i t h e = at_drop_more (λ l. all_new b (texts_view l)) ts i t h ∙ ap (λ (u : Text). not (is_in (text_bytes u) b) && all_new (b ++ text_bytes u ∷ []) (texts_view (drop (i + 1) ts))) (sym e)

pub texts_longer : (b : List (List ℕ)) (ts : List Text) (i : ℕ) (t : Text) → i < length ts → t ≡ get_or ts i t → (b ++ text_bytes t ∷ []) ++ texts_view (drop (i + 1) ts) ≡ b ++ texts_view (drop i ts)
texts_longer b ts i t h e =
    append_assoc b (text_bytes t ∷ []) (texts_view (drop (i + 1) ts))
    ∙ ap (λ (u : Text). b ++ text_bytes u ∷ texts_view (drop (i + 1) ts)) e
    ∙ sym (at_drop_more (λ l. b ++ texts_view l) ts i t h)

pub forbidden_rest : (ts : List Text) (i : ℕ) (t : Text) → i < length ts → t ≡ get_or ts i t → any_forbidden (texts_view (drop i ts)) ≡ (is_forbidden (text_bytes t) || any_forbidden (texts_view (drop (i + 1) ts)))
forbidden_rest ts i t h e = at_drop_more (λ l. any_forbidden (texts_view l)) ts i t h ∙ ap (λ (u : Text). is_forbidden (text_bytes u) || any_forbidden (texts_view (drop (i + 1) ts))) (sym e)

pub declared_same : (a b f g : Bool) (at : ℕ) → a ≡ b → f ≡ g → declared_rows b g at ≡ declared_rows a f at
declared_same a b f g at h k = ap (λ x. declared_rows x g at) (sym h) ∙ ap (λ x. declared_rows a x at) (sym k)

-- ---- the parts of a module

pub globals_length : (vs : List Global_) → length (map global_view vs) ≡ length vs
globals_length [] = refl
globals_length (v ∷ vs) = omega (arith, globals_length vs)

pub tables_length : (ts : List Table) → length (map table_view ts) ≡ length ts
tables_length [] = refl
tables_length (t ∷ ts) = omega (arith, tables_length ts)

-- what a pass over the global variables of a module found; is are the imports before them, which are none
module _ (code : CodeModule) (is : Imports) (gs : List Global_) (none_yet : is ≡ no_imports) (globals : gs ≡ list_items code.globals) where
  pub variables_same : (b : List (List ℕ)) (at : ℕ) → variables_rows (module_view code) b at ≡ globals_names (module_view code) b is (map global_view gs) at
  variables_same b at =
      ap (λ j. globals_names (module_view code) b j (module_view code).globals at) (sym none_yet)
      ∙ ap (λ l. globals_names (module_view code) b is (map global_view l) at) (sym globals)

  pub variables_texts : (b : List (List ℕ)) → b ++ globals_texts (map global_view gs) ≡ b ++ global_texts (module_view code)
  variables_texts b = ap (λ l. b ++ globals_texts (map global_view l)) globals

  pub variables_length : length (module_view code).globals ≡ length gs
  variables_length = ap (λ l. length (map global_view l)) (sym globals) ∙ globals_length gs

-- .. over its functions, its tables and its exports, after those
module _ (code : CodeModule) (c : List (List ℕ)) (at : ℕ) (fs : List Function) (names_are : c ≡ (module_view code).params ++ global_texts (module_view code)) (at_is : at ≡ functions_at (module_view code)) (functions : fs ≡ list_items code.functions) where
  abbrev m : Module
  m = module_view code

  pub functions_length : functions_count m.functions ≡ functions_count (map function_view fs)
  functions_length = ap (λ l. functions_count (map function_view l)) (sym functions)

  abbrev after_functions : List Met
  after_functions = tables_names m (m.params ++ (global_texts m ++ function_texts m)) m.tables (tables_at m) ++ exports_names m m.exports (exports_at m)

  functions_same : functions_names m (m.params ++ global_texts m) m.functions (functions_at m) ≡ functions_names m c (map function_view fs) at
  functions_same =
      ap (λ d. functions_names m d m.functions (functions_at m)) (sym names_are)
      ∙ ap (λ k. functions_names m c m.functions k) (sym at_is)
      ∙ ap (λ l. functions_names m c (map function_view l) at) (sym functions)

  to_functions : first (later_rows m) ≡ first (functions_names m c (map function_view fs) at ++ after_functions)
  to_functions = ap (λ l. first (l ++ after_functions)) functions_same

  pub in_functions : (x : AsmRefusal) → IsRow (functions_names m c (map function_view fs) at) x → IsRow (later_rows m) x
  in_functions x h = row_rest (later_rows m) _ after_functions x to_functions h

  module _ (done : first (functions_names m c (map function_view fs) at) ≡ None) (d : List (List ℕ)) (mid : ℕ) (ts : List Table) (more : d ≡ c ++ texts_of (map function_view fs)) (then : mid ≡ at + functions_count (map function_view fs)) (tables : ts ≡ list_items code.tables) where
    all_names_are : m.params ++ (global_texts m ++ function_texts m) ≡ d
    all_names_are = sym (append_assoc m.params (global_texts m) (function_texts m)) ∙ ap (λ p. p ++ function_texts m) (sym names_are) ∙ ap (λ l. c ++ texts_of (map function_view l)) (sym functions) ∙ sym more

    pub tables_at_is : tables_at m ≡ mid
    tables_at_is = ap (λ k. k + functions_count m.functions) (sym at_is) ∙ ap (λ k. at + k) functions_length ∙ sym then

    pub exports_at_is : exports_at m ≡ mid + length ts
    exports_at_is = ap (λ k. k + length m.tables) tables_at_is ∙ ap (λ l. mid + length (map table_view l)) (sym tables) ∙ ap (λ k. mid + k) (tables_length ts)

    tables_same : tables_names m (m.params ++ (global_texts m ++ function_texts m)) m.tables (tables_at m) ≡ tables_names m d (map table_view ts) mid
    tables_same =
        ap (λ e. tables_names m e m.tables (tables_at m)) all_names_are
        ∙ ap (λ k. tables_names m d m.tables k) tables_at_is
        ∙ ap (λ l. tables_names m d (map table_view l) mid) (sym tables)

    to_tables : first (later_rows m) ≡ first (tables_names m d (map table_view ts) mid ++ exports_names m m.exports (exports_at m))
    to_tables = to_functions ∙ first_after _ after_functions done ∙ ap (λ l. first (l ++ exports_names m m.exports (exports_at m))) tables_same

    pub in_tables : (x : AsmRefusal) → IsRow (tables_names m d (map table_view ts) mid) x → IsRow (later_rows m) x
    in_tables x h = row_rest (later_rows m) _ _ x to_tables h

    pub in_exports : (es : CodeExports) (last : ℕ) (r : Result (Unit {0}) AsmRefusal) → es ≡ code.exports → first (tables_names m d (map table_view ts) mid) ≡ None → last ≡ mid + length ts → MatchResult r (λ u. first (exports_names m (exports_view es) last) ≡ None) (IsRow (exports_names m (exports_view es) last)) → MatchResult r (λ u. first (later_rows m) ≡ None) (IsRow (later_rows m))
    in_exports es last r exports nothing end h =
        same_rows r (later_rows m) (exports_names m (exports_view es) last)
        (to_tables ∙ first_after (tables_names m d (map table_view ts) mid) _ nothing
        ∙ ap (λ k. first (exports_names m m.exports k)) (exports_at_is ∙ sym end)
        ∙ ap (λ e. first (exports_names m (exports_view e) last)) (sym exports)) h

-- a module's global variables, and what stands after them
pub in_variables : (m : Module) (b : List (List ℕ)) (x : AsmRefusal) → b ≡ m.params → IsRow (variables_rows m b 1) x → IsRow (rest_rows m) x
in_variables m b x params h = row_before (variables_rows m m.params 1) (later_rows m) x (subst (λ c. IsRow (variables_rows m c 1) x) params h)

pub after_variables : (m : Module) (b : List (List ℕ)) (r : Result (Unit {0}) AsmRefusal) → b ≡ m.params → first (variables_rows m b 1) ≡ None → MatchResult r (λ u. first (later_rows m) ≡ None) (IsRow (later_rows m)) → MatchResult r (λ u. first (rest_rows m) ≡ None) (IsRow (rest_rows m))
after_variables m b r params none h =
    same_rows r (rest_rows m) (later_rows m) (first_after (variables_rows m m.params 1) (later_rows m) (ap (λ c. first (variables_rows m c 1)) (sym params) ∙ none)) h

pub name_rows_are : (m : Module) → first (name_rows m) ≡ first (heading_rows m ++ rest_rows m)
name_rows_are m = ap first (sym (append_assoc (need (all_new [] m.params) NameTaken 0) (need (not (any_forbidden (own_name m.name ++ m.params))) ForbiddenName 0) (rest_rows m)))

-- a module whose heading breaks a rule, and any other
pub in_heading : (m : Module) (x : AsmRefusal) → IsRow (heading_rows m) x → IsRow (name_rows m) x
in_heading m x h = row_rest (name_rows m) (heading_rows m) (rest_rows m) x (name_rows_are m) h

pub after_heading : (m : Module) (r : Result (Unit {0}) AsmRefusal) → first (heading_rows m) ≡ None → MatchResult r (λ u. first (rest_rows m) ≡ None) (IsRow (rest_rows m)) → MatchResult r (λ u. first (name_rows m) ≡ None) (IsRow (name_rows m))
after_heading m r none h = same_rows r (name_rows m) (rest_rows m) (name_rows_are m ∙ first_after (heading_rows m) (rest_rows m) none) h

pub nothing : (xs : List Met) → first xs ≡ None → xs ≡ []
nothing [] h = refl
nothing (x ∷ xs) h = cc
