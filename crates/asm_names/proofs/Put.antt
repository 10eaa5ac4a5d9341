-- One declaration more, before those that a map has.
use Rattle.std.proofs.Common.{◌≡◌, ℕ, ◌+◌, ◌<◌, Bool, true, false, cond, ◌||◌, List, [], ◌∷◌, length, map, drop, get_or, Option, Some, refl, sym, ap, ◌∙◌, subst}
use Rattle.std.proofs.lemmas.List.{at_drop_more}
use Rattle.std.specs.Prelude.{if◌then◌else◌}
use Rattle.std.specs.Str.{bytes_eq}
use Rattle.std.specs.Map.{lookup}
use Rattle.asm_lang.specs.Modules.{Module, Table as PlainTable}
use Rattle.asm_tree.specs.declared.tree.Global_.{Global_}
use Rattle.asm_tree.specs.declared.tree.Function.{Function}
use Rattle.asm_tree.specs.declared.tree.Table.{Table}
use Rattle.sem_words.specs.declared.text.Text.{Text}
use Rattle.sem_words.specs.Lists.{text_bytes}
use Rattle.asm_tree.specs.Views.{texts_view, function_view, global_view, table_view, init_view}
use Rattle.asm_lang_valid.specs.Scope.{Meaning, a_function, a_table, a_parameter, nothing, is_in, init_meaning, among_functions, among_globals, among_tables, module_meaning}
use Rattle.asm_names.specs.declared.meaning.Meaning.{Meaning as CodeMeaning}
use Rattle.asm_names.specs.Meanings.{meaning_view, tables_over, declared_over}
use Rattle.asm_names.specs.Members.{IsNumbered}

-- x has the value of the i-th declaration, before y, which the later ones have, before z
pub function_put : (fs : List Function) (i j : ℕ) (f : Function) (n : List ℕ) (x y z : Meaning) → j ≡ i + 1 → i < length fs → f ≡ get_or fs i f → x ≡ (if bytes_eq (text_bytes f.name) n then a_function (function_view f) else y) → y ≡ among_functions (map function_view (drop j fs)) n z → x ≡ among_functions (map function_view (drop i fs)) n z
function_put fs i j f n x y z p h is e k =
    e ∙ ap (λ y. if bytes_eq (text_bytes f.name) n then a_function (function_view f) else y) (k ∙ ap (λ j. among_functions (map function_view (drop j fs)) n z) p)
    ∙ ap (λ (g : Function). among_functions (function_view g ∷ map function_view (drop (i + 1) fs)) n z) is
    ∙ sym (at_drop_more (λ gs. among_functions (map function_view gs) n z) fs i f h)

pub table_put : (ts : List Table) (i j : ℕ) (t : Table) (n : List ℕ) (x y z : Meaning) → j ≡ i + 1 → i < length ts → t ≡ get_or ts i t → x ≡ (if bytes_eq (text_bytes t.name) n then a_table (table_view t) else y) → y ≡ tables_over (map table_view (drop j ts)) n z → x ≡ tables_over (map table_view (drop i ts)) n z
table_put ts i j t n x y z p h is e k =
    e ∙ ap (λ y. if bytes_eq (text_bytes t.name) n then a_table (table_view t) else y) (k ∙ ap (λ j. tables_over (map table_view (drop j ts)) n z) p)
    ∙ ap (λ (u : Table). tables_over (table_view u ∷ map table_view (drop (i + 1) ts)) n z) is
    ∙ sym (at_drop_more (λ us. tables_over (map table_view us) n z) ts i t h)

pub global_put : (m : Module) (vs : List Global_) (i j : ℕ) (v : Global_) (n : List ℕ) (x y z : Meaning) → j ≡ i + 1 → i < length vs → v ≡ get_or vs i v → x ≡ (if bytes_eq (text_bytes v.name) n then init_meaning m (init_view v.init) else y) → y ≡ among_globals m (map global_view (drop j vs)) n z → x ≡ among_globals m (map global_view (drop i vs)) n z
global_put m vs i j v n x y z p h is e k =
    e ∙ ap (λ y. if bytes_eq (text_bytes v.name) n then init_meaning m (init_view v.init) else y) (k ∙ ap (λ j. among_globals m (map global_view (drop j vs)) n z) p)
    ∙ ap (λ (w : Global_). among_globals m (global_view w ∷ map global_view (drop (i + 1) vs)) n z) is
    ∙ sym (at_drop_more (λ ws. among_globals m (map global_view ws) n z) vs i v h)

joined : (b c : Bool) (p z : Meaning) → (if b then p else if c then p else z) ≡ (if b || c then p else z)
joined true c p z = refl
joined false c p z = refl

pub param_put : (ts : List Text) (i j : ℕ) (t : Text) (n : List ℕ) (x y z : Meaning) → j ≡ i + 1 → i < length ts → t ≡ get_or ts i t → x ≡ (if bytes_eq (text_bytes t) n then a_parameter else y) → y ≡ (if is_in n (texts_view (drop j ts)) then a_parameter else z) → x ≡ (if is_in n (texts_view (drop i ts)) then a_parameter else z)
param_put ts i j t n x y z p h is e k =
    e ∙ ap (λ y. if bytes_eq (text_bytes t) n then a_parameter else y) (k ∙ ap (λ j. if is_in n (texts_view (drop j ts)) then a_parameter else z) p)
    ∙ joined (bytes_eq (text_bytes t) n) (is_in n (texts_view (drop (i + 1) ts))) a_parameter z
    ∙ ap (λ (u : Text). if is_in n (text_bytes u ∷ texts_view (drop (i + 1) ts)) then a_parameter else z) is
    ∙ sym (at_drop_more (λ us. if is_in n (texts_view us) then a_parameter else z) ts i t h)

-- what is found under a name after another was put in
pub found_put : (b : Bool) (v : CodeMeaning) (o x : Option CodeMeaning) → x ≡ cond b (Some v) o → meaning_view x ≡ (if b then meaning_view (Some v) else meaning_view o)
found_put true v o x e = ap meaning_view e
found_put false v o x e = ap meaning_view e

-- .. and so are the members' numbers
pub numbered_put : (m : Module) (b : Bool) (v : CodeMeaning) (o x : Option CodeMeaning) → x ≡ cond b (Some v) o → IsNumbered m (Some v) → IsNumbered m o → IsNumbered m x
numbered_put m true v o x e h k = subst (IsNumbered m) (sym e) h
numbered_put m false v o x e h k = subst (IsNumbered m) (sym e) k

over_nothing : (ts : List PlainTable) (n : List ℕ) → tables_over ts n nothing ≡ among_tables ts n
over_nothing [] n = refl
over_nothing (t ∷ ts) n = ap (λ x. if bytes_eq t.name n then a_table t else x) (over_nothing ts n)

-- after all declarations, over what was there before
pub all_put : (m : Module) (n : List ℕ) (a b c d e : Meaning) → b ≡ tables_over m.tables n a → c ≡ among_functions m.functions n b → d ≡ among_globals m m.globals n c → e ≡ (if is_in n m.params then a_parameter else d) → e ≡ declared_over m n a
all_put m n a b c d e i j k l = l ∙ ap (λ x. if is_in n m.params then a_parameter else x) (k ∙ ap (among_globals m m.globals n) (j ∙ ap (among_functions m.functions n) i))

pub all_known : (m : Module) (n : List ℕ) (a e : Meaning) → a ≡ nothing → e ≡ declared_over m n a → e ≡ module_meaning m n
all_known m n a e h k =
    k ∙ ap (declared_over m n) h
    ∙ ap (λ t. if is_in n m.params then a_parameter else among_globals m m.globals n (among_functions m.functions n t)) (over_nothing m.tables n)

-- nothing is found in an empty map
pub none_found : (es : List (List ℕ × CodeMeaning)) (n : List ℕ) → es ≡ [] → meaning_view (lookup (bytes_eq n) es) ≡ nothing
none_found es n h = ap (λ es. meaning_view (lookup (bytes_eq n) es)) h

pub none_numbered : (m : Module) (es : List (List ℕ × CodeMeaning)) (n : List ℕ) → es ≡ [] → IsNumbered m (lookup (bytes_eq n) es)
none_numbered m es n h = subst (λ es. IsNumbered m (lookup (bytes_eq n) es)) (sym h) tt
