-- What the code says of a name, as a meaning.
use Rattle.std.specs.Prelude.{ℕ, List, [], ◌∷◌, Option, Some, None, if◌then◌else◌}
use Rattle.std.specs.Str.{bytes_eq}
use Rattle.indexmap.specs.IndexMap.{IndexMap, get_by}
use Rattle.asm_lang.specs.Modules as tables
use Rattle.sem_words.specs.Lists.{text_bytes}
use Rattle.asm_tree.specs.Views.{function_view, table_view}
use Rattle.asm_lang_valid.specs.Scope as scopes
use Rattle.asm_names.specs.declared.meaning.Meaning.{Meaning}
use Rattle.asm_names.specs.declared.meaning.Meaning.TheVariants.{Int, Outside, Foreign, Builtin, View, Function, Table, Parameter}

-- None where the name isn't declared
abbrev pub meaning_view : Option Meaning → scopes.Meaning
meaning_view None = scopes.nothing
meaning_view (Some Int) = scopes.an_int
meaning_view (Some Outside) = scopes.an_outside
meaning_view (Some (Foreign f)) = scopes.a_foreign (text_bytes f.name.now)
meaning_view (Some (Builtin b)) = scopes.a_builtin b
meaning_view (Some (View e)) = scopes.a_view e
meaning_view (Some (Function f)) = scopes.a_function (function_view f.now)
meaning_view (Some (Table t)) = scopes.a_table (table_view t.now)
meaning_view (Some Parameter) = scopes.a_parameter

-- what a map has under a name
abbrev pub seen : {S : Type 0} → IndexMap (List ℕ) Meaning S → List ℕ → scopes.Meaning
seen m n = meaning_view (get_by (bytes_eq n) m)

-- the tables' names before others
abbrev pub tables_over : List tables.Table → List ℕ → scopes.Meaning → scopes.Meaning
tables_over [] n otherwise = otherwise
tables_over (t ∷ ts) n otherwise = if bytes_eq t.name n then scopes.a_table t else tables_over ts n otherwise

-- a module's names before others
abbrev pub declared_over : tables.Module → List ℕ → scopes.Meaning → scopes.Meaning
declared_over m n otherwise =
    if scopes.is_in n m.params then scopes.a_parameter
    else scopes.among_globals m m.globals n (scopes.among_functions m.functions n (tables_over m.tables n otherwise))
