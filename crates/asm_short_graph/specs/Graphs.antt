-- A module as a graph: its functions and after them its tables, by their numbers. A function leads to what it calls, a table to
-- its members.
use Rattle.std.specs.Prelude.{ℕ, suc, Bool, true, false, List, [], ◌∷◌, ◌++◌, map, bytes_eq, if◌then◌else◌}
use Rattle.std.specs.Borrow.{Bor}
use Rattle.asm_lang.specs.Modules.{Function, Table, Module}
use Rattle.asm_lang_valid.specs.Scope.{Meaning, a_table, module_meaning}
use Rattle.asm_lang_valid.specs.NameRows.{is_function}
use Rattle.asm_lang_valid.specs.Typing.{Scope, named}
use Rattle.asm_lang_valid.specs.Typed.{scope_of}
use Rattle.asm_lang_valid.specs.Refusal.{Exported, exported_from}
use Rattle.asm_short_lang.specs.Uses.{Use, of_variable, of_view, of_callee, of_table, stmts_uses}

-- the names that the code lends
abbrev pub names_in : List (Bor (List ℕ)) → List (List ℕ)
names_in bs = map (λ (b : Bor (List ℕ)). b.now) bs

abbrev pub function_names : Module → List (List ℕ)
function_names m = map (λ (f : Function). f.name) m.functions

abbrev pub table_names : Module → List (List ℕ)
table_names m = map (λ (t : Table). t.name) m.tables

abbrev pub node_names : Module → List (List ℕ)
node_names m = function_names m ++ table_names m

-- the number of the first that is this name, or how many there are
abbrev pub first_number : List (List ℕ) → List ℕ → ℕ
first_number [] n = 0
first_number (x ∷ xs) n = if bytes_eq x n then 0 else suc (first_number xs n)

abbrev pub node_of : Module → List ℕ → ℕ
node_of m n = first_number (node_names m) n

abbrev pub is_table : Meaning → Bool
is_table (a_table t) = true
is_table _ = false

-- ---- links

abbrev pub link_if : Bool → Module → List ℕ → List ℕ
link_if true m n = node_of m n ∷ []
link_if false m n = []

abbrev pub use_links : Scope → Use → List ℕ
use_links c (of_variable n) = []
use_links c (of_view n) = []
use_links c (of_callee n) = link_if (is_function (named c n)) c.home n
use_links c (of_table n) = link_if (is_table (named c n)) c.home n

abbrev pub uses_links : Scope → List Use → List ℕ
uses_links c [] = []
uses_links c (u ∷ us) = use_links c u ++ uses_links c us

abbrev pub function_links : Module → Function → List ℕ
function_links m f = uses_links (scope_of m f) (stmts_uses f.body)

abbrev pub member_links : Module → List ℕ → List ℕ
member_links m n = link_if (is_function (module_meaning m n)) m n

abbrev pub members_links : Module → List (List ℕ) → List ℕ
members_links m [] = []
members_links m (n ∷ ns) = member_links m n ++ members_links m ns

abbrev pub table_links : Module → Table → List ℕ
table_links m t = members_links m t.members

abbrev pub module_links : Module → List (List ℕ)
module_links m = map (function_links m) m.functions ++ map (table_links m) m.tables

-- the numbers of exported functions
abbrev pub first_nodes : Module → List ℕ
first_nodes m = map (λ (e : Exported). e.function) (exported_from m m.exports)
