-- The names that the hashers of a module and of a function rest on.
use Rattle.std.specs.List.{fold}
use Rattle.sem_words.specs.Lists.{list_items, text_bytes}
use Rattle.sem_words.specs.declared.text.Text.{Text}
use Rattle.key_hashes.specs.Hashes.{no_keys, with_key}
use Rattle.key_hashes.specs.declared.seed.Seed.{Seed}
use Rattle.asm_tree.specs.declared.tree.Init.{Init}
use Rattle.asm_tree.specs.declared.tree.Init.TheVariants.{Number, Decimal, ForeignInt, ForeignDouble, Member, Math, View}
use Rattle.asm_tree.specs.declared.tree.Exports.{Exports}
use Rattle.asm_tree.specs.declared.tree.Exports.TheVariants.{One, Many}
use Rattle.asm_tree.specs.declared.tree.Export.{Export}
use Rattle.asm_tree.specs.declared.tree.Function.{Function}
use Rattle.asm_tree.specs.declared.tree.Global_.{Global_}
use Rattle.asm_tree.specs.declared.tree.Local.{Local}
use Rattle.asm_tree.specs.declared.tree.Module.{Module}
use Rattle.asm_tree.specs.declared.tree.Param.{Param}
use Rattle.asm_tree.specs.declared.tree.Table.{Table}

abbrev pub with_text : Seed → Text → Seed
with_text s t = with_key s (text_bytes t)

-- the member of the foreign object or of the standard library that a global is
abbrev pub with_member : Seed → Init → Seed
with_member s (Number z) = s
with_member s (Decimal d) = s
with_member s (ForeignInt object field) = with_text s field
with_member s (ForeignDouble object field) = with_text s field
with_member s (Member object field) = with_text s field
with_member s (Math object field) = s
with_member s (View kind object heap) = s

abbrev pub with_global : Seed → Global_ → Seed
with_global s g = with_member (with_text s g.name) g.init

abbrev pub with_function : Seed → Function → Seed
with_function s f = with_text s f.name

abbrev pub with_table : Seed → Table → Seed
with_table s t = with_text s t.name

abbrev pub with_export : Seed → Export → Seed
with_export s e = with_text s e.key

-- the keys of exports; a single export has none
abbrev pub with_exports : Seed → Exports → Seed
with_exports s (One function) = s
with_exports s (Many exports) = fold with_export s (list_items exports)

abbrev pub module_seed : Module → Seed
module_seed m =
    with_exports (fold with_table (fold with_function (fold with_global (fold with_text no_keys (list_items m.params)) (list_items m.globals)) (list_items m.functions)) (list_items m.tables)) m.exports

abbrev pub with_param : Seed → Param → Seed
with_param s p = with_text s p.name

abbrev pub with_local : Seed → Local → Seed
with_local s l = with_text s l.name

abbrev pub function_seed : Function → Seed
function_seed f = fold with_local (fold with_param no_keys (list_items f.params)) (list_items f.locals)
