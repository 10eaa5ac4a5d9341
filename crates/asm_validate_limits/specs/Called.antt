-- The calls of foreign functions that the code names.
use Rattle.std.specs.Prelude.{List, [], ◌∷◌, map}
use Rattle.sem_words.specs.declared.list.List.{List as Listed}
use Rattle.sem_words.specs.Lists.{list_items}
use Rattle.asm_lang.specs.Modules.{Module}
use Rattle.asm_lang_valid.specs.LimitRows.{ForeignCall}
use Rattle.asm_names.specs.Members.{IsFirst, import_at}
use Rattle.asm_validate_limits.specs.declared.calls.ForeignCall.{ForeignCall as CodeCall}

-- a call in this module
abbrev pub foreign_view : Module → CodeCall → ForeignCall
foreign_view m f = record { name = import_at m.globals f.declaration; params = f.params; result = f.result }

abbrev pub foreign_list : Module → Listed CodeCall → List ForeignCall
foreign_list m l = map (foreign_view m) (list_items l)

-- each is by the first declaration that imports its function, so that equal names have equal numbers
abbrev pub EachIsFirst : Module → List CodeCall → Type 0
EachIsFirst m [] = Unit {0}
EachIsFirst m (f ∷ fs) = IsFirst m f.declaration × EachIsFirst m fs
