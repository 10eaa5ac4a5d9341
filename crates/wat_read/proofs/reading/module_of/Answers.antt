use Rattle.std.proofs.Common.{map, ap, ◌∙◌}
use Rattle.wasm_tree.specs.Views as views
use Rattle.wat_read.proofs.Same.{same_module}
use Rattle.wat_read.proofs.reading.module_of.Goals as goal

pub returns : goal.returns
returns c = λ names_of fs h types.
    same_module _ _ _ _ _ _ _ _ _ _ _ _ _ _ _ _ _ _ _ _ _ _
    (ap (map views.type_of) c.from_vec.ensures ∙ types)
    h.described.imports h.functions.types h.described.tables h.described.memories h.described.globals
    h.listed.exports h.listed.start h.listed.elements h.functions.bodies h.listed.segments
