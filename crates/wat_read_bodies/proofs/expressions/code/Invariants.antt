use Rattle.std.proofs.Common.{◌≡◌, ◌++◌, [], drop, map}
use Rattle.wasm_tree.specs.Views.{instr_of}
use Rattle.wat_lang.specs.Names.{names_at}
use Rattle.wat_lang.specs.Modules.{instructions_in}
use Rattle.wat_read_names.specs.Bound.{space_names}
use Rattle.wat_read_tokens.specs.Marks.{marks_of}
use Rattle.wat_read_bodies.proofs.expressions.code.Given as goal

abbrev pub invariant-loop-n : goal.invariant-loop-n
invariant-loop-n l =
    map instr_of l.list.items ++ instructions_in (names_at (space_names l.spaces) l.locals) l.labels (marks_of (drop l.n l.parts))
    ≡ instructions_in (names_at (space_names l.spaces) l.locals) [] (marks_of l.parts)
