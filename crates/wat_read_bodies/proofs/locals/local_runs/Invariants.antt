use Rattle.std.proofs.Common.{◌≡◌, ◌++◌, drop}
use Rattle.wasm_tree.specs.Views.{locals_in}
use Rattle.wat_lang.specs.declared.parts.Part.TheVariants.{Local}
use Rattle.wat_lang.specs.Names.{types_in}
use Rattle.wat_read_tokens.specs.Marks.{marks_of}
use Rattle.wat_read_bodies.proofs.locals.local_runs.Given as goal

abbrev pub invariant-loop-token : goal.invariant-loop-token
invariant-loop-token l = locals_in l.runs.items ++ types_in Local (marks_of (drop l.token-index l.parts)) ≡ types_in Local (marks_of l.parts)
