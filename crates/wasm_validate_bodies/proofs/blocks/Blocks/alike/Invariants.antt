use Rattle.std.proofs.Common.{◌≡◌, drop}
use Rattle.std.specs.Prelude.{map}
use Rattle.wasm_lang_valid.specs.State.{label_of}
use Rattle.wasm_lang_valid.specs.Typing.{alike}
use Rattle.wasm_validate_bodies.proofs.blocks.Blocks.alike.Given as goal

abbrev pub invariant-loop-l : goal.invariant-loop-l
invariant-loop-l l = alike (map label_of l.self) l.labels l.label ≡ alike (map label_of l.self) (drop l.l-index l.labels) l.label
