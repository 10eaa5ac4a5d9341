use Rattle.std.proofs.Common.{◌+◌, ap, ◌∙◌, arith, ◌≡◌}
use Rattle.std.specs.Prelude.{slice_get}
use Rattle.asm2wasm_lang.specs.Tables.{entries_of}
use Rattle.asm2wasm_lang.proofs.Entries.{stands}
use Rattle.asm2wasm_lang.proofs.tables_end_to_end.Goals as goal

pub returns : goal.returns
returns c m n i base t name is b h =
    let s = stands m i name m.tables 0 n base t is b h in
    let e : base + i ≡ s.0 + i = omega (arith, s.1) in
    ap (slice_get (entries_of m)) e ∙ s.2
