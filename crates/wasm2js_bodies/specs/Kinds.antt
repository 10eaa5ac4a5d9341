-- The kinds of instructions that a walk over a body tells apart.
use Rattle.std.specs.Prelude.{◌≡◌, Bool, true, false}
use Rattle.sem_words.specs.Lists.{list_items}
use Rattle.wasm_lang.specs.Instructions as flat
use Rattle.wasm_lang.specs.Instructions.{Instruction}
use Rattle.wasm2js_bodies.specs.declared.kinds.Kind.{Kind}
use Rattle.wasm2js_bodies.specs.declared.kinds.Kind.TheVariants as kinds

abbrev pub is_plain : Instruction → Bool
is_plain (flat.plain p) = true
is_plain _ = false

abbrev pub IsKind : Kind → Instruction → Type 0
IsKind kinds.Plain i = is_plain i ≡ true
IsKind kinds.Unreachable i = i ≡ flat.unreachable
IsKind (kinds.Block r) i = i ≡ flat.block r
IsKind (kinds.Loop r) i = i ≡ flat.loop r
IsKind (kinds.If r) i = i ≡ flat.if_block r
IsKind kinds.Else i = i ≡ flat.else_mark
IsKind kinds.End i = i ≡ flat.end_mark
IsKind (kinds.Br l) i = i ≡ flat.br l
IsKind (kinds.BrIf l) i = i ≡ flat.br_if l
IsKind (kinds.BrTable ls l) i = i ≡ flat.br_table (list_items ls.now) l
IsKind kinds.Return i = i ≡ flat.return
IsKind (kinds.Call f) i = i ≡ flat.call f
IsKind (kinds.CallIndirect t) i = i ≡ flat.call_indirect t
