-- The kinds of instructions that a machine tells apart.
use Rattle.std.specs.Prelude.{◌≡◌, ℕ, Bool, true, false, not, Option, Some, None}
use Rattle.sem_words.specs.Lists.{list_items}
use Rattle.wasm_lang.specs.Instructions as flat
use Rattle.sem_words.specs.declared.word.Word.{Word}
use Rattle.sem_words.specs.declared.word.Word.TheVariants.{W32, W64}
use Rattle.wasm_lang.specs.Instructions.{Instruction, const32, const64}
use Rattle.wasm_laws_drive.specs.Equations.{is_constant}
use Rattle.wasm_run_machine.specs.declared.kinds.Kind.{Kind}
use Rattle.wasm_run_machine.specs.declared.kinds.Kind.TheVariants as kinds

-- a constant, which is no reduction
abbrev pub is_free : Instruction → Bool
is_free (flat.plain p) = is_constant p
is_free _ = false

abbrev pub constant_in : Instruction → Option Word
constant_in (flat.plain (const32 n)) = Some (W32 n)
constant_in (flat.plain (const64 n)) = Some (W64 n)
constant_in _ = None

-- another plain instruction
abbrev pub is_paid_plain : Instruction → Bool
is_paid_plain (flat.plain p) = not (is_constant p)
is_paid_plain _ = false

abbrev pub IsKind : Kind → Instruction → Type 0
IsKind kinds.Constant i = is_free i ≡ true
IsKind kinds.Plain i = is_paid_plain i ≡ true
IsKind kinds.Unreachable i = i ≡ flat.unreachable
IsKind (kinds.Block r) i = i ≡ flat.block r
IsKind (kinds.Loop r) i = i ≡ flat.loop r
IsKind (kinds.If r) i = i ≡ flat.if_block r
IsKind kinds.Else i = i ≡ flat.else_mark
IsKind kinds.End i = i ≡ flat.end_mark
IsKind (kinds.Br l) i = i ≡ flat.br l
IsKind (kinds.BrIf l) i = i ≡ flat.br_if l
IsKind (kinds.BrTable ls l) i = i ≡ flat.br_table (list_items ls.now) l
IsKind kinds.Return i = i ≡ flat.return
IsKind (kinds.Call f) i = i ≡ flat.call f
IsKind (kinds.CallIndirect t) i = i ≡ flat.call_indirect t

-- the function of an entry of the table, where there is one
abbrev pub found_entry : Option (Option ℕ) → Option ℕ
found_entry None = None
found_entry (Some e) = e
