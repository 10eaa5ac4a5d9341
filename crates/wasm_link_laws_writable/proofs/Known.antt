-- What is known of each of two modules that can be linked and are spelled short.
use Rattle.std.proofs.Common.{◌≡◌, ℕ, zero, suc, ◌+◌, ◌^◌, ◌<◌, ◌≤◌, Bool, true, false, List, [], ◌∷◌, ◌++◌, length, map, Option, Some, None, refl, sym, ap, ◌∙◌, subst, arith}
use Rattle.std.specs.Prelude.{All, if◌then◌else◌}
use Rattle.std.specs.List.{AllByRecursion}
use Rattle.std.proofs.lemmas.List.Elements.{recursion_from_All}
use Rattle.wasm_lang.specs.declared.types.ImportKind.{ImportKind}
use Rattle.wasm_lang.specs.declared.types.ImportKind.TheVariants as imports
use Rattle.wasm_lang.specs.declared.types.ValType.TheVariants.{I32}
use Rattle.wasm_lang.specs.Instructions.{Instruction}
use Rattle.wasm_lang.specs.Modules.{Imported, GlobalEntry, ElementSegment, FunctionBody, WasmModule}
use Rattle.wasm_lang.specs.Shape.{HasOpcode, IsShapedCode, IsShaped}
use Rattle.wasm_lang.proofs.Shaped.{spelled_shaped}
use Rattle.wasm_lang_valid.specs.Profile.{constant_offset, passes, table_length, memory_bytes}
use Rattle.wasm_lang_valid.specs.Validity.{IsValidModule}
use Rattle.wasm_binary_write.proofs.BestModule.{best_module}
use Rattle.wasm_laws_write.specs.Fits.{InstructionFits, BodyFits}
use Rattle.wasm_link_lang.specs.Pairs.{addressed}
use Rattle.wasm_link_lang.specs.Reductions.{entries}
use Rattle.wasm_link_lang.specs.Refusal.{profile_row, crowded}
use Rattle.wasm_link_code.specs.Laws.{no_bases}
use Rattle.wasm_link_code.specs.Linked.{stays, staying, moved_kind, moved_import, memory_import}
use Rattle.wasm_link_code.proofs.CodeAddresses.{first_is_addressed}
use Rattle.wasm_link_laws_modules.proofs.Facts.{InItself, in_itself}
use Rattle.wasm_link_laws_writable.specs.Laws.{IsSpelledShort}
use Rattle.wasm_link_laws_writable.proofs.Entries.{NoTable, IsPlaced}
use Rattle.wasm_link_laws_writable.proofs.Facts.{all_inside, own_entries_are}
use Rattle.wasm_link_laws_writable.proofs.Lengths.{IsLow, is_low}
use Rattle.wasm_link_laws_writable.proofs.MovedBodies.{IsReadyBody, at_bases}
use Rattle.wasm_link_laws_writable.proofs.MovedCode.{IsReady}
use Rattle.wasm_link_laws_writable.proofs.Told.{IsTold, OffsetFits, module_told}
use Rattle.wasm_link_laws_writable.proofs.Typed.{InTypes, bodies_types}

pub record IsKnown (m : WasmModule) : Type 0 where
  pub told : IsTold m
  pub low : IsLow m
  pub shaped : IsShaped m
  pub valid : IsValidModule m
  pub itself : InItself m
  pub room : crowded m 0 m.bodies ≡ None

pub known : (m : WasmModule) → IsSpelledShort m → IsValidModule m → profile_row m ≡ None → crowded m 0 m.bodies ≡ None → IsKnown m
known m s valid row room =
    let best = best_module m s.0 s.1 in
    record {
      told = module_told m s.0 s.1;
      low = is_low m (let short = s.2 in let b = best.1 in omega (arith, short, b));
      shaped = spelled_shaped s.0 m s.1;
      valid = valid;
      itself = in_itself m row;
      room = room;
    }

-- ---- bodies

ready_code : (n : ℕ) (code : List Instruction) → AllByRecursion InstructionFits code → AllByRecursion HasOpcode code → AllByRecursion (InTypes n) code → AllByRecursion (IsReady n) code
ready_code n [] a b c = tt
ready_code n (i ∷ is) a b c = (record { fits = a.0; opcode = b.0; types = c.0 }, ready_code n is a.1 b.1 c.1)

ready_all : (n : ℕ) (bs : List FunctionBody) → AllByRecursion BodyFits bs → AllByRecursion (λ (b : FunctionBody). IsShapedCode b.code) bs → AllByRecursion (λ (b : FunctionBody). AllByRecursion (InTypes n) b.code) bs
    → AllByRecursion (IsReadyBody n) bs
ready_all n [] f s t = tt
ready_all n (b ∷ bs) f s t = (
  record { fits = f.0; code = ready_code n b.code (recursion_from_All InstructionFits b.code f.0.code) (recursion_from_All HasOpcode b.code s.0.opcodes) t.0 },
  ready_all n bs f.1 s.1 t.1,
)

pub ready_bodies : (m : WasmModule) → IsKnown m → AllByRecursion (IsReadyBody (length m.types)) m.bodies
ready_bodies m k = ready_all (length m.types) m.bodies k.told.bodies (recursion_from_All (λ (b : FunctionBody). IsShapedCode b.code) m.bodies k.shaped.bodies) (bodies_types m k.valid)

pub at_none : (bs : List FunctionBody) → at_bases no_bases bs ≡ bs
at_none [] = refl
at_none (b ∷ bs) = ap (λ is. record b { code = is } ∷ at_bases no_bases bs) (first_is_addressed b.code) ∙ ap (λ l. b ∷ l) (at_none bs)

-- ---- globals and elements

opcodes_of : (gs : List GlobalEntry) → AllByRecursion (λ (g : GlobalEntry). IsShapedCode g.init) gs → AllByRecursion (λ (g : GlobalEntry). AllByRecursion HasOpcode g.init) gs
opcodes_of [] a = tt
opcodes_of (g ∷ gs) a = (recursion_from_All HasOpcode g.init a.0.opcodes, opcodes_of gs a.1)

pub global_opcodes : (m : WasmModule) → IsKnown m → AllByRecursion (λ (g : GlobalEntry). AllByRecursion HasOpcode g.init) m.globals
global_opcodes m k = opcodes_of m.globals (recursion_from_All (λ (g : GlobalEntry). IsShapedCode g.init) m.globals k.shaped.globals)

placed_all : (room : ℕ) (es : List ElementSegment) → AllByRecursion OffsetFits es → AllByRecursion (λ (e : ElementSegment). IsShapedCode e.offset) es
    → AllByRecursion (λ (e : ElementSegment). passes (constant_offset e.offset) (length e.functions) room ≡ false) es → AllByRecursion (IsPlaced room) es
placed_all room [] a b c = tt
placed_all room (e ∷ es) a b c = (record { fits = a.0; opcodes = recursion_from_All HasOpcode e.offset b.0.opcodes; inside = c.0 }, placed_all room es a.1 b.1 c.1)

pub placed : (m : WasmModule) → IsKnown m → AllByRecursion (IsPlaced (entries m)) m.elements
placed m k =
    subst (λ room. AllByRecursion (IsPlaced room) m.elements) (own_entries_are m k.itself)
    (placed_all (table_length m) m.elements k.told.elements (recursion_from_All (λ (e : ElementSegment). IsShapedCode e.offset) m.elements k.shaped.elements)
    (all_inside (table_length m) (memory_bytes m) 0 m.elements m.segments k.itself.within))

-- ---- imports

abbrev pub HasNoTable : Imported → Type 0
HasNoTable i = NoTable i.kind

pub staying_tables : (other : WasmModule) (is : List Imported) → AllByRecursion HasNoTable (staying other is)
staying_tables other [] = tt
staying_tables other (i ∷ is) = by i.kind i.module_name i.name (staying_tables other is)
  where
    either : (b : Bool) (j : Imported) → HasNoTable j → AllByRecursion HasNoTable (staying other is) → AllByRecursion HasNoTable (if b then j ∷ staying other is else staying other is)
    either true j h rest = (h, rest)
    either false j h rest = rest

    by : (kind : ImportKind) (n m : List ℕ) → AllByRecursion HasNoTable (staying other is) → let j : Imported = record { module_name = n; name = m; kind = kind } in AllByRecursion HasNoTable (staying other (j ∷ is))
    by (imports.Func t) n m rest = let j : Imported = record { module_name = n; name = m; kind = imports.Func t } in either (stays other j) j tt rest
    by (imports.Table l) n m rest = rest
    by (imports.Memory l) n m rest = rest
    by (imports.Global g) n m rest = (tt, rest)

moved_no_table : (n : ℕ) (kind : ImportKind) → NoTable kind → NoTable (moved_kind n kind)
moved_no_table n (imports.Func t) h = tt
moved_no_table n (imports.Table l) h = h
moved_no_table n (imports.Memory l) h = tt
moved_no_table n (imports.Global g) h = tt

pub moved_tables : (n : ℕ) (is : List Imported) → AllByRecursion HasNoTable is → AllByRecursion HasNoTable (map (moved_import n) is)
moved_tables n [] a = tt
moved_tables n (i ∷ is) a = (moved_no_table n i.kind a.0, moved_tables n is a.1)

pub memory_tables : (least most : Option ℕ) → AllByRecursion HasNoTable (memory_import least most)
memory_tables None most = tt
memory_tables (Some n) most = (tt, tt)
