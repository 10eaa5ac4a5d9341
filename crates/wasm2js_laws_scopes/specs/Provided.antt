-- What code in a function of a translated module is given to use, where the source's code may refer to what a context holds.
use Rattle.std.specs.Prelude.{◌≡◌, ℕ, ◌^◌, ◌≤◌, ◌<◌, Bool, true, false, List, [], ◌∷◌, length, Option, Some, None, slice_get, ◌==◌, is_some}
use Rattle.std.specs.List.{list_any}
use Rattle.wasm_lang.specs.declared.types.ValType.{ValType}
use Rattle.wasm_lang.specs.declared.types.GlobalType.{GlobalType}
use Rattle.wasm_lang.specs.Instructions.{Plain, Instruction, plain}
use Rattle.wasm_lang.specs.Modules.{FunctionType}
use Rattle.wasm_lang_valid.specs.Typing.{Context, type_of, result_of as type_result}
use Rattle.asm_lang.specs.Modules.{Function, Table}
use Rattle.asm_lang_valid.specs.declared.meaning.Builtin.TheVariants.{Imul, Clz32}
use Rattle.asm_lang_valid.specs.declared.meaning.Element.TheVariants.{Int8, Uint8, Int32}
use Rattle.asm_lang_valid.specs.Scope.{a_builtin, a_function, a_table, Signature, signature_of, first_member}
use Rattle.asm_lang_valid.specs.Typing.{Scope, named}
use Rattle.wasm2js_lang.specs.Helpers.{is_wide_operator}
use Rattle.wasm2js_lang.specs.Parts.Functions.{counts_set_bits, is_signed_quotient, is_quotient, is_signed_remainder, is_remainder, is_load, is_store, is_copy, is_fill}
use Rattle.wasm2js_translation.specs.Names as names
use Rattle.wasm2js_translation.specs.Names.{Name, Fixed, numbered, fixed, spelled}
use Rattle.wasm2js_translation.specs.Words.{name_of}
use Rattle.wasm2js_laws_terms.specs.Sound.{IsInt, IsView, IsHelper, HasTrap}
use Rattle.wasm2js_translation.specs.Pairs.{local_pair, operand_pair, global_pair, names_of}
use Rattle.wasm2js_translation.specs.Rooms.{Room}
use Rattle.wasm2js_translation.specs.Tables.{words_of}
use Rattle.wasm2js_translation.specs.Bodies.{form_number}

abbrev pub signature : (params : ℕ) (result : Bool) → Signature
signature n r = record { params = n; result = r }

-- the words that a function of this type takes, and whether it has a result
abbrev pub signature_for : FunctionType → Signature
signature_for t = signature (words_of t.params) (is_some (type_result t))

-- ---- helpers

abbrev pub wide_helper : Fixed → Option Signature
wide_helper names.shift_left = Some (signature 3 true)
wide_helper names.shift_right_signed = Some (signature 3 true)
wide_helper names.shift_right = Some (signature 3 true)
wide_helper names.rotate_left = Some (signature 3 true)
wide_helper names.leading_zeros = Some (signature 2 true)
wide_helper names.trailing_zeros = Some (signature 2 true)
wide_helper names.set_bits = Some (signature 1 true)
wide_helper names.divide_signed = Some (signature 2 true)
wide_helper names.divide = Some (signature 2 true)
wide_helper names.remainder_signed = Some (signature 2 true)
wide_helper names.remainder = Some (signature 2 true)
wide_helper f = None

abbrev pub memory_helper : Fixed → Option Signature
memory_helper names.load_32 = Some (signature 1 true)
memory_helper names.load_64 = Some (signature 1 true)
memory_helper names.store_32 = Some (signature 2 false)
memory_helper names.store_64 = Some (signature 3 false)
memory_helper names.copy = Some (signature 3 false)
memory_helper names.fill = Some (signature 3 false)
memory_helper f = None

-- the instructions whose code names a helper
abbrev pub asks : Fixed → Instruction → Bool
asks names.shift_left i = is_wide_operator i
asks names.shift_right_signed i = is_wide_operator i
asks names.shift_right i = is_wide_operator i
asks names.rotate_left i = is_wide_operator i
asks names.leading_zeros i = is_wide_operator i
asks names.trailing_zeros i = is_wide_operator i
asks names.set_bits i = counts_set_bits i
asks names.divide_signed i = is_signed_quotient i
asks names.divide i = is_quotient i
asks names.remainder_signed i = is_signed_remainder i
asks names.remainder i = is_remainder i
asks names.load_32 i = is_load 4 i
asks names.load_64 i = is_load 8 i
asks names.store_32 i = is_store 4 i
asks names.store_64 i = is_store 8 i
asks names.copy i = is_copy i
asks names.fill i = is_fill i
asks f i = false

-- what the source's code calls: entries of these types, and these helpers
pub record Called : Type 0 where
  pub types : FunctionType → Bool
  pub helpers : Fixed → Bool

-- each helper that the code of an instruction names is one of these
abbrev pub AsksAmong : (Fixed → Bool) → Plain → Type 0
AsksAmong helpers p = (f : Fixed) → asks f (plain p) ≡ true → helpers f ≡ true

-- a local of the source is among these
abbrev pub IsNamed : (x : ℕ) → List ℕ → Type 0
IsNamed x xs = list_any (λ y. x == y) xs ≡ true

module _ (s : Scope) where
  -- variables
  abbrev pub AreInts : List Name → Type 0
  AreInts [] = Unit {0}
  AreInts (n ∷ ns) = IsInt s n × AreInts ns

  -- a function of so many words
  pub record IsFunction (n : Name) (form : Signature) : Type 0 where
    pub function : Function
    pub is_this : named s (spelled n) ≡ a_function function
    pub signature : signature_of function ≡ form

  -- a table of so many functions, each of so many words
  pub record IsTable (n : Name) (cells : ℕ) (form : Signature) : Type 0 where
    pub table : Table
    pub is_this : named s (spelled n) ≡ a_table table
    pub long : length table.members ≡ cells
    pub signature : first_member s.home table.members ≡ Some form

  -- ---- what a module gives to each of its functions

  -- the standard library, the trap, and the two variables for high words
  pub record HasFixed : Type 0 where
    pub multiplies : named s (name_of names.imul) ≡ a_builtin Imul
    pub counts : named s (name_of names.clz32) ≡ a_builtin Clz32
    pub traps : HasTrap s
    pub spare : IsInt s (fixed names.spare_high)
    pub high : IsInt s (fixed names.result_high)

  -- where there is a memory: views
  pub record HasMemory : Type 0 where
    pub bytes : IsView s names.view_of_bytes Uint8
    pub signed_bytes : IsView s names.view_of_signed_bytes Int8
    pub words : IsView s names.view_of_words Int32

  -- the helpers that the code of an instruction names, on words and on the memory
  abbrev pub WordsHelp : Plain → Type 0
  WordsHelp p = (f : Fixed) (form : Signature) → wide_helper f ≡ Some form → asks f (plain p) ≡ true → IsHelper s f form.params form.result

  abbrev pub MemoryHelps : Plain → Type 0
  MemoryHelps p = (f : Fixed) (form : Signature) → memory_helper f ≡ Some form → asks f (plain p) ≡ true → IsHelper s f form.params form.result

  -- what code in this context may name, where it calls these; the memory and each table have so many bytes and cells
  pub record Provides (c : Context) (is_called : Called) (memory_bytes cells : ℕ) : Type 0 where
    pub fixed : HasFixed
    pub memory : c.memory ≡ true → HasMemory
    pub helpers : (f : Fixed) (form : Signature) → wide_helper f ≡ Some form → is_called.helpers f ≡ true → IsHelper s f form.params form.result
    pub memory_helpers : c.memory ≡ true → (f : Fixed) (form : Signature) → memory_helper f ≡ Some form → is_called.helpers f ≡ true → IsHelper s f form.params form.result
    pub globals : (x : ℕ) (g : GlobalType) → slice_get c.globals x ≡ Some g → AreInts (names_of g.kind (global_pair x))
    pub functions : (f : ℕ) (t : FunctionType) → type_of c f ≡ Some t → IsFunction (numbered names.function f) (signature_for t)
    pub tables : (t : FunctionType) → is_called.types t ≡ true → IsTable (numbered names.table (form_number c.types t)) cells (signature_for t)
    pub few_bytes : memory_bytes ≤ 2 ^ 28
    pub some_cells : 0 < cells
    pub few_cells : cells ≤ 2 ^ 16

  -- ---- what a function's own variables are

  -- operands and locals of the source
  pub record HasRoom (c : Context) (r : Room) : Type 0 where
    pub operands : (d : ℕ) → d < r.height → IsInt s (operand_pair d).low
    pub high_words : (d : ℕ) → d < r.wide_height → IsInt s (operand_pair d).high
    pub locals : (x : ℕ) (t : ValType) → IsNamed x r.locals → slice_get c.locals x ≡ Some t → AreInts (names_of t (local_pair x))
