-- The grammar of texts as data: what each rule may begin with, and what follows (chapter 6, and the profile of this product).
-- A token has a mark, which says what it is in the module.
use Rattle.std.specs.Prelude.{◌≡◌, ℕ, ◌+◌, ◌<◌, ◌≤◌, Bool, true, false, ◌||◌, List, [], ◌∷◌, ◌++◌, length, take, Option, Some, None, is_some, codes, bytes_eq}
use Rattle.wasm_lang.specs.declared.types.ValType.{ValType}
use Rattle.wasm_lang.specs.declared.types.ValType.TheVariants.{I32, I64}
use Rattle.wasm_lang.specs.Instructions.{Plain, local_get, local_set, local_tee, global_get, global_set, load, store, const32, const64, Instruction, block, loop, if_block, else_mark, end_mark, br, br_if, br_table, call, call_indirect, plain}
use Rattle.wat_lang.specs.declared.parts.Space.{Space}
use Rattle.wat_lang.specs.declared.parts.Space.TheVariants as spaces
use Rattle.wat_lang.specs.declared.parts.Part.{Part}
use Rattle.wat_lang.specs.declared.parts.Part.TheVariants.{Param, Result, Local}
use Rattle.wat_lang.specs.declared.parts.FieldKind.{FieldKind}
use Rattle.wat_lang.specs.declared.parts.FieldKind.TheVariants as fields
use Rattle.wat_lang.specs.declared.parts.Rule.{Rule}
use Rattle.wat_lang.specs.declared.parts.Rule.TheVariants as rules
use Rattle.wat_lang.specs.Tokens.{Class, opens, closes, string, atom, Token}
use Rattle.wat_lang.specs.Numbers.{number_of, is_id, access_of}
use Rattle.wat_lang.specs.Words.{instruction_names}

-- ---- tokens that may stand at a place

pub data Want : Type 0 where
  an_opening a_closing a_string : Want
  a_number an_id : Want
  an_index : Want  -- a number or an id
  a_value_type : Want
  offset_atom alignment_atom : Want  -- `offset=` or `align=`, and a number
  a_word : (word : List ℕ) → Want

abbrev pub value_type_by : (narrow wide : Bool) → Option ValType
value_type_by true wide = Some I32
value_type_by false true = Some I64
value_type_by false false = None

-- `i32` or `i64`
abbrev pub value_type_of : List ℕ → Option ValType
value_type_of bs = value_type_by (bytes_eq (codes "i32") bs) (bytes_eq (codes "i64") bs)

abbrev pub is_number : List ℕ → Bool
is_number bs = is_some (number_of bs)

-- the test of the bytes of an atom; false for other tokens
abbrev pub atom_meets : (List ℕ → Bool) → Class → Bool
atom_meets test (atom bs) = test bs
atom_meets test _ = false

abbrev pub is_opening : Class → Bool
is_opening opens = true
is_opening _ = false

abbrev pub is_closing : Class → Bool
is_closing closes = true
is_closing _ = false

abbrev pub is_string : Class → Bool
is_string (string value) = true
is_string _ = false

abbrev pub meets : Want → Class → Bool
meets an_opening c = is_opening c
meets a_closing c = is_closing c
meets a_string c = is_string c
meets a_number c = atom_meets is_number c
meets an_id c = atom_meets is_id c
meets an_index c = atom_meets (λ bs. is_number bs || is_id bs) c
meets a_value_type c = atom_meets (λ bs. is_some (value_type_of bs)) c
meets offset_atom c = atom_meets (λ bs. is_some (access_of (codes "offset=") bs)) c
meets alignment_atom c = atom_meets (λ bs. is_some (access_of (codes "align=") bs)) c
meets (a_word word) c = atom_meets (bytes_eq word) c

-- ---- what a token is in the module

pub data Mark : Type 0 where
  nothing : Mark  -- it stands for the form alone
  a_field : FieldKind → Mark
  a_described an_exported : Space → Mark  -- what is imported and exported
  binds uses : Space → Mark
  a_type_use : Mark  -- the type that a function has
  a_type : Part → Mark  -- of a parameter, a result or a local
  a_block_result a_global_type mutable : Mark
  a_minimum : Space → Mark  -- of a table or a memory
  a_maximum : Mark
  a_module_name a_field_name an_export_name some_bytes : Mark  -- strings
  a_word_32 a_word_64 an_offset an_alignment : Mark  -- immediates
  an_instruction : (form : Instruction) → Mark  -- its form, as the table of opcodes has it

-- ---- rules

pub data Item : Type 0 where
  token : Want → Mark → Item
  rule : Rule → Item

-- a token that a rule may begin with, and what follows it
pub record Row : Type 0 where
  pub want : Want
  pub mark : Mark
  pub next : List Item

abbrev pub row : Want → Mark → List Item → Row
row want mark next = record { want = want; mark = mark; next = next }

abbrev pub word_row : List ℕ → Mark → List Item → Row
word_row word mark next = row (a_word word) mark next

abbrev pub opened : Item
opened = token an_opening nothing

abbrev pub closed : Item
closed = token a_closing nothing

abbrev pub says : List ℕ → Item
says word = token (a_word word) nothing

abbrev pub uses_one : Space → Item
uses_one space = token an_index (uses space)

-- `( type N )`, behind which the head of a function stands
abbrev pub function_type : List Item
function_type = opened ∷ says (codes "type") ∷ token an_index a_type_use ∷ closed ∷ []

abbrev pub constant : List Item
constant = opened ∷ rule rules.Constant ∷ []

-- the immediates of an instruction, and for a block all up to its end
abbrev pub plain_immediates : Plain → List Item
plain_immediates (local_get x) = uses_one spaces.Local ∷ []
plain_immediates (local_set x) = uses_one spaces.Local ∷ []
plain_immediates (local_tee x) = uses_one spaces.Local ∷ []
plain_immediates (global_get x) = uses_one spaces.Global ∷ []
plain_immediates (global_set x) = uses_one spaces.Global ∷ []
plain_immediates (load op align offset) = rule rules.Offset ∷ rule rules.Align ∷ []
plain_immediates (store op align offset) = rule rules.Offset ∷ rule rules.Align ∷ []
plain_immediates (const32 word) = token a_number a_word_32 ∷ []
plain_immediates (const64 word) = token a_number a_word_64 ∷ []
plain_immediates p = []

abbrev pub block_items : Item → List Item
block_items end = rule rules.Label ∷ rule rules.BlockResult ∷ rule rules.Code ∷ end ∷ []

abbrev pub end_item : Item
end_item = token (a_word (codes "end")) (an_instruction end_mark)

abbrev pub immediates : Instruction → List Item
immediates (block r) = block_items end_item
immediates (loop r) = block_items end_item
immediates (if_block r) = block_items (rule rules.Arms)
immediates (br l) = uses_one spaces.Label ∷ []
immediates (br_if l) = uses_one spaces.Label ∷ []
immediates (br_table ls l) = uses_one spaces.Label ∷ rule rules.Labels ∷ []
immediates (call f) = uses_one spaces.Func ∷ []
immediates (call_indirect t) = opened ∷ says (codes "type") ∷ uses_one spaces.Type ∷ closed ∷ []
immediates (plain p) = plain_immediates p
immediates i = []

-- `else` and `end` begin no instruction
abbrev pub begins_instruction : Instruction → Bool
begins_instruction else_mark = false
begins_instruction end_mark = false
begins_instruction i = true

abbrev pub instruction_row : List ℕ × Instruction → Row
instruction_row w = word_row w.0 (an_instruction w.1) (immediates w.1 ++ rule rules.Code ∷ [])

abbrev pub instruction_rows : List (List ℕ × Instruction) → List Row
instruction_rows [] = []
instruction_rows (w ∷ ws) = elim (begins_instruction w.1) [ true ↦ instruction_row w ∷ instruction_rows ws | false ↦ instruction_rows ws ]

abbrev pub field_rows : List Row
field_rows =
    word_row (codes "type") (a_field fields.Type) (rule (rules.Bound spaces.Type) ∷ opened ∷ says (codes "func") ∷ rule (rules.Heads false Param) ∷ closed ∷ [])
    ∷ word_row (codes "import") (a_field fields.Import) (token a_string a_module_name ∷ token a_string a_field_name ∷ opened ∷ rule rules.Described ∷ closed ∷ [])
    ∷ word_row (codes "func") (a_field fields.Func) (rule (rules.Bound spaces.Func) ∷ (function_type ++ rule (rules.Heads true Param) ∷ rule rules.Code ∷ []))
    ∷ word_row (codes "table") (a_field fields.Table) (rule (rules.Bound spaces.Table) ∷ token a_number (a_minimum spaces.Table) ∷ rule rules.TableEnd ∷ [])
    ∷ word_row (codes "memory") (a_field fields.Memory) (rule (rules.Bound spaces.Memory) ∷ token a_number (a_minimum spaces.Memory) ∷ rule rules.Maximum ∷ [])
    ∷ word_row (codes "global") (a_field fields.Global) (rule (rules.Bound spaces.Global) ∷ rule rules.Kind ∷ constant)
    ∷ word_row (codes "export") (a_field fields.Export) (token a_string an_export_name ∷ opened ∷ rule rules.Exported ∷ closed ∷ [])
    ∷ word_row (codes "start") (a_field fields.Start) (uses_one spaces.Func ∷ [])
    ∷ word_row (codes "elem") (a_field fields.Elem) (rule (rules.Bound spaces.Elem) ∷ (constant ++ rule rules.FuncWord ∷ rule rules.Functions ∷ []))
    ∷ word_row (codes "data") (a_field fields.Data) (rule (rules.Bound spaces.Data) ∷ (constant ++ rule rules.Strings ∷ []))
    ∷ []

abbrev pub described_rows : List Row
described_rows =
    word_row (codes "func") (a_described spaces.Func) (rule (rules.Bound spaces.Func) ∷ (function_type ++ rule (rules.Heads false Param) ∷ []))
    ∷ word_row (codes "table") (a_described spaces.Table) (rule (rules.Bound spaces.Table) ∷ token a_number (a_minimum spaces.Table) ∷ rule rules.TableEnd ∷ [])
    ∷ word_row (codes "memory") (a_described spaces.Memory) (rule (rules.Bound spaces.Memory) ∷ token a_number (a_minimum spaces.Memory) ∷ rule rules.Maximum ∷ [])
    ∷ word_row (codes "global") (a_described spaces.Global) (rule (rules.Bound spaces.Global) ∷ rule rules.Kind ∷ [])
    ∷ []

abbrev pub exported_row : List ℕ → Space → Row
exported_row word space = word_row word (an_exported space) (uses_one space ∷ [])

-- a list of the head, with what may follow it: no list of an earlier part
abbrev pub head_row : Bool → List ℕ → Part → Row
head_row locals word part = word_row word nothing (rule (rules.Types part) ∷ closed ∷ rule (rules.Heads locals part) ∷ [])

abbrev pub local_rows : Bool → List Row
local_rows true = head_row true (codes "local") Local ∷ []
local_rows false = []

abbrev pub head_rows : Bool → Part → List Row
head_rows locals Param = head_row locals (codes "param") Param ∷ head_row locals (codes "result") Result ∷ local_rows locals
head_rows locals Result = head_row locals (codes "result") Result ∷ local_rows locals
head_rows locals Local = local_rows locals

-- one parameter or local may have an id
abbrev pub id_rows : Part → List Row
id_rows Result = []
id_rows part = row an_id (binds spaces.Local) (token a_value_type (a_type part) ∷ []) ∷ []

abbrev pub constant_rows : List Row
constant_rows =
    word_row (codes "i32.const") (an_instruction (plain (const32 0))) (token a_number a_word_32 ∷ closed ∷ [])
    ∷ word_row (codes "i64.const") (an_instruction (plain (const64 0))) (token a_number a_word_64 ∷ closed ∷ [])
    ∷ word_row (codes "global.get") (an_instruction (plain (global_get 0))) (uses_one spaces.Global ∷ closed ∷ [])
    ∷ []

-- what each rule may begin with
unfoldable pub rows : Rule → List Row
rows rules.Grammar = row an_opening nothing (says (codes "module") ∷ rule rules.Name ∷ rule rules.Fields ∷ closed ∷ []) ∷ []
rows rules.Name = row an_id nothing [] ∷ []
rows (rules.Bound space) = row an_id (binds space) [] ∷ []
rows rules.Fields = row an_opening nothing (rule rules.Field ∷ closed ∷ rule rules.Fields ∷ []) ∷ []
rows rules.Field = field_rows
rows rules.Described = described_rows
rows rules.Exported = exported_row (codes "func") spaces.Func ∷ exported_row (codes "table") spaces.Table ∷ exported_row (codes "memory") spaces.Memory ∷ exported_row (codes "global") spaces.Global ∷ []
rows (rules.Heads locals part) = row an_opening nothing (rule (rules.Head locals part) ∷ []) ∷ []
rows (rules.Head locals part) = head_rows locals part
rows (rules.Types part) = row a_value_type (a_type part) (rule (rules.More part) ∷ []) ∷ id_rows part
rows (rules.More part) = row a_value_type (a_type part) (rule (rules.More part) ∷ []) ∷ []
rows rules.TableEnd = row a_number a_maximum (says (codes "funcref") ∷ []) ∷ word_row (codes "funcref") nothing [] ∷ []
rows rules.Maximum = row a_number a_maximum [] ∷ []
rows rules.Kind = row a_value_type a_global_type [] ∷ row an_opening nothing (token (a_word (codes "mut")) mutable ∷ token a_value_type a_global_type ∷ closed ∷ []) ∷ []
rows rules.Constant = constant_rows
rows rules.Functions = row an_index (uses spaces.Func) (rule rules.Functions ∷ []) ∷ []
rows rules.Labels = row an_index (uses spaces.Label) (rule rules.Labels ∷ []) ∷ []
rows rules.Strings = row a_string some_bytes (rule rules.Strings ∷ []) ∷ []
rows rules.FuncWord = word_row (codes "func") nothing [] ∷ []
rows rules.Code = instruction_rows instruction_names
rows rules.Label = row an_id (binds spaces.Label) [] ∷ []
rows rules.BlockResult = row an_opening nothing (says (codes "result") ∷ token a_value_type a_block_result ∷ closed ∷ []) ∷ []
rows rules.Arms = word_row (codes "else") (an_instruction else_mark) (rule rules.Code ∷ end_item ∷ []) ∷ word_row (codes "end") (an_instruction end_mark) [] ∷ []
rows rules.Offset = row offset_atom an_offset [] ∷ []
rows rules.Align = row alignment_atom an_alignment [] ∷ []

-- whether a rule may stand for no token
unfoldable pub may_end : Rule → Bool
may_end rules.Grammar = false
may_end rules.Field = false
may_end rules.Described = false
may_end rules.Exported = false
may_end (rules.Head locals part) = false
may_end rules.TableEnd = false
may_end rules.Kind = false
may_end rules.Constant = false
may_end rules.Arms = false
may_end r = true

-- ---- which tokens are of the grammar

pub record Marked : Type 0 where
  pub mark : Mark
  pub token : Token

abbrev pub marked : Mark → Token → Marked
marked m t = record { mark = m; token = t }

-- the row is one of the rows
pub data IsOneOf : Row → List Row → Type 0 where
  first : {w : Row} {ws : List Row} → IsOneOf w (w ∷ ws)
  later : {w v : Row} {ws : List Row} → IsOneOf w ws → IsOneOf w (v ∷ ws)

-- the first token, if there is one, begins none of the rows
abbrev pub BeginsNone : List Row → List Token → Type 0
BeginsNone ws [] = Unit {0}
BeginsNone ws (t ∷ ts) = (w : Row) → IsOneOf w ws → meets w.want t.class ≡ false

-- The tokens are of these items, one after another, and have these marks. A rule ends only where none of its rows begins.
pub data Derives : List Item → List Marked → List Token → Type 0 where
  all_done : Derives [] [] []
  one_token : {w : Want} {m : Mark} {is : List Item} {ms : List Marked} {t : Token} {ts : List Token}
      → meets w t.class ≡ true → Derives is ms ts → Derives (token w m ∷ is) (marked m t ∷ ms) (t ∷ ts)
  goes_on : {r : Rule} {w : Row} {is : List Item} {ms : List Marked} {t : Token} {ts : List Token}
      → IsOneOf w (rows r) → meets w.want t.class ≡ true → Derives (w.next ++ is) ms ts → Derives (rule r ∷ is) (marked w.mark t ∷ ms) (t ∷ ts)
  ends : {r : Rule} {is : List Item} {ms : List Marked} {ts : List Token}
      → may_end r ≡ true → BeginsNone (rows r) ts → Derives is ms ts → Derives (rule r ∷ is) ms ts

-- the tokens are a module of the grammar, with these marks
abbrev pub IsGrammatical : List Marked → List Token → Type 0
IsGrammatical ms ts = Derives (rule rules.Grammar ∷ []) ms ts

-- some module begins with the tokens
abbrev pub IsViable : List Token → Type 0
IsViable ts = (more : List Token) × (ms : List Marked) × IsGrammatical ms (ts ++ more)

-- Some module begins with the tokens before place k, and none with those up to it. At the end of the tokens they are no module.
pub record IsFirstFault (ts : List Token) (k : ℕ) : Type 0 where
  pub within : k ≤ length ts
  pub before : IsViable (take k ts)
  pub here : k < length ts → ¬ IsViable (take (k + 1) ts)
  pub whole : (ms : List Marked) → ¬ IsGrammatical ms ts
