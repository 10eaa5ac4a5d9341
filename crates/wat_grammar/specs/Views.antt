-- What the values of this crate stand for.
use Rattle.std.specs.Prelude.{ℕ, Bool, true, false, List, [], ◌∷◌, ◌++◌, map, Option, Some, None, option_map, ◌==◌, ◌&&◌, ◌||◌, if◌then◌else◌}
use Rattle.wat_lang.specs.declared.parts.Rule.{Rule}
use Rattle.wat_lang.specs.declared.parts.Rule.TheVariants as rules
use Rattle.wat_lang.specs.Tokens.{Class, opens, closes, string, atom, is_digit, is_hexadecimal_digit}
use Rattle.wat_lang.specs.Grammar as grammar
use Rattle.wat_laws_grammar.specs.Machine.{Taken, taken}
use Rattle.wat_grammar.specs.declared.parts.Lexeme.{Lexeme}
use Rattle.wat_grammar.specs.declared.parts.Lexeme.TheVariants as lexemes
use Rattle.wat_grammar.specs.declared.parts.Want.{Want}
use Rattle.wat_grammar.specs.declared.parts.Want.TheVariants as wants
use Rattle.wat_grammar.specs.declared.parts.Mark.{Mark}
use Rattle.wat_grammar.specs.declared.parts.Mark.TheVariants as marks
use Rattle.wat_grammar.specs.declared.parts.Item.{Item}
use Rattle.wat_grammar.specs.declared.parts.Item.TheVariants as items
use Rattle.wat_grammar.specs.declared.parts.Row.{Row}
use Rattle.wat_grammar.specs.Keywords.{word_of}
use Rattle.wat_grammar.specs.Sequences.{sequence_of}
use Rattle.wat_grammar.specs.declared.rules.Rows.{Rows}
use Rattle.wat_grammar.specs.declared.rules.Rows.TheVariants as choices
use Rattle.wat_grammar.specs.declared.parts.Next.{Next}
use Rattle.wasm_lang.specs.declared.types.MemOp.{MemOp}
use Rattle.wasm_lang.specs.Instructions as plain
use Rattle.wasm_lang.specs.Instructions.{Instruction}
use Rattle.wat_grammar.specs.declared.form.Access.{Access}
use Rattle.wat_grammar.specs.declared.form.Form.{Form}
use Rattle.wat_grammar.specs.declared.form.Form.TheVariants as forms

abbrev pub op_of : Access → MemOp
op_of a = record { wide = a.wide; size = a.size; signed = a.signed }

abbrev pub form_of : Form → Instruction
form_of forms.Unreachable = plain.unreachable
form_of forms.Nop = plain.plain plain.nop
form_of forms.Block = plain.block None
form_of forms.Loop = plain.loop None
form_of forms.If = plain.if_block None
form_of forms.Else = plain.else_mark
form_of forms.End = plain.end_mark
form_of forms.Br = plain.br 0
form_of forms.BrIf = plain.br_if 0
form_of forms.BrTable = plain.br_table [] 0
form_of forms.Return = plain.return
form_of forms.Call = plain.call 0
form_of forms.CallIndirect = plain.call_indirect 0
form_of forms.Drop = plain.plain plain.drop_operand
form_of forms.Select = plain.plain plain.select
form_of forms.LocalGet = plain.plain (plain.local_get 0)
form_of forms.LocalSet = plain.plain (plain.local_set 0)
form_of forms.LocalTee = plain.plain (plain.local_tee 0)
form_of forms.GlobalGet = plain.plain (plain.global_get 0)
form_of forms.GlobalSet = plain.plain (plain.global_set 0)
form_of (forms.Load access) = plain.plain (plain.load (op_of access) 0 0)
form_of (forms.Store access) = plain.plain (plain.store (op_of access) 0 0)
form_of forms.MemorySize = plain.plain plain.memory_size
form_of forms.MemoryCopy = plain.plain plain.memory_copy
form_of forms.MemoryFill = plain.plain plain.memory_fill
form_of forms.Const32 = plain.plain (plain.const32 0)
form_of forms.Const64 = plain.plain (plain.const64 0)
form_of forms.Eqz32 = plain.plain plain.eqz32
form_of forms.Eqz64 = plain.plain plain.eqz64
form_of (forms.Rel32 op) = plain.plain (plain.rel32 op)
form_of (forms.Rel64 op) = plain.plain (plain.rel64 op)
form_of (forms.Un32 op) = plain.plain (plain.un32 op)
form_of (forms.Un64 op) = plain.plain (plain.un64 op)
form_of (forms.Bin32 op) = plain.plain (plain.bin32 op)
form_of (forms.Bin64 op) = plain.plain (plain.bin64 op)
form_of forms.Wrap = plain.plain plain.wrap
form_of forms.ExtendS = plain.plain plain.extend_s
form_of forms.ExtendU = plain.plain plain.extend_u
form_of (forms.SignExtend wide bits) = plain.plain (plain.sign_extend wide bits)

-- the digits of a base
abbrev pub digit_test : (hexadecimal : Bool) → ℕ → Bool
digit_test true = is_hexadecimal_digit
digit_test false = is_digit

-- decimal digits alone
abbrev pub all_digits : List ℕ → Bool
all_digits [] = true
all_digits (b ∷ bs) = is_digit b && all_digits bs

-- the same, where there is one or more
abbrev pub are_plain_digits : List ℕ → Bool
are_plain_digits [] = false
are_plain_digits (b ∷ bs) = is_digit b && all_digits bs

-- where one `_` stands first, what follows it
abbrev pub behind_underscore : List ℕ → List ℕ
behind_underscore [] = []
behind_underscore (b ∷ bs) = if b == 95 then bs else b ∷ bs

-- `-` or `+`
abbrev pub is_sign : ℕ → Bool
is_sign b = (b == 45) || (b == 43)

-- The value of a string is nothing to the grammar.
abbrev pub class_of : Lexeme → Class
class_of lexemes.Open = opens
class_of lexemes.Close = closes
class_of lexemes.Text = string []
class_of (lexemes.Atom bytes) = atom bytes.now

abbrev pub want_of : Want → grammar.Want
want_of wants.Open = grammar.an_opening
want_of wants.Close = grammar.a_closing
want_of wants.Text = grammar.a_string
want_of wants.Number = grammar.a_number
want_of wants.Id = grammar.an_id
want_of wants.Index = grammar.an_index
want_of wants.ValueType = grammar.a_value_type
want_of wants.Offset = grammar.offset_atom
want_of wants.Align = grammar.alignment_atom
want_of (wants.Word word) = grammar.a_word (word_of word)

abbrev pub mark_of : Mark → grammar.Mark
mark_of marks.Nothing = grammar.nothing
mark_of (marks.Field kind) = grammar.a_field kind
mark_of (marks.Described space) = grammar.a_described space
mark_of (marks.Exported space) = grammar.an_exported space
mark_of (marks.Binds space) = grammar.binds space
mark_of (marks.Uses space) = grammar.uses space
mark_of marks.TypeUse = grammar.a_type_use
mark_of (marks.Type part) = grammar.a_type part
mark_of marks.BlockResult = grammar.a_block_result
mark_of marks.GlobalType = grammar.a_global_type
mark_of marks.Mutable = grammar.mutable
mark_of (marks.Minimum space) = grammar.a_minimum space
mark_of marks.Maximum = grammar.a_maximum
mark_of marks.ModuleName = grammar.a_module_name
mark_of marks.FieldName = grammar.a_field_name
mark_of marks.ExportName = grammar.an_export_name
mark_of marks.Bytes = grammar.some_bytes
mark_of marks.Word32 = grammar.a_word_32
mark_of marks.Word64 = grammar.a_word_64
mark_of marks.Offset = grammar.an_offset
mark_of marks.Alignment = grammar.an_alignment
mark_of (marks.Instruction form) = grammar.an_instruction (form_of form)

abbrev pub item_of : Item → grammar.Item
item_of (items.Token want mark) = grammar.token (want_of want) (mark_of mark)
item_of (items.Rule rule) = grammar.rule rule

abbrev pub items_of : List Item → List grammar.Item
items_of is = map item_of is

abbrev pub row_of : Row → grammar.Row
row_of row = record { want = want_of row.want; mark = mark_of row.mark; next = sequence_of row.next }

abbrev pub rows_of : Rows → List grammar.Row
rows_of (choices.One row) = row_of row ∷ []
rows_of (choices.Table rows) = map row_of rows.now

abbrev pub next_of : Next → Taken
next_of next = taken (mark_of next.mark) (sequence_of next.items)

-- the mark and what follows, by the first row that a token of the class begins
abbrev pub next_in : List grammar.Row → Class → Option Taken
next_in [] c = None
next_in (w ∷ ws) c = if grammar.meets w.want c then Some (taken w.mark w.next) else next_in ws c

abbrev pub behind_if : Instruction → Bool → Option (List grammar.Item)
behind_if i true = Some (grammar.immediates i ++ grammar.rule rules.Code ∷ [])
behind_if i false = None

-- what follows the name of an instruction
abbrev pub behind_form : Instruction → Option (List grammar.Item)
behind_form i = behind_if i (grammar.begins_instruction i)

-- an instruction's immediates come, and then more code
abbrev pub code_behind : Form → Taken
code_behind form = taken (grammar.an_instruction (form_of form)) (grammar.immediates (form_of form) ++ grammar.rule rules.Code ∷ [])

abbrev pub is_code : Rule → Bool
is_code rules.Code = true
is_code rule = false

-- what an instruction leads to
abbrev pub next_instruction : Instruction → Option Taken
next_instruction i = option_map (λ is. taken (grammar.an_instruction i) is) (behind_form i)

-- what a token leads to where more is left below
abbrev pub over : List grammar.Item → Option Taken → Option Taken
over is next = option_map (λ t. taken t.mark (t.left ++ is)) next

-- what a token leads to: its mark and what is left, where it is taken
abbrev pub fed_to : Option Mark → List grammar.Item → Option Taken
fed_to None is = None
fed_to (Some m) is = Some (taken (mark_of m) is)
