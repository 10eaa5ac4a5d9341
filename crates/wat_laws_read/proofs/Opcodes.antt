-- Each mark of an instruction has a form of the table of opcodes.
use Rattle.std.proofs.Common.{◌≡◌, ℕ, true, false, List, [], ◌∷◌, ◌++◌, map, Option, Some, refl, sym, ap, subst, ◌∙◌}
use Rattle.std.specs.List.{AllByRecursion}
use Rattle.wasm_lang.specs.Instructions.{Plain, nop, global_get, memory_fill, const32, const64, Instruction, else_mark, end_mark, plain}
use Rattle.wasm_lang.specs.Opcodes.{opcodes, form_at, form_of, plain_form_of, IsOpcode}
use Rattle.wasm_lang.specs.Shape.{HasOpcode}
use Rattle.wat_lang.specs.declared.parts.Space.{Space}
use Rattle.wat_lang.specs.declared.parts.Part.TheVariants.{Param, Result, Local}
use Rattle.wat_lang.specs.declared.parts.Rule.{Rule}
use Rattle.wat_lang.specs.declared.parts.Rule.TheVariants as rules
use Rattle.wat_lang.specs.Tokens.{Token}
use Rattle.wat_lang.specs.Words.{name_of, named_forms, instruction_names}
use Rattle.wat_lang.specs.Grammar.{Mark, an_instruction, a_field, Item, Row, rows, Marked, Derives, all_done, one_token, goes_on, ends, IsGrammatical}
use Rattle.wat_lang.specs.Names.{Names, labels_after}
use Rattle.wat_lang.specs.Modules.{with_immediates, plain_with, immediates_in, instruction_at, instructions_in}
use Rattle.wat_laws_read.proofs.Lists.{mapped, joined}
use Rattle.wat_laws_read.proofs.Stacks.{each_row, each_instruction, PlacedBehind, Placed, placed_rows, placed_left}

-- ---- the table

abbrev IsRow : ℕ × Instruction → Type 0
IsRow row = IsOpcode row.0 row.1

rows_are_opcodes : AllByRecursion IsRow opcodes
unfolding form_at
rows_are_opcodes =
    (refl, (refl, (refl, (refl, (refl, (refl, (refl, (refl, (refl, (refl, (refl, (refl, (refl, (refl, (refl, (refl, (refl, (refl, (refl, (refl, (refl, (refl, (refl, (refl, (refl, (refl, (refl, (refl, (refl, (refl, (refl, (refl, (refl, (refl, (refl, (refl, (refl, (refl, (refl, (refl, (refl, (refl, (refl, (refl, (refl, (refl, (refl, (refl, (refl, (refl, (refl, (refl, (refl, (refl, (refl, (refl, (refl, (refl, (refl, (refl, (refl, (refl, (refl, (refl, (refl, (refl, (refl, (refl, (refl, (refl, (refl, (refl, (refl, (refl, (refl, (refl, (refl, (refl, (refl, (refl, (refl, (refl, (refl, (refl, (refl, (refl, (refl, (refl, (refl, (refl, (refl, (refl, (refl, (refl, (refl, (refl, (refl, (refl, (refl, (refl, (refl, (refl, (refl, (refl, (refl, (refl, (refl, (refl, (refl, tt)))))))))))))))))))))))))))))))))))))))))))))))))))))))))))))))))))))))))))))))))))))))))))))))))))))))))))))

have_opcodes : (table : List (ℕ × Instruction)) → AllByRecursion IsRow table → AllByRecursion HasOpcode (map (λ row. row.1) table)
have_opcodes [] all = tt
have_opcodes (row ∷ table) all = ((row.0, all.0), have_opcodes table all.1)

fill_opcode : HasOpcode (plain memory_fill)
unfolding form_at
fill_opcode = (0xfc, refl)

narrow_opcode : HasOpcode (plain (const32 0))
unfolding form_at
narrow_opcode = (0x41, refl)

wide_opcode : HasOpcode (plain (const64 0))
unfolding form_at
wide_opcode = (0x42, refl)

global_opcode : HasOpcode (plain (global_get 0))
unfolding form_at
global_opcode = (0x23, refl)

else_opcode : HasOpcode else_mark
unfolding form_at
else_opcode = (0x05, refl)

end_opcode : HasOpcode end_mark
unfolding form_at
end_opcode = (0x0b, refl)

pub forms_have_opcodes : AllByRecursion HasOpcode named_forms
forms_have_opcodes = joined HasOpcode (map (λ row. row.1) opcodes) (plain memory_fill ∷ []) (have_opcodes opcodes rows_are_opcodes) (fill_opcode, tt)

names_have_opcodes : AllByRecursion (λ (e : List ℕ × Instruction). HasOpcode e.1) instruction_names
names_have_opcodes = mapped (λ (e : List ℕ × Instruction). HasOpcode e.1) (λ i. (name_of i, i)) named_forms forms_have_opcodes

-- ---- marks

abbrev pub HasForm : Mark → Type 0
HasForm (an_instruction form) = HasOpcode form
HasForm m = Unit {0}

form_rows : (r : Rule) → AllByRecursion (λ (w : Row). HasForm w.mark) (rows r)
unfolding rows
form_rows rules.Grammar = (tt, tt)
form_rows rules.Name = (tt, tt)
form_rows (rules.Bound s) = (tt, tt)
form_rows rules.Fields = (tt, tt)
form_rows rules.Field = (tt, (tt, (tt, (tt, (tt, (tt, (tt, (tt, (tt, (tt, tt))))))))))
form_rows rules.Described = (tt, (tt, (tt, (tt, tt))))
form_rows rules.Exported = (tt, (tt, (tt, (tt, tt))))
form_rows (rules.Heads l p) = (tt, tt)
form_rows (rules.Head true Param) = (tt, (tt, (tt, tt)))
form_rows (rules.Head true Result) = (tt, (tt, tt))
form_rows (rules.Head true Local) = (tt, tt)
form_rows (rules.Head false Param) = (tt, (tt, tt))
form_rows (rules.Head false Result) = (tt, tt)
form_rows (rules.Head false Local) = tt
form_rows (rules.Types Param) = (tt, (tt, tt))
form_rows (rules.Types Result) = (tt, tt)
form_rows (rules.Types Local) = (tt, (tt, tt))
form_rows (rules.More p) = (tt, tt)
form_rows rules.TableEnd = (tt, (tt, tt))
form_rows rules.Maximum = (tt, tt)
form_rows rules.Kind = (tt, (tt, tt))
form_rows rules.Constant = (narrow_opcode, (wide_opcode, (global_opcode, tt)))
form_rows rules.Functions = (tt, tt)
form_rows rules.Labels = (tt, tt)
form_rows rules.Strings = (tt, tt)
form_rows rules.FuncWord = (tt, tt)
form_rows rules.Code = each_instruction (λ (w : Row). HasForm w.mark) (λ (e : List ℕ × Instruction). HasOpcode e.1) (λ e b h. h) instruction_names names_have_opcodes
form_rows rules.Label = (tt, tt)
form_rows rules.BlockResult = (tt, tt)
form_rows rules.Arms = (else_opcode, (end_opcode, tt))
form_rows rules.Offset = (tt, tt)
form_rows rules.Align = (tt, tt)

token_form : (m : Mark) (Rest : Type 0) → PlacedBehind m Rest → HasForm m × Rest
token_form (a_field kind) Rest p = absurd p
token_form (an_instruction form) Rest p = (subst HasOpcode (sym p.0) end_opcode, p.1)
token_form _ Rest p = (tt, p)

-- each mark of an instruction has a form of the table
forms_hold : {is : List Item} {ms : List Marked} {ts : List Token} → Derives is ms ts → Placed is → AllByRecursion (λ (m : Marked). HasForm m.mark) ms
forms_hold all_done p = tt
forms_hold (one_token {m = m} {is = is} e d) p = let parts = token_form m (Placed is) p in (parts.0, forms_hold d parts.1)
forms_hold (goes_on {r = r} {w = w} {is = is} i e d) p =
    (each_row (λ (v : Row). HasForm v.mark) (form_rows r) i, forms_hold d (each_row (λ (v : Row). Placed (v.next ++ is)) (placed_rows r is p) i))
forms_hold (ends {r = r} {is = is} m b d) p = forms_hold d (placed_left r is m p)

pub marks_have_forms : (ms : List Marked) (ts : List Token) → IsGrammatical ms ts → AllByRecursion (λ (m : Marked). HasForm m.mark) ms
marks_have_forms ms ts d = forms_hold d refl

-- ---- instructions

plain_kept : (names : Space → Names) (ns : List Marked) (p : Plain) → plain_form_of (plain_with names ns p) ≡ plain_form_of p
plain_kept names ns nop = refl
plain_kept names ns _ = refl

form_kept : (names : Space → Names) (ns : List Marked) (i : Instruction) → form_of (with_immediates names ns i) ≡ form_of i
form_kept names ns (plain p) = ap plain (plain_kept names ns p)
form_kept names ns _ = refl

instruction_opcode : (names : Space → Names) (ns : List Marked) (k : Mark) → HasForm k → AllByRecursion HasOpcode (instruction_at names ns k)
instruction_opcode names ns (an_instruction form) h = ((h.0, h.1 ∙ sym (ap (λ (i : Instruction). let x : Option Instruction = Some i in x) (form_kept names (immediates_in ns) form))), tt)
instruction_opcode names ns _ h = tt

pub code_has_opcodes : (names : Names → Space → Names) (labels : Names) (parts : List Marked) → AllByRecursion (λ (m : Marked). HasForm m.mark) parts → AllByRecursion HasOpcode (instructions_in names labels parts ++ end_mark ∷ [])
code_has_opcodes names labels [] all = (end_opcode, tt)
code_has_opcodes names labels (m ∷ ms) all = behind (instruction_at (names labels) ms m.mark) (instruction_opcode (names labels) ms m.mark all.0) (code_has_opcodes names (labels_after labels m) ms all.1)
  where
    behind : (is : List Instruction) → AllByRecursion HasOpcode is → AllByRecursion HasOpcode (instructions_in names (labels_after labels m) ms ++ end_mark ∷ [])
        → AllByRecursion HasOpcode ((is ++ instructions_in names (labels_after labels m) ms) ++ end_mark ∷ [])
    behind [] a b = b
    behind (i ∷ is) a b = (a.0, behind is a.1 b)
