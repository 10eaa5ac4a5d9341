-- What may stand in a stack: fields stand at the end of a module's, and no token of one begins an instruction but an end.
use Rattle.std.proofs.Common.{◌≡◌, ℕ, Bool, true, false, List, [], ◌∷◌, ◌++◌, refl, sym, ap, subst}
use Rattle.std.specs.List.{AllByRecursion}
use Rattle.wasm_lang.specs.Instructions.{Plain, nop, Instruction, block, loop, end_mark, plain}
use Rattle.wat_lang.specs.declared.parts.Part.TheVariants.{Param, Result, Local}
use Rattle.wat_lang.specs.declared.parts.Rule.{Rule}
use Rattle.wat_lang.specs.declared.parts.Rule.TheVariants as rules
use Rattle.wat_lang.specs.Words.{instruction_names}
use Rattle.wat_lang.specs.Grammar.{Mark, a_field, an_instruction, Item, token, rule, Row, closed, plain_immediates, immediates, begins_instruction, instruction_row, instruction_rows, rows, may_end, IsOneOf, first, later}
use Rattle.wat_laws_read.proofs.Lists.{always}

-- ---- rows

-- what holds of each row holds of one of them
pub each_row : (P : Row → Type 0) {w : Row} {ws : List Row} → AllByRecursion P ws → IsOneOf w ws → P w
each_row P all first = all.0
each_row P all (later i) = each_row P all.1 i

-- what holds of the row of each instruction that may begin one holds of the rows of a table
pub each_instruction : (P : Row → Type 0) (Q : List ℕ × Instruction → Type 0) → ((e : List ℕ × Instruction) → begins_instruction e.1 ≡ true → Q e → P (instruction_row e))
    → (es : List (List ℕ × Instruction)) → AllByRecursion Q es → AllByRecursion P (instruction_rows es)
each_instruction P Q h [] all = tt
each_instruction P Q h (e ∷ es) all = by (each_instruction P Q h es all.1) (begins_instruction e.1) refl
  where
    by : AllByRecursion P (instruction_rows es) → (b : Bool) → begins_instruction e.1 ≡ b → AllByRecursion P (elim b [ true ↦ instruction_row e ∷ instruction_rows es | false ↦ instruction_rows es ])
    by below true b = (h e b all.0, below)
    by below false b = below

-- ---- stacks

abbrev pub PlacedBehind : Mark → Type 0 → Type 0
PlacedBehind (a_field kind) Rest = ⊥
PlacedBehind (an_instruction form) Rest = (form ≡ end_mark) × Rest
PlacedBehind m Rest = Rest

abbrev pub Placed : List Item → Type 0
Placed [] = Unit {0}
Placed (token w m ∷ is) = PlacedBehind m (Placed is)
Placed (rule rules.Grammar ∷ is) = is ≡ []
Placed (rule rules.Fields ∷ is) = is ≡ closed ∷ []
Placed (rule rules.Field ∷ is) = is ≡ closed ∷ rule rules.Fields ∷ closed ∷ []
Placed (rule r ∷ is) = Placed is

plain_placed : (is : List Item) → Placed is → (p : Plain) → Placed ((plain_immediates p ++ rule rules.Code ∷ []) ++ is)
plain_placed is h nop = h
plain_placed is h _ = h

form_placed : (is : List Item) → Placed is → (i : Instruction) → Placed ((immediates i ++ rule rules.Code ∷ []) ++ is)
form_placed is h (block r) = (refl, h)
form_placed is h (loop r) = (refl, h)
form_placed is h (plain p) = plain_placed is h p
form_placed is h _ = h

pub placed_rows : (r : Rule) (is : List Item) → Placed (rule r ∷ is) → AllByRecursion (λ (w : Row). Placed (w.next ++ is)) (rows r)
unfolding rows
placed_rows rules.Grammar is h = (ap (λ (js : List Item). closed ∷ js) h, tt)
placed_rows rules.Name is h = (h, tt)
placed_rows (rules.Bound s) is h = (h, tt)
placed_rows rules.Fields is h = (ap (λ (js : List Item). closed ∷ rule rules.Fields ∷ js) h, tt)
placed_rows rules.Field is h =
    let end : Placed is = subst Placed (sym h) refl in
    (end, (end, (end, (end, (end, (end, (end, (end, (end, (end, tt))))))))))
placed_rows rules.Described is h = (h, (h, (h, (h, tt))))
placed_rows rules.Exported is h = (h, (h, (h, (h, tt))))
placed_rows (rules.Heads l p) is h = (h, tt)
placed_rows (rules.Head true Param) is h = (h, (h, (h, tt)))
placed_rows (rules.Head true Result) is h = (h, (h, tt))
placed_rows (rules.Head true Local) is h = (h, tt)
placed_rows (rules.Head false Param) is h = (h, (h, tt))
placed_rows (rules.Head false Result) is h = (h, tt)
placed_rows (rules.Head false Local) is h = tt
placed_rows (rules.Types Param) is h = (h, (h, tt))
placed_rows (rules.Types Result) is h = (h, tt)
placed_rows (rules.Types Local) is h = (h, (h, tt))
placed_rows (rules.More p) is h = (h, tt)
placed_rows rules.TableEnd is h = (h, (h, tt))
placed_rows rules.Maximum is h = (h, tt)
placed_rows rules.Kind is h = (h, (h, tt))
placed_rows rules.Constant is h = (h, (h, (h, tt)))
placed_rows rules.Functions is h = (h, tt)
placed_rows rules.Labels is h = (h, tt)
placed_rows rules.Strings is h = (h, tt)
placed_rows rules.FuncWord is h = (h, tt)
placed_rows rules.Code is h = each_instruction (λ (w : Row). Placed (w.next ++ is)) (λ e. Unit {0}) (λ e b u. form_placed is h e.1) instruction_names (always (λ e. Unit {0}) (λ e. tt) instruction_names)
placed_rows rules.Label is h = (h, tt)
placed_rows rules.BlockResult is h = (h, tt)
placed_rows rules.Arms is h = ((refl, h), (h, tt))
placed_rows rules.Offset is h = (h, tt)
placed_rows rules.Align is h = (h, tt)

pub placed_left : (r : Rule) (is : List Item) → may_end r ≡ true → Placed (rule r ∷ is) → Placed is
unfolding may_end
placed_left rules.Grammar is e h = absurd cc
placed_left rules.Field is e h = absurd cc
placed_left rules.Fields is e h = subst Placed (sym h) tt
placed_left _ is e h = h
