-- Each instruction with an opcode has its row, and its name is no id and no number.
use Rattle.std.proofs.Common.{◌≡◌, ℕ, Bool, true, false, cond, List, [], ◌∷◌, ◌++◌, map, Some, is_some, codes, refl, sym, ◌∙◌, subst}
use Rattle.std.specs.Prelude.{◌==◌, if◌then◌else◌}
use Rattle.std.specs.Map.{lookup}
use Rattle.std.proofs.lemmas.Slice.Eq.{bytes_eq-Decides}
use Rattle.wasm_lang.specs.Instructions.{Plain, nop, load, store, memory_fill, sign_extend, Instruction, plain}
use Rattle.wasm_lang.specs.Opcodes.{opcodes, form_at, plain_form_of, form_of}
use Rattle.wasm_lang.specs.Shape.{HasOpcode}
use Rattle.wat_lang.specs.declared.parts.Rule.TheVariants as rules
use Rattle.wat_lang.specs.Tokens.{atom}
use Rattle.wat_lang.specs.Numbers.{number_of, is_id, is_outside}
use Rattle.wat_lang.specs.Words.{narrow_bits, is_whole, sign_suffix, of_type, plain_name, name_of, named_forms}
use Rattle.wat_lang.specs.Grammar.{a_word, meets, begins_instruction, instruction_row, instruction_rows, rows, IsOneOf, first, later}
use Rattle.wat_laws_again.specs.Signs.{plain_form, named_form}

-- ---- the table

data IsIn {X : Type 0} : X → List X → Type 0 where
  here : {x : X} {xs : List X} → IsIn x (x ∷ xs)
  there : {x y : X} {xs : List X} → IsIn x xs → IsIn x (y ∷ xs)

in_front : {X : Type 0} {x : X} {xs : List X} (ys : List X) → IsIn x xs → IsIn x (xs ++ ys)
in_front ys here = here
in_front ys (there i) = there (in_front ys i)

at_end : {X : Type 0} {x : X} (xs ys : List X) → IsIn x ys → IsIn x (xs ++ ys)
at_end [] ys i = i
at_end (x ∷ xs) ys i = there (at_end xs ys i)

looked_up : (byte : ℕ) (table : List (ℕ × Instruction)) (i : Instruction) → lookup (λ b. b == byte) table ≡ Some i → IsIn i (map (λ row. row.1) table)
looked_up byte [] i e = absurd cc
looked_up byte (row ∷ table) i e = by (looked_up byte table i) (row.0 == byte) e
  where
    by : (lookup (λ b. b == byte) table ≡ Some i → IsIn i (map (λ row. row.1) table)) → (t : Bool) → cond t (Some row.1) (lookup (λ b. b == byte) table) ≡ Some i → IsIn i (map (λ row. row.1) (row ∷ table))
    by below true e = let same : row.1 ≡ i = cc in subst (λ (x : Instruction). IsIn x (map (λ row. row.1) (row ∷ table))) same here
    by below false e = there (below e)

row_in : {i : Instruction} {forms : List Instruction} → IsIn i forms → begins_instruction i ≡ true → IsOneOf (instruction_row (name_of i, i)) (instruction_rows (map (λ i. (name_of i, i)) forms))
row_in (here {x = i} {xs = forms}) b = subst (λ (t : Bool). IsOneOf (instruction_row (name_of i, i)) (elim t [ true ↦ instruction_row (name_of i, i) ∷ instruction_rows (map (λ i. (name_of i, i)) forms) | false ↦ instruction_rows (map (λ i. (name_of i, i)) forms) ])) (sym b) first
row_in (there {x = i} {y = j} {xs = forms} n) b = by (row_in n b) (begins_instruction j)
  where
    by : IsOneOf (instruction_row (name_of i, i)) (instruction_rows (map (λ i. (name_of i, i)) forms)) → (t : Bool)
        → IsOneOf (instruction_row (name_of i, i)) (elim t [ true ↦ instruction_row (name_of j, j) ∷ instruction_rows (map (λ i. (name_of i, i)) forms) | false ↦ instruction_rows (map (λ i. (name_of i, i)) forms) ])
    by below true = later below
    by below false = below

plain_is_named : (p : Plain) → HasOpcode (plain p) → IsIn (plain (plain_form p)) named_forms
unfolding form_at
plain_is_named memory_fill h = at_end (map (λ row. row.1) opcodes) (plain memory_fill ∷ []) here
plain_is_named p h = in_front (plain memory_fill ∷ []) (looked_up h.0 opcodes (plain (plain_form_of p)) h.1)

is_named : (i : Instruction) → HasOpcode i → IsIn (named_form i) named_forms
unfolding form_at
is_named (plain p) h = plain_is_named p h
is_named i h = in_front (plain memory_fill ∷ []) (looked_up h.0 opcodes (form_of i) h.1)

begins_alike : (i : Instruction) → begins_instruction (named_form i) ≡ begins_instruction i
begins_alike (plain p) = refl
begins_alike _ = refl

pub row_of : (i : Instruction) → HasOpcode i → begins_instruction i ≡ true → IsOneOf (instruction_row (name_of (named_form i), named_form i)) (rows rules.Code)
unfolding rows
row_of i h b = row_in (is_named i h) (begins_alike i ∙ b)

plain_name_kept : (p : Plain) → plain_name (plain_form p) ≡ plain_name p
plain_name_kept nop = refl
plain_name_kept _ = refl

name_kept : (i : Instruction) → name_of (named_form i) ≡ name_of i
name_kept (plain p) = plain_name_kept p
name_kept _ = refl

pub name_meets : (i : Instruction) → meets (a_word (name_of (named_form i))) (atom (name_of i)) ≡ true
name_meets i = (bytes_eq-Decides (name_of (named_form i)) (name_of i)).1 (name_kept i)

-- ---- names

-- it is no id, no number, and no word outside the integer profile
abbrev pub IsName : List ℕ → Type 0
IsName word = (is_id word ≡ false) × (is_some (number_of word) ≡ false) × (is_outside word ≡ false)

typed_is_name : (wide : Bool) (name : List ℕ) → IsName (of_type wide name)
typed_is_name true name = (refl, refl, refl)
typed_is_name false name = (refl, refl, refl)

plain_is_name : (p : Plain) → IsName (plain_name p)
plain_is_name (load op align offset) = typed_is_name op.wide (codes "load" ++ (if is_whole op then [] else narrow_bits op.size ++ sign_suffix op.signed))
plain_is_name (store op align offset) = typed_is_name op.wide (codes "store" ++ (if is_whole op then [] else narrow_bits op.size))
plain_is_name (sign_extend wide bits) = typed_is_name wide (codes "extend" ++ ((if bits == 8 then codes "8" else (if bits == 16 then codes "16" else codes "32")) ++ codes "_s"))
plain_is_name _ = (refl, refl, refl)

pub name_is_name : (i : Instruction) → IsName (name_of i)
name_is_name (plain p) = plain_is_name p
name_is_name _ = (refl, refl, refl)
