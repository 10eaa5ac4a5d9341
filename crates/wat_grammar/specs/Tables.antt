-- Tables of the code as those of the definitions.
use Rattle.std.specs.Prelude.{ℕ, ◌+◌, ◌*◌, ◌%◌, ◌-◌, List, [], ◌∷◌, map, filter, length, get_or, ◌==◌}
use Rattle.std.specs.Borrow.{Bor}
use Rattle.wasm_lang.specs.Instructions.{Instruction}
use Rattle.wat_grammar.specs.declared.form.Form.{Form}
use Rattle.wat_grammar.specs.Views.{form_of}

abbrev pub entry_of : Bor (List ℕ) × Form → List ℕ × Instruction
entry_of e = (e.0.now, form_of e.1)

abbrev pub entries : List (Bor (List ℕ) × Form) → List (List ℕ × Instruction)
entries es = map entry_of es

-- the length, the sixth byte and twice the last byte
abbrev pub key_of : List ℕ → ℕ
key_of [] = 0
key_of (b ∷ bs) = (length (b ∷ bs) % 32 + get_or (b ∷ bs) 5 0 + 2 * get_or (b ∷ bs) (length (b ∷ bs) - 1) 0) % 32

abbrev pub with_key : ℕ → List (List ℕ × Instruction) → List (List ℕ × Instruction)
with_key k es = filter (λ e. key_of e.0 == k) es
