-- What follows an opcode, by the table.
use Rattle.std.proofs.Common.{◌≡◌, ◌≢◌, ℕ, ◌<◌, Bool, true, false, cond, eqb, List, [], ◌∷◌, Option, Some, None, refl, sym, ap, ◌∙◌, arith}
use Rattle.std.specs.Prelude.{Ok, Err}
use Rattle.std.proofs.lemmas.Bool.{false≢true}
use Rattle.std.proofs.lemmas.Bool.Decides.{nat_tests}
use Rattle.wasm_lang.specs.Instructions.{Plain, nop, drop_operand, select, local_get, local_set, local_tee, global_get, global_set, load, store, memory_size, memory_copy, memory_fill, const32, const64, eqz32, eqz64, rel32, rel64, un32, un64, bin32, bin64, wrap, extend_s, extend_u, sign_extend, Instruction, unreachable, block, loop, if_block, else_mark, end_mark, br, br_if, br_table, return, call, call_indirect, plain}
use Rattle.wasm_lang.specs.Opcodes.{form_at, bare_at, without_immediates, has_immediates, has_plain_immediates}
use Rattle.wasm_lang.specs.Reading.{Input, ◌>>=◌, byte, onto}
use Rattle.wasm_lang.specs.ReadingCode.{instruction_field, by_form, after_opcode, immediates, plain_immediates, opcode_fault}
use Rattle.wasm_tree.specs.Operators.{is_load, is_store}
use Rattle.wasm_tree.proofs.Table.{below, below_is}

no_plain_immediates : (p : Plain) (i : Input) → has_plain_immediates p ≡ false → plain_immediates p i ≡ Ok (p, i)
no_plain_immediates nop i e = refl
no_plain_immediates drop_operand i e = refl
no_plain_immediates select i e = refl
no_plain_immediates (local_get x) i e = absurd (false≢true (sym e))
no_plain_immediates (local_set x) i e = absurd (false≢true (sym e))
no_plain_immediates (local_tee x) i e = absurd (false≢true (sym e))
no_plain_immediates (global_get x) i e = absurd (false≢true (sym e))
no_plain_immediates (global_set x) i e = absurd (false≢true (sym e))
no_plain_immediates (load op align offset) i e = absurd (false≢true (sym e))
no_plain_immediates (store op align offset) i e = absurd (false≢true (sym e))
no_plain_immediates memory_size i e = absurd (false≢true (sym e))
no_plain_immediates memory_copy i e = absurd (false≢true (sym e))
no_plain_immediates memory_fill i e = absurd (false≢true (sym e))
no_plain_immediates (const32 n) i e = absurd (false≢true (sym e))
no_plain_immediates (const64 n) i e = absurd (false≢true (sym e))
no_plain_immediates eqz32 i e = refl
no_plain_immediates eqz64 i e = refl
no_plain_immediates (rel32 op) i e = refl
no_plain_immediates (rel64 op) i e = refl
no_plain_immediates (un32 op) i e = refl
no_plain_immediates (un64 op) i e = refl
no_plain_immediates (bin32 op) i e = refl
no_plain_immediates (bin64 op) i e = refl
no_plain_immediates wrap i e = refl
no_plain_immediates extend_s i e = refl
no_plain_immediates extend_u i e = refl
no_plain_immediates (sign_extend wide bits) i e = refl

no_immediates : (x : Instruction) (i : Input) → has_immediates x ≡ false → immediates x i ≡ Ok (x, i)
no_immediates unreachable i e = refl
no_immediates (block r) i e = absurd (false≢true (sym e))
no_immediates (loop r) i e = absurd (false≢true (sym e))
no_immediates (if_block r) i e = absurd (false≢true (sym e))
no_immediates else_mark i e = refl
no_immediates end_mark i e = refl
no_immediates (br l) i e = absurd (false≢true (sym e))
no_immediates (br_if l) i e = absurd (false≢true (sym e))
no_immediates (br_table ls l) i e = absurd (false≢true (sym e))
no_immediates return i e = refl
no_immediates (call f) i e = absurd (false≢true (sym e))
no_immediates (call_indirect t) i e = absurd (false≢true (sym e))
no_immediates (plain p) i e = ap (onto plain) (no_plain_immediates p i e)

bare_form : (o : Option Instruction) (x : Instruction) → without_immediates o ≡ Some x → (o ≡ Some x) × (has_immediates x ≡ false)
bare_form None x e = cc
bare_form (Some y) x e = by (has_immediates y) refl
  where
    by : (t : Bool) → has_immediates y ≡ t → (Some y ≡ Some x) × (has_immediates x ≡ false)
    by true h = let q : None ≡ Some x = rw h at e in cc
    by false h =
        let q : Some y ≡ Some x = rw h at e in
        let is : y ≡ x = cc in
        (q, ap has_immediates (sym is) ∙ h)

by_bare_form : (at b : ℕ) (i : Input) (o : Option Instruction) (x : Instruction) → o ≡ Some x → has_immediates x ≡ false → by_form at b o i ≡ Ok (x, i)
by_bare_form at b i None x e h = cc
by_bare_form at b i (Some y) x e h = let is : y ≡ x = cc in ap (λ y. immediates y i) is ∙ no_immediates x i h

-- an instruction that its byte alone spells
pub bare_reads : (i rest : Input) (b : ℕ) (x : Instruction) → byte i ≡ Ok (b, rest) → Some x ≡ bare_at b → instruction_field i ≡ Ok (x, rest)
unfolding after_opcode
bare_reads i rest b x e at =
    let form = bare_form (form_at b) x (sym at) in
    ap (λ r. r >>= λ b. after_opcode i.at b.0 b.1) e ∙ by_bare_form i.at b rest (form_at b) x form.0 form.1

-- the other opcodes of instructions with immediates
abbrev pub is_other : ℕ → Bool
is_other b = any_of (0x02 ∷ 0x03 ∷ 0x04 ∷ 0x0c ∷ 0x0d ∷ 0x0e ∷ 0x10 ∷ 0x11 ∷ 0x20 ∷ 0x21 ∷ 0x22 ∷ 0x23 ∷ 0x24 ∷ 0x3f ∷ 0x41 ∷ 0x42 ∷ 0xfc ∷ [])
  where
    any_of : List ℕ → Bool
    any_of [] = false
    any_of (c ∷ cs) = cond (eqb b c) true (any_of cs)

abbrev is_none : Option Instruction → Bool
is_none None = true
is_none (Some i) = false

-- a byte has a form without immediates, is one of those, or has none
abbrev sorted_out : ℕ → Bool
sorted_out b = cond (is_none (bare_at b)) (cond (is_load b) true (cond (is_store b) true (cond (is_other b) true (is_none (form_at b))))) true

all_sorted_out : below 256 sorted_out ≡ true
unfolding form_at
all_sorted_out = refl

none_of : (o : Option Instruction) → is_none o ≡ true → o ≡ None
none_of None e = refl
none_of (Some i) e = absurd (false≢true e)

-- a byte that is no opcode
pub no_form : (at b : ℕ) (i : Input) → b < 256 → bare_at b ≡ None → is_load b ≡ false → is_store b ≡ false → is_other b ≡ false → after_opcode at b i ≡ Err (record { row = opcode_fault b; at = at })
unfolding after_opcode
no_form at b i lt bare no_load no_store other =
    let p = below_is 256 sorted_out all_sorted_out b lt in
    let q = rw bare at p in
    ap (λ o. by_form at b o i) (none_of (form_at b) (rw other at (rw no_store at (rw no_load at q))))

pub not_other : (b : ℕ) → b ≢ 0x02 → b ≢ 0x03 → b ≢ 0x04 → b ≢ 0x0c → b ≢ 0x0d → b ≢ 0x0e → b ≢ 0x10 → b ≢ 0x11 → b ≢ 0x20 → b ≢ 0x21 → b ≢ 0x22 → b ≢ 0x23 → b ≢ 0x24 → b ≢ 0x3f → b ≢ 0x41 → b ≢ 0x42 → b ≢ 0xfc → is_other b ≡ false
not_other b h0 h1 h2 h3 h4 h5 h6 h7 h8 h9 h10 h11 h12 h13 h14 h15 h16 = grind (arith, nat_tests)
