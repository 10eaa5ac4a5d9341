-- Code that is nested is of the grammar.
use Rattle.std.proofs.Common.{◌≡◌, ℕ, ◌^◌, ◌<◌, ◌≤◌, min, Bool, true, false, ◌||◌, List, [], ◌∷◌, ◌++◌, Option, Some, None, is_some, codes, decimal, refl, sym, ap, ◌∙◌, subst, arith}
use Rattle.std.specs.List.{AllByRecursion}
use Rattle.std.proofs.Math.Pow.{pow_mono}
use Rattle.sem_words.specs.Words.{signed_of}
use Rattle.wasm_lang.specs.declared.types.ValType.{ValType}
use Rattle.wasm_lang.specs.declared.types.ValType.TheVariants.{I32, I64}
use Rattle.wasm_lang.specs.Instructions.{Plain, local_get, local_set, local_tee, global_get, global_set, load, store, const32, const64, Instruction, unreachable, block, loop, if_block, else_mark, end_mark, br, br_if, br_table, return, call, call_indirect, plain, is_simple, Nested, empty, simple, in_block, in_loop, in_if, in_arms}
use Rattle.wasm_lang.specs.Shape.{HasOpcode}
use Rattle.wat_lang.specs.declared.parts.Space.TheVariants as spaces
use Rattle.wat_lang.specs.declared.parts.Rule.TheVariants as rules
use Rattle.wat_lang.specs.Tokens.{atom}
use Rattle.wat_lang.specs.Numbers.{number_of, is_id}
use Rattle.wat_lang.specs.Words.{name_of}
use Rattle.wat_lang.specs.Grammar.{a_number, an_opening, an_index, an_id, a_value_type, Mark, nothing, binds, a_block_result, uses, Item, token, rule, opened, closed, says, end_item, immediates, plain_immediates, begins_instruction, row, meets, rows, may_end, first, later}
use Rattle.wat_laws_print.specs.Words.{IsNumber, HasPlainWords, HasWords}
use Rattle.wat_laws_print.proofs.ReadNumbers.{decimal_read, signed_read, word_32_short, word_64_short, keyed_read}
use Rattle.wat_laws_again.specs.Signs.{Sign, number_sign, type_name, plain_form, named_form, put_result, put_numbers, put_use, put_access, put_plain, put_immediates, put_instruction, put_code}
use Rattle.wat_laws_again.proofs.Deriving.{Fits, fits_token, fits_row, Skips, fits_left, one_row}
use Rattle.wat_laws_again.proofs.Forms.{row_of, name_meets, name_is_name}

-- ---- numbers and types

pub number_meets : (n : ℕ) → n < 2 ^ 64 → is_some (number_of (decimal n)) ≡ true
number_meets n h = ap is_some (decimal_read n h)

pub word_meets : (n : ℕ) → IsNumber n → meets a_number (atom (decimal n)) ≡ true
word_meets n h = number_meets n (omega (arith, h))

pub index_meets : (n : ℕ) → IsNumber n → meets an_index (atom (decimal n)) ≡ true
index_meets n h = ap (λ b. b || is_id (decimal n)) (number_meets n (omega (arith, h)))

pub type_meets : (t : ValType) → meets a_value_type (atom (type_name t)) ≡ true
type_meets I32 = refl
type_meets I64 = refl

-- ---- what stands behind an instruction

-- the first sign is no id, no number and no opening
abbrev pub Follows : List Sign → Type 0
Follows [] = Unit {0}
Follows (s ∷ ss) = (meets an_id s.1 ≡ false) × (meets an_index s.1 ≡ false) × (meets an_opening s.1 ≡ false)

pub neither : (a b : Bool) → a ≡ false → b ≡ false → (a || b) ≡ false
neither true b e f = e
neither false b e f = f

pub name_follows : (i : Instruction) (ss : List Sign) → Follows (put_instruction i ss)
name_follows i ss = let n = name_is_name i in (n.0, neither (is_some (number_of (name_of i))) (is_id (name_of i)) n.1 n.0, refl)

pub code_follows : (is : List Instruction) (ss : List Sign) → Follows ss → Follows (put_code is ss)
code_follows [] ss f = f
code_follows (i ∷ is) ss f = name_follows i (put_code is ss)

skips_label : (ss : List Sign) → Follows ss → Skips rules.Label ss
unfolding rows
skips_label [] f = tt
skips_label (s ∷ ss) f = one_row (row an_id (binds spaces.Label) []) s.1 f.0

skips_labels : (ss : List Sign) → Follows ss → Skips rules.Labels ss
unfolding rows
skips_labels [] f = tt
skips_labels (s ∷ ss) f = one_row (row an_index (uses spaces.Label) (rule rules.Labels ∷ [])) s.1 f.1

skips_result : (ss : List Sign) → Follows ss → Skips rules.BlockResult ss
unfolding rows
skips_result [] f = tt
skips_result (s ∷ ss) f = one_row (row an_opening nothing (says (codes "result") ∷ token a_value_type a_block_result ∷ closed ∷ [])) s.1 f.2

-- ---- immediates

module _ (js : List Item) (ss : List Sign) (follows : Follows ss) where
  labels_fit : (ns : List ℕ) → AllByRecursion IsNumber ns → (l : ℕ) → IsNumber l → Fits js ss → Fits (rule rules.Labels ∷ js) (put_numbers spaces.Label ns (number_sign (uses spaces.Label) l ∷ ss))
  unfolding rows may_end
  labels_fit [] all l h d = fits_row rules.Labels first (index_meets l h) (fits_left rules.Labels js ss refl (skips_labels ss follows) d)
  labels_fit (n ∷ ns) all l h d = fits_row rules.Labels first (index_meets n all.0) (labels_fit ns all.1 l h d)

  table_fits : (ns : List ℕ) → AllByRecursion IsNumber ns → (l : ℕ) → IsNumber l → Fits js ss → Fits (token an_index (uses spaces.Label) ∷ rule rules.Labels ∷ js) (put_numbers spaces.Label ns (number_sign (uses spaces.Label) l ∷ ss))
  unfolding may_end
  table_fits [] all l h d = fits_token (index_meets l h) (fits_left rules.Labels js ss refl (skips_labels ss follows) d)
  table_fits (n ∷ ns) all l h d = fits_token (index_meets n all.0) (labels_fit ns all.1 l h d)

  result_fits : (r : Option ValType) → Fits js ss → Fits (rule rules.Label ∷ rule rules.BlockResult ∷ js) (put_result r ss)
  unfolding rows may_end
  result_fits None d = fits_left rules.Label _ ss refl (skips_label ss follows) (fits_left rules.BlockResult js ss refl (skips_result ss follows) d)
  result_fits (Some t) d = fits_left rules.Label _ _ refl refl (fits_row rules.BlockResult first refl (fits_token refl (fits_token (type_meets t) (fits_token refl d))))

pub use_fits : (mark : Mark) (t : ℕ) {js : List Item} {ss : List Sign} → IsNumber t → Fits js ss → Fits (opened ∷ says (codes "type") ∷ token an_index mark ∷ closed ∷ js) (put_use mark t ss)
use_fits mark t h d = fits_token refl (fits_token refl (fits_token (index_meets t h) (fits_token refl d)))

access_fits : (align offset : ℕ) {js : List Item} {ss : List Sign} → IsNumber offset → Fits js ss → Fits (rule rules.Offset ∷ rule rules.Align ∷ js) (put_access align offset ss)
unfolding rows
access_fits align offset h d =
    let few : min align 63 ≤ 63 = omega arith in
    let small : 2 ^ min align 63 ≤ 2 ^ 63 = pow_mono few in
    fits_row rules.Offset first (ap is_some (keyed_read (codes "offset=") offset (omega (arith, h))))
    (fits_row rules.Align first (ap is_some (keyed_read (codes "align=") (2 ^ min align 63) (omega (arith, small)))) d)

plain_fits : (p : Plain) (js : List Item) (ss : List Sign) → HasPlainWords p → Fits (rule rules.Code ∷ js) ss → Fits ((plain_immediates (plain_form p) ++ rule rules.Code ∷ []) ++ js) (put_plain p ss)
plain_fits (local_get x) js ss h d = fits_token (index_meets x h) d
plain_fits (local_set x) js ss h d = fits_token (index_meets x h) d
plain_fits (local_tee x) js ss h d = fits_token (index_meets x h) d
plain_fits (global_get x) js ss h d = fits_token (index_meets x h) d
plain_fits (global_set x) js ss h d = fits_token (index_meets x h) d
plain_fits (load op align offset) js ss h d = access_fits align offset h d
plain_fits (store op align offset) js ss h d = access_fits align offset h d
plain_fits (const32 w) js ss h d = fits_token (ap is_some (signed_read (signed_of 32 w) (word_32_short w h))) d
plain_fits (const64 w) js ss h d = fits_token (ap is_some (signed_read (signed_of 64 w) (word_64_short w h))) d
plain_fits _ js ss h d = d

simple_fits : (i : Instruction) (js : List Item) (ss : List Sign) → is_simple i ≡ true → HasWords i → Follows ss → Fits (rule rules.Code ∷ js) ss → Fits ((immediates (named_form i) ++ rule rules.Code ∷ []) ++ js) (put_immediates i ss)
simple_fits unreachable js ss e h f d = d
simple_fits (block r) js ss e h f d = absurd cc
simple_fits (loop r) js ss e h f d = absurd cc
simple_fits (if_block r) js ss e h f d = absurd cc
simple_fits else_mark js ss e h f d = absurd cc
simple_fits end_mark js ss e h f d = absurd cc
simple_fits (br l) js ss e h f d = fits_token (index_meets l h) d
simple_fits (br_if l) js ss e h f d = fits_token (index_meets l h) d
simple_fits (br_table ls l) js ss e h f d = table_fits (rule rules.Code ∷ js) ss f ls h.0 l h.1 d
simple_fits return js ss e h f d = d
simple_fits (call g) js ss e h f d = fits_token (index_meets g h) d
simple_fits (call_indirect t) js ss e h f d = use_fits (uses spaces.Type) t h d
simple_fits (plain p) js ss e h f d = plain_fits p js ss h d

-- ---- code

simple_begins : (i : Instruction) → is_simple i ≡ true → begins_instruction i ≡ true
simple_begins (block r) e = refl
simple_begins (loop r) e = refl
simple_begins (if_block r) e = refl
simple_begins else_mark e = absurd cc
simple_begins end_mark e = absurd cc
simple_begins _ e = refl

pub put_joined : (is js : List Instruction) (ss : List Sign) → put_code (is ++ js) ss ≡ put_code is (put_code js ss)
put_joined [] js ss = refl
put_joined (i ∷ is) js ss = ap (put_instruction i) (put_joined is js ss)

abbrev pub IsWritten : Instruction → Type 0
IsWritten i = HasOpcode i × HasWords i

pub split : (P : Instruction → Type 0) (xs ys : List Instruction) → AllByRecursion P (xs ++ ys) → AllByRecursion P xs × AllByRecursion P ys
split P [] ys all = (tt, all)
split P (x ∷ xs) ys all = let rest = split P xs ys all.1 in ((all.0, rest.0), rest.1)

-- code ends where no instruction begins
abbrev pub EndsCode : List Sign → Type 0
EndsCode ss = Skips rules.Code ss × Follows ss

end_ends : (ss : List Sign) → EndsCode (put_instruction end_mark ss)
unfolding rows
end_ends ss = (refl, name_follows end_mark ss)

else_ends : (ss : List Sign) → EndsCode (put_instruction else_mark ss)
unfolding rows
else_ends ss = (refl, name_follows else_mark ss)

row_fits : (i : Instruction) (js : List Item) (ss : List Sign) → HasOpcode i → begins_instruction i ≡ true → Fits ((immediates (named_form i) ++ rule rules.Code ∷ []) ++ js) (put_immediates i ss) → Fits (rule rules.Code ∷ js) (put_instruction i ss)
row_fits i js ss h b d = fits_row rules.Code (row_of i h b) (name_meets i) d

pub code_fits : {is : List Instruction} → Nested is → AllByRecursion IsWritten is → (js : List Item) (ss : List Sign) → EndsCode ss → Fits js ss → Fits (rule rules.Code ∷ js) (put_code is ss)
unfolding rows may_end
code_fits empty all js ss end d = fits_left rules.Code js ss refl end.0 d
code_fits (simple {i = i} {rest = rest} e n) all js ss end d =
    row_fits i js (put_code rest ss) (all.0).0 (simple_begins i e)
    (simple_fits i js (put_code rest ss) e (all.0).1 (code_follows rest ss end.1) (code_fits n all.1 js ss end d))
code_fits (in_block {r = r} {body = body} {rest = rest} n m) all js ss end d =
    let parts = split IsWritten body (end_mark ∷ rest) all.1 in
    let after = put_instruction end_mark (put_code rest ss) in
    subst (Fits (rule rules.Code ∷ js)) (sym (ap (put_instruction (block r)) (put_joined body (end_mark ∷ rest) ss)))
    (row_fits (block r) js (put_code body after) (all.0).0 refl
    (result_fits (rule rules.Code ∷ end_item ∷ rule rules.Code ∷ js) (put_code body after) (code_follows body after (end_ends (put_code rest ss)).1) r
    (code_fits n parts.0 (end_item ∷ rule rules.Code ∷ js) after (end_ends (put_code rest ss)) (fits_token refl (code_fits m parts.1.1 js ss end d)))))
code_fits (in_loop {r = r} {body = body} {rest = rest} n m) all js ss end d =
    let parts = split IsWritten body (end_mark ∷ rest) all.1 in
    let after = put_instruction end_mark (put_code rest ss) in
    subst (Fits (rule rules.Code ∷ js)) (sym (ap (put_instruction (loop r)) (put_joined body (end_mark ∷ rest) ss)))
    (row_fits (loop r) js (put_code body after) (all.0).0 refl
    (result_fits (rule rules.Code ∷ end_item ∷ rule rules.Code ∷ js) (put_code body after) (code_follows body after (end_ends (put_code rest ss)).1) r
    (code_fits n parts.0 (end_item ∷ rule rules.Code ∷ js) after (end_ends (put_code rest ss)) (fits_token refl (code_fits m parts.1.1 js ss end d)))))
code_fits (in_if {r = r} {body = body} {rest = rest} n m) all js ss end d =
    let parts = split IsWritten body (end_mark ∷ rest) all.1 in
    let after = put_instruction end_mark (put_code rest ss) in
    subst (Fits (rule rules.Code ∷ js)) (sym (ap (put_instruction (if_block r)) (put_joined body (end_mark ∷ rest) ss)))
    (row_fits (if_block r) js (put_code body after) (all.0).0 refl
    (result_fits (rule rules.Code ∷ rule rules.Arms ∷ rule rules.Code ∷ js) (put_code body after) (code_follows body after (end_ends (put_code rest ss)).1) r
    (code_fits n parts.0 (rule rules.Arms ∷ rule rules.Code ∷ js) after (end_ends (put_code rest ss)) (fits_row rules.Arms (later first) refl (code_fits m parts.1.1 js ss end d)))))
code_fits (in_arms {r = r} {first = one} {second = two} {rest = rest} n m o) all js ss end d =
    let parts = split IsWritten one (else_mark ∷ (two ++ end_mark ∷ rest)) all.1 in
    let more = split IsWritten two (end_mark ∷ rest) parts.1.1 in
    let after = put_instruction end_mark (put_code rest ss) in
    let turn = put_instruction else_mark (put_code two after) in
    let whole : put_code (one ++ else_mark ∷ (two ++ end_mark ∷ rest)) ss ≡ put_code one turn =
    put_joined one (else_mark ∷ (two ++ end_mark ∷ rest)) ss ∙ ap (λ (xs : List Sign). put_code one (put_instruction else_mark xs)) (put_joined two (end_mark ∷ rest) ss) in
    subst (Fits (rule rules.Code ∷ js)) (sym (ap (put_instruction (if_block r)) whole))
    (row_fits (if_block r) js (put_code one turn) (all.0).0 refl
    (result_fits (rule rules.Code ∷ rule rules.Arms ∷ rule rules.Code ∷ js) (put_code one turn) (code_follows one turn (else_ends (put_code two after)).1) r
    (code_fits n parts.0 (rule rules.Arms ∷ rule rules.Code ∷ js) turn (else_ends (put_code two after))
    (fits_row rules.Arms first refl (code_fits m more.0 (end_item ∷ rule rules.Code ∷ js) after (end_ends (put_code rest ss)) (fits_token refl (code_fits o more.1.1 js ss end d)))))))
