-- No word of a canonical text is outside the integer profile.
use Rattle.std.proofs.Common.{◌≡◌, ℕ, zero, suc, ◌^◌, ◌<◌, min, Bool, true, false, List, [], ◌∷◌, take, Option, Some, None, codes, decimal, bytes_eq, ℤ, pos, negsuc, refl, sym, ap, ◌∙◌, arith}
use Rattle.std.specs.List.{AllByRecursion, list_all}
use Rattle.std.specs.Fmt.{signed_decimal}
use Rattle.std.proofs.lemmas.Bool.{false≢true, and_parts}
use Rattle.std.proofs.lemmas.Fmt.{digits_decimal}
use Rattle.std.proofs.lemmas.Slice.Eq.{bytes_eq-Decides}
use Rattle.sem_words.specs.Words.{signed_of}
use Rattle.wasm_lang.specs.declared.types.ValType.{ValType}
use Rattle.wasm_lang.specs.declared.types.ValType.TheVariants.{I32, I64}
use Rattle.wasm_lang.specs.declared.types.Limits.{Limits}
use Rattle.wasm_lang.specs.declared.types.ImportKind.{ImportKind}
use Rattle.wasm_lang.specs.declared.types.ImportKind.TheVariants as imports
use Rattle.wasm_lang.specs.declared.types.ExportKind.{ExportKind}
use Rattle.wasm_lang.specs.declared.types.ExportKind.TheVariants as exports
use Rattle.wasm_lang.specs.Instructions.{Plain, local_get, local_set, local_tee, global_get, global_set, load, store, const32, const64, Instruction, block, loop, if_block, br, br_if, br_table, call, call_indirect, plain}
use Rattle.wasm_lang.specs.Modules.{FunctionType, Imported, GlobalEntry, Exported, ElementSegment, DataSegment, FunctionBody, WasmModule}
use Rattle.wat_lang.specs.declared.parts.Space.{Space}
use Rattle.wat_lang.specs.declared.parts.Space.TheVariants as spaces
use Rattle.wat_lang.specs.declared.parts.Part.{Part}
use Rattle.wat_lang.specs.declared.parts.Part.TheVariants.{Param, Result, Local}
use Rattle.wat_lang.specs.Tokens.{is_digit}
use Rattle.wat_lang.specs.Numbers.{is_outside}
use Rattle.wat_lang.specs.Grammar.{Mark, a_type_use, uses}
use Rattle.wat_lang.specs.Printing.{without_end}
use Rattle.wat_lang.specs.Texts.{stands_outside}
use Rattle.wat_laws_print.specs.Words.{IsNumber, AreBytes, HasPlainWords, HasWords, IsMaximum, AreLimits, IsImported, IsExported, IsOfWords}
use Rattle.wat_laws_print.proofs.Numerals.{own}
use Rattle.wat_laws_print.proofs.ReadNumbers.{IsShort, word_32_short, word_64_short}
use Rattle.wat_laws_again.specs.Signs.{Sign, type_name, put_types, put_group, put_use, put_maximum, put_limits, put_mutable, put_result, put_numbers, put_plain, put_immediates, put_instruction, put_code, put_folded, put_all, put_type, put_described, put_import, put_function, put_functions, put_table, put_memory, put_global, put_exported, put_export, put_start, put_element, put_segment, signs_of, close_sign, word_sign}
use Rattle.wat_laws_again.proofs.CodeFits.{neither}
use Rattle.wat_laws_again.proofs.Forms.{name_is_name}

-- ---- numbers

differs : (d b : ℕ) (xs ys : List ℕ) → is_digit d ≡ true → is_digit b ≡ false → bytes_eq (d ∷ xs) (b ∷ ys) ≡ false
differs d b xs ys is isnt = by (bytes_eq (d ∷ xs) (b ∷ ys)) refl
  where
    by : (t : Bool) → bytes_eq (d ∷ xs) (b ∷ ys) ≡ t → t ≡ false
    by true e =
        let whole : d ∷ xs ≡ b ∷ ys = (bytes_eq-Decides (d ∷ xs) (b ∷ ys)).0 e in
        let same : d ≡ b = cc in
        absurd (false≢true (sym isnt ∙ sym (ap is_digit same) ∙ is))
    by false e = refl

digits_inside : (ds : List ℕ) → list_all is_digit ds ≡ true → is_outside ds ≡ false
digits_inside [] all = refl
digits_inside (d ∷ ds) all =
    let is = (and_parts (is_digit d) (list_all is_digit ds) all).0 in
    neither _ _ (neither _ _ (differs d 102 (take 2 ds) (codes "32") is refl) (differs d 102 (take 2 ds) (codes "64") is refl)) (differs d 109 ds (codes "emory.grow") is refl)

number_inside : (n : ℕ) → n < 2 ^ 64 → is_outside (decimal n) ≡ false
number_inside n h = digits_inside (decimal n) (digits_decimal own n h)

index_inside : (n : ℕ) → IsNumber n → is_outside (decimal n) ≡ false
index_inside n h = number_inside n (omega (arith, h))

signed_inside : (z : ℤ) → IsShort z → is_outside (signed_decimal z) ≡ false
signed_inside (pos n) h = number_inside n h
signed_inside (negsuc n) h = refl

type_inside : (t : ValType) → is_outside (type_name t) ≡ false
type_inside I32 = refl
type_inside I64 = refl

-- ---- parts

abbrev IsInside : Sign → Type 0
IsInside s = stands_outside s.1 ≡ false

abbrev AreInside : List Sign → Type 0
AreInside ss = AllByRecursion IsInside ss

types_inside : (p : Part) (ts : List ValType) (ss : List Sign) → AreInside ss → AreInside (put_types p ts ss)
types_inside p [] ss a = a
types_inside p (t ∷ ts) ss a = (type_inside t, types_inside p ts ss a)

group_inside : (p : Part) (keyword : List ℕ) (ts : List ValType) (ss : List Sign) → is_outside keyword ≡ false → AreInside ss → AreInside (put_group p keyword ts ss)
group_inside p keyword [] ss k a = a
group_inside p keyword (t ∷ ts) ss k a = (refl, (k, types_inside p (t ∷ ts) (close_sign ∷ ss) (refl, a)))

use_inside : (mark : Mark) (t : ℕ) (ss : List Sign) → IsNumber t → AreInside ss → AreInside (put_use mark t ss)
use_inside mark t ss h a = (refl, (refl, (index_inside t h, (refl, a))))

limits_inside : (s : Space) (l : Limits) (ss : List Sign) → AreLimits l → AreInside ss → AreInside (put_limits s l ss)
limits_inside s l ss h a = (index_inside l.min h.0, by l.max h.1)
  where
    by : (max : Option ℕ) → IsMaximum max → AreInside (put_maximum max ss)
    by None m = a
    by (Some n) m = (index_inside n m, a)

kind_inside : (m : Bool) (t : ValType) (ss : List Sign) → AreInside ss → AreInside (put_mutable m t ss)
kind_inside false t ss a = (type_inside t, a)
kind_inside true t ss a = (refl, (refl, (type_inside t, (refl, a))))

numbers_inside : (s : Space) (ns : List ℕ) (ss : List Sign) → AllByRecursion IsNumber ns → AreInside ss → AreInside (put_numbers s ns ss)
numbers_inside s [] ss all a = a
numbers_inside s (n ∷ ns) ss all a = (index_inside n all.0, numbers_inside s ns ss all.1 a)

-- ---- instructions

result_inside : (r : Option ValType) (ss : List Sign) → AreInside ss → AreInside (put_result r ss)
result_inside None ss a = a
result_inside (Some t) ss a = (refl, (refl, (type_inside t, (refl, a))))

plain_inside : (p : Plain) (ss : List Sign) → HasPlainWords p → AreInside ss → AreInside (put_plain p ss)
plain_inside (local_get x) ss h a = (index_inside x h, a)
plain_inside (local_set x) ss h a = (index_inside x h, a)
plain_inside (local_tee x) ss h a = (index_inside x h, a)
plain_inside (global_get x) ss h a = (index_inside x h, a)
plain_inside (global_set x) ss h a = (index_inside x h, a)
plain_inside (load op align offset) ss h a = (refl, (refl, a))
plain_inside (store op align offset) ss h a = (refl, (refl, a))
plain_inside (const32 w) ss h a = (signed_inside (signed_of 32 w) (word_32_short w h), a)
plain_inside (const64 w) ss h a = (signed_inside (signed_of 64 w) (word_64_short w h), a)
plain_inside _ ss h a = a

immediates_inside : (i : Instruction) (ss : List Sign) → HasWords i → AreInside ss → AreInside (put_immediates i ss)
immediates_inside (block r) ss h a = result_inside r ss a
immediates_inside (loop r) ss h a = result_inside r ss a
immediates_inside (if_block r) ss h a = result_inside r ss a
immediates_inside (br l) ss h a = (index_inside l h, a)
immediates_inside (br_if l) ss h a = (index_inside l h, a)
immediates_inside (br_table ls l) ss h a = numbers_inside spaces.Label ls _ h.0 (index_inside l h.1, a)
immediates_inside (call f) ss h a = (index_inside f h, a)
immediates_inside (call_indirect t) ss h a = use_inside (uses spaces.Type) t ss h a
immediates_inside (plain p) ss h a = plain_inside p ss h a
immediates_inside _ ss h a = a

instruction_inside : (i : Instruction) (ss : List Sign) → HasWords i → AreInside ss → AreInside (put_instruction i ss)
instruction_inside i ss h a = ((name_is_name i).2, immediates_inside i ss h a)

code_inside : (is : List Instruction) (ss : List Sign) → AllByRecursion HasWords is → AreInside ss → AreInside (put_code is ss)
code_inside [] ss all a = a
code_inside (i ∷ is) ss all a = instruction_inside i (put_code is ss) all.0 (code_inside is ss all.1 a)

folded_inside : (is : List Instruction) (ss : List Sign) → AllByRecursion HasWords is → AreInside ss → AreInside (put_folded is ss)
folded_inside [] ss all a = a
folded_inside (i ∷ is) ss all a = (refl, instruction_inside i (close_sign ∷ put_folded is ss) all.0 (refl, folded_inside is ss all.1 a))

taken : (n : ℕ) (is : List Instruction) → AllByRecursion HasWords is → AllByRecursion HasWords (take n is)
taken zero is all = tt
taken (suc n) [] all = tt
taken (suc n) (i ∷ is) all = (all.0, taken n is all.1)

-- ---- fields

type_inside_of : (t : FunctionType) (ss : List Sign) → AreInside ss → AreInside (put_type t ss)
type_inside_of t ss a = (refl, (refl, (refl, (refl, group_inside Param (codes "param") t.params _ refl (group_inside Result (codes "result") t.results _ refl (refl, (refl, a)))))))

described_inside : (k : ImportKind) (ss : List Sign) → IsImported k → AreInside ss → AreInside (put_described k ss)
described_inside (imports.Func t) ss h a = (refl, (refl, use_inside a_type_use t (close_sign ∷ ss) h (refl, a)))
described_inside (imports.Table l) ss h a = (refl, (refl, limits_inside spaces.Table l (word_sign (codes "funcref") ∷ close_sign ∷ ss) h (refl, (refl, a))))
described_inside (imports.Memory l) ss h a = (refl, (refl, limits_inside spaces.Memory l (close_sign ∷ ss) h (refl, a)))
described_inside (imports.Global g) ss h a = (refl, (refl, kind_inside g.mutable g.kind (close_sign ∷ ss) (refl, a)))

import_inside : (i : Imported) (ss : List Sign) → IsImported i.kind → AreInside ss → AreInside (put_import i ss)
import_inside i ss h a = (refl, (refl, (refl, (refl, described_inside i.kind (close_sign ∷ ss) h (refl, a)))))

function_inside : (t : ℕ) (body : FunctionBody) (ss : List Sign) → IsNumber t → AllByRecursion HasWords body.code → AreInside ss → AreInside (put_function t body ss)
function_inside t body ss h all a =
    (refl, (refl, use_inside a_type_use t _ h (group_inside Local (codes "local") body.locals _ refl (code_inside (without_end body.code) (close_sign ∷ ss) (taken _ body.code all) (refl, a)))))

functions_inside : (ts : List ℕ) (bodies : List FunctionBody) (ss : List Sign) → AllByRecursion IsNumber ts → AllByRecursion (λ (b : FunctionBody). AllByRecursion HasWords b.code) bodies → AreInside ss → AreInside (put_functions ts bodies ss)
functions_inside [] bodies ss h all a = a
functions_inside (t ∷ ts) [] ss h all a = a
functions_inside (t ∷ ts) (body ∷ bodies) ss h all a = function_inside t body _ h.0 all.0 (functions_inside ts bodies ss h.1 all.1 a)

exported_inside : (e : ExportKind) (ss : List Sign) → IsExported e → AreInside ss → AreInside (put_exported e ss)
exported_inside (exports.Func n) ss h a = (refl, (refl, (index_inside n h, (refl, a))))
exported_inside (exports.Table n) ss h a = (refl, (refl, (index_inside n h, (refl, a))))
exported_inside (exports.Memory n) ss h a = (refl, (refl, (index_inside n h, (refl, a))))
exported_inside (exports.Global n) ss h a = (refl, (refl, (index_inside n h, (refl, a))))

start_inside : (start : Option ℕ) (ss : List Sign) → IsMaximum start → AreInside ss → AreInside (put_start start ss)
start_inside None ss h a = a
start_inside (Some f) ss h a = (refl, (refl, (index_inside f h, (refl, a))))

all_inside : {X : Type 0} (P : X → Type 0) (f : X → List Sign → List Sign) → ((x : X) (ss : List Sign) → P x → AreInside ss → AreInside (f x ss)) → (xs : List X) (ss : List Sign) → AllByRecursion P xs → AreInside ss → AreInside (put_all f xs ss)
all_inside P f h [] ss all a = a
all_inside P f h (x ∷ xs) ss all a = h x (put_all f xs ss) all.0 (all_inside P f h xs ss all.1 a)

always : {X : Type 0} (xs : List X) → AllByRecursion (λ x. Unit {0}) xs
always [] = tt
always (x ∷ xs) = (tt, always xs)

pub module_inside : (m : WasmModule) → IsOfWords m → AllByRecursion IsInside (signs_of m)
module_inside m h =
    let end : AreInside (close_sign ∷ []) = (refl, tt) in
    let a10 = all_inside (λ (s : DataSegment). AllByRecursion HasWords s.offset × AreBytes s.bytes) put_segment (λ s ss w a. (refl, (refl, folded_inside (without_end s.offset) _ (taken _ s.offset w.0) (refl, (refl, a))))) m.segments (close_sign ∷ []) h.segments end in
    let a9 = all_inside (λ (e : ElementSegment). AllByRecursion HasWords e.offset × AllByRecursion IsNumber e.functions) put_element
    (λ e ss w a. (refl, (refl, folded_inside (without_end e.offset) _ (taken _ e.offset w.0) (refl, numbers_inside spaces.Func e.functions _ w.1 (refl, a))))) m.elements _ h.elements a10 in
    let a8 = start_inside m.start _ h.start a9 in
    let a7 = all_inside (λ (e : Exported). AreBytes e.name × IsExported e.kind) put_export (λ e ss w a. (refl, (refl, (refl, exported_inside e.kind (close_sign ∷ ss) w.1 (refl, a))))) m.exports _ h.exports a8 in
    let a6 = all_inside (λ (g : GlobalEntry). AllByRecursion HasWords g.init) put_global (λ g ss w a. (refl, (refl, kind_inside g.kind.mutable g.kind.kind _ (folded_inside (without_end g.init) _ (taken _ g.init w) (refl, a))))) m.globals _ h.globals a7 in
    let a5 = all_inside AreLimits put_memory (λ l ss w a. (refl, (refl, limits_inside spaces.Memory l (close_sign ∷ ss) w (refl, a)))) m.memories _ h.memories a6 in
    let a4 = all_inside AreLimits put_table (λ l ss w a. (refl, (refl, limits_inside spaces.Table l (word_sign (codes "funcref") ∷ close_sign ∷ ss) w (refl, (refl, a))))) m.tables _ h.tables a5 in
    let a3 = functions_inside m.functions m.bodies _ h.functions h.bodies a4 in
    let a2 = all_inside (λ (i : Imported). AreBytes i.module_name × AreBytes i.name × IsImported i.kind) put_import (λ i ss w a. import_inside i ss w.2 a) m.imports _ h.imports a3 in
    let a1 = all_inside (λ (t : FunctionType). Unit {0}) put_type (λ t ss u a. type_inside_of t ss a) m.types _ (always m.types) a2 in
    (refl, (refl, a1))
