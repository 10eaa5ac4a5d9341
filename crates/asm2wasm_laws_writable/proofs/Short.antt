-- How long vectors of parts of the translated module are, but for those of imports, exports and bodies.
use Rattle.std.proofs.Common.{◌≡◌, ℕ, ◌+◌, ◌*◌, ◌≤◌, Bool, true, false, List, [], ◌∷◌, length, map, refl, arith}
use Rattle.std.specs.Prelude.{if◌then◌else◌}
use Rattle.std.specs.List.{AllByRecursion}
use Rattle.std.proofs.lemmas.List.{length-map}
use Rattle.std.proofs.lemmas.List.Elements.{All-from_recursion}
use Rattle.wasm_lang.specs.declared.types.ValType.TheVariants.{I32}
use Rattle.wasm_lang.specs.Instructions.{Instruction, plain, const32, end_mark}
use Rattle.wasm_lang.specs.Modules.{FunctionType, ElementSegment}
use Rattle.wasm_binary_write.specs.Spelling.{unsigned, items, vector, function_type, instruction, table, global, element}
use Rattle.wasm_laws_write.specs.Fits.{FitsU32}
use Rattle.wasm_laws_write.specs.Lengths.{instruction_size, code_size, IsNarrow, total}
use Rattle.wasm_laws_write.proofs.Short.{numbers_are_short, code_is_short, vectors_are_short, types_are_short, limits_are_short, globals_are_short, elements_are_short}
use Rattle.asm_lang.specs.Trees.{Init, number, decimal, foreign_int, foreign_double, member, math, view}
use Rattle.asm_lang.specs.Modules.{Variable, Table, Module}
use Rattle.asm_lang_valid.specs.Scope.{Signature}
use Rattle.asm_lang_valid.specs.LimitRows.{foreign_calls}
use Rattle.asm_lang_valid.specs.Refusal.{IsAccepted}
use Rattle.asm2wasm_lang.specs.Calling.{exactly}
use Rattle.asm2wasm_lang.specs.Tables.{entries_of}
use Rattle.asm2wasm_translation.specs.Modules.{type_for, first_value, global_for, table_for, elements_for}
use Rattle.asm2wasm_laws_writable.proofs.Lists.{total_most}
use Rattle.asm2wasm_laws_writable.proofs.Numbers.{few_entries, first_narrow, elements_numbers_fit}

-- ---- vectors

module _ {X : Type 0} (f : X → List ℕ) where
  as_long : (xs : List X) → AllByRecursion (λ x. length (f x) ≤ length (f x)) xs
  as_long [] = tt
  as_long (x ∷ xs) = (omega arith, as_long xs)

  -- the count, and what the items have together
  pub vector_total : (xs : List X) → FitsU32 (length xs) → length (vector f xs) ≤ 5 + total (λ x. length (f x)) xs
  vector_total xs few = vectors_are_short X f (λ x. length (f x)) xs few (All-from_recursion (λ x. length (f x) ≤ length (f x)) xs (as_long xs))

  -- items of at most k bytes each
  pub vector_most : (k : ℕ) (xs : List X) → FitsU32 (length xs) → AllByRecursion (λ x. length (f x) ≤ k) xs → length (vector f xs) ≤ 5 + k * length xs
  vector_most k xs few a = let all = vector_total xs few in let most = total_most (λ x. length (f x)) k xs a in omega (arith, all, most)

-- ---- types

result_few : (b : Bool) → length (if b then I32 ∷ [] else []) ≤ 1
result_few true = omega arith
result_few false = omega arith

types_short : (ss : List Signature) → AllByRecursion (λ (t : FunctionType). length t.params ≤ 2000) (map type_for ss) → AllByRecursion (λ t. length (function_type t) ≤ 2012) (map type_for ss)
types_short [] a = tt
types_short (s ∷ ss) a =
    let params = a.0 in
    let results : length (type_for s).results ≤ 1 = result_few s.result in
    let short = types_are_short (type_for s) (omega (arith, params)) (omega (arith, results)) in
    (omega (arith, params, results, short), types_short ss a.1)

pub types_fit : (ss : List Signature) → length (map type_for ss) ≤ 10000 → AllByRecursion (λ (t : FunctionType). length t.params ≤ 2000) (map type_for ss) → FitsU32 (length (vector function_type (map type_for ss)))
types_fit ss few a = let most = vector_most function_type 2012 (map type_for ss) (omega (arith, few)) (types_short ss a) in omega (arith, few, most)

-- ---- numbers

numbers_short : (ns : List ℕ) → AllByRecursion FitsU32 ns → AllByRecursion (λ n. length (unsigned n) ≤ 5) ns
numbers_short [] a = tt
numbers_short (n ∷ ns) a = (numbers_are_short n a.0, numbers_short ns a.1)

pub numbers_vector_fits : (ns : List ℕ) → length ns ≤ 50000 → AllByRecursion FitsU32 ns → FitsU32 (length (vector unsigned ns))
numbers_vector_fits ns few a = let most = vector_most unsigned 5 ns (omega (arith, few)) (numbers_short ns a) in omega (arith, few, most)

pub no_items_fit : {X : Type 0} (f : X → List ℕ) → FitsU32 (length (vector f []))
no_items_fit f = let most = vector_most f 0 [] (omega arith) tt in omega (arith, most)

module _ (m : Module) (ok : IsAccepted m) where
  -- ---- globals

  first_size : (i : Init) → instruction_size (first_value m i) ≡ 1
  first_size (number z) = refl
  first_size (decimal bs) = refl
  first_size (foreign_int f p) = refl
  first_size (foreign_double f p) = refl
  first_size (member f p) = refl
  first_size (math f p) = refl
  first_size (view f p h) = refl

  one_short : (i : Instruction) → IsNarrow i → instruction_size i ≡ 1 → length (items instruction (i ∷ end_mark ∷ [])) ≤ 14
  one_short i narrow one =
      let short = code_is_short (i ∷ end_mark ∷ []) (All-from_recursion IsNarrow (i ∷ end_mark ∷ []) (narrow, (tt, tt))) in
      let size : code_size (i ∷ end_mark ∷ []) ≡ 2 = omega (arith, one) in
      omega (arith, short, size)

  globals_short : (vs : List Variable) → AllByRecursion (λ g. length (global g) ≤ 16) (map (global_for m) vs)
  globals_short [] = tt
  globals_short (v ∷ vs) =
      let short = globals_are_short (global_for m v) in
      let code = one_short (first_value m v.init) (first_narrow m ok v.init) (first_size v.init) in
      (omega (arith, short, code), globals_short vs)

  pub globals_vector_fits : (vs : List Variable) → length (map (global_for m) vs) ≤ 220000 → FitsU32 (length (vector global (map (global_for m) vs)))
  globals_vector_fits vs few = let most = vector_most global 16 (map (global_for m) vs) (omega (arith, few)) (globals_short vs) in omega (arith, few, most)

  -- ---- the table and its elements

  pub tables_vector_fits : (ts : List Table) → FitsU32 (length (vector table (table_for m ts)))
  tables_vector_fits [] = no_items_fit table
  tables_vector_fits (t ∷ ts) =
      let few = few_entries m ok in
      let fits : FitsU32 (length (entries_of m)) = omega (arith, few) in
      let short = limits_are_short (exactly (length (entries_of m))) (fits, fits) in
      let one : AllByRecursion (λ l. length (table l) ≤ 12) (table_for m (t ∷ ts)) = (omega (arith, short), tt) in
      let most = vector_most table 12 (table_for m (t ∷ ts)) (omega arith) one in
      omega (arith, most)

  element_short : (t : Table) (ts : List Table) → AllByRecursion (λ e. length (element e) ≤ 5242904) (elements_for m (t ∷ ts))
  element_short t ts =
      let numbers = map (λ i. length (foreign_calls m) + i) (entries_of m) in
      let few = few_entries m ok in
      let many : length numbers ≡ length (entries_of m) = length-map (entries_of m) (λ i. length (foreign_calls m) + i) in
      let segment : ElementSegment = record { table = 0; offset = plain (const32 0) ∷ end_mark ∷ []; functions = numbers } in
      let short = elements_are_short segment (omega arith) (omega (arith, few, many)) (elements_numbers_fit m ok) in
      let offset = one_short (plain (const32 0)) (omega arith) refl in
      (omega (arith, short, offset, many, few), tt)

  pub elements_vector_fits : (ts : List Table) → FitsU32 (length (vector element (elements_for m ts)))
  elements_vector_fits [] = no_items_fit element
  elements_vector_fits (t ∷ ts) = let most = vector_most element 5242904 (elements_for m (t ∷ ts)) (omega arith) (element_short t ts) in omega (arith, most)
