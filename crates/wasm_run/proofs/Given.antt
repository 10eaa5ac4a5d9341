-- Numbers of the script, and the names that they are given to.
use Rattle.std.proofs.Common.{◌≡◌, ℕ, ◌+◌, ◌<◌, ◌≤◌, zero, suc, Bool, true, false, cond, List, [], ◌∷◌, Option, Some, None, length, drop, get_or, refl, sym, ap, ◌∙◌, arith}
use Rattle.std.proofs.lemmas.Bool.Decides.{nat_tests}
use Rattle.std.specs.Prelude.{ℤ, nat_lt, slice_get}
use Rattle.wasm_lang.specs.declared.types.ValType.{ValType}
use Rattle.wasm_lang.specs.Modules.{WasmModule}
use Rattle.wasm_lang_valid.specs.declared.profile.Beyond.{Beyond}
use Rattle.wasm_lang_valid.specs.declared.profile.Beyond.TheVariants.{ImportedTable, MutableImport, MemoryLarge}
use Rattle.wasm_lang_valid.specs.declared.profile.Outside.{Outside}
use Rattle.wasm_lang_valid.specs.ModuleRules.{is_table}
use Rattle.wasm_lang_valid.specs.Runnable.{is_mutable, first_import, pages, above, row_or, not_runnable}
use Rattle.wasm_lang_exec.specs.Session.{word_for, words_for}

-- past the last number there are no words
no_more : (ts : List ValType) → words_for ts [] ≡ []
no_more [] = refl
no_more (t ∷ ts) = refl

pub no_words : (ts : List ValType) (zs : List ℤ) (k : ℕ) → slice_get zs k ≡ None → words_for (drop k ts) (drop k zs) ≡ []
no_words [] [] zero h = refl
no_words [] [] (suc k) h = refl
no_words [] (z ∷ zs) zero h = refl
no_words [] (z ∷ zs) (suc k) h = refl
no_words (t ∷ ts) [] zero h = refl
no_words (t ∷ ts) [] (suc k) h = no_more (drop k ts)
no_words (t ∷ ts) (z ∷ zs) zero h = cc h
no_words (t ∷ ts) (z ∷ zs) (suc k) h = no_words ts zs k h

-- the word of the next number
next_word : (ts : List ValType) (zs : List ℤ) (k : ℕ) (d : ValType) (z : ℤ) → k < length ts → slice_get zs k ≡ Some z
    → words_for (drop k ts) (drop k zs) ≡ word_for (get_or ts k d) z ∷ words_for (drop (suc k) ts) (drop (suc k) zs)
next_word [] zs k d z inside got = absurd (omega (arith, inside))
next_word (t ∷ ts) [] k d z inside got = cc got
next_word (t ∷ ts) (y ∷ zs) zero d z inside got = ap (λ x. word_for t x ∷ words_for ts zs) (cc got)
next_word (t ∷ ts) (y ∷ zs) (suc k) d z inside got = next_word ts zs k d z (omega (arith, inside)) got

pub one_word : (ts : List ValType) (zs : List ℤ) (k : ℕ) (d : ValType) (z : ℤ) → k < length ts → slice_get zs k ≡ Some z
    → words_for (drop k ts) (drop k zs) ≡ word_for (get_or ts k d) z ∷ words_for (drop (k + 1) ts) (drop (k + 1) zs)
one_word ts zs k d z inside got =
    let e : suc k ≡ k + 1 = omega arith in
    next_word ts zs k d z inside got ∙ ap (λ n. word_for (get_or ts k d) z ∷ words_for (drop n ts) (drop n zs)) e

-- ---- the pages of a module that can be run

no_row : (row : Beyond) (value : Option ℕ) (other : Option Outside) → row_or row value other ≡ None → value ≡ None
no_row row None other h = refl
no_row row (Some n) other h = cc h

no_other : (row : Beyond) (value : Option ℕ) (other : Option Outside) → row_or row value other ≡ None → other ≡ None
no_other row None other h = h
no_other row (Some n) other h = cc h

not_more : (limit n : ℕ) (b : Bool) → nat_lt limit n ≡ b → ◌≡◌ {A = Option ℕ} (cond b (Some n) None) None → n ≤ limit
not_more limit n true is h = cc h
not_more limit n false is h = grind (arith, nat_tests)

pub few_pages : (m : WasmModule) (n : ℕ) → not_runnable m ≡ None → pages m ≡ Some n → n ≤ 4096
few_pages m n h is =
    let large = row_or MemoryLarge (above 4096 (pages m)) None in
    let table = no_other ImportedTable (first_import is_table 0 m.imports) (row_or MutableImport (first_import is_mutable 0 m.imports) large) h in
    let few = no_row MemoryLarge (above 4096 (pages m)) None (no_other MutableImport (first_import is_mutable 0 m.imports) large table) in
    not_more 4096 n (nat_lt 4096 n) refl (sym (ap (above 4096) is) ∙ few)
