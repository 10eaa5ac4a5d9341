-- What the binary format asks of the module that an accepted text is translated to (WebAssembly Core 1.0, chapter 5).
use Rattle.std.specs.Prelude.{◌≡◌, ℕ, ◌+◌, ◌≤◌, true, List, length}
use Rattle.std.specs.List.{AllByRecursion}
use Rattle.wasm_lang.specs.declared.types.ValType.{ValType}
use Rattle.wasm_lang.specs.Shape.{IsShaped, IsWritable}
use Rattle.wasm_lang_valid.specs.Typing.{Context}
use Rattle.wasm_lang_exec.specs.Code.{Trees}
use Rattle.wasm_laws_sound.specs.Trees.{IsTyped}
use Rattle.wasm_laws_trees.specs.Spelled.{tree_levels}
use Rattle.wasm_laws_write.specs.Fits.{NumbersFit, SectionsFit}
use Rattle.wasm_laws_write.specs.Lengths.{IsNarrow}
use Rattle.wasm_laws_write.specs.Each.{EachIn}
use Rattle.asm_lang.specs.Heights.{IsWellFormed}
use Rattle.asm_lang.specs.Modules.{Function, Module}
use Rattle.asm_lang_valid.specs.Refusal.{IsAccepted}
use Rattle.asm_lang_valid.specs.Texts.{IsAcceptedText}
use Rattle.asm_lang_valid.specs.Typed.{scope_of}
use Rattle.asm2wasm_lang.specs.Heaps.{is_heap_length}
use Rattle.asm2wasm_translation.specs.Bodies.{function_code}
use Rattle.asm2wasm_translation.specs.Modules.{translation}
use Rattle.asm2wasm_lang.specs.Short.{IsOfShortText}
use Rattle.asm2wasm_laws_writable.specs.Parts.{NamesBelow, HasAtMost, ConstantFits, HaveFewClauses}

-- ---- code

-- typed code names what its context has, and labels that are open round it or in it
abbrev pub TypedNamesAreBelow : Type 0
TypedNamesAreBelow =
    (n : ℕ) (c : Context) (code : Trees) (before after : List ValType) → HasAtMost n c → length c.labels + tree_levels code ≤ n → IsTyped c code before after → EachIn (NamesBelow n) code

-- no switch has many clauses
abbrev pub ClausesAreFew : Type 0
ClausesAreFew = (m : Module) → IsAccepted m → IsWellFormed m → AllByRecursion (λ (f : Function). HaveFewClauses f.body) m.functions

-- literals, lengths of views, numbers of clauses and bases of tables are words, where the heap has `heap` bytes
abbrev pub ConstantsFit : Type 0
ConstantsFit =
    (m : Module) (heap : ℕ) → IsAccepted m → IsWellFormed m → is_heap_length heap ≡ true
    → AllByRecursion (λ (f : Function). EachIn ConstantFits (function_code heap (scope_of m f))) m.functions

abbrev pub FunctionsAreNarrow : Type 0
FunctionsAreNarrow =
    (m : Module) (heap : ℕ) → IsAccepted m → IsWellFormed m → is_heap_length heap ≡ true
    → AllByRecursion (λ (f : Function). EachIn IsNarrow (function_code heap (scope_of m f))) m.functions

-- ---- modules

-- names are UTF-8, and code is made of expressions whose instructions have opcodes
abbrev pub TranslationIsShaped : Type 0
TranslationIsShaped = (m : Module) (heap : ℕ) → IsWellFormed m → IsShaped (translation m heap)

abbrev pub TranslationsNumbersFit : Type 0
TranslationsNumbersFit = (m : Module) (heap : ℕ) → IsAccepted m → IsWellFormed m → is_heap_length heap ≡ true → NumbersFit (translation m heap)

abbrev pub TranslationsSectionsFit : Type 0
TranslationsSectionsFit = (m : Module) (heap : ℕ) → IsAccepted m → IsWellFormed m → IsOfShortText m → is_heap_length heap ≡ true → SectionsFit (translation m heap)

-- ---- texts

abbrev pub ShortTextsAreShort : Type 0
ShortTextsAreShort = (text : List ℕ) (m : Module) → IsAcceptedText text m → length text ≤ 16777216 → IsOfShortText m

-- some bytes spell the translation of an accepted text
abbrev pub TranslationIsWritable : Type 0
TranslationIsWritable = (text : List ℕ) (m : Module) (heap : ℕ) → IsAcceptedText text m → length text ≤ 16777216 → is_heap_length heap ≡ true → IsWritable (translation m heap)
