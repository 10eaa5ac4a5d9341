-- What single operations of asm.js do: reads and writes of views, calls that leave the module, and the standard library.
use Rattle.std.specs.Prelude.{ℕ, Bool, true, false, List, [], ◌∷◌, ◌++◌, Option, Some, None, ℤ, pos, option_and_then, map, slice_get}
use Rattle.sem_words.specs.declared.word.Word.{Word}
use Rattle.sem_words.specs.declared.word.Word.TheVariants.{W32}
use Rattle.sem_words.specs.declared.js_value.JsValue.{JsValue}
use Rattle.sem_words.specs.declared.js_value.JsValue.TheVariants.{Whole, Undef}
use Rattle.sem_words.specs.JsValues.{to_number_of, to_uint32_of}
use Rattle.sem_words.specs.JsOperators.{signed_value, js_imul_of, js_clz32_of}
use Rattle.heap_lang.specs.declared.kind.ViewKind.{ViewKind}
use Rattle.heap_lang.specs.declared.kind.ViewKind.TheVariants.{I8, U8, I16, U16, I32, U32}
use Rattle.heap_lang.specs.Heap.{load, store, with_run}
use Rattle.session_lang.specs.Script.{WritePlain}
use Rattle.session_lang.specs.Imports.{low_word, ImportAnswer, goes_on, ends, answer_import}
use Rattle.asm_lang.specs.Modules.{Function, Module}
use Rattle.asm_lang_valid.specs.declared.meaning.Element.{Element}
use Rattle.asm_lang_valid.specs.declared.meaning.Element.TheVariants.{Int8, Uint8, Int16, Uint16, Int32, Uint32}
use Rattle.asm_lang_valid.specs.declared.meaning.Builtin.{Builtin}
use Rattle.asm_lang_valid.specs.declared.meaning.Builtin.TheVariants.{Imul, Clz32}
use Rattle.asm_lang_valid.specs.Scope.{Meaning, a_foreign, a_builtin, a_view, a_function, a_table, module_meaning}
use Rattle.asm_lang_exec.specs.Runs.{Part, goes, stops, wrong, goes_wrong, defined}

-- ---- views (ECMA-262, 6th edition, sections 9.4.5.8 and 9.4.5.9)

abbrev pub kind_of : Element → ViewKind
kind_of Int8 = I8
kind_of Uint8 = U8
kind_of Int16 = I16
kind_of Uint16 = U16
kind_of Int32 = I32
kind_of Uint32 = U32

-- a read outside the view gives undefined
abbrev pub element_value : Option ℤ → JsValue
element_value None = Undef
element_value (Some z) = Whole z

-- the element of the view at an index
abbrev pub read_element : Meaning → JsValue → Part JsValue
read_element (a_view v) (Whole i) p = goes (element_value (load (kind_of v) i p.heap)) p
read_element _ _ p = wrong

-- a write outside the view does nothing; the value of a store is the value that was stored, before its conversion
abbrev pub write_element : Meaning → JsValue → JsValue → Part JsValue
write_element (a_view v) (Whole i) x p = goes x (record p { heap = store (kind_of v) i (to_uint32_of x) p.heap })
write_element _ _ x p = wrong

-- ---- calls that leave the module

-- a value in an event
abbrev pub word : JsValue → Word
word v = W32 (to_uint32_of v)

-- byte writes, in order
abbrev pub with_writes : List WritePlain → List ℕ → List ℕ
with_writes [] heap = heap
with_writes (w ∷ ws) heap = with_writes ws (with_run w.at w.bytes heap)

-- the caller sees the low 32 bits as a signed number
abbrev pub answered : ImportAnswer → Part JsValue
answered (ends e) p = stops e p
answered (goes_on g) p = goes (signed_value (low_word g.word)) (record p { heap = with_writes g.writes p.heap; replies = g.replies; events = p.events ++ g.events })

abbrev pub call_import : List ℕ → List JsValue → Part JsValue
call_import name vs p = answered (answer_import name (map word vs) p.replies) p

-- ---- callees

-- Math.imul and Math.clz32 (sections 20.2.2.19 and 20.2.2.11)
abbrev pub builtin_value : Builtin → List JsValue → Option JsValue
builtin_value Imul (x ∷ y ∷ []) = js_imul_of x y
builtin_value Clz32 (x ∷ []) = js_clz32_of x
builtin_value _ vs = None

-- what a call of a function of the module does
abbrev pub Calls : Type 0
Calls = Function → List JsValue → Part JsValue

abbrev pub call_named : Calls → Meaning → List JsValue → Part JsValue
call_named call (a_function f) vs = call f vs
call_named call (a_foreign name) vs = call_import name vs
call_named call (a_builtin b) vs = defined (builtin_value b vs)
call_named call _ vs = goes_wrong

abbrev pub function_of : Meaning → Option Function
function_of (a_function f) = Some f
function_of _ = None

abbrev pub member_at : List (List ℕ) → JsValue → Option (List ℕ)
member_at ns (Whole (pos i)) = slice_get ns i
member_at ns _ = None

-- the function that a table has at an index
abbrev pub entry_of : Module → Meaning → JsValue → Option Function
entry_of m (a_table t) v = option_and_then (λ n. function_of (module_meaning m n)) (member_at t.members v)
entry_of m _ v = None

-- the marks of the parameters convert what is passed: `p = p|0` and `p = +p` (asm.js draft, section 6.4)
abbrev pub marked : Bool → JsValue → JsValue
marked false v = signed_value (to_uint32_of v)
marked true v = to_number_of v
