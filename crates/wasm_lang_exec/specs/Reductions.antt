-- One reduction (sections 4.4.5 to 4.4.8): a configuration is values, and then instructions, of which the first may be one that
-- was entered. The reductions are counted so: a constant is none, entering a function is one with the call, an end is one, and a
-- jump is one with its branch.
use Rattle.std.specs.Prelude.{ℕ, zero, suc, List, [], ◌∷◌, ◌++◌, length, Option, Some, None, Bool, true, false, ◌&&◌, slice_get, reverse, if◌then◌else◌, option_map}
use Rattle.sem_words.specs.declared.word.Word.{Word}
use Rattle.sem_words.specs.declared.word.Word.TheVariants.{W32, W64}
use Rattle.sem_words.specs.declared.word.TrapKind.TheVariants as kinds
use Rattle.session_lang.specs.Observation.{EndPlain, trapped}
use Rattle.session_lang.specs.Imports.{ImportAnswer, goes_on, ends, answer_import}
use Rattle.wasm_lang.specs.declared.types.ValType.{ValType}
use Rattle.wasm_lang.specs.declared.types.ImportKind.{ImportKind}
use Rattle.wasm_lang.specs.declared.types.ImportKind.TheVariants as imports
use Rattle.wasm_lang.specs.Instructions.{const32, const64}
use Rattle.wasm_lang.specs.Modules.{FunctionType, Imported, FunctionBody, WasmModule}
use Rattle.wasm_lang_valid.specs.Typing.{same}
use Rattle.session_lang.specs.Names.{import_name}
use Rattle.wasm_lang_exec.specs.Code.{unreachable, block, loop, if_block, br, br_if, br_table, return, call, call_indirect, plain, Trees, ε, ◌▹◌, ◌⊕◌, tree_of}
use Rattle.wasm_lang_exec.specs.Store.{Store, word_of_type, zeros_of, written}
use Rattle.wasm_lang_exec.specs.Plain.{Effect, goes, traps, sticks, do_plain}

-- ---- functions

-- what is called: an import, by its one name, or a function of the module; a function whose code is no expression has no body
pub data Callee : Type 0 where
  an_import : (name : List ℕ) → FunctionType → Callee
  a_function : FunctionType → (locals : List ValType) → Trees → Callee

abbrev pub if_function : {A : Type 0} → ImportKind → (ℕ → A) → A → A
if_function (imports.Func t) then_it otherwise = then_it t
if_function _ then_it otherwise = otherwise

abbrev pub imported_callee : WasmModule → Imported → ℕ → Option Callee
imported_callee m i t = option_map (an_import (import_name i.module_name i.name)) (slice_get m.types t)

-- the imported functions, in order
abbrev pub imported_callees : WasmModule → List Imported → List (Option Callee)
imported_callees m [] = []
imported_callees m (i ∷ is) = if_function i.kind (λ t. imported_callee m i t ∷ imported_callees m is) (imported_callees m is)

abbrev pub own_callee : Option FunctionType → FunctionBody → Option Trees → Option Callee
own_callee (Some t) b (Some code) = Some (a_function t b.locals code)
own_callee _ b code = None

abbrev pub own_callees : WasmModule → List ℕ → List FunctionBody → List (Option Callee)
own_callees m (t ∷ ts) (b ∷ bs) = own_callee (slice_get m.types t) b (tree_of b.code) ∷ own_callees m ts bs
own_callees m _ bs = []

-- all functions, the imported ones first
abbrev pub callees : WasmModule → List (Option Callee)
callees m = imported_callees m m.imports ++ own_callees m m.functions m.bodies

abbrev pub found : Option (Option Callee) → Option Callee
found None = None
found (Some c) = c

abbrev pub callee_at : WasmModule → ℕ → Option Callee
callee_at m f = found (slice_get (callees m) f)

abbrev pub type_of : Callee → FunctionType
type_of (an_import name t) = t
type_of (a_function t locals code) = t

-- ---- configurations

-- The topmost value stands first in its list.
pub data Config : Type 0 where
  -- v* instr*
  Code : (values : List Word) (code : Trees) → Config
  -- v* label_n{continuation} inside end instr*
  Label : (values : List Word) (arity : ℕ) (continuation : Trees) (inside : Config) (code : Trees) → Config
  -- v* frame_n{locals} inside end instr*
  Frame : (values : List Word) (arity : ℕ) (locals : List Word) (inside : Config) (code : Trees) → Config

-- what one reduction makes of a configuration, its locals and the store
pub data Reduct : Type 0 where
  to : Config → (locals : List Word) → Store → Reduct
  -- nothing is left to reduce
  is_values : List Word → Reduct
  -- the label that many labels out reduces it
  branches : (label : ℕ) → List Word → Reduct
  -- the frame reduces it
  returns : List Word → Reduct
  -- the session ends
  stops : EndPlain → Store → Reduct
  -- there is no reduction: an operand is missing or of another type
  is_stuck : Reduct

-- ---- operands

abbrev pub and_value : Word → Option (List Word) → Option (List Word)
and_value v None = None
and_value v (Some vs) = Some (v ∷ vs)

-- the n topmost values
abbrev pub top_of : ℕ → List Word → Option (List Word)
top_of zero values = Some []
top_of (suc n) [] = None
top_of (suc n) (v ∷ values) = and_value v (top_of n values)

abbrev pub below_top : ℕ → List Word → List Word
below_top zero values = values
below_top (suc n) [] = []
below_top (suc n) (v ∷ values) = below_top n values

abbrev pub arity_of : Option ValType → ℕ
arity_of None = 0
arity_of (Some t) = 1

-- ---- calls

abbrev pub result_word : List ValType → ℕ → List Word
result_word [] n = []
result_word (t ∷ ts) n = word_of_type t n ∷ []

abbrev pub after_answer : ImportAnswer → List ValType → List Word → Trees → List Word → Store → Reduct
after_answer (ends e) results values code locals s = stops e s
after_answer (goes_on g) results values code locals s =
    to (Code (result_word results g.word ++ values) code) locals
    (record { memory = written g.writes s.memory; globals = s.globals; table = s.table; events = s.events ++ g.events; replies = g.replies })

abbrev pub enter : Option Callee → Option (List Word) → List Word → Trees → List Word → Store → Reduct
enter (Some (an_import name t)) (Some arguments) values code locals s = after_answer (answer_import name (reverse arguments) s.replies) t.results values code locals s
enter (Some (a_function t more body)) (Some arguments) values code locals s =
    to (Frame values (length t.results) (reverse arguments ++ zeros_of more) (Code [] body) code) locals s
enter _ arguments values code locals s = is_stuck

abbrev pub params_of : Option Callee → ℕ
params_of None = 0
params_of (Some c) = length (type_of c).params

abbrev pub do_call : Option Callee → List Word → Trees → List Word → Store → Reduct
do_call c values code locals s = enter c (top_of (params_of c) values) (below_top (params_of c) values) code locals s

abbrev pub same_types : List ValType → List ValType → Bool
same_types [] [] = true
same_types (t ∷ ts) (u ∷ us) = same t u && same_types ts us
same_types _ us = false

abbrev pub same_type : FunctionType → FunctionType → Bool
same_type t u = same_types t.params u.params && same_types t.results u.results

abbrev pub of_type : Option FunctionType → Option Callee → Bool
of_type (Some t) (Some c) = same_type t (type_of c)
of_type _ c = false

-- an entry that is outside or empty, and one of another type, trap
abbrev pub call_entry : WasmModule → ℕ → Option (Option ℕ) → List Word → Trees → List Word → Store → Reduct
call_entry m t (Some (Some f)) values code locals s =
    if of_type (slice_get m.types t) (callee_at m f) then do_call (callee_at m f) values code locals s else stops (trapped kinds.OtherType) s
call_entry m t _ values code locals s = stops (trapped kinds.TableEntry) s

-- ---- instructions

abbrev pub choose : ℕ → {A : Type 0} → A → A → A
choose zero a b = b
choose (suc n) a b = a

abbrev pub default_to : ℕ → Option ℕ → ℕ
default_to d None = d
default_to d (Some l) = l

abbrev pub after_effect : Effect → Trees → Store → Reduct
after_effect (goes values locals s') code s = to (Code values code) locals s'
after_effect (traps kind) code s = stops (trapped kind) s
after_effect sticks code s = is_stuck

module _ (m : WasmModule) where
  abbrev pub reduce_code : Trees → List Word → List Word → Store → Reduct
  reduce_code ε values locals s = is_values values
  reduce_code (plain (const32 n) ▹ code) values locals s = reduce_code code (W32 n ∷ values) locals s
  reduce_code (plain (const64 n) ▹ code) values locals s = reduce_code code (W64 n ∷ values) locals s
  reduce_code (plain p ▹ code) values locals s = after_effect (do_plain p values locals s) code s
  reduce_code (unreachable ▹ code) values locals s = stops (trapped kinds.Unreachable) s
  reduce_code (block r body ▹ code) values locals s = to (Label values (arity_of r) ε (Code [] body) code) locals s
  reduce_code (loop r body ▹ code) values locals s = to (Label values 0 (loop r body ▹ ε) (Code [] body) code) locals s
  reduce_code (if_block r first second ▹ code) (W32 c ∷ values) locals s = to (Label values (arity_of r) ε (Code [] (choose c first second)) code) locals s
  reduce_code (if_block r first second ▹ code) _ locals s = is_stuck
  reduce_code (br l ▹ code) values locals s = branches l values
  reduce_code (br_if l ▹ code) (W32 c ∷ values) locals s = choose c (branches l values) (to (Code values code) locals s)
  reduce_code (br_if l ▹ code) _ locals s = is_stuck
  reduce_code (br_table ls d ▹ code) (W32 i ∷ values) locals s = branches (default_to d (slice_get ls i)) values
  reduce_code (br_table ls d ▹ code) _ locals s = is_stuck
  reduce_code (return ▹ code) values locals s = returns values
  reduce_code (call f ▹ code) values locals s = do_call (callee_at m f) values code locals s
  reduce_code (call_indirect t ▹ code) (W32 i ∷ values) locals s = call_entry m t (slice_get s.table i) values code locals s
  reduce_code (call_indirect t ▹ code) _ locals s = is_stuck

  -- what leaves a label or a frame takes its values along
  abbrev pub leave : Option (List Word) → List Word → Trees → List Word → Store → Reduct
  leave None values code locals s = is_stuck
  leave (Some vs) values code locals s = to (Code (vs ++ values) code) locals s

  abbrev pub reduce_label : Reduct → List Word → ℕ → Trees → Trees → List Word → Store → Reduct
  reduce_label (to c locals' s') values n continuation code locals s = to (Label values n continuation c code) locals' s'
  reduce_label (is_values vs) values n continuation code locals s = to (Code (vs ++ values) code) locals s
  reduce_label (branches zero vs) values n continuation code locals s = leave (top_of n vs) values (continuation ⊕ code) locals s
  reduce_label (branches (suc k) vs) values n continuation code locals s = branches k vs
  reduce_label (returns vs) values n continuation code locals s = returns vs
  reduce_label (stops e s') values n continuation code locals s = stops e s'
  reduce_label is_stuck values n continuation code locals s = is_stuck

  -- a branch to the outermost label leaves the function, as a return does
  abbrev pub reduce_frame : Reduct → List Word → ℕ → Trees → List Word → Store → Reduct
  reduce_frame (to c inner s') values n code locals s = to (Frame values n inner c code) locals s'
  reduce_frame (is_values vs) values n code locals s = to (Code (vs ++ values) code) locals s
  reduce_frame (branches zero vs) values n code locals s = leave (top_of n vs) values code locals s
  reduce_frame (branches (suc k) vs) values n code locals s = is_stuck
  reduce_frame (returns vs) values n code locals s = leave (top_of n vs) values code locals s
  reduce_frame (stops e s') values n code locals s = stops e s'
  reduce_frame is_stuck values n code locals s = is_stuck

  abbrev pub reduce : Config → List Word → Store → Reduct
  reduce (Code values code) locals s = reduce_code code values locals s
  reduce (Label values n continuation inside code) locals s = reduce_label (reduce inside locals s) values n continuation code locals s
  reduce (Frame values n inner inside code) locals s = reduce_frame (reduce inside inner s) values n code locals s
