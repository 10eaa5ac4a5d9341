-- The tokens of a module with their marks are of the grammar.
use Rattle.std.proofs.Common.{◌≡◌, ℕ, ◌-◌, Bool, true, false, List, [], ◌∷◌, ◌++◌, length, take, Option, Some, None, is_some, codes, decimal, refl, sym, ap, ◌∙◌, subst, arith, length-append}
use Rattle.std.specs.List.{AllByRecursion}
use Rattle.std.proofs.Math.Seq.{take-append_seam}
use Rattle.std.proofs.lemmas.List.Elements.{recursion_from_All}
use Rattle.sem_words.specs.Words.{signed_of}
use Rattle.wasm_lang.specs.declared.types.ValType.{ValType}
use Rattle.wasm_lang.specs.declared.types.ValType.TheVariants.{I32, I64}
use Rattle.wasm_lang.specs.declared.types.Limits.{Limits}
use Rattle.wasm_lang.specs.declared.types.ImportKind.{ImportKind}
use Rattle.wasm_lang.specs.declared.types.ImportKind.TheVariants as imports
use Rattle.wasm_lang.specs.declared.types.ExportKind.{ExportKind}
use Rattle.wasm_lang.specs.declared.types.ExportKind.TheVariants as exports
use Rattle.wasm_lang.specs.Instructions.{Plain, global_get, const32, const64, Instruction, plain, end_mark}
use Rattle.wasm_lang.specs.Modules.{FunctionType, Imported, GlobalEntry, Exported, ElementSegment, DataSegment, FunctionBody, WasmModule}
use Rattle.wasm_lang.specs.Shape.{HasOpcode, IsShapedCode, IsShaped}
use Rattle.wat_lang.specs.declared.parts.Space.{Space}
use Rattle.wat_lang.specs.declared.parts.Space.TheVariants as spaces
use Rattle.wat_lang.specs.declared.parts.Part.{Part}
use Rattle.wat_lang.specs.declared.parts.Part.TheVariants.{Param, Result, Local}
use Rattle.wat_lang.specs.declared.parts.Rule.TheVariants as rules
use Rattle.wat_lang.specs.Tokens.{atom}
use Rattle.wat_lang.specs.Grammar.{Mark, nothing, binds, a_type_use, a_minimum, an_opening, a_number, an_id, meets, row, Item, token, rule, opened, closed, rows, may_end, first, later}
use Rattle.wat_lang.specs.Printing.{without_end}
use Rattle.wat_laws_grammar.specs.Machine.{pick}
use Rattle.wat_laws_print.specs.Words.{IsNumber, AreBytes, HasPlainWords, HasWords, IsMaximum, AreLimits, IsImported, IsExported, IsOfWords}
use Rattle.wat_laws_print.proofs.ReadNumbers.{decimal_no_id, signed_read, word_32_short, word_64_short}
use Rattle.wat_laws_again.specs.Signs.{Sign, open_sign, close_sign, word_sign, number_sign, put_types, put_group, put_maximum, put_limits, put_mutable, put_numbers, put_instruction, put_code, put_folded, put_all, put_type, put_described, put_import, put_function, put_functions, put_table, put_memory, put_global, put_exported, put_export, put_start, put_element, put_segment, put_fields, signs_of}
use Rattle.wat_laws_again.specs.Fitting.{IsPlainValue, IsValue, IsConstant, HasConstants}
use Rattle.wat_laws_again.proofs.Deriving.{Fits, fits_end, fits_token, fits_row, Skips, fits_left, one_row}
use Rattle.wat_laws_again.proofs.CodeFits.{word_meets, index_meets, type_meets, Follows, code_follows, IsWritten, split, use_fits, code_fits}

-- ---- lists

both : {X : Type 0} (P Q : X → Type 0) (xs : List X) → AllByRecursion P xs → AllByRecursion Q xs → AllByRecursion (λ x. P x × Q x) xs
both P Q [] a b = tt
both P Q (x ∷ xs) a b = ((a.0, b.0), both P Q xs a.1 b.1)

always : {X : Type 0} (xs : List X) → AllByRecursion (λ x. Unit {0}) xs
always [] = tt
always (x ∷ xs) = (tt, always xs)

end_left : (inner : List Instruction) → without_end (inner ++ end_mark ∷ []) ≡ inner
end_left inner =
    let e : length (inner ++ end_mark ∷ []) - 1 ≡ length inner = omega (arith, length-append inner (end_mark ∷ [])) in
    ap (λ n. take n (inner ++ end_mark ∷ [])) e ∙ take-append_seam inner (end_mark ∷ [])

-- ---- lists of types

more_fits : (p : Part) (ts : List ValType) {is : List Item} {ss : List Sign} → Fits is (close_sign ∷ ss) → Fits (rule (rules.More p) ∷ is) (put_types p ts (close_sign ∷ ss))
unfolding rows may_end
more_fits p [] {is = is} {ss = ss} d = fits_left (rules.More p) is (close_sign ∷ ss) refl refl d
more_fits p (t ∷ ts) d = fits_row (rules.More p) first (type_meets t) (more_fits p ts d)

types_fit : (p : Part) (t : ValType) (ts : List ValType) {is : List Item} {ss : List Sign} → Fits is (close_sign ∷ ss) → Fits (rule (rules.Types p) ∷ is) (put_types p (t ∷ ts) (close_sign ∷ ss))
unfolding rows
types_fit p t ts d = fits_row (rules.Types p) first (type_meets t) (more_fits p ts d)

-- a list, behind which a list of the same part or a later one may stand
params_fit : (ts : List ValType) {is : List Item} {ss : List Sign} → Fits (rule (rules.Heads false Param) ∷ is) ss → Fits (rule (rules.Heads false Param) ∷ is) (put_group Param (codes "param") ts ss)
unfolding rows
params_fit [] d = d
params_fit (t ∷ ts) d = fits_row (rules.Heads false Param) first refl (fits_row (rules.Head false Param) first refl (types_fit Param t ts (fits_token refl d)))

results_fit : (ts : List ValType) (is : List Item) (ss : List Sign) → Fits is (close_sign ∷ ss) → Fits (rule (rules.Heads false Param) ∷ is) (put_group Result (codes "result") ts (close_sign ∷ ss))
unfolding rows may_end
results_fit [] is ss d = fits_left (rules.Heads false Param) is (close_sign ∷ ss) refl refl d
results_fit (t ∷ ts) is ss d =
    fits_row (rules.Heads false Param) first refl (fits_row (rules.Head false Param) (later first) refl
    (types_fit Result t ts (fits_token refl (fits_left (rules.Heads false Result) is (close_sign ∷ ss) refl refl d))))

no_heads : (l : Bool) (p : Part) (ss : List Sign) → Follows ss → Skips (rules.Heads l p) ss
unfolding rows
no_heads l p [] f = tt
no_heads l p (s ∷ ss) f = one_row (row an_opening nothing (rule (rules.Head l p) ∷ [])) s.1 f.2

locals_fit : (ts : List ValType) (is : List Item) (ss : List Sign) → Follows ss → Fits is ss → Fits (rule (rules.Heads true Param) ∷ is) (put_group Local (codes "local") ts ss)
unfolding rows may_end
locals_fit [] is ss f d = fits_left (rules.Heads true Param) is ss refl (no_heads true Param ss f) d
locals_fit (t ∷ ts) is ss f d =
    fits_row (rules.Heads true Param) first refl (fits_row (rules.Head true Param) (later (later first)) refl
    (types_fit Local t ts (fits_token refl (fits_left (rules.Heads true Local) is ss refl (no_heads true Local ss f) d))))

-- ---- limits and types of globals

no_bound : (s : Space) (n : ℕ) → IsNumber n → pick (rows (rules.Bound s)) (atom (decimal n)) ≡ None
unfolding rows
no_bound s n h = one_row (row an_id (binds s) []) (atom (decimal n)) (decimal_no_id n (omega (arith, h)))

-- a table's, and what it holds
table_limits_fit : (l : Limits) {is : List Item} {ss : List Sign} → AreLimits l → Fits is ss
    → Fits (token a_number (a_minimum spaces.Table) ∷ rule rules.TableEnd ∷ is) (put_limits spaces.Table l (word_sign (codes "funcref") ∷ ss))
unfolding rows
table_limits_fit l {is = is} {ss = ss} h d = fits_token (word_meets l.min h.0) (by l.max h.1)
  where
    by : (max : Option ℕ) → IsMaximum max → Fits (rule rules.TableEnd ∷ is) (put_maximum max (word_sign (codes "funcref") ∷ ss))
    by None m = fits_row rules.TableEnd (later first) refl d
    by (Some n) m = fits_row rules.TableEnd first (word_meets n m) (fits_token refl d)

memory_limits_fit : (l : Limits) {is : List Item} {ss : List Sign} → AreLimits l → Fits is (close_sign ∷ ss)
    → Fits (token a_number (a_minimum spaces.Memory) ∷ rule rules.Maximum ∷ is) (put_limits spaces.Memory l (close_sign ∷ ss))
unfolding rows may_end
memory_limits_fit l {is = is} {ss = ss} h d = fits_token (word_meets l.min h.0) (by l.max h.1)
  where
    by : (max : Option ℕ) → IsMaximum max → Fits (rule rules.Maximum ∷ is) (put_maximum max (close_sign ∷ ss))
    by None m = fits_left rules.Maximum is (close_sign ∷ ss) refl refl d
    by (Some n) m = fits_row rules.Maximum first (word_meets n m) d

kind_fits : (m : Bool) (t : ValType) {is : List Item} {ss : List Sign} → Fits is ss → Fits (rule rules.Kind ∷ is) (put_mutable m t ss)
unfolding rows
kind_fits false t d = fits_row rules.Kind first (type_meets t) d
kind_fits true t d = fits_row rules.Kind (later first) refl (fits_token refl (fits_token (type_meets t) (fits_token refl d)))

no_id_of_global : (m : Bool) (t : ValType) (ss : List Sign) → Skips (rules.Bound spaces.Global) (put_mutable m t ss)
unfolding rows
no_id_of_global true t ss = refl
no_id_of_global false I32 ss = refl
no_id_of_global false I64 ss = refl

-- ---- first values and offsets

value_fits : (p : Plain) {is : List Item} {ss : List Sign} → IsPlainValue p → HasPlainWords p → Fits is ss → Fits (opened ∷ rule rules.Constant ∷ is) (open_sign ∷ put_instruction (plain p) (close_sign ∷ ss))
unfolding rows
value_fits (global_get x) v h d = fits_token refl (fits_row rules.Constant (later (later first)) refl (fits_token (index_meets x h) (fits_token refl d)))
value_fits (const32 w) v h d = fits_token refl (fits_row rules.Constant first refl (fits_token (ap is_some (signed_read (signed_of 32 w) (word_32_short w h))) (fits_token refl d)))
value_fits (const64 w) v h d = fits_token refl (fits_row rules.Constant (later first) refl (fits_token (ap is_some (signed_read (signed_of 64 w) (word_64_short w h))) (fits_token refl d)))
value_fits _ v h d = absurd v

constant_fits : (code : List Instruction) {is : List Item} {ss : List Sign} → IsConstant code → AllByRecursion HasWords code → Fits is ss → Fits (opened ∷ rule rules.Constant ∷ is) (put_folded (without_end code) ss)
constant_fits code {is = is} {ss = ss} c all d =
    subst (λ (xs : List Instruction). Fits (opened ∷ rule rules.Constant ∷ is) (put_folded (without_end xs) ss)) (sym c.1) (by c.0 c.2 (subst (AllByRecursion HasWords) c.1 all).0)
  where
    by : (i : Instruction) → IsValue i → HasWords i → Fits (opened ∷ rule rules.Constant ∷ is) (open_sign ∷ put_instruction i (close_sign ∷ ss))
    by (plain p) v h = value_fits p v h d
    by _ v h = absurd v

-- ---- fields

-- fields, from where they stand, to the end of a module
abbrev FieldsFit : List Item → List Sign → Type 0
FieldsFit is ss = Fits (rule rules.Fields ∷ is) ss

module _ (is : List Item) where
  -- a field behind its opening
  opened_field : (ss : List Sign) → Fits (rule rules.Field ∷ closed ∷ rule rules.Fields ∷ is) ss → FieldsFit is (open_sign ∷ ss)
  unfolding rows
  opened_field ss d = fits_row rules.Fields first refl d

  type_fits : (t : FunctionType) (ss : List Sign) → FieldsFit is ss → FieldsFit is (put_type t ss)
  unfolding rows may_end
  type_fits t ss d =
      opened_field _ (fits_row rules.Field first refl (fits_left (rules.Bound spaces.Type) _ _ refl refl (fits_token refl (fits_token refl
      (params_fit t.params (results_fit t.results (closed ∷ closed ∷ rule rules.Fields ∷ is) (close_sign ∷ ss) (fits_token refl (fits_token refl d))))))))

  described_fits : (k : ImportKind) {js : List Item} {ss : List Sign} → IsImported k → Fits js ss → Fits (opened ∷ rule rules.Described ∷ closed ∷ js) (put_described k ss)
  unfolding rows may_end
  described_fits (imports.Func t) {js = js} {ss = ss} h d =
      fits_token refl (fits_row rules.Described first refl (fits_left (rules.Bound spaces.Func) _ _ refl refl
      (use_fits a_type_use t h (fits_left (rules.Heads false Param) (closed ∷ js) (close_sign ∷ ss) refl refl (fits_token refl d)))))
  described_fits (imports.Table l) h d =
      fits_token refl (fits_row rules.Described (later first) refl (fits_left (rules.Bound spaces.Table) _ _ refl (no_bound spaces.Table l.min h.0) (table_limits_fit l h (fits_token refl d))))
  described_fits (imports.Memory l) h d =
      fits_token refl (fits_row rules.Described (later (later first)) refl (fits_left (rules.Bound spaces.Memory) _ _ refl (no_bound spaces.Memory l.min h.0) (memory_limits_fit l h (fits_token refl d))))
  described_fits (imports.Global g) {js = js} {ss = ss} h d =
      fits_token refl (fits_row rules.Described (later (later (later first))) refl (fits_left (rules.Bound spaces.Global) _ _ refl (no_id_of_global g.mutable g.kind (close_sign ∷ ss)) (kind_fits g.mutable g.kind (fits_token refl d))))

  import_fits : (i : Imported) (ss : List Sign) → IsImported i.kind → FieldsFit is ss → FieldsFit is (put_import i ss)
  unfolding rows
  import_fits i ss h d = opened_field _ (fits_row rules.Field (later first) refl (fits_token refl (fits_token refl (described_fits i.kind h (fits_token refl d)))))

  function_fits : (t : ℕ) (body : FunctionBody) (ss : List Sign) → IsNumber t → IsShapedCode body.code → AllByRecursion HasWords body.code → FieldsFit is ss → FieldsFit is (put_function t body ss)
  unfolding rows may_end
  function_fits t body ss h shaped words d =
      let inner = shaped.expression.0 in
      let e = shaped.expression.1 in
      let same : without_end body.code ≡ inner = ap without_end e ∙ end_left inner in
      let all = both HasOpcode HasWords body.code (recursion_from_All HasOpcode body.code shaped.opcodes) words in
      let written = (split IsWritten inner (end_mark ∷ []) (subst (AllByRecursion IsWritten) e all)).0 in
      let code : Fits (rule rules.Code ∷ closed ∷ rule rules.Fields ∷ is) (put_code (without_end body.code) (close_sign ∷ ss)) =
      subst (λ (xs : List Instruction). Fits (rule rules.Code ∷ closed ∷ rule rules.Fields ∷ is) (put_code xs (close_sign ∷ ss))) (sym same)
      (code_fits shaped.expression.2 written (closed ∷ rule rules.Fields ∷ is) (close_sign ∷ ss) (refl, (refl, refl, refl)) (fits_token refl d)) in
      opened_field _ (fits_row rules.Field (later (later first)) refl (fits_left (rules.Bound spaces.Func) _ _ refl refl
      (use_fits a_type_use t h (locals_fit body.locals (rule rules.Code ∷ closed ∷ rule rules.Fields ∷ is) (put_code (without_end body.code) (close_sign ∷ ss)) (code_follows (without_end body.code) (close_sign ∷ ss) (refl, refl, refl)) code))))

  functions_fit : (ts : List ℕ) (bodies : List FunctionBody) (ss : List Sign) → AllByRecursion IsNumber ts → AllByRecursion (λ (b : FunctionBody). IsShapedCode b.code) bodies → AllByRecursion (λ (b : FunctionBody). AllByRecursion HasWords b.code) bodies
      → FieldsFit is ss → FieldsFit is (put_functions ts bodies ss)
  functions_fit [] bodies ss a b c d = d
  functions_fit (t ∷ ts) [] ss a b c d = d
  functions_fit (t ∷ ts) (body ∷ bodies) ss a b c d = function_fits t body (put_functions ts bodies ss) a.0 b.0 c.0 (functions_fit ts bodies ss a.1 b.1 c.1 d)

  table_fits : (l : Limits) (ss : List Sign) → AreLimits l → FieldsFit is ss → FieldsFit is (put_table l ss)
  unfolding rows may_end
  table_fits l ss h d =
      opened_field _ (fits_row rules.Field (later (later (later first))) refl (fits_left (rules.Bound spaces.Table) _ _ refl (no_bound spaces.Table l.min h.0) (table_limits_fit l h (fits_token refl d))))

  memory_fits : (l : Limits) (ss : List Sign) → AreLimits l → FieldsFit is ss → FieldsFit is (put_memory l ss)
  unfolding rows may_end
  memory_fits l ss h d =
      opened_field _ (fits_row rules.Field (later (later (later (later first)))) refl (fits_left (rules.Bound spaces.Memory) _ _ refl (no_bound spaces.Memory l.min h.0) (memory_limits_fit l h (fits_token refl d))))

  global_fits : (g : GlobalEntry) (ss : List Sign) → IsConstant g.init → AllByRecursion HasWords g.init → FieldsFit is ss → FieldsFit is (put_global g ss)
  unfolding rows may_end
  global_fits g ss c h d =
      opened_field _ (fits_row rules.Field (later (later (later (later (later first))))) refl
      (fits_left (rules.Bound spaces.Global) _ _ refl (no_id_of_global g.kind.mutable g.kind.kind (put_folded (without_end g.init) (close_sign ∷ ss)))
      (kind_fits g.kind.mutable g.kind.kind (constant_fits g.init c h (fits_token refl d)))))

  exported_fits : (e : ExportKind) {js : List Item} {ss : List Sign} → IsExported e → Fits js ss → Fits (opened ∷ rule rules.Exported ∷ closed ∷ js) (put_exported e ss)
  unfolding rows
  exported_fits (exports.Func n) h d = fits_token refl (fits_row rules.Exported first refl (fits_token (index_meets n h) (fits_token refl d)))
  exported_fits (exports.Table n) h d = fits_token refl (fits_row rules.Exported (later first) refl (fits_token (index_meets n h) (fits_token refl d)))
  exported_fits (exports.Memory n) h d = fits_token refl (fits_row rules.Exported (later (later first)) refl (fits_token (index_meets n h) (fits_token refl d)))
  exported_fits (exports.Global n) h d = fits_token refl (fits_row rules.Exported (later (later (later first))) refl (fits_token (index_meets n h) (fits_token refl d)))

  export_fits : (e : Exported) (ss : List Sign) → IsExported e.kind → FieldsFit is ss → FieldsFit is (put_export e ss)
  unfolding rows
  export_fits e ss h d = opened_field _ (fits_row rules.Field (later (later (later (later (later (later first)))))) refl (fits_token refl (exported_fits e.kind h (fits_token refl d))))

  start_fits : (start : Option ℕ) (ss : List Sign) → IsMaximum start → FieldsFit is ss → FieldsFit is (put_start start ss)
  unfolding rows
  start_fits None ss h d = d
  start_fits (Some f) ss h d = opened_field _ (fits_row rules.Field (later (later (later (later (later (later (later first))))))) refl (fits_token (index_meets f h) (fits_token refl d)))

  numbers_fit : (ns : List ℕ) (js : List Item) (ss : List Sign) → AllByRecursion IsNumber ns → Fits js (close_sign ∷ ss) → Fits (rule rules.Functions ∷ js) (put_numbers spaces.Func ns (close_sign ∷ ss))
  unfolding rows may_end
  numbers_fit [] js ss all d = fits_left rules.Functions js (close_sign ∷ ss) refl refl d
  numbers_fit (n ∷ ns) js ss all d = fits_row rules.Functions first (index_meets n all.0) (numbers_fit ns js ss all.1 d)

  no_id_of_code : (s : Space) (code : List Instruction) (ss : List Sign) → IsConstant code → Skips (rules.Bound s) (put_folded (without_end code) ss)
  unfolding rows
  no_id_of_code s code ss c = subst (λ (xs : List Instruction). Skips (rules.Bound s) (put_folded (without_end xs) ss)) (sym c.1) refl

  element_fits : (e : ElementSegment) (ss : List Sign) → IsConstant e.offset → AllByRecursion HasWords e.offset → AllByRecursion IsNumber e.functions → FieldsFit is ss → FieldsFit is (put_element e ss)
  unfolding rows may_end
  element_fits e ss c h all d =
      opened_field _ (fits_row rules.Field (later (later (later (later (later (later (later (later first)))))))) refl
      (fits_left (rules.Bound spaces.Elem) _ _ refl (no_id_of_code spaces.Elem e.offset _ c)
      (constant_fits e.offset c h (fits_row rules.FuncWord first refl (numbers_fit e.functions (closed ∷ rule rules.Fields ∷ is) ss all (fits_token refl d))))))

  segment_fits : (s : DataSegment) (ss : List Sign) → IsConstant s.offset → AllByRecursion HasWords s.offset → FieldsFit is ss → FieldsFit is (put_segment s ss)
  unfolding rows may_end
  segment_fits s ss c h d =
      opened_field _ (fits_row rules.Field (later (later (later (later (later (later (later (later (later first))))))))) refl
      (fits_left (rules.Bound spaces.Data) _ _ refl (no_id_of_code spaces.Data s.offset _ c)
      (constant_fits s.offset c h (fits_row rules.Strings first refl (fits_left rules.Strings (closed ∷ rule rules.Fields ∷ is) (close_sign ∷ ss) refl refl (fits_token refl d))))))

  all_fit : {X : Type 0} (P : X → Type 0) (f : X → List Sign → List Sign) → ((x : X) (ss : List Sign) → P x → FieldsFit is ss → FieldsFit is (f x ss)) → (xs : List X) (ss : List Sign) → AllByRecursion P xs → FieldsFit is ss → FieldsFit is (put_all f xs ss)
  all_fit P f h [] ss all d = d
  all_fit P f h (x ∷ xs) ss all d = h x (put_all f xs ss) all.0 (all_fit P f h xs ss all.1 d)

-- ---- modules

-- the first sign is no id
abbrev Starts : List Sign → Type 0
Starts [] = Unit {0}
Starts (s ∷ ss) = meets an_id s.1 ≡ false

all_start : {X : Type 0} (f : X → List Sign → List Sign) → ((x : X) (ss : List Sign) → Starts (f x ss)) → (xs : List X) (ss : List Sign) → Starts ss → Starts (put_all f xs ss)
all_start f h [] ss k = k
all_start f h (x ∷ xs) ss k = h x (put_all f xs ss)

functions_start : (ts : List ℕ) (bodies : List FunctionBody) (ss : List Sign) → Starts ss → Starts (put_functions ts bodies ss)
functions_start [] bodies ss k = k
functions_start (t ∷ ts) [] ss k = k
functions_start (t ∷ ts) (body ∷ bodies) ss k = refl

start_starts : (start : Option ℕ) (ss : List Sign) → Starts ss → Starts (put_start start ss)
start_starts None ss k = k
start_starts (Some f) ss k = refl

fields_start : (m : WasmModule) → Starts (put_fields m (close_sign ∷ []))
fields_start m =
    all_start put_type (λ t ss. refl) m.types _ (all_start put_import (λ i ss. refl) m.imports _ (functions_start m.functions m.bodies _
    (all_start put_table (λ l ss. refl) m.tables _ (all_start put_memory (λ l ss. refl) m.memories _ (all_start put_global (λ g ss. refl) m.globals _
    (all_start put_export (λ e ss. refl) m.exports _ (start_starts m.start _ (all_start put_element (λ e ss. refl) m.elements _ (all_start put_segment (λ s ss. refl) m.segments (close_sign ∷ []) refl)))))))))

no_name : (ss : List Sign) → Starts ss → Skips rules.Name ss
unfolding rows
no_name [] k = tt
no_name (s ∷ ss) k = one_row (row an_id nothing []) s.1 k

pub module_fits : (m : WasmModule) → IsShaped m → IsOfWords m → HasConstants m → Fits (rule rules.Grammar ∷ []) (signs_of m)
unfolding rows may_end
module_fits m shaped words constants =
    let is : List Item = closed ∷ [] in
    let f10 = all_fit is (λ (s : DataSegment). IsConstant s.offset × (AllByRecursion HasWords s.offset × AreBytes s.bytes)) put_segment (λ s ss h. segment_fits is s ss h.0 h.1.0) m.segments (close_sign ∷ [])
    (both (λ (s : DataSegment). IsConstant s.offset) (λ (s : DataSegment). AllByRecursion HasWords s.offset × AreBytes s.bytes) m.segments constants.segments words.segments)
    (fits_left rules.Fields is (close_sign ∷ []) refl refl (fits_token refl fits_end)) in
    let f9 = all_fit is (λ (e : ElementSegment). IsConstant e.offset × (AllByRecursion HasWords e.offset × AllByRecursion IsNumber e.functions)) put_element (λ e ss h. element_fits is e ss h.0 h.1.0 h.1.1) m.elements _
    (both (λ (e : ElementSegment). IsConstant e.offset) (λ (e : ElementSegment). AllByRecursion HasWords e.offset × AllByRecursion IsNumber e.functions) m.elements constants.elements words.elements) f10 in
    let f8 = start_fits is m.start _ words.start f9 in
    let f7 = all_fit is (λ (e : Exported). AreBytes e.name × IsExported e.kind) put_export (λ e ss h. export_fits is e ss h.1) m.exports _ words.exports f8 in
    let f6 = all_fit is (λ (g : GlobalEntry). IsConstant g.init × AllByRecursion HasWords g.init) put_global (λ g ss h. global_fits is g ss h.0 h.1) m.globals _
    (both (λ (g : GlobalEntry). IsConstant g.init) (λ (g : GlobalEntry). AllByRecursion HasWords g.init) m.globals constants.globals words.globals) f7 in
    let f5 = all_fit is AreLimits put_memory (memory_fits is) m.memories _ words.memories f6 in
    let f4 = all_fit is AreLimits put_table (table_fits is) m.tables _ words.tables f5 in
    let f3 = functions_fit is m.functions m.bodies _ words.functions (recursion_from_All (λ (b : FunctionBody). IsShapedCode b.code) m.bodies shaped.bodies) words.bodies f4 in
    let f2 = all_fit is (λ (i : Imported). AreBytes i.module_name × AreBytes i.name × IsImported i.kind) put_import (λ i ss h. import_fits is i ss h.2) m.imports _ words.imports f3 in
    let f1 = all_fit is (λ (t : FunctionType). Unit {0}) put_type (λ t ss u. type_fits is t ss) m.types _ (always m.types) f2 in
    fits_row rules.Grammar first refl (fits_token refl (fits_left rules.Name _ _ refl (no_name (put_fields m (close_sign ∷ [])) (fields_start m)) f1))
