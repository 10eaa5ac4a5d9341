-- The statements of control instructions, as asm.js: typed, printable, low, and with marks of the trap alone.
use Rattle.std.specs.Prelude.{◌≡◌, ℕ, ◌+◌, ◌^◌, ◌≤◌, ◌<◌, Bool, true, false, List, [], ◌∷◌, ◌++◌, reverse, Option, Some, None, slice_get, is_some}
use Rattle.wasm_lang.specs.declared.types.ValType.{ValType}
use Rattle.wasm_lang.specs.declared.types.ValType.TheVariants.{I32}
use Rattle.wasm_lang.specs.Modules.{FunctionType}
use Rattle.wasm_lang_valid.specs.Typing.{Context, listed, result_of as type_result}
use Rattle.asm_types.specs.declared.value_type.ValueType.TheVariants.{Int}
use Rattle.asm_lang.specs.Modules.{Expr, Stmt, if_only}
use Rattle.asm_lang_valid.specs.Typing.{Scope, Label, Around, result_of, in_a_loop, in_a_switch, has_label}
use Rattle.wasm2js_translation.specs.Names.{numbered, function, table}
use Rattle.wasm2js_laws_terms.specs.Sound.{IsInt}
use Rattle.wasm2js_laws_terms.specs.Laws.{IsFineExpr, IsFine}
use Rattle.wasm2js_laws_scopes.specs.Provided.{HasFixed, HasRoom, IsFunction, IsTable, signature_for}
use Rattle.wasm2js_translation.specs.Words.{part_of}
use Rattle.wasm2js_translation.specs.Actions.{under, low}
use Rattle.wasm2js_translation.specs.Delays.{Delayed}
use Rattle.wasm2js_translation.specs.Bodies.{Aim, past, again, out, labels_round, label_name, signed_word, under_label, endless, chosen, leave_with, jump, call_stmts, form_number, indirect_stmts, by_index}
use Rattle.wasm2js_translation.specs.Helpers.{block_of}
use Rattle.wasm2js_translation.specs.Rooms.{here}
use Rattle.wasm2js_laws_typed.specs.Waiting.{AreSoundWaiting, AreShallow}

-- each of these statements, no higher than so much
abbrev pub AllFine : Scope → Around → (height : ℕ) → List Stmt → Type 0
AllFine s a h [] = Unit {0}
AllFine s a h (x ∷ xs) = IsFine s a x h × AllFine s a h xs

-- ---- blocks

-- the label that stands outermost round further code
abbrev pub with_label : (loop : Bool) → ℕ → Around → Around
with_label loop n a = record { in_breakable = a.in_breakable; in_loop = a.in_loop; labels = record { text = label_name n; of_loop = loop } ∷ a.labels }

-- a labelled block, which adds 1 to the height
abbrev pub BlocksAreFine : Type 0
BlocksAreFine =
    (s : Scope) (a : Around) (n h : ℕ) (ss : List Stmt) → has_label a.labels (label_name n) ≡ false → AllFine s (with_label false n a) h ss → IsFine s a (under_label n (block_of ss)) (1 + h)

-- .. a labelled loop
abbrev pub LoopsAreFine : Type 0
LoopsAreFine =
    (s : Scope) (a : Around) (n h : ℕ) (ss : List Stmt) → has_label a.labels (label_name n) ≡ false → 1 ≤ h → AllFine s (in_a_loop (with_label true n a)) h ss
    → IsFine s a (under_label n (endless ss)) (1 + h)

-- .. two arms, by a condition that is no higher
abbrev pub ArmsAreFine : Type 0
ArmsAreFine =
    (s : Scope) (a : Around) (n h : ℕ) (e : Expr) (first second : List Stmt) → has_label a.labels (label_name n) ≡ false → IsFineExpr s e Int h → 1 ≤ h
    → AllFine s (with_label false n a) h first → AllFine s (with_label false n a) h second
    → IsFine s a (under_label n (chosen e first second)) (1 + h)

-- .. one arm without a label
abbrev pub TestsAreFine : Type 0
TestsAreFine = (s : Scope) (a : Around) (h : ℕ) (e : Expr) (ss : List Stmt) → IsFineExpr s e Int h → 1 ≤ h → AllFine s a h ss → IsFine s a (if_only e (part_of ss)) (1 + h)

-- ---- branches

-- the labels round code under these aims
abbrev pub labels_for : List Aim → List Label
labels_for [] = []
labels_for (out r ∷ ls) = labels_for ls
labels_for (past base r ∷ ls) = record { text = label_name (labels_round ls); of_loop = false } ∷ labels_for ls
labels_for (again base ∷ ls) = record { text = label_name (labels_round ls); of_loop = true } ∷ labels_for ls

-- they are those of a function's code: what a branch to each label carries, and each block lies no higher than those inside it
abbrev pub AreAims : (result : Option ValType) (labels : List (Option ValType)) → List Aim → (b : ℕ) → Type 0
AreAims result labels [] b = ⊥
AreAims result labels (out q ∷ ls) b = (labels ≡ result ∷ []) × (q ≡ result) × (ls ≡ [])
AreAims result labels (past base q ∷ ls) b = (further : List (Option ValType)) × (labels ≡ q ∷ further) × (base ≤ b) × AreAims result further ls base
AreAims result labels (again base ∷ ls) b = (further : List (Option ValType)) × (labels ≡ None ∷ further) × (base ≤ b) × AreAims result further ls base

-- at the end of its own code a function leaves what it gives
abbrev pub LeavesResult : List Aim → (after : List ValType) → Type 0
LeavesResult (out r ∷ []) after = after ≡ listed r
LeavesResult ls after = Unit {0}

-- a new label is none of those round it
abbrev pub LabelsAreNew : Type 0
LabelsAreNew = (result : Option ValType) (labels : List (Option ValType)) (ls : List Aim) (b : ℕ) → AreAims result labels ls b → has_label (labels_for ls) (label_name (labels_round ls)) ≡ false

-- a return of the topmost operand, where the function has such a result
abbrev pub ReturnsAreFine : Type 0
ReturnsAreFine =
    (s : Scope) (a : Around) (c : Context) (b : ℕ) (below : List ValType) (xs : List ℕ) → HasFixed s → result_of s ≡ is_some c.returns → HasRoom s c (here b (listed c.returns ++ below) xs)
    → AllFine s a 8 (leave_with c.returns (under 1 b (listed c.returns ++ below)))

-- a branch with what its label carries on top
abbrev pub JumpsAreFine : Type 0
JumpsAreFine =
    (s : Scope) (a : Around) (c : Context) (labels : List (Option ValType)) (ls : List Aim) (k b : ℕ) (r : Option ValType) (below : List ValType) (xs : List ℕ) → HasFixed s
    → result_of s ≡ is_some c.returns → AreAims c.returns labels ls b → slice_get labels k ≡ Some r → a.labels ≡ labels_for ls → HasRoom s c (here b (listed r ++ below) xs)
    → AllFine s a 8 (jump ls k b (listed r ++ below))

-- ---- calls

-- a call of a function of this type, whose arguments stand on top, the last one topmost, while these words wait
abbrev pub CallsAreFine : Type 0
CallsAreFine =
    (s : Scope) (a : Around) (c : Context) (f b : ℕ) (t : FunctionType) (below : List ValType) (xs : List ℕ) (ds : List Delayed) → AreSoundWaiting s ds → AreShallow 8 ds
    → HasFixed s → IsFunction s (numbered function f) (signature_for t) → HasRoom s c (here b (reverse t.params ++ below) xs) → HasRoom s c (here b (listed (type_result t) ++ below) [])
    → AllFine s a 30 (call_stmts ds f b (reverse t.params ++ below) (Some t))

-- .. of an entry of a table, whose number stands above them
abbrev pub EntryCallsAreFine : Type 0
EntryCallsAreFine =
    (s : Scope) (a : Around) (c : Context) (cells b : ℕ) (types : List FunctionType) (t : FunctionType) (below : List ValType) (xs : List ℕ) → HasFixed s → 0 < cells → cells ≤ 2 ^ 16
    → IsTable s (numbered table (form_number types t)) cells (signature_for t)
    → HasRoom s c (here b (I32 ∷ (reverse t.params ++ below)) xs) → HasRoom s c (here b (listed (type_result t) ++ below) [])
    → AllFine s a 30 (indirect_stmts cells types b (I32 ∷ (reverse t.params ++ below)) (Some t))

-- ---- branches by an index

-- what stands for the label of each of these numbers
abbrev pub EachFine : Scope → Around → (ℕ → List Stmt) → List ℕ → Type 0
EachFine s a to [] = Unit {0}
EachFine s a to (k ∷ ks) = AllFine s a 8 (to k) × EachFine s a to ks

-- a row of switches by the word of an operand
abbrev pub SwitchesAreFine : Type 0
SwitchesAreFine =
    (s : Scope) (a : Around) (d : ℕ) (to : ℕ → List Stmt) (ks : List ℕ) (default : ℕ) → IsInt s (low d) → EachFine s (in_a_switch a) to ks → AllFine s (in_a_switch a) 8 (to default)
    → AllFine s a 9 (by_index to (signed_word d) ks default)
