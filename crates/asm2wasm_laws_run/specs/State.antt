-- The state of the machine at a place of asm.js: variables are words in the order of their bindings, locals first and then scratch
-- locals, and the heap is the front of the memory.
use Rattle.std.specs.Prelude.{◌≡◌, ℕ, ◌+◌, ◌≤◌, true, List, [], ◌∷◌, ◌++◌, length, map, take, All, Option, ℤ}
use Rattle.sem_words.specs.declared.word.Word.{Word}
use Rattle.sem_words.specs.declared.word.Word.TheVariants.{W32}
use Rattle.sem_words.specs.declared.js_value.JsValue.{JsValue}
use Rattle.sem_words.specs.declared.js_value.JsValue.TheVariants.{Whole}
use Rattle.sem_words.specs.JsValues.{to_uint32_of}
use Rattle.heap_lang.specs.Numbers.{IsBytes}
use Rattle.session_lang.specs.Script.{WritePlain, ReplyPlain, give, throw}
use Rattle.session_lang.specs.Observation.{EndPlain, trapped}
use Rattle.session_lang.specs.CallingForms.{event_to_wasm, end_to_wasm}
use Rattle.wasm_lang.specs.Modules.{WasmModule}
use Rattle.wasm_lang_exec.specs.Code.{Trees}
use Rattle.wasm_lang_exec.specs.Store.{Store, written}
use Rattle.wasm_lang_exec.specs.Reductions.{Code}
use Rattle.wasm_laws_drive.specs.Drive.{Next, at, drive}
use Rattle.asm_lang.specs.Modules.{Function, Module}
use Rattle.asm_lang_exec.specs.Runs.{Binding, Place}
use Rattle.asm_lang_exec.specs.Session.{heap_length}
use Rattle.asm_lang_exec.specs.Values.{with_writes}
use Rattle.asm2wasm_translation.specs.Numbers.{local_names, global_names}
use Rattle.asm2wasm_laws_heap.specs.Guards.{is_index}
use Rattle.asm2wasm_laws_run.specs.Sim.{Steps}

-- what the machine has that no code changes: by the replies that are left, the bytes past the heap and the machine's own replies; and all
-- along a session the values of imported globals, and the entries of the table
pub record Fixed : Type 0 where
  pub past : List ReplyPlain → List ℕ
  pub replied : List ReplyPlain → List ReplyPlain
  pub given : List Word
  pub entries : List (Option ℕ)

abbrev pub words : List Binding → List Word
words bs = map (λ (b : Binding). W32 (to_uint32_of b.value)) bs

abbrev pub names : List Binding → List (List ℕ)
names bs = map (λ (b : Binding). b.name) bs

abbrev pub store_of : Fixed → Place → Store
store_of x p = record {
  memory = p.heap ++ x.past p.replies.left;
  globals = x.given ++ words p.globals;
  table = x.entries;
  events = map event_to_wasm p.events;
  replies = record { left = x.replied p.replies.left; last = p.replies.last };
}

-- a byte write stays in a heap of this length, and writes bytes
pub record Stays (size : ℕ) (w : WritePlain) : Type 0 where
  pub within : w.at + length w.bytes ≤ size
  pub bytes : IsBytes w.bytes

-- the machine's reply gives the same word, and its byte writes do in the heap what those of the text's reply do; past it they leave what is
-- said of the replies that are then left
pub record IsAnswered (x : Fixed) (size word : ℕ) (ws : List WritePlain) (rs : List ReplyPlain) : Type 0 where
  pub writes : List WritePlain
  pub reply : x.replied (give word ws ∷ rs) ≡ give word writes ∷ x.replied rs
  pub stay : All (Stays size) ws
  pub memory : (heap : List ℕ) → length heap ≡ size → written writes (heap ++ x.past (give word ws ∷ rs)) ≡ with_writes ws heap ++ x.past rs

-- so with each that is left, up to one that throws
abbrev pub AreAnswered : Fixed → ℕ → List ReplyPlain → Type 0
AreAnswered x size [] = x.replied [] ≡ []
AreAnswered x size (throw ∷ rs) = (left : List ReplyPlain) × (x.replied (throw ∷ rs) ≡ throw ∷ left)
AreAnswered x size (give word ws ∷ rs) = IsAnswered x size word ws rs × AreAnswered x size rs

-- what holds at each place of a function's run
pub record Holds (x : Fixed) (m : Module) (size : ℕ) (f : Function) (p : Place) : Type 0 where
  pub locals : names p.locals ≡ local_names f
  pub globals : names p.globals ≡ global_names m
  pub heap : length p.heap ≡ heap_length m size
  pub bytes : IsBytes p.heap
  pub replies : AreAnswered x (heap_length m size) p.replies.left

-- ---- ends

abbrev pub IsNoTrap : EndPlain → Type 0
IsNoTrap (trapped kind) = ⊥
IsNoTrap e = Unit {0}

pub record EndsAlike (x : Fixed) (m : Module) (size : ℕ) (e : EndPlain) (p : Place) (end : EndPlain) (s : Store) : Type 0 where
  pub no_trap : IsNoTrap e
  pub heap : length p.heap ≡ heap_length m size
  pub is : end ≡ end_to_wasm e
  pub store : s ≡ store_of x p

-- ---- values

-- what the code of an expression comes to from a place, with these scratch locals
abbrev pub run_from : WasmModule → Fixed → List Word → Trees → List Word → Place → Steps
run_from w x stack code scratch p k = drive w k (Code stack code) (words p.locals ++ scratch) (store_of x p)

abbrev pub AnyValue : JsValue → Type 0
AnyValue v = Unit {0}

pub record IsIndex (v : JsValue) : Type 0 where
  pub number : ℤ
  pub is : v ≡ Whole number
  pub in_range : is_index number ≡ true
