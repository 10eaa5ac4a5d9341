-- The helper functions of a module of asm.js that stands for one of WebAssembly: what operators on words of 64 bits call, by name and meaning.
use Rattle.std.specs.Prelude.{◌≡◌, ℕ, ◌+◌, ◌*◌, ◌^◌, ◌<◌, ◌≤◌, Bool, true, false, List, [], ◌∷◌, length, map, Option, Some, None, codes}
use Rattle.std.specs.List.{AllByRecursion, list_any}
use Rattle.sem_words.specs.declared.js_value.JsValue.{JsValue}
use Rattle.sem_words.specs.JsValues.{to_uint32_of}
use Rattle.sem_words.specs.Words.{shl_of, shr_s_of, shr_u_of, rotl_of, leading_zeros_of, trailing_zeros_of, set_bits_of}
use Rattle.session_lang.specs.Script.{ScriptPlain}
use Rattle.session_lang.specs.Imports.{low_word, high_word}
use Rattle.wasm_lang.specs.Instructions.{Instruction, plain, rel64, un64, bin64, sign_extend}
use Rattle.wasm_lang.specs.Modules.{FunctionBody, WasmModule}
use Rattle.asm_types.specs.declared.value_type.ValueType.TheVariants.{Int}
use Rattle.asm_types.specs.Values.{fits_of}
use Rattle.asm_lang.specs.Modules.{Function, Module}
use Rattle.asm_lang_valid.specs.Scope.{an_int, a_function, signature_of, module_meaning}
use Rattle.asm_lang_exec.specs.Runs.{Binding, Place, Run, goes, stops, spent, wrong, with_value}
use Rattle.asm_lang_exec.specs.Meaning.{call_at}
use Rattle.asm_lang_exec.specs.Session.{first_globals}

-- ---- what each gives, of the words of the ints that it takes

abbrev pub word64 : (low high : ℕ) → ℕ
word64 low high = low + 2 ^ 32 * high

-- the word that it gives, the high word that it leaves in the variable `$q` if it leaves one, and how many units are enough
pub record Helper : Type 0 where
  pub name : List ℕ
  pub params : ℕ
  pub word : List ℕ → ℕ
  pub high : List ℕ → Option ℕ
  pub units : ℕ

-- a shift or a rotation takes a low word, a high word and a count
abbrev pub turned : (ℕ → ℕ → ℕ → ℕ) → List ℕ → ℕ
turned op (low ∷ high ∷ count ∷ []) = op 64 (word64 low high) count
turned op _ = 0

abbrev pub turning : (name : List ℕ) → (ℕ → ℕ → ℕ → ℕ) → Helper
turning name op = record { name = name; params = 3; word = λ words. low_word (turned op words); high = λ words. Some (high_word (turned op words)); units = 1 }

-- a count of zeros takes a low word and a high word
abbrev pub counted : (ℕ → ℕ → ℕ) → List ℕ → ℕ
counted op (low ∷ high ∷ []) = op 64 (word64 low high)
counted op _ = 0

abbrev pub counting : (name : List ℕ) → (ℕ → ℕ → ℕ) → Helper
counting name op = record { name = name; params = 2; word = counted op; high = λ words. None; units = 1 }

-- set bits are counted in each word by itself, bit by bit
abbrev pub bits_set : List ℕ → ℕ
bits_set (word ∷ []) = set_bits_of 32 word
bits_set _ = 0

abbrev pub set_bits : (name : List ℕ) → Helper
set_bits name = record { name = name; params = 1; word = bits_set; high = λ words. None; units = 34 }

abbrev pub helper_list : List Helper
helper_list =
    turning (codes "$shl") shl_of ∷ turning (codes "$shrs") shr_s_of ∷ turning (codes "$shru") shr_u_of ∷ turning (codes "$rotl") rotl_of
    ∷ counting (codes "$clz") leading_zeros_of ∷ counting (codes "$ctz") trailing_zeros_of ∷ set_bits (codes "$pop") ∷ []

-- ---- a call

-- the variables of a module that are bound, in any session
abbrev pub nothing_given : ScriptPlain
nothing_given = record { globals = []; writes = []; calls = []; replies = [] }

abbrev pub bound_names : List Binding → List (List ℕ)
bound_names bs = map (λ (b : Binding). b.name) bs

-- the module's variables are there, each with an int
pub record IsPlaceOf (a : Module) (p : Place) : Type 0 where
  pub named : bound_names p.globals ≡ bound_names (first_globals nothing_given a.globals)
  pub ints : AllByRecursion (λ (b : Binding). fits_of Int b.value ≡ true) p.globals

-- `$q` has a value of this word, and no other variable of the module has changed; without a word `$q` hasn't either
pub record IsLeft (word : ℕ) (before after : List Binding) : Type 0 where
  pub value : JsValue
  pub has_word : to_uint32_of value ≡ word
  pub only : after ≡ with_value (codes "$q") value before

abbrev pub Leaves : Option ℕ → (before after : List Binding) → Type 0
Leaves None before after = after ≡ before
Leaves (Some word) before after = IsLeft word before after

-- it comes back from p to q with the value, after at most so many units, and nothing else has changed
pub record IsBack (word : ℕ) (high : Option ℕ) (units : ℕ) (p : Place) (value : JsValue) (q : Place) : Type 0 where
  pub has_word : to_uint32_of value ≡ word
  pub leaves : Leaves high p.globals q.globals
  pub enough : p.units ≤ q.units + units
  pub locals : q.locals ≡ p.locals
  pub heap : q.heap ≡ p.heap
  pub replies : q.replies ≡ p.replies
  pub events : q.events ≡ p.events

-- .. unless fewer units were there
abbrev pub ComesBack : (word : ℕ) → (high : Option ℕ) → (units : ℕ) → Place → Run JsValue → Type 0
ComesBack word high units p (goes value q) = IsBack word high units p value q
ComesBack word high units p (stops end q) = ⊥
ComesBack word high units p (spent q) = (p.units < units) × (q.events ≡ p.events)
ComesBack word high units p wrong = ⊥

-- ---- the functions

-- the module has the function under its name, and each call of it, with whatever values and from any place, does what it is for
pub record IsHelper (a : Module) (helper : Helper) : Type 0 where
  pub function : Function
  pub named : module_meaning a helper.name ≡ a_function function
  pub signed : signature_of function ≡ record { params = helper.params; result = true }
  pub helps : (bound : ℕ) (values : List JsValue) (p : Place) → length values ≡ helper.params → IsPlaceOf a p → p.units ≤ bound
      → ComesBack (helper.word (map to_uint32_of values)) (helper.high (map to_uint32_of values)) helper.units p (call_at false a bound function values p)

-- an operator on words of 64 bits, or an extension with the sign
abbrev pub is_wide_operator : Instruction → Bool
is_wide_operator (plain (rel64 op)) = true
is_wide_operator (plain (un64 op)) = true
is_wide_operator (plain (bin64 op)) = true
is_wide_operator (plain (sign_extend wide bits)) = true
is_wide_operator _ = false

abbrev pub has_wide_operators : WasmModule → Bool
has_wide_operators w = list_any (λ (b : FunctionBody). list_any is_wide_operator b.code) w.bodies

-- where a body has such an operator, all helpers are there
pub record HasHelpers (w : WasmModule) (a : Module) : Type 0 where
  pub spare : has_wide_operators w ≡ true → module_meaning a (codes "$q") ≡ an_int
  pub helpers : has_wide_operators w ≡ true → AllByRecursion (IsHelper a) helper_list
