-- What statements of asm.js do that work on words of 64 bits, each of which stands in two variables: where they may stand, and what they
-- leave there.
use Rattle.std.specs.Prelude.{◌≡◌, ℕ, ◌+◌, ◌*◌, ◌^◌, ◌<◌, ◌≤◌, Bool, true, false, not, List, [], ◌∷◌, ◌++◌, map, codes, Option, Some, None, is_some, Ok, ◌==◌, if◌then◌else◌}
use Rattle.sem_words.specs.declared.word.Bin.{Bin}
use Rattle.sem_words.specs.declared.word.Un.{Un}
use Rattle.sem_words.specs.declared.word.Rel.{Rel}
use Rattle.sem_words.specs.Words.{bin_of, un_of, rel_of, extend_of}
use Rattle.sem_words.specs.declared.js_value.JsValue.{JsValue}
use Rattle.sem_words.specs.JsValues.{to_uint32_of}
use Rattle.asm_types.specs.declared.value_type.ValueType.TheVariants.{Int}
use Rattle.asm_types.specs.Values.{fits_of}
use Rattle.asm_lang.specs.Trees.{Init, number, foreign_int}
use Rattle.asm_lang.specs.Modules.{Stmt, Stmts, no_stmts, stmts, Variable, Param, Function, Module}
use Rattle.asm_lang_valid.specs.declared.meaning.Builtin.TheVariants.{Clz32}
use Rattle.asm_lang_valid.specs.Scope.{an_int, a_builtin, a_function, is_in, module_meaning, local_init}
use Rattle.asm_lang_valid.specs.Typing.{Around, is_int, all_typed}
use Rattle.asm_lang_valid.specs.Typed.{scope_of}
use Rattle.asm_lang_valid.specs.Refusal.{IsAccepted}
use Rattle.asm_lang_exec.specs.Runs.{Binding, Place, goes, spent, Part, value_in, either_value}
use Rattle.asm_lang_exec.specs.Meaning.{Completion, normal, exec_all, call_at}

-- ---- where the statements stand

abbrev pub sequence : List Stmt → Stmts
sequence [] = no_stmts
sequence (s ∷ ss) = stmts s (sequence ss)

-- the int of the module in which a helper function leaves a high word
abbrev pub spare : List ℕ
spare = codes "$q"

-- a variable that has a value, and whether it is declared as an int
pub record Declared : Type 0 where
  pub name : List ℕ
  pub int : Bool

abbrev pub declared : List ℕ → Bool → Declared
declared n i = record { name = n; int = i }

-- parameters come first
abbrev pub own_variables : Function → List Declared
own_variables f = map (λ (p : Param). declared p.name (not p.double)) f.params ++ map (λ (v : Variable). declared v.name (is_int (local_init v.init))) f.locals

abbrev pub own_names : Function → List (List ℕ)
own_names f = map (λ (d : Declared). d.name) (own_variables f)

-- a number, or an int of the host
abbrev pub starts_as_int : Init → Bool
starts_as_int (number z) = true
starts_as_int (foreign_int f p) = true
starts_as_int _ = false

abbrev pub variables_among : List Variable → List Declared
variables_among [] = []
variables_among (v ∷ vs) = if starts_as_int v.init then declared v.name true ∷ variables_among vs else variables_among vs

-- each of these functions is what its name stands for in the module
abbrev pub AreHeld : Module → List Function → Type 0
AreHeld m [] = Unit {0}
AreHeld m (h ∷ hs) = (module_meaning m h.name ≡ a_function h) × AreHeld m hs

-- statements of the function f of an accepted module, which holds the helper functions and declares what they name; f has no `$q` of its own
pub record StandIn (helpers : List Function) (m : Module) (f : Function) (ss : List Stmt) : Type 0 where
  pub accepted : IsAccepted m
  pub held : AreHeld m helpers
  pub zeros : module_meaning m (codes "$clz32") ≡ a_builtin Clz32
  pub spare_is_int : module_meaning m spare ≡ an_int
  pub spare_is_shown : is_in spare (own_names f) ≡ false
  pub around : Around
  pub typed : all_typed (scope_of m f) around (sequence ss) ≡ true

-- ---- places

-- each variable under its name, and an int where it is declared as one
abbrev pub Hold : List Declared → List Binding → Type 0
Hold [] [] = Unit {0}
Hold (d ∷ ds) (b ∷ bs) = (b.name ≡ d.name) × (d.int ≡ true → fits_of Int b.value ≡ true) × Hold ds bs
Hold _ _ = ⊥

-- a place in a call of f
pub record IsWithin (m : Module) (f : Function) (p : Place) : Type 0 where
  pub own : Hold (own_variables f) p.locals
  pub others : Hold (variables_among m.globals) p.globals

-- a local variable hides one of the module
abbrev pub value_at : Place → List ℕ → Option JsValue
value_at p n = either_value (value_in p.locals n) (value_in p.globals n)

abbrev pub word_of_value : Option JsValue → ℕ
word_of_value None = 0
word_of_value (Some v) = to_uint32_of v

abbrev pub word_at : Place → List ℕ → ℕ
word_at p n = word_of_value (value_at p n)

-- the variables of a word of 64 bits: that of its low word, and that of its high word
pub record Halves : Type 0 where
  pub low : List ℕ
  pub high : List ℕ

abbrev pub wide_at : Place → Halves → ℕ
wide_at p x = word_at p x.low + 2 ^ 32 * word_at p x.high

-- q is p, but for these variables and `$q`
pub record IsSameBut (targets : List (List ℕ)) (p q : Place) : Type 0 where
  pub own : (n : List ℕ) → is_in n targets ≡ false → value_in q.locals n ≡ value_in p.locals n
  pub others : (n : List ℕ) → is_in n (spare ∷ targets) ≡ false → value_in q.globals n ≡ value_in p.globals n
  pub hidden : (n : List ℕ) → is_some (value_in p.locals n) ≡ true → value_in q.globals n ≡ value_in p.globals n
  pub heap : q.heap ≡ p.heap
  pub replies : q.replies ≡ p.replies
  pub events : q.events ≡ p.events

-- ---- what the statements come to

-- where calls lie at most so deep
abbrev pub doing : Module → Function → (bound : ℕ) → List Stmt → Part Completion
doing m f bound ss = exec_all false (call_at false m bound) (scope_of m f) bound (sequence ss)

-- they take so many units, and end normally with what is asked of the places before and after; with fewer units they show nothing
pub record Ends (m : Module) (f : Function) (bound : ℕ) (ss : List Stmt) (targets : List (List ℕ)) (Asked : Place → Place → Type 0) (p : Place) : Type 0 where
  pub units : ℕ
  pub few : units ≤ 256
  pub ends : units ≤ p.units → (q : Place) × (doing m f bound ss p ≡ goes normal q) × (q.units + units ≡ p.units) × IsSameBut targets p q × Asked p q
  pub waits : p.units < units → (q : Place) × (doing m f bound ss p ≡ spent q) × (q.events ≡ p.events)

-- wherever they may stand, and whatever the variables hold
abbrev pub Computes : (helpers : List Function) → List Stmt → (targets : List (List ℕ)) → (Place → Place → Type 0) → Type 0
Computes helpers ss targets Asked =
    (m : Module) (f : Function) → StandIn helpers m f ss → (bound : ℕ) (p : Place) → IsWithin m f p → p.units ≤ bound → Ends m f bound ss targets Asked p

-- ---- operators

-- a result may stand where its first operand stands
pub record MayReplace (to a : Halves) : Type 0 where
  pub low : is_in to.low (to.high ∷ a.high ∷ spare ∷ []) ≡ false
  pub high : is_in to.high (a.low ∷ spare ∷ []) ≡ false

pub record IsApart (to b : Halves) : Type 0 where
  pub low : is_in to.low (b.low ∷ b.high ∷ []) ≡ false
  pub high : is_in to.high (b.low ∷ b.high ∷ []) ≡ false

abbrev pub ComputesBinary : (helpers : List Function) → List Stmt → Bin → (a b to : Halves) → Type 0
ComputesBinary helpers ss op a b to =
    MayReplace to a → IsApart to b → Computes helpers ss (to.low ∷ to.high ∷ []) (λ p q. bin_of 64 op (wide_at p a) (wide_at p b) ≡ Ok (wide_at q to))

abbrev pub ComputesUnary : (helpers : List Function) → List Stmt → Un → (a to : Halves) → Type 0
ComputesUnary helpers ss op a to = MayReplace to a → Computes helpers ss (to.low ∷ to.high ∷ []) (λ p q. wide_at q to ≡ un_of 64 op (wide_at p a))

-- the low bits, extended with their sign
abbrev pub ComputesExtension : (helpers : List Function) → List Stmt → (bits : ℕ) → (a to : Halves) → Type 0
ComputesExtension helpers ss bits a to = MayReplace to a → Computes helpers ss (to.low ∷ to.high ∷ []) (λ p q. wide_at q to ≡ extend_of 64 bits (wide_at p a))

abbrev pub truth_word : Bool → ℕ
truth_word true = 1
truth_word false = 0

abbrev pub ComputesRelation : (helpers : List Function) → List Stmt → Rel → (a b : Halves) → (to : List ℕ) → Type 0
ComputesRelation helpers ss op a b to = Computes helpers ss (to ∷ []) (λ p q. word_at q to ≡ truth_word (rel_of 64 op (wide_at p a) (wide_at p b)))

-- whether it is 0
abbrev pub ComputesZero : (helpers : List Function) → List Stmt → (a : Halves) → (to : List ℕ) → Type 0
ComputesZero helpers ss a to = Computes helpers ss (to ∷ []) (λ p q. word_at q to ≡ truth_word (wide_at p a == 0))

-- statements that have this property were added
abbrev pub Gains : (before after : List Stmt) → (List Stmt → Type 0) → Type 0
Gains before after P = (ss : List Stmt) × (after ≡ before ++ ss) × P ss
