-- Which terms and actions may stand in a function of asm.js: their variables are ints there, what they call and which views they use
-- means what it is meant for, and their numbers are literals. And how deep they are.
use Rattle.std.specs.Prelude.{◌≡◌, ℕ, suc, ◌+◌, ◌≤◌, ◌<◌, ◌^◌, max, Bool, true, false, List, [], ◌∷◌, length, is_some}
use Rattle.asm_lang.specs.Modules.{Function}
use Rattle.asm_lang_valid.specs.declared.meaning.Element.{Element}
use Rattle.asm_lang_valid.specs.declared.meaning.Element.TheVariants.{Int8, Uint8, Int32}
use Rattle.asm_lang_valid.specs.declared.meaning.Builtin.TheVariants.{Imul, Clz32}
use Rattle.asm_lang_valid.specs.Scope.{an_int, a_foreign, a_builtin, a_view, a_function, signature_of}
use Rattle.asm_lang_valid.specs.Typing.{Scope, named, literal_type, most_operators}
use Rattle.wasm2js_translation.specs.Names.{Name, Fixed, view_of_bytes, view_of_words, imul, clz32, trap, spelled}
use Rattle.wasm2js_translation.specs.Words.{Term, read, number, both, flip, sum, product, zeros, compare, choose, byte, whole, Summands, no_more, further, Simple, put, ask, tell, guard, stop, write_byte, write_whole, Action, simply, either, byte_view, name_of}

abbrev pub summands_length : Summands → ℕ
summands_length no_more = 0
summands_length (further minus t ts) = suc (summands_length ts)

abbrev pub some_summands : Summands → Bool
some_summands no_more = false
some_summands (further minus t ts) = true

-- the elements of a byte view
abbrev pub byte_element : Bool → Element
byte_element true = Int8
byte_element false = Uint8

module _ (c : Scope) where
  -- a variable, a view, and a helper with so many parameters, with a result or without
  abbrev pub IsInt : Name → Type 0
  IsInt n = named c (spelled n) ≡ an_int

  abbrev pub IsView : Fixed → Element → Type 0
  IsView f e = named c (name_of f) ≡ a_view e

  pub record IsHelper (f : Fixed) (params : ℕ) (result : Bool) : Type 0 where
    pub function : Function
    pub is_this : named c (name_of f) ≡ a_function function
    pub signature : signature_of function ≡ record { params = params; result = result }

  -- the foreign function of that name
  abbrev pub HasTrap : Type 0
  HasTrap = named c (name_of trap) ≡ a_foreign (name_of trap)

  -- ---- terms

  abbrev mutual
    pub IsSound : Term → Type 0
    IsSound (read n) = IsInt n
    IsSound (number z) = is_some (literal_type z) ≡ true
    IsSound (both op a b) = IsSound a × IsSound b
    IsSound (flip a) = IsSound a
    IsSound (sum a ts) = IsSound a × AreSound ts × (some_summands ts ≡ true) × (summands_length ts ≤ most_operators)
    IsSound (product a b) = (named c (name_of imul) ≡ a_builtin Imul) × IsSound a × IsSound b
    IsSound (zeros a) = (named c (name_of clz32) ≡ a_builtin Clz32) × IsSound a
    IsSound (compare signed r a b) = IsSound a × IsSound b
    IsSound (choose t a b) = IsSound t × IsSound a × IsSound b
    IsSound (byte signed at) = IsView (byte_view signed) (byte_element signed) × IsSound at
    IsSound (whole at) = IsView view_of_words Int32 × IsSound at

    pub AreSound : Summands → Type 0
    AreSound no_more = Unit {0}
    AreSound (further minus t ts) = IsSound t × AreSound ts

  abbrev pub AllSound : List Term → Type 0
  AllSound [] = Unit {0}
  AllSound (t ∷ ts) = IsSound t × AllSound ts

  -- ---- actions; the number of a trap is an argument of a foreign call, so it is below 2 ^ 31

  abbrev pub Traps : ℕ → Type 0
  Traps kind = HasTrap × (kind < 2 ^ 31)

  abbrev pub IsSoundSimple : Simple → Type 0
  IsSoundSimple (put n t) = IsInt n × IsSound t
  IsSoundSimple (ask n helper ts) = IsInt n × IsHelper helper (length ts) true × AllSound ts
  IsSoundSimple (tell helper ts) = IsHelper helper (length ts) false × AllSound ts
  IsSoundSimple (guard t most kind) = IsSound t × (most < 2 ^ 32) × Traps kind
  IsSoundSimple (stop kind) = Traps kind
  IsSoundSimple (write_byte at t) = IsView view_of_bytes Uint8 × IsSound at × IsSound t
  IsSoundSimple (write_whole at t) = IsView view_of_words Int32 × IsSound at × IsSound t

  abbrev pub AreSoundSimple : List Simple → Type 0
  AreSoundSimple [] = Unit {0}
  AreSoundSimple (s ∷ ss) = IsSoundSimple s × AreSoundSimple ss

  abbrev pub IsSoundAction : Action → Type 0
  IsSoundAction (simply s) = IsSoundSimple s
  IsSoundAction (either t first second) = IsSound t × AreSoundSimple first × AreSoundSimple second

  abbrev pub AreSoundActions : List Action → Type 0
  AreSoundActions [] = Unit {0}
  AreSoundActions (a ∷ others) = IsSoundAction a × AreSoundActions others

-- ---- how deep terms lie in one another; one without operands has depth 1

abbrev mutual
  pub term_depth : Term → ℕ
  term_depth (read n) = 1
  term_depth (number z) = 1
  term_depth (both op a b) = 1 + max (term_depth a) (term_depth b)
  term_depth (flip a) = 1 + term_depth a
  term_depth (sum a ts) = 1 + max (term_depth a) (summands_depth ts)
  term_depth (product a b) = 1 + max (term_depth a) (term_depth b)
  term_depth (zeros a) = 1 + term_depth a
  term_depth (compare signed r a b) = 1 + max (term_depth a) (term_depth b)
  term_depth (choose t a b) = 1 + max (term_depth t) (max (term_depth a) (term_depth b))
  term_depth (byte signed at) = 1 + term_depth at
  term_depth (whole at) = 1 + term_depth at

  pub summands_depth : Summands → ℕ
  summands_depth no_more = 0
  summands_depth (further minus t ts) = max (term_depth t) (summands_depth ts)

abbrev pub terms_depth : List Term → ℕ
terms_depth [] = 0
terms_depth (t ∷ ts) = max (term_depth t) (terms_depth ts)

abbrev pub simple_depth : Simple → ℕ
simple_depth (put n t) = term_depth t
simple_depth (ask n helper ts) = terms_depth ts
simple_depth (tell helper ts) = terms_depth ts
simple_depth (guard t most kind) = term_depth t
simple_depth (stop kind) = 0
simple_depth (write_byte at t) = max (term_depth at) (term_depth t)
simple_depth (write_whole at t) = max (term_depth at) (term_depth t)

abbrev pub simples_depth : List Simple → ℕ
simples_depth [] = 0
simples_depth (s ∷ ss) = max (simple_depth s) (simples_depth ss)

abbrev pub action_depth : Action → ℕ
action_depth (simply s) = simple_depth s
action_depth (either t first second) = max (term_depth t) (max (simples_depth first) (simples_depth second))

abbrev pub actions_depth : List Action → ℕ
actions_depth [] = 0
actions_depth (a ∷ others) = max (action_depth a) (actions_depth others)
