-- What an accepted module has room for, and what stands behind its names.
use Rattle.std.specs.Prelude.{◌≡◌, ℕ, ◌+◌, ◌*◌, ◌≤◌, Bool, true, ◌&&◌, ◌==◌, List, ◌++◌, length, All, Some, slice_get}
use Rattle.std.specs.List.{IsDistinct}
use Rattle.asm_lang.specs.Modules.{Function, Module}
use Rattle.asm_lang_valid.specs.declared.meaning.Element.{Element}
use Rattle.asm_lang_valid.specs.Scope.{a_view, a_foreign, Signature}
use Rattle.asm_lang_valid.specs.Typing.{named, same}
use Rattle.asm_lang_valid.specs.Typed.{scope_of}
use Rattle.asm_lang_valid.specs.LimitRows.{ForeignCall, Mark, stmts_marks, is_same, foreign_calls, most_params, longest_name}
use Rattle.asm_lang_valid.specs.Refusal.{IsAccepted, has_heap}
use Rattle.asm2wasm_laws_within.specs.Uses.{AllListed}
use Rattle.asm2wasm_laws_within.specs.Within.{IsWithin}

abbrev pub AcceptedAreWithin : Type 0
AcceptedAreWithin = (m : Module) → IsAccepted m → IsWithin m

-- the name of a foreign function is one that a declaration gives
abbrev pub ForeignNamesAreShort : Type 0
ForeignNamesAreShort = (m : Module) (f : Function) (n p : List ℕ) → IsAccepted m → named (scope_of m f) n ≡ a_foreign p → length p ≤ longest_name

-- ---- foreign functions

-- what the body of a function calls is among the calls of its module, from the node on where the body begins
abbrev pub UsesAreListed : Type 0
UsesAreListed = (m : Module) (i : ℕ) (f : Function) → slice_get m.functions i ≡ Some f → (at : ℕ) × AllListed (foreign_calls m) (stmts_marks (scope_of m f) at f.body)

-- the marks of a whole are those of its parts, one after the other
abbrev pub ListedInParts : Type 0
ListedInParts = (fs : List ForeignCall) (ms ns : List Mark) → AllListed fs (ms ++ ns) → AllListed fs ms × AllListed fs ns

abbrev pub SameCallsAreEqual : Type 0
SameCallsAreEqual = (f g : ForeignCall) → is_same f g ≡ true → f ≡ g

-- ---- heaps

abbrev pub ViewsMeanAHeap : Type 0
ViewsMeanAHeap = (m : Module) (f : Function) (n : List ℕ) (e : Element) → named (scope_of m f) n ≡ a_view e → has_heap m ≡ true

-- ---- types

abbrev pub is_signature : Signature → Signature → Bool
is_signature s t = (s.params == t.params) && same s.result t.result

-- there are only so many different ones of few parameters
abbrev pub FewSignatures : Type 0
FewSignatures = (ss : List Signature) → IsDistinct is_signature ss → All (λ s. s.params ≤ most_params) ss → length ss ≤ 2 * (most_params + 1)
